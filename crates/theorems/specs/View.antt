-- Change request 10: what the views of a list tell, and to whom.
use Rattle.std.specs.Prelude.{ℕ, ◌≤◌, ◌≡◌, ◌≢◌, true, List, length, take, drop, Some}
use Rattle.rules.specs.declared.Area.{Area}
use Rattle.rules.specs.declared.AreaIndex.{AreaIndex}
use Rattle.rules.specs.Tests.{Answer, Refused, Accepted}
use Rattle.rules.specs.Values.{Index, Lengths}
use Rattle.rules.specs.Sizes.{sized}
use Rattle.rules.specs.File.{over}
use Rattle.rules_view.specs.View.{listener, workshop, listener_of, workshop_of, listener_bytes, workshop_bytes, read_listener, read_workshop, is_role, view_bytes, view_length, view, view_size}
use Rattle.rules_view.specs.Roles.{as_workshop}
use Rattle.blocks.specs.Blocks.{is_index}
use Rattle.tables.specs.Index.{Tables, index_in}
use Rattle.view.specs.View.{view_in, view_size_in}
use Rattle.blocks.specs.Calls.{called, head_index}
use Rattle.player.specs.Player.{called_over, load_call, save_call, merge_call, load_call_as, save_call_as, merge_call_as, merge_all_call, merge_all_call_as, view_call, view_length_call}
use Rattle.player_disc.specs.Block.{called_lists}
use Rattle.player_disc.specs.PlayerDisc.{called_disc, disc_load_call, disc_save_call, disc_save_both_call, disc_load_call_as, disc_save_call_as, disc_save_both_call_as}
use Rattle.theorems.specs.Terms.{Valid, ValidIn}

-- "the bytes of a view determine every field it gives": read, they give the listener's fields back
abbrev pub ListenerTold : Type 0
ListenerTold = (l : Lengths) (x : Index) (out : ℕ) (b : List ℕ) → sized x ≡ true → view listener l x out ≡ Accepted b
    → read_listener b ≡ Some (listener_of x)

-- and the workshop's
abbrev pub WorkshopTold : Type 0
WorkshopTold = (l : Lengths) (x : Index) (out : ℕ) (b : List ℕ) → sized x ≡ true → view workshop l x out ≡ Accepted b
    → read_workshop b ≡ Some (workshop_of x)

-- so lists with equal views have equal fields, and a listener's view is never a workshop's
pub record ViewsTell : Type 0 where
  pub listeners : (l m : Lengths) (x y : Index) (out out' : ℕ) (b : List ℕ) → sized x ≡ true → sized y ≡ true
      → view listener l x out ≡ Accepted b → view listener m y out' ≡ Accepted b → listener_of x ≡ listener_of y
  pub workshops : (l m : Lengths) (x y : Index) (out out' : ℕ) (b : List ℕ) → sized x ≡ true → sized y ≡ true
      → view workshop l x out ≡ Accepted b → view workshop m y out' ≡ Accepted b → workshop_of x ≡ workshop_of y
  pub apart : (l m : Lengths) (x y : Index) (out out' : ℕ) (b c : List ℕ) → view listener l x out ≡ Accepted b
      → view workshop m y out' ≡ Accepted c → b ≢ c

-- "Two valid lists that differ only in what the listener's view omits have in it identical bytes, lengths and refusals", each in its own tables
pub record ListenerSees : Type 0 where
  pub same : (l m : Lengths) (x y : Index) (out : ℕ) → Valid l x → Valid m y → listener_of x ≡ listener_of y
      → view listener l x out ≡ view listener m y out
  pub size : (l m : Lengths) (x y : Index) → Valid l x → Valid m y → listener_of x ≡ listener_of y
      → view_size listener l x ≡ view_size listener m y

-- behind word 0 the workshop's view begins with the listener's bytes
abbrev pub WorkshopAdds : Type 0
WorkshopAdds = (x : Index) → drop 8 (take (length (listener_bytes (listener_of x))) (workshop_bytes (workshop_of x)))
    ≡ drop 8 (listener_bytes (listener_of x))

-- with role 2 each operation is what it was; with any other it answers 52
abbrev pub WorkshopIsBase : Type 1
WorkshopIsBase = (A : Type 0) (r : Answer A) → as_workshop workshop r ≡ r

abbrev pub ListenerRefused : Type 1
ListenerRefused = (A : Type 0) (role : ℕ) (r : Answer A) → role ≢ workshop → as_workshop role r ≡ Refused 52

-- one number tells length and refusal: a length is at least 88, a refusal at most 54
pub record ViewNumber : Type 0 where
  pub length' : (role : ℕ) (l : Lengths) (x : Index) (out : ℕ) (b : List ℕ) → view role l x out ≡ Accepted b
      → (length b ≡ view_length role x) × (88 ≤ length b) × (length b ≤ out)
  pub refusal : (role : ℕ) (l : Lengths) (x : Index) (out n : ℕ) → view role l x out ≡ Refused n → n ≤ 54

-- ---- over tables: what the calls answer and leave
-- a list that passes 1 to 4 and fits the output is written as its view's bytes, and their length is told before
pub record ViewLeaves : Type 0 where
  pub bytes : (role : ℕ) (x : AreaIndex) (t : Tables) (out : List ℕ) → ValidIn x t → is_role role ≡ true
      → view_length role (index_in x t) ≤ length out
      → ((view_in role x t out).answer ≡ Accepted (view_length role (index_in x t)))
      × ((view_in role x t out).out ≡ over (view_bytes role (index_in x t)) out)
  pub told : (role : ℕ) (x : AreaIndex) (t : Tables) → ValidIn x t → is_role role ≡ true → view_size_in role x t
      ≡ Accepted (view_length role (index_in x t))

-- two valid lists, each in its own tables, that a listener sees alike: the same answer and the same output
pub record ListenerSeesInTables : Type 0 where
  pub same : (x y : AreaIndex) (t u : Tables) (out : List ℕ) → ValidIn x t → ValidIn y u → listener_of (index_in x t)
      ≡ listener_of (index_in y u)
      → view_in listener x t out ≡ view_in listener y u out
  pub size : (x y : AreaIndex) (t u : Tables) → ValidIn x t → ValidIn y u → listener_of (index_in x t)
      ≡ listener_of (index_in y u)
      → view_size_in listener x t ≡ view_size_in listener y u

-- and in C
pub record ListenerSeesInC : Type 0 where
  pub same : (head other : List ℕ) (t u : Tables) (out : List ℕ) → is_index head ≡ true → is_index other ≡ true
      → ValidIn (head_index head) t → ValidIn (head_index other) u
      → listener_of (index_in (head_index head) t) ≡ listener_of (index_in (head_index other) u)
      → view_call listener head t out ≡ view_call listener other u out
  pub size : (head other : List ℕ) (t u : Tables) → is_index head ≡ true → is_index other ≡ true
      → ValidIn (head_index head) t → ValidIn (head_index other) u
      → listener_of (index_in (head_index head) t) ≡ listener_of (index_in (head_index other) u)
      → view_length_call listener head t ≡ view_length_call listener other u

-- "numbers 2 and 3 of the mission speak of the workshop's role": with role 2 each call of C that loads, saves or merges is the call of these statements
pub record WorkshopInC : Type 0 where
  pub load : (head : List ℕ) (a : Area) (file : List ℕ) (limit : ℕ) (t : Tables)
      → load_call_as workshop head a file limit t ≡ load_call head a file limit t
  pub save : (head : List ℕ) (t : Tables) (out : List ℕ) → save_call_as workshop head t out ≡ save_call head t out
  pub merge : (head other : List ℕ) (t u : Tables) → merge_call_as workshop head other t u ≡ merge_call head other t u
  pub merge_all : (head ls b : List ℕ) (limit : ℕ) (t u : Tables) → merge_all_call_as workshop head ls b limit t u
      ≡ merge_all_call head ls b limit t u
  pub load_disc : (head other : List ℕ) (a0 a1 : Area) (file : List ℕ) (limit : ℕ) (answer : List ℕ) (t u : Tables)
      → disc_load_call_as workshop head other a0 a1 file limit answer t u
      ≡ disc_load_call head other a0 a1 file limit answer t u
  pub save_one : (head : List ℕ) (t : Tables) (out : List ℕ) → disc_save_call_as workshop head t out
      ≡ disc_save_call head t out
  pub save_both : (head other : List ℕ) (t u : Tables) (out : List ℕ) → disc_save_both_call_as workshop head other t u out
      ≡ disc_save_both_call head other t u out

-- with any other role each answers 52, whatever blocks and tables are, and leaves all of them as they were
pub record ListenerRefusedInC (role : ℕ) : Type 0 where
  pub load : (head : List ℕ) (a : Area) (file : List ℕ) (limit : ℕ) (t : Tables)
      → load_call_as role head a file limit t ≡ called_over 52 head t
  pub save : (head : List ℕ) (t : Tables) (out : List ℕ) → save_call_as role head t out ≡ called 52 out
  pub merge : (head other : List ℕ) (t u : Tables) → merge_call_as role head other t u ≡ called_over 52 head t
  pub merge_all : (head ls b : List ℕ) (limit : ℕ) (t u : Tables) → merge_all_call_as role head ls b limit t u
      ≡ called_over 52 head t
  pub load_disc : (head other : List ℕ) (a0 a1 : Area) (file : List ℕ) (limit : ℕ) (answer : List ℕ) (t u : Tables)
      → disc_load_call_as role head other a0 a1 file limit answer t u ≡ called_disc (called_lists 52 head other answer) t u
  pub save_one : (head : List ℕ) (t : Tables) (out : List ℕ) → disc_save_call_as role head t out ≡ called 52 out
  pub save_both : (head other : List ℕ) (t u : Tables) (out : List ℕ) → disc_save_both_call_as role head other t u out
      ≡ called 52 out
