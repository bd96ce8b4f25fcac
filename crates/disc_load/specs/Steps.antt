-- What is asked of a disc file, and what the answers say.
use Rattle.std.specs.Prelude.{◌≡◌, true, ◌&&◌, List, ℕ, ◌+◌, ◌≤◌, length, take, drop, Option, None, Some}
use Rattle.rules_disc.specs.declared.Entry.{Entry}
use Rattle.rules_disc.specs.declared.SlotEntry.{SlotEntry}
use Rattle.rules_disc.specs.declared.SlotEntry.TheVariants.{Absent, At}
use Rattle.rules.specs.declared.Area.{Area}
use Rattle.rules_disc.specs.declared.SlotEntry.TheVariants as place
use Rattle.rules.specs.declared.TableSizes.{TableSizes}
use Rattle.rules_disc.specs.declared.BodySized.{BodySized}
use Rattle.rules_disc.specs.declared.BodySized.TheVariants as sized
use Rattle.rules_disc.specs.Disc.{entries_in, entry_of, contents_ok, body_at, slot_area, load_body, load_disc}
use Rattle.rules.specs.Tests.{Refused, Answer, Accepted}
use Rattle.rules.specs.Values.{Index}
use Rattle.tables.specs.Index.{Tables, room_of}
use Rattle.load.specs.Limit.{limited_in}
use Rattle.load.specs.Steps.{Loadable}
use Rattle.disc_load.specs.declared.ask.Body.{Body}
use Rattle.disc_load.specs.declared.ask.Body.TheVariants as body
use Rattle.disc_load.specs.declared.ask.Asked.{Asked}
use Rattle.disc_load.specs.declared.ask.Asked.TheVariants as asked
use Rattle.disc_load.specs.declared.ask.Decided.{Decided}
use Rattle.disc_load.specs.declared.ask.Decided.TheVariants as decided
use Rattle.disc_load.specs.DiscLoad.{slot_sizes_of}

unfoldable pub entry_in : SlotEntry → Option Entry
entry_in Absent = None
entry_in (At e) = Some e

-- inside the file b
abbrev pub Inside : List ℕ → SlotEntry → Type 0
Inside b Absent = Unit {0}
Inside b (At e) = e.offset + e.len ≤ length b

-- the table of b is right, and names the place p for slot 0 and q for slot 1
pub record Locates (b : List ℕ) (p q : SlotEntry) : Type 0 where
  pub contents : contents_ok b ≡ true
  pub entry0 : entry_in p ≡ entry_of 0 (entries_in b)
  pub entry1 : entry_in q ≡ entry_of 1 (entries_in b)
  pub inside0 : Inside b p
  pub inside1 : Inside b q

-- ---- the body of a slot
unfoldable pub place_of : Body → SlotEntry
place_of body.Absent = place.Absent
place_of (body.At e found y) = place.At e

-- its bytes in the file b
abbrev pub bytes_at : List ℕ → Entry → List ℕ
bytes_at b e = take e.len (drop e.offset b)

-- it lies in the file b, was accepted, and the tables t have room for its limited list
abbrev pub BodyLoads : Area → List ℕ → ℕ → Tables → Body → Type 0
BodyLoads a b limit t body.Absent = Unit {0}
BodyLoads a b limit t (body.At e found y) = (e.offset + e.len ≤ length b) × Loadable a (bytes_at b e) limit found y t

-- its limited list
unfoldable pub held_in : Area → List ℕ → ℕ → Body → Option Index
held_in a b limit body.Absent = None
held_in a b limit (body.At e found y) = Some (limited_in a (bytes_at b e) limit)

-- what the answer of the questions says of the body at the place p
pub record BodyDecision (a : Area) (b : List ℕ) (limit : ℕ) (t : Tables) (p : SlotEntry) (r : Asked) : Type 0 where
  pub refused : (n : ℕ) → r ≡ asked.Refused n → load_body (room_of t) a limit (body_at b (entry_in p)) ≡ Refused n
  pub passed : (x : Body) → r ≡ asked.Passed x → (p ≡ place_of x) × BodyLoads a b limit t x

-- 1 and 54 passed, and the table of the file b names these places
pub record Located (a0 a1 : Area) (b : List ℕ) (p q : SlotEntry) : Type 0 where
  pub areas : (slot_area 0 a0 && slot_area 1 a1) ≡ true
  pub table : Locates b p q

-- and both bodies load
pub record BothLoad (a0 a1 : Area) (b : List ℕ) (limit : ℕ) (t u : Tables) (x y : Body) : Type 0 where
  pub located : Located a0 a1 b (place_of x) (place_of y)
  pub holds0 : BodyLoads a0 b limit t x
  pub holds1 : BodyLoads a1 b limit u y

-- ---- the disc file
-- by the answers of both bodies
unfoldable pub decided_by : Asked → Asked → Decided
decided_by (asked.Refused n) other = decided.Refused n
decided_by (asked.Passed x) (asked.Refused n) = decided.Refused n
decided_by (asked.Passed x) (asked.Passed y) = decided.Ready x y

-- what the answer of the questions says
pub record Decision (a0 a1 : Area) (b : List ℕ) (limit : ℕ) (t u : Tables) (r : Decided) : Type 0 where
  pub refused : (n : ℕ) → r ≡ decided.Refused n → load_disc (room_of t) (room_of u) a0 a1 b limit ≡ Refused n
  pub ready : (x y : Body) → r ≡ decided.Ready x y → BothLoad a0 a1 b limit t u x y

unfoldable pub body_sized_of : BodySized → Answer (Option TableSizes)
body_sized_of (sized.Refused n) = Refused n
body_sized_of (sized.Passed s) = Accepted (slot_sizes_of s)
