-- Change request 14, "After it the bodies, each an ordinary list file": about the calls over lent tables, and about those that players make in C.
use Rattle.std.specs.Prelude.{◌≡◌, ◌≢◌, List, ℕ, ◌≤◌, length, take, Option, None, Some}
use Rattle.rules.specs.declared.Area.{Area}
use Rattle.rules.specs.declared.AreaIndex.{AreaIndex}
use Rattle.rules.specs.File.{over, saved}
use Rattle.rules.specs.declared.Made.TheVariants as made
use Rattle.tables.specs.Index.{Tables, index_in, made_out}
use Rattle.save.specs.Save as saving
use Rattle.load.specs.Load.{load_in}
use Rattle.rules_disc.specs.declared.Listed.{Listed}
use Rattle.rules_disc.specs.declared.Listed.TheVariants as listed
use Rattle.rules_disc.specs.declared.Loaded.TheVariants as loaded
use Rattle.rules.specs.Tests.{Accepted}
use Rattle.disc_load.specs.DiscLoad.{disc_out, load_disc_in}
use Rattle.disc_save.specs.DiscSave.{save_one_in, save_both_in}
use Rattle.blocks.specs.Calls.{called, head_index}
use Rattle.player.specs.Player.{called_over, save_call, load_call}
use Rattle.player_disc.specs.Block.{called_lists}
use Rattle.player_disc.specs.PlayerDisc.{called_disc, disc_save_call, disc_save_both_call, disc_load_call}
use Rattle.theorems.specs.DiscFile.{body_in}

-- ---- what is saved
-- o is the body of a list's slot: the file that saving that list alone writes, into any output that is long enough
pub record ListFileIn (x : AreaIndex) (t : Tables) (o : Option (List ℕ)) : Type 0 where
  pub file : o ≡ Some (saved (index_in x t))
  pub saves : (old : List ℕ) → let b = saved (index_in x t) in
      length b ≤ length old → saving.save_in x t old ≡ saving.made (Accepted (length b)) (over b old)

-- k bytes of new are the file
pub record SavedBodiesIn : Type 0 where
  pub both : (x y : AreaIndex) (t u : Tables) (old : List ℕ) (k : ℕ) (new : List ℕ) → save_both_in x t y u old
      ≡ saving.made (Accepted k) new
      → ListFileIn x t (body_in (take k new) x.area.key.slot)
      × ListFileIn y u (body_in (take k new) y.area.key.slot)
  pub one : (x : AreaIndex) (t : Tables) (old : List ℕ) (k : ℕ) (new : List ℕ) → save_one_in x t old
      ≡ saving.made (Accepted k) new
      → ListFileIn x t (body_in (take k new) x.area.key.slot)
  pub other : (x : AreaIndex) (t : Tables) (old : List ℕ) (k : ℕ) (new : List ℕ) (s : ℕ) → save_one_in x t old
      ≡ saving.made (Accepted k) new → s ≢ x.area.key.slot
      → body_in (take k new) s ≡ None

-- the same in C
pub record ListFileInC (head : List ℕ) (t : Tables) (o : Option (List ℕ)) : Type 0 where
  pub file : o ≡ Some (saved (index_in (head_index head) t))
  pub saves : (old : List ℕ) → let b = saved (index_in (head_index head) t) in
      length b ≤ length old → save_call head t old ≡ called (length b) (over b old)

pub record SavedBodiesInC : Type 0 where
  pub both : (head other : List ℕ) (t u : Tables) (old : List ℕ) (k : ℕ) (new : List ℕ)
      → disc_save_both_call head other t u old ≡ called k new → 88 ≤ k
      → ListFileInC head t (body_in (take k new) (head_index head).area.key.slot)
      × ListFileInC other u (body_in (take k new) (head_index other).area.key.slot)
  pub one : (head : List ℕ) (t : Tables) (old : List ℕ) (k : ℕ) (new : List ℕ) → disc_save_call head t old
      ≡ called k new → 88 ≤ k
      → ListFileInC head t (body_in (take k new) (head_index head).area.key.slot)
  pub other : (head : List ℕ) (t : Tables) (old : List ℕ) (k : ℕ) (new : List ℕ) (s : ℕ) → disc_save_call head t old
      ≡ called k new → 88 ≤ k
      → s ≢ (head_index head).area.key.slot → body_in (take k new) s ≡ None

-- ---- what is loaded
-- loading the body c alone gives the list p of its slot, in the tables t as the disc file leaves them, t'
pub record LoadsAlone (a : Area) (c : List ℕ) (limit : ℕ) (t : Tables) (p : Listed) (t' : Tables) : Type 0 where
  pub numbers : AreaIndex
  pub is : p ≡ listed.Index numbers
  pub loads : load_in a c limit t ≡ made_out (made.Index numbers) t'

pub record BodiesLoadIn : Type 0 where
  pub first : (a0 a1 : Area) (b : List ℕ) (limit : ℕ) (t u : Tables) (p q : Listed) (t' u' : Tables) (c : List ℕ)
      → load_disc_in a0 a1 b limit t u ≡ disc_out (loaded.Lists p q) t' u' → body_in b 0 ≡ Some c
      → LoadsAlone a0 c limit t p t'
  pub second : (a0 a1 : Area) (b : List ℕ) (limit : ℕ) (t u : Tables) (p q : Listed) (t' u' : Tables) (d : List ℕ)
      → load_disc_in a0 a1 b limit t u ≡ disc_out (loaded.Lists p q) t' u' → body_in b 1 ≡ Some d
      → LoadsAlone a1 d limit u q u'
  -- a slot without a body has no list, and its tables stay
  pub no_first : (a0 a1 : Area) (b : List ℕ) (limit : ℕ) (t u : Tables) (p q : Listed) (t' u' : Tables)
      → load_disc_in a0 a1 b limit t u ≡ disc_out (loaded.Lists p q) t' u' → body_in b 0 ≡ None → (p ≡ listed.Absent)
      × (t' ≡ t)
  pub no_second : (a0 a1 : Area) (b : List ℕ) (limit : ℕ) (t u : Tables) (p q : Listed) (t' u' : Tables)
      → load_disc_in a0 a1 b limit t u ≡ disc_out (loaded.Lists p q) t' u' → body_in b 1 ≡ None → (q ≡ listed.Absent)
      × (u' ≡ u)

-- in C: seek_raw_load of a body answers 0 too, and leaves that slot's head and tables alike
pub record BodiesLoadInC : Type 0 where
  pub first : (head other answer : List ℕ) (a0 a1 : Area) (b : List ℕ) (limit : ℕ) (t u : Tables)
      (head' other' answer' : List ℕ) (t' u' : Tables) (c : List ℕ)
      → disc_load_call head other a0 a1 b limit answer t u ≡ called_disc (called_lists 0 head' other' answer') t' u'
      → body_in b 0 ≡ Some c
      → load_call head a0 c limit t ≡ called_over 0 head' t'
  pub second : (head other answer : List ℕ) (a0 a1 : Area) (b : List ℕ) (limit : ℕ) (t u : Tables)
      (head' other' answer' : List ℕ) (t' u' : Tables) (d : List ℕ)
      → disc_load_call head other a0 a1 b limit answer t u ≡ called_disc (called_lists 0 head' other' answer') t' u'
      → body_in b 1 ≡ Some d
      → load_call other a1 d limit u ≡ called_over 0 other' u'
  -- a slot without a body keeps its head and its tables
  pub no_first : (head other answer : List ℕ) (a0 a1 : Area) (b : List ℕ) (limit : ℕ) (t u : Tables)
      (head' other' answer' : List ℕ) (t' u' : Tables)
      → disc_load_call head other a0 a1 b limit answer t u ≡ called_disc (called_lists 0 head' other' answer') t' u'
      → body_in b 0 ≡ None → (head' ≡ head) × (t' ≡ t)
  pub no_second : (head other answer : List ℕ) (a0 a1 : Area) (b : List ℕ) (limit : ℕ) (t u : Tables)
      (head' other' answer' : List ℕ) (t' u' : Tables)
      → disc_load_call head other a0 a1 b limit answer t u ≡ called_disc (called_lists 0 head' other' answer') t' u'
      → body_in b 1 ≡ None → (other' ≡ other) × (u' ≡ u)
