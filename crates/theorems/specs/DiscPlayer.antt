-- Change request 14: what a player in C rests on, the one number that saving a disc file answers, its length, and the sizes of the tables of both slots.
use Rattle.std.specs.Prelude.{ℕ, ◌≤◌, ◌≡◌, Bool, true, List, length, Option, None, Some}
use Rattle.rules.specs.declared.Area.{Area}
use Rattle.rules.specs.declared.AreaIndex.{AreaIndex}
use Rattle.rules.specs.Tests.{Refused, Accepted, Answer}
use Rattle.rules_disc.specs.Disc.{Disc, entries_in, entry_of, body_at, load_disc}
use Rattle.tables.specs.Index.{Tables, room_of}
use Rattle.rules.specs.declared.TableSizes.{TableSizes}
use Rattle.sizes.specs.Sizes.{has_sizes}
use Rattle.blocks.specs.Calls.{saved_number}
use Rattle.disc_save.specs.DiscSave.{save_one_in, save_both_in, one_length, both_length}
use Rattle.disc_load.specs.DiscLoad.{DiscSizes, body_sizes, disc_sizes}

-- ---- saving
-- a refusal number is 1 to 54, a length at least 104: one number tells both
abbrev pub DiscTold : Answer ℕ → ℕ → Type 0
DiscTold s n = (s ≡ Refused n → (1 ≤ n) × (n ≤ 54)) × (s ≡ Accepted n → 104 ≤ n)

pub record DiscSaveNumber : Type 0 where
  pub one : (x : AreaIndex) (t : Tables) (out : List ℕ) (n : ℕ) → DiscTold (save_one_in x t out).answer n
  pub both : (x : AreaIndex) (t : Tables) (y : AreaIndex) (u : Tables) (out : List ℕ) (n : ℕ)
      → DiscTold (save_both_in x t y u out).answer n

-- in an output that is at least as long as the number told, saving answers that number: the length, or the refusal
pub record DiscLengthTold : Type 0 where
  pub one : (x : AreaIndex) (t : Tables) (out : List ℕ) → one_length x t ≤ length out
      → saved_number (save_one_in x t out).answer ≡ one_length x t
  pub both : (x : AreaIndex) (t : Tables) (y : AreaIndex) (u : Tables) (out : List ℕ) → both_length x t y u ≤ length out
      → saved_number (save_both_in x t y u out).answer ≡ both_length x t y u

-- ---- loading
-- has every table of a slot at least the bytes told? An absent list needs none.
unfoldable pub has_slot : Option TableSizes → Tables → Bool
has_slot None t = true
has_slot (Some s) t = has_sizes s t

-- a disc file that loads in tables t and u
pub record LoadsInTables (a0 a1 : Area) (b : List ℕ) (limit : ℕ) (t u : Tables) : Type 0 where
  pub lists : Disc
  pub loads : load_disc (room_of t) (room_of u) a0 a1 b limit ≡ Accepted lists

pub record DiscSizesTold : Type 0 where
  -- in tables of at least the sizes told, loading never answers 3, nor any other number
  pub fits : (a0 a1 : Area) (b : List ℕ) (limit : ℕ) (t u : Tables) (d : DiscSizes) → disc_sizes a0 a1 b limit
      ≡ Accepted d
      → has_slot d.slot0 t ≡ true → has_slot d.slot1 u ≡ true → LoadsInTables a0 a1 b limit t u
  -- where no sizes are told, loading refuses with the same number, if the tables of slot 0 have the sizes of its body
  pub refused : (a0 a1 : Area) (b : List ℕ) (limit n : ℕ) (t u : Tables) → disc_sizes a0 a1 b limit ≡ Refused n
      → ((s : Option TableSizes) → body_sizes a0 limit (body_at b (entry_of 0 (entries_in b))) ≡ Accepted s → has_slot s t
      ≡ true)
      → load_disc (room_of t) (room_of u) a0 a1 b limit ≡ Refused n
