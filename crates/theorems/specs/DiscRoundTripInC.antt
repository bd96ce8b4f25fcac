-- Change request 14, mission 2, about the calls that players make: seek_raw_disc_save or seek_raw_disc_save_both, then seek_raw_disc_load of what was written, and the other way round.
use Rattle.std.specs.Prelude.{◌≡◌, true, List, [], ◌∷◌, ℕ, ◌≤◌, length, take}
use Rattle.field.specs.Records.{Bytes}
use Rattle.rules.specs.declared.Area.{Area}
use Rattle.rules.specs.Questions.{question3}
use Rattle.rules.specs.File.{over, saved}
use Rattle.rules_disc.specs.Disc.{slot_area}
use Rattle.laws.specs.Statements.{stripped}
use Rattle.blocks.specs.Blocks.{block_of, is_index}
use Rattle.tables.specs.Index.{Tables, room_of, index_in}
use Rattle.blocks.specs.Calls.{called, head_index, two}
use Rattle.player_disc.specs.Block.{called_lists}
use Rattle.player_disc.specs.PlayerDisc.{called_disc, disc_save_call, disc_save_both_call, disc_load_call}
use Rattle.theorems.specs.Terms.{ValidIn, Ample}
use Rattle.theorems.specs.BlockRun.{LentBlock}
use Rattle.theorems.specs.Demand1InC.{long}
use Rattle.theorems.specs.DiscFile.{WholeDisc}
use Rattle.theorems.specs.DiscInC.{HoldsBothInC, HoldsFirstInC, HoldsSecondInC}

-- saved lists load as themselves, image id and checked mark apart: k bytes of new are the file, the limit drops nothing, and the blocks and the tables t' and u' have room
pub record SavedDiscLoadsInC : Type 0 where
  pub both : (head other : List ℕ) (t u : Tables) (old : List ℕ) (k : ℕ) (new : List ℕ) (limit : ℕ)
      (head' other' answer : List ℕ) (t' u' : Tables)
      → LentBlock head t → LentBlock other u → let x = head_index head in let y = head_index other in
      x.area.key.slot ≡ 0 → y.area.key.slot ≡ 1 → disc_save_both_call head other t u old ≡ called k new → 88 ≤ k
      → question3 (room_of t') (index_in x t) ≡ true → question3 (room_of u') (index_in y u) ≡ true
      → Ample limit (index_in x t) → Ample limit (index_in y u)
      → long (head' ∷ other' ∷ answer ∷ []) ≡ true
      → HoldsBothInC answer (disc_load_call head' other' x.area y.area (take k new) limit answer t' u')
      (stripped (index_in x t)) (stripped (index_in y u))
  pub first : (head : List ℕ) (t : Tables) (a : Area) (old : List ℕ) (k : ℕ) (new : List ℕ) (limit : ℕ)
      (head' other' answer : List ℕ) (t' u' : Tables)
      → LentBlock head t → let x = head_index head in
      x.area.key.slot ≡ 0 → slot_area 1 a ≡ true → disc_save_call head t old ≡ called k new → 88 ≤ k
      → question3 (room_of t') (index_in x t) ≡ true → Ample limit (index_in x t) → long (head' ∷ other' ∷ answer ∷ [])
      ≡ true
      → HoldsFirstInC answer other' u' (disc_load_call head' other' x.area a (take k new) limit answer t' u')
      (stripped (index_in x t))
  pub second : (other : List ℕ) (u : Tables) (a : Area) (old : List ℕ) (k : ℕ) (new : List ℕ) (limit : ℕ)
      (head' other' answer : List ℕ) (t' u' : Tables)
      → LentBlock other u → let y = head_index other in
      y.area.key.slot ≡ 1 → slot_area 0 a ≡ true → disc_save_call other u old ≡ called k new → 88 ≤ k
      → question3 (room_of u') (index_in y u) ≡ true → Ample limit (index_in y u) → long (head' ∷ other' ∷ answer ∷ [])
      ≡ true
      → HoldsSecondInC answer head' t' (disc_load_call head' other' a y.area (take k new) limit answer t' u')
      (stripped (index_in y u))

-- what an accepted disc file b leaves in heads and tables is saved as its own bytes: the limit drops nothing, the answer's words say which lists are there, and the output is as long as the file
pub record LoadedDiscSavesInC : Type 0 where
  pub both : (head other answer : List ℕ) (a0 a1 : Area) (b : List ℕ) (limit : ℕ) (t u : Tables)
      (head' other' : List ℕ) (t' u' : Tables) (old : List ℕ)
      → Bytes b → WholeDisc a0 a1 b limit
      → disc_load_call head other a0 a1 b limit answer t u
      ≡ called_disc (called_lists 0 head' other' (over (block_of (two 1 1)) answer)) t' u' → length b ≤ length old
      → disc_save_both_call head' other' t' u' old ≡ called (length b) (over b old)
  pub first : (head other answer : List ℕ) (a0 a1 : Area) (b : List ℕ) (limit : ℕ) (t u : Tables)
      (head' other' : List ℕ) (t' u' : Tables) (old : List ℕ)
      → Bytes b → WholeDisc a0 a1 b limit
      → disc_load_call head other a0 a1 b limit answer t u
      ≡ called_disc (called_lists 0 head' other' (over (block_of (two 1 0)) answer)) t' u' → length b ≤ length old
      → disc_save_call head' t' old ≡ called (length b) (over b old)
  pub second : (head other answer : List ℕ) (a0 a1 : Area) (b : List ℕ) (limit : ℕ) (t u : Tables)
      (head' other' : List ℕ) (t' u' : Tables) (old : List ℕ)
      → Bytes b → WholeDisc a0 a1 b limit
      → disc_load_call head other a0 a1 b limit answer t u
      ≡ called_disc (called_lists 0 head' other' (over (block_of (two 0 1)) answer)) t' u' → length b ≤ length old
      → disc_save_call other' u' old ≡ called (length b) (over b old)

-- pairs of lists with equal saved content have one disc file
pub record OneDiscFileInC : Type 0 where
  -- lists that pass 1 to 4 in their tables are answered alike, number and bytes, and the output then holds the same
  pub same : (head other head' other' : List ℕ) (t u t' u' : Tables) (old : List ℕ)
      → is_index head ≡ true → is_index other ≡ true → is_index head' ≡ true → is_index other' ≡ true
      → LentBlock head t → LentBlock other u → LentBlock head' t' → LentBlock other' u'
      → ValidIn (head_index head) t → ValidIn (head_index other) u → ValidIn (head_index head') t'
      → ValidIn (head_index other') u'
      → saved (index_in (head_index head) t) ≡ saved (index_in (head_index head') t')
      → saved (index_in (head_index other) u) ≡ saved (index_in (head_index other') u')
      → disc_save_both_call head other t u old ≡ disc_save_both_call head' other' t' u' old
  -- whichever is given first
  pub swapped : (head other : List ℕ) (t u : Tables) (old : List ℕ) → disc_save_both_call head other t u old
      ≡ disc_save_both_call other head u t old
