-- Change request 14 about the calls that players make: seek_raw_disc_save, seek_raw_disc_save_both and seek_raw_disc_load.
use Rattle.std.specs.Prelude.{◌≡◌, true, List, [], ◌∷◌, ℕ, ◌+◌, ◌≤◌, length, None, Some}
use Rattle.field.specs.Records.{Bytes}
use Rattle.rules.specs.declared.Area.{Area}
use Rattle.rules.specs.Tests.{Accepted}
use Rattle.rules.specs.Values.{Index, max32}
use Rattle.rules.specs.File.{over, saved}
use Rattle.rules.specs.Load.{load}
use Rattle.rules_disc.specs.Disc.{slot_area, contents_ok, disc_bytes}
use Rattle.blocks.specs.Blocks.{block_of, is_index}
use Rattle.tables.specs.Index.{Tables, room_of, index_in}
use Rattle.blocks.specs.Calls.{called, head_index, two}
use Rattle.player_disc.specs.PlayerDisc.{CalledDisc, disc_save_call, disc_save_both_call, disc_load_call}
use Rattle.theorems.specs.Terms.{ValidIn}
use Rattle.theorems.specs.DiscFile.{body_in}
use Rattle.theorems.specs.Demand1InC.{long}

-- lists that pass 1 to 4 in their tables, of different slots, whose entries fit four bytes, are saved into every output that is long enough, whichever is given first: the number is the file's length
pub record DiscSaveAcceptsInC : Type 0 where
  pub both : (head other : List ℕ) (t u : Tables) (old : List ℕ) → is_index head ≡ true → is_index other ≡ true
      → ValidIn (head_index head) t → ValidIn (head_index other) u
      → (head_index head).area.key.slot ≡ 0 → (head_index other).area.key.slot ≡ 1
      → let i = index_in (head_index head) t in let j = index_in (head_index other) u in let b = disc_bytes (i ∷ j ∷ []) in
      28 + length (saved i) ≤ max32 → length (saved j) ≤ max32 → 28 + length (saved i) + length (saved j) ≤ length old
      → (disc_save_both_call head other t u old ≡ called (length b) (over b old))
      × (disc_save_both_call other head u t old ≡ called (length b) (over b old))
  pub one : (head : List ℕ) (t : Tables) (old : List ℕ) → is_index head ≡ true → ValidIn (head_index head) t
      → let i = index_in (head_index head) t in let b = disc_bytes (i ∷ []) in
      length (saved i) ≤ max32 → 16 + length (saved i) ≤ length old → disc_save_call head t old
      ≡ called (length b) (over b old)

-- a load answered 0 and 1, 1, and the heads and tables of both slots then hold these lists
pub record HoldsBothInC (answer : List ℕ) (o : CalledDisc) (x y : Index) : Type 0 where
  pub accepted : o.call.number ≡ 0
  pub present : o.call.answer ≡ over (block_of (two 1 1)) answer
  pub list0 : index_in (head_index o.call.head) o.slot0 ≡ x
  pub list1 : index_in (head_index o.call.other) o.slot1 ≡ y

-- of slot 0 alone: head and tables of slot 1 are unchanged
pub record HoldsFirstInC (answer other : List ℕ) (u : Tables) (o : CalledDisc) (x : Index) : Type 0 where
  pub accepted : o.call.number ≡ 0
  pub present : o.call.answer ≡ over (block_of (two 1 0)) answer
  pub list0 : index_in (head_index o.call.head) o.slot0 ≡ x
  pub head1 : o.call.other ≡ other
  pub slot1 : o.slot1 ≡ u

-- of slot 1 alone
pub record HoldsSecondInC (answer head : List ℕ) (t : Tables) (o : CalledDisc) (y : Index) : Type 0 where
  pub accepted : o.call.number ≡ 0
  pub present : o.call.answer ≡ over (block_of (two 0 1)) answer
  pub head0 : o.call.head ≡ head
  pub slot0 : o.slot0 ≡ t
  pub list1 : index_in (head_index o.call.other) o.slot1 ≡ y

-- a disc file whose table is right and whose bodies load is loaded, all lists
pub record DiscLoadAcceptsInC : Type 0 where
  pub both : (head other answer : List ℕ) (a0 a1 : Area) (b : List ℕ) (limit : ℕ) (t u : Tables) (c d : List ℕ)
      (x y : Index) → long (head ∷ other ∷ answer ∷ []) ≡ true
      → Bytes b → slot_area 0 a0 ≡ true → slot_area 1 a1 ≡ true → contents_ok b ≡ true
      → body_in b 0 ≡ Some c → load (room_of t) a0 c limit ≡ Accepted x → body_in b 1 ≡ Some d
      → load (room_of u) a1 d limit ≡ Accepted y
      → HoldsBothInC answer (disc_load_call head other a0 a1 b limit answer t u) x y
  pub first : (head other answer : List ℕ) (a0 a1 : Area) (b : List ℕ) (limit : ℕ) (t u : Tables) (c : List ℕ)
      (x : Index) → long (head ∷ other ∷ answer ∷ []) ≡ true
      → Bytes b → slot_area 0 a0 ≡ true → slot_area 1 a1 ≡ true → contents_ok b ≡ true
      → body_in b 0 ≡ Some c → load (room_of t) a0 c limit ≡ Accepted x → body_in b 1 ≡ None
      → HoldsFirstInC answer other u (disc_load_call head other a0 a1 b limit answer t u) x
  pub second : (head other answer : List ℕ) (a0 a1 : Area) (b : List ℕ) (limit : ℕ) (t u : Tables) (d : List ℕ)
      (y : Index) → long (head ∷ other ∷ answer ∷ []) ≡ true
      → Bytes b → slot_area 0 a0 ≡ true → slot_area 1 a1 ≡ true → contents_ok b ≡ true
      → body_in b 0 ≡ None → body_in b 1 ≡ Some d → load (room_of u) a1 d limit ≡ Accepted y
      → HoldsSecondInC answer head t (disc_load_call head other a0 a1 b limit answer t u) y
