-- Change request 14 about the calls over lent tables: saving, then loading what was written, and the other way round.
use Rattle.std.specs.Prelude.{◌≡◌, true, List, [], ◌∷◌, ℕ, ◌+◌, ◌≤◌, length, take, None, Some}
use Rattle.field.specs.Records.{Bytes}
use Rattle.rules.specs.declared.Area.{Area}
use Rattle.rules.specs.declared.AreaIndex.{AreaIndex}
use Rattle.rules.specs.Tests.{Accepted}
use Rattle.rules.specs.Values.{Index, max32}
use Rattle.rules.specs.Questions.{question3}
use Rattle.rules.specs.File.{over, saved}
use Rattle.rules.specs.Load.{load}
use Rattle.rules_disc.specs.Disc.{slot_area, contents_ok, disc_bytes}
use Rattle.tables.specs.Index.{Tables, room_of, index_in}
use Rattle.tables.specs.Lent.{Typed, TableBytes}
use Rattle.save.specs.Save.{made}
use Rattle.laws.specs.Statements.{stripped}
use Rattle.theorems.specs.Terms.{ValidIn, Ample}
use Rattle.rules_disc.specs.declared.Listed.TheVariants as listed
use Rattle.rules_disc.specs.declared.Loaded.TheVariants as loaded
use Rattle.disc_load.specs.DiscLoad.{DiscOut, disc_out, load_disc_in}
use Rattle.disc_save.specs.DiscSave.{save_one_in, save_both_in}
use Rattle.theorems.specs.TableRun.{LentIn}
use Rattle.theorems.specs.DiscFile.{body_in, WholeDisc}

-- a load answered the numbers of two lists, and the tables of slots 0 and 1 then hold them
pub record HoldsBoth (o : DiscOut) (x y : Index) : Type 0 where
  pub first : AreaIndex
  pub second : AreaIndex
  pub answer : o.answer ≡ loaded.Lists (listed.Index first) (listed.Index second)
  pub list0 : index_in first o.slot0 ≡ x
  pub list1 : index_in second o.slot1 ≡ y

-- of slot 0 alone: the tables of slot 1 are u, unchanged
pub record HoldsFirst (o : DiscOut) (x : Index) (u : Tables) : Type 0 where
  pub first : AreaIndex
  pub answer : o.answer ≡ loaded.Lists (listed.Index first) listed.Absent
  pub list0 : index_in first o.slot0 ≡ x
  pub slot1 : o.slot1 ≡ u

-- of slot 1 alone: the tables of slot 0 are t, unchanged
pub record HoldsSecond (o : DiscOut) (t : Tables) (y : Index) : Type 0 where
  pub second : AreaIndex
  pub answer : o.answer ≡ loaded.Lists listed.Absent (listed.Index second)
  pub slot0 : o.slot0 ≡ t
  pub list1 : index_in second o.slot1 ≡ y

-- saved lists load as themselves, image id and checked mark apart: k bytes of new are the file, the limit drops nothing, and t' and u' have room
pub record SavedDiscLoadsIn : Type 0 where
  pub both : (x y : AreaIndex) (t u : Tables) (old : List ℕ) (k : ℕ) (new : List ℕ) (limit : ℕ) (t' u' : Tables)
      → Typed x → Typed y → TableBytes t → TableBytes u
      → x.area.key.slot ≡ 0 → y.area.key.slot ≡ 1 → save_both_in x t y u old ≡ made (Accepted k) new
      → question3 (room_of t') (index_in x t) ≡ true → question3 (room_of u') (index_in y u) ≡ true
      → Ample limit (index_in x t) → Ample limit (index_in y u)
      → HoldsBoth (load_disc_in x.area y.area (take k new) limit t' u') (stripped (index_in x t))
      (stripped (index_in y u))
  pub first : (x : AreaIndex) (t : Tables) (a : Area) (old : List ℕ) (k : ℕ) (new : List ℕ) (limit : ℕ)
      (t' u' : Tables) → Typed x → TableBytes t
      → x.area.key.slot ≡ 0 → slot_area 1 a ≡ true → save_one_in x t old ≡ made (Accepted k) new
      → question3 (room_of t') (index_in x t) ≡ true → Ample limit (index_in x t)
      → HoldsFirst (load_disc_in x.area a (take k new) limit t' u') (stripped (index_in x t)) u'
  pub second : (y : AreaIndex) (u : Tables) (a : Area) (old : List ℕ) (k : ℕ) (new : List ℕ) (limit : ℕ)
      (t' u' : Tables) → Typed y → TableBytes u
      → y.area.key.slot ≡ 1 → slot_area 0 a ≡ true → save_one_in y u old ≡ made (Accepted k) new
      → question3 (room_of u') (index_in y u) ≡ true → Ample limit (index_in y u)
      → HoldsSecond (load_disc_in a y.area (take k new) limit t' u') t' (stripped (index_in y u))
  -- whichever is given first
  pub swapped : (x y : AreaIndex) (t u : Tables) (old : List ℕ) → save_both_in x t y u old ≡ save_both_in y u x t old

-- what an accepted disc file b leaves in the tables is saved as its own bytes: the limit drops nothing, and the output is as long as the file
pub record LoadedDiscSavesIn : Type 0 where
  pub both : (a0 a1 : Area) (b : List ℕ) (limit : ℕ) (t u : Tables) (x y : AreaIndex) (t' u' : Tables) (old : List ℕ)
      → Bytes b → WholeDisc a0 a1 b limit
      → load_disc_in a0 a1 b limit t u ≡ disc_out (loaded.Lists (listed.Index x) (listed.Index y)) t' u'
      → length b ≤ length old
      → save_both_in x t' y u' old ≡ made (Accepted (length b)) (over b old)
  pub first : (a0 a1 : Area) (b : List ℕ) (limit : ℕ) (t u : Tables) (x : AreaIndex) (t' u' : Tables) (old : List ℕ)
      → Bytes b → WholeDisc a0 a1 b limit
      → load_disc_in a0 a1 b limit t u ≡ disc_out (loaded.Lists (listed.Index x) listed.Absent) t' u'
      → length b ≤ length old
      → save_one_in x t' old ≡ made (Accepted (length b)) (over b old)
  pub second : (a0 a1 : Area) (b : List ℕ) (limit : ℕ) (t u : Tables) (y : AreaIndex) (t' u' : Tables) (old : List ℕ)
      → Bytes b → WholeDisc a0 a1 b limit
      → load_disc_in a0 a1 b limit t u ≡ disc_out (loaded.Lists listed.Absent (listed.Index y)) t' u'
      → length b ≤ length old
      → save_one_in y u' old ≡ made (Accepted (length b)) (over b old)

-- ---- a disc file of two lists is their saved content's
pub record OneDiscFileIn : Type 0 where
  -- lists that pass 1 to 4 in their tables are answered alike, number and bytes, and the output then holds the same
  pub same : (x y x' y' : AreaIndex) (t u t' u' : Tables) (old : List ℕ) → ValidIn x t → ValidIn y u → ValidIn x' t'
      → ValidIn y' u' → LentIn x t → LentIn y u → LentIn x' t' → LentIn y' u'
      → saved (index_in x t) ≡ saved (index_in x' t') → saved (index_in y u) ≡ saved (index_in y' u')
      → save_both_in x t y u old ≡ save_both_in x' t' y' u' old
  -- whichever is given first
  pub swapped : (x y : AreaIndex) (t u : Tables) (old : List ℕ) → save_both_in x t y u old ≡ save_both_in y u x t old

-- ---- saving and loading accept
-- lists that pass 1 to 4 in their tables, of different slots, whose entries fit four bytes, are saved into every output that is long enough, whichever is given first
pub record DiscSaveAcceptsIn : Type 0 where
  pub both : (x y : AreaIndex) (t u : Tables) (old : List ℕ) → ValidIn x t → ValidIn y u → x.area.key.slot ≡ 0
      → y.area.key.slot ≡ 1
      → let i = index_in x t in let j = index_in y u in let b = disc_bytes (i ∷ j ∷ []) in
      28 + length (saved i) ≤ max32 → length (saved j) ≤ max32 → 28 + length (saved i) + length (saved j) ≤ length old
      → (save_both_in x t y u old ≡ made (Accepted (length b)) (over b old))
      × (save_both_in y u x t old ≡ made (Accepted (length b)) (over b old))
  pub one : (x : AreaIndex) (t : Tables) (old : List ℕ) → ValidIn x t
      → let i = index_in x t in let b = disc_bytes (i ∷ []) in
      length (saved i) ≤ max32 → 16 + length (saved i) ≤ length old → save_one_in x t old
      ≡ made (Accepted (length b)) (over b old)

-- a disc file whose table is right and whose bodies load is loaded, all lists
pub record DiscLoadAcceptsIn : Type 0 where
  pub both : (a0 a1 : Area) (b : List ℕ) (limit : ℕ) (t u : Tables) (c d : List ℕ) (x y : Index) → Bytes b
      → slot_area 0 a0 ≡ true → slot_area 1 a1 ≡ true → contents_ok b ≡ true
      → body_in b 0 ≡ Some c → load (room_of t) a0 c limit ≡ Accepted x → body_in b 1 ≡ Some d
      → load (room_of u) a1 d limit ≡ Accepted y
      → HoldsBoth (load_disc_in a0 a1 b limit t u) x y
  pub first : (a0 a1 : Area) (b : List ℕ) (limit : ℕ) (t u : Tables) (c : List ℕ) (x : Index) → Bytes b
      → slot_area 0 a0 ≡ true → slot_area 1 a1 ≡ true → contents_ok b ≡ true
      → body_in b 0 ≡ Some c → load (room_of t) a0 c limit ≡ Accepted x → body_in b 1 ≡ None
      → HoldsFirst (load_disc_in a0 a1 b limit t u) x u
  pub second : (a0 a1 : Area) (b : List ℕ) (limit : ℕ) (t u : Tables) (d : List ℕ) (y : Index) → Bytes b
      → slot_area 0 a0 ≡ true → slot_area 1 a1 ≡ true → contents_ok b ≡ true
      → body_in b 0 ≡ None → body_in b 1 ≡ Some d → load (room_of u) a1 d limit ≡ Accepted y
      → HoldsSecond (load_disc_in a0 a1 b limit t u) t y
