-- What holds of disc files, about the calls over lent tables. Assumes nothing.
use Rattle.std.specs.Prelude.{Option, None, Some}
use mathlib.Core.Path.{◌≡◌, refl, sym, ap, ◌∙◌}
use mathlib.Core.Bool.{Bool, true, false, ◌&&◌}
use mathlib.Core.List.{List}
use Prim.Native.Nat.{ℕ}
use native.Mathlib.Omega.{arith}
use lib.ListN.{length}
use Rattle.field.specs.Records.{Bytes}
use Rattle.rules.specs.declared.Area.{Area}
use Rattle.rules.specs.declared.AreaIndex.{AreaIndex}
use Rattle.rules.specs.Tests.{Answer, Refused, Accepted}
use Rattle.rules.specs.Values.{Index, Lengths}
use Rattle.rules.specs.Questions.{question3}
use Rattle.rules.specs.File.{over}
use Rattle.rules_disc.specs.Disc.{Disc, entries_in, entry_of, save_one, save_both, load_disc}
use Rattle.laws.specs.Statements.{Savable, stripped}
use Rattle.laws.proofs.Facts.{facts}
use Rattle.tables.specs.Index.{Tables, room_of, index_in, numbers_from, tables_from, kinds_in, kinded}
use Rattle.tables.specs.Lent.{Typed, TableBytes}
use Rattle.index.proofs.Lent.{sized_in}
use Rattle.index.proofs.Standing.{stands, kinds_from, within, room_from}
use Rattle.save.specs.Save.{made, save_out}
use Rattle.theorems.proofs.RoundTripInTables.{wrote}
use Rattle.rules_disc.specs.declared.Listed.{Listed}
use Rattle.rules_disc.specs.declared.Listed.TheVariants as listed
use Rattle.rules_disc.specs.declared.Loaded.TheVariants as loaded
use Rattle.disc_load.specs.DiscLoad.{DiscOut, disc_out, listed_from, tables_with, disc_out_of, load_disc_in}
use Rattle.disc_save.specs.DiscSave.{save_one_in, save_both_in}
use Rattle.theorems.specs.DiscFile.{disc, WholeDisc}
use Rattle.theorems.specs.DiscInTables.{HoldsBoth, HoldsFirst, HoldsSecond, SavedDiscLoadsIn, LoadedDiscSavesIn}
use Rattle.theorems.proofs.disc.Rebuilt.{as_saved, named}
use Rattle.theorems.proofs.disc.DiscFile.{and_comm, savable, first_valid, second_valid, one_valid, one_disc_file, disc_loads, opened}
use Rattle.theorems.proofs.disc.Saves.{list_kept, disc_saves}

-- ---- saving, then loading
-- an accepted answer had right kinds
kinds_passed : {A : Type 0} (ok : Bool) (r : Answer A) (f : A) → kinded ok r ≡ Accepted f → r ≡ Accepted f
unfolding kinded
kinds_passed true r f e = e
kinds_passed false r f e = let z : ◌≡◌ {A = ℕ} 0 1 = cc in let y : ⊥ = omega arith in absurd y

-- what an accepted load leaves
module _ (a0 a1 : Area) (b : List ℕ) (limit : ℕ) (t u : Tables) where
  pub holds_both : (x y : Index) → Savable x → Savable y → load_disc (room_of t) (room_of u) a0 a1 b limit
      ≡ Accepted (disc (Some x) (Some y))
      → HoldsBoth (load_disc_in a0 a1 b limit t u) x y
  unfolding load_disc_in disc_out_of listed_from tables_with
  holds_both x y v w e =
      rw e (record {
        first = numbers_from x;
        second = numbers_from y;
        answer = refl;
        list0 = stands x t v;
        list1 = stands y u w;
      })

  pub holds_first : (x : Index) → Savable x → load_disc (room_of t) (room_of u) a0 a1 b limit
      ≡ Accepted (disc (Some x) None) → HoldsFirst (load_disc_in a0 a1 b limit t u) x u
  unfolding load_disc_in disc_out_of listed_from tables_with
  holds_first x v e = rw e (record { first = numbers_from x; answer = refl; list0 = stands x t v; slot1 = refl })

  pub holds_second : (y : Index) → Savable y → load_disc (room_of t) (room_of u) a0 a1 b limit
      ≡ Accepted (disc None (Some y)) → HoldsSecond (load_disc_in a0 a1 b limit t u) t y
  unfolding load_disc_in disc_out_of listed_from tables_with
  holds_second y w e = rw e (record { second = numbers_from y; answer = refl; slot0 = refl; list1 = stands y u w })

pub swap_in : (x y : AreaIndex) (t u : Tables) (old : List ℕ) → save_both_in x t y u old ≡ save_both_in y u x t old
unfolding save_both_in
swap_in x y t u old =
    rw (
      and_comm (kinds_in x t) (kinds_in y u),
      one_disc_file.swapped (room_of t) (room_of u) (index_in x t)
          (index_in y u) (length old),
    )

-- what was saved can be saved as a file holds it
pub both_savable : (x y : AreaIndex) (t u : Tables) (old : List ℕ) (k : ℕ) (new : List ℕ) → Typed x → Typed y
    → TableBytes t → TableBytes u → save_both_in x t y u old ≡ made (Accepted k) new
    → Savable (stripped (index_in x t)) × Savable (stripped (index_in y u))
unfolding save_both_in
both_savable x y t u old k new hx hy bt bu e =
    let i = index_in x t in
    let j = index_in y u in
    let w = wrote _ old k new e in
    let r = kinds_passed (kinds_in x t && kinds_in y u) (save_both (room_of t) i (room_of u) j (length old)) w.file
    w.accepted in (
      as_saved i (savable (room_of t) i (first_valid (room_of t) i (room_of u) j (length old) w.file r)
          (sized_in x t hx bt)),
      as_saved j (savable (room_of u) j (second_valid (room_of t) i (room_of u) j (length old) w.file r)
          (sized_in y u hy bu)),
    )

pub one_savable : (x : AreaIndex) (t : Tables) (old : List ℕ) (k : ℕ) (new : List ℕ) → Typed x → TableBytes t
    → save_one_in x t old ≡ made (Accepted k) new → Savable (stripped (index_in x t))
unfolding save_one_in
one_savable x t old k new hx bt e =
    let i = index_in x t in
    let w = wrote _ old k new e in
    let r = kinds_passed (kinds_in x t) (save_one (room_of t) i (length old)) w.file w.accepted in
    as_saved i (savable (room_of t) i (one_valid (room_of t) i (length old) w.file r) (sized_in x t hx bt))

pub saved_disc_loads_in : SavedDiscLoadsIn
unfolding save_both_in save_one_in
saved_disc_loads_in =
    record {
      both = λ x y t u old k new limit t' u' hx hy bt bu p q e g h a c.
          let i = index_in x t in
          let j = index_in y u in
          let w = wrote _ old k new e in
          let r = kinds_passed (kinds_in x t && kinds_in y u) (save_both (room_of t) i (room_of u) j (length old))
          w.file w.accepted in
          let zx = sized_in x t hx bt in
          let zy = sized_in y u hy bu in
          let v = both_savable x y t u old k new hx hy bt bu e in
          let d = disc_loads.both (room_of t) (room_of u) (room_of t') (room_of u') i j (length old) limit w.file zx
          zy p q r g h a c in
          rw w.bytes (holds_both x.area y.area w.file limit t' u' (stripped i) (stripped j) v.0 v.1
          d);
      first = λ x t o old k new limit t' u' hx bt p q e g a.
          let i = index_in x t in
          let w = wrote _ old k new e in
          let r = kinds_passed (kinds_in x t) (save_one (room_of t) i (length old)) w.file w.accepted in
          let z = sized_in x t hx bt in
          let d = disc_loads.first (room_of t) (room_of t') (room_of u') i o (length old) limit w.file z p q r g a in
          rw w.bytes (holds_first x.area o w.file limit t' u' (stripped i)
          (one_savable x t old k new hx bt e) d);
      second = λ y u o old k new limit t' u' hy bu p q e g a.
          let j = index_in y u in
          let w = wrote _ old k new e in
          let r = kinds_passed (kinds_in y u) (save_one (room_of u) j (length old)) w.file w.accepted in
          let z = sized_in y u hy bu in
          let d = disc_loads.second (room_of u) (room_of t') (room_of u') j o (length old) limit w.file z p q r g a in
          rw w.bytes (holds_second o y.area w.file limit t' u' (stripped j)
          (one_savable y u old k new hy bu e) d);
      swapped = swap_in;
    }

-- ---- loading, then saving
-- what an accepted load put
pub record Placed (t u : Tables) (r : Answer Disc) (p q : Listed) (t' u' : Tables) : Type 0 where
  pub lists : Disc
  pub accepted : r ≡ Accepted lists
  pub answer0 : listed_from lists.slot0 ≡ p
  pub answer1 : listed_from lists.slot1 ≡ q
  pub tables0 : tables_with lists.slot0 t ≡ t'
  pub tables1 : tables_with lists.slot1 u ≡ u'

pub placed : (t u : Tables) (r : Answer Disc) (p q : Listed) (t' u' : Tables) → disc_out_of t u r
    ≡ disc_out (loaded.Lists p q) t' u' → Placed t u r p q t' u'
unfolding disc_out_of
placed t u (Refused n) p q t' u' e =
    let a = ap (λ (o : DiscOut). o.answer) e in
    let z : ◌≡◌ {A = ℕ} 0 1 = cc in
    let f : ⊥ = omega arith in
    absurd f
placed t u (Accepted d) p q t' u' e =
    let a : loaded.Lists (listed_from d.slot0) (listed_from d.slot1)
    ≡ loaded.Lists p q = ap (λ (o : DiscOut). o.answer) e in
    record {
      lists = d;
      accepted = refl;
      answer0 = cc;
      answer1 = cc;
      tables0 = ap (λ (o : DiscOut). o.slot0) e;
      tables1 = ap (λ (o : DiscOut). o.slot1) e;
    }

-- in one slot
pub record InSlot (t : Tables) (o : Option Index) (x : AreaIndex) (t' : Tables) : Type 0 where
  pub list : Index
  pub is : o ≡ Some list
  pub numbers : numbers_from list ≡ x
  pub tables : tables_from list t ≡ t'

pub in_slot : (t : Tables) (o : Option Index) (x : AreaIndex) (t' : Tables) → listed_from o ≡ listed.Index x
    → tables_with o t ≡ t' → InSlot t o x t'
unfolding listed_from tables_with
in_slot t None x t' e h = let z : ◌≡◌ {A = ℕ} 0 1 = cc in let f : ⊥ = omega arith in absurd f
in_slot t (Some y) x t' e h = record { list = y; is = refl; numbers = cc; tables = h }

empty_slot : (o : Option Index) → listed_from o ≡ listed.Absent → o ≡ None
unfolding listed_from
empty_slot None e = refl
empty_slot (Some y) e = let z : ◌≡◌ {A = ℕ} 0 1 = cc in let f : ⊥ = omega arith in absurd f

-- the lists of an accepted disc file may be saved
module _ (l m : Lengths) (a0 a1 : Area) (b : List ℕ) (limit : ℕ) (d : Disc) (g : Bytes b)
    (w : WholeDisc a0 a1 b limit) (e : load_disc l m a0 a1 b limit ≡ Accepted d) where
  savable0 : (x : Index) → d.slot0 ≡ Some x → Savable x
  savable0 x i =
      let o = opened l m a0 a1 b limit d e in
      (list_kept l a0 b limit x g (entry_of 0 (entries_in b)) w.0
      (named l a0 b limit (entry_of 0 (entries_in b)) x (o.body0 ∙ ap (λ (z : Option Index). Accepted z) i))
      ).savable

  savable1 : (y : Index) → d.slot1 ≡ Some y → Savable y
  savable1 y i =
      let o = opened l m a0 a1 b limit d e in
      (list_kept m a1 b limit y g (entry_of 1 (entries_in b)) w.1
      (named m a1 b limit (entry_of 1 (entries_in b)) y (o.body1 ∙ ap (λ (z : Option Index). Accepted z) i))
      ).savable

-- lists in their tables, saved
one_saves_in : (x : Index) (t : Tables) (old b : List ℕ) → Savable x → question3 (room_of t) x ≡ true
    → save_one (room_of t) x (length old) ≡ Accepted b
    → save_one_in (numbers_from x) (tables_from x t) old ≡ made (Accepted (length b)) (over b old)
unfolding save_one_in save_out kinded
one_saves_in x t old b v r e =
    let w = within x t (facts x v) r in
    rw (stands x t v, room_from x t w, kinds_from x t v, e)

both_save_in : (x y : Index) (t u : Tables) (old b : List ℕ) → Savable x → Savable y → question3 (room_of t) x ≡ true
    → question3 (room_of u) y ≡ true
    → save_both (room_of t) x (room_of u) y (length old) ≡ Accepted b
    → save_both_in (numbers_from x) (tables_from x t) (numbers_from y) (tables_from y u) old
    ≡ made (Accepted (length b)) (over b old)
unfolding save_both_in save_out kinded
both_save_in x y t u old b v z r s e =
    let w = within x t (facts x v) r in
    let k = within y u (facts y z) s in
    rw (stands x t v, stands y u z, room_from x t w, room_from y u k, kinds_from x t v, kinds_from y u z, e)

pub loaded_disc_saves_in : LoadedDiscSavesIn
unfolding load_disc_in
loaded_disc_saves_in =
    record {
      both = λ a0 a1 b limit t u x y t' u' old g w e n.
          let p = placed t u (load_disc (room_of t) (room_of u) a0 a1 b limit) (listed.Index x) (listed.Index y) t' u' e in
          let i = in_slot t p.lists.slot0 x t' p.answer0 p.tables0 in
          let j = in_slot u p.lists.slot1 y u' p.answer1 p.tables1 in
          let d : load_disc (room_of t) (room_of u) a0 a1 b limit
          ≡ Accepted (disc (Some i.list) (Some j.list)) = p.accepted
          ∙ (λ k. Accepted (disc (i.is k) (j.is k))) in
          let s = disc_saves.both (room_of t) (room_of u) a0 a1 b limit (length old) i.list j.list g w d n in
          let v = first_valid (room_of t) i.list (room_of u) j.list (length old) b s in
          let z = second_valid (room_of t) i.list (room_of u) j.list (length old) b s in
          sym (λ k. save_both_in (i.numbers k) (i.tables k) (j.numbers k) (j.tables k) old)
          ∙ both_save_in i.list j.list t u old b
          (savable0 (room_of t) (room_of u) a0 a1 b limit p.lists g w p.accepted i.list i.is)
          (savable1 (room_of t) (room_of u) a0 a1 b limit p.lists g w p.accepted j.list j.is) v.three
          z.three s;
      first = λ a0 a1 b limit t u x t' u' old g w e n.
          let p = placed t u (load_disc (room_of t) (room_of u) a0 a1 b limit) (listed.Index x) listed.Absent t' u' e in
          let i = in_slot t p.lists.slot0 x t' p.answer0 p.tables0 in
          let j = empty_slot p.lists.slot1 p.answer1 in
          let d : load_disc (room_of t) (room_of u) a0 a1 b limit ≡ Accepted (disc (Some i.list) None) = p.accepted
          ∙ (λ k. Accepted (disc (i.is k) (j k))) in
          let s = disc_saves.first (room_of t) (room_of u) a0 a1 b limit (length old) i.list g w d n in
          sym (λ k. save_one_in (i.numbers k) (i.tables k) old)
          ∙ one_saves_in i.list t old b (savable0 (room_of t) (room_of u) a0 a1 b limit p.lists g w p.accepted
          i.list i.is) (one_valid (room_of t) i.list (length old) b s).three s;
      second = λ a0 a1 b limit t u y t' u' old g w e n.
          let p = placed t u (load_disc (room_of t) (room_of u) a0 a1 b limit) listed.Absent (listed.Index y) t' u' e in
          let i = empty_slot p.lists.slot0 p.answer0 in
          let j = in_slot u p.lists.slot1 y u' p.answer1 p.tables1 in
          let d : load_disc (room_of t) (room_of u) a0 a1 b limit ≡ Accepted (disc None (Some j.list)) = p.accepted
          ∙ (λ k. Accepted (disc (i k) (j.is k))) in
          let s = disc_saves.second (room_of t) (room_of u) a0 a1 b limit (length old) j.list g w d n in
          sym (λ k. save_one_in (j.numbers k) (j.tables k) old)
          ∙ one_saves_in j.list u old b (savable1 (room_of t) (room_of u) a0 a1 b limit p.lists g w p.accepted
          j.list j.is) (one_valid (room_of u) j.list (length old) b s).three s;
    }
