-- What accepted calls leave in tables: the statements of specs/ClosureInTables.antt. Assumes nothing.
use Rattle.std.specs.Prelude.{Option, None, Some}
use mathlib.Core.Path.{◌≡◌, refl, sym, ap, subst, ◌∙◌}
use mathlib.Core.Bool.{Bool, true, false, cond}
use mathlib.Core.List.{List, [], ◌∷◌}
use Prim.Native.Nat.{ℕ, ◌/◌, ◌≤◌}
use native.Mathlib.Omega.{arith}
use lib.Dec.{eqb}
use lib.ListN.{length}
use borrow.Author.Tests.{le-leb}
use Rattle.field.specs.Records.{Bytes, records}
use Rattle.rules.specs.declared.Area.{Area}
use Rattle.rules.specs.declared.AreaIndex.{AreaIndex}
use Rattle.rules.specs.declared.Confirmation.{Confirmation}
use Rattle.rules.specs.declared.Fingerprint.TheVariants.{Checked}
use Rattle.rules.specs.Tests.{Answer, Refused, Accepted, each, ask, first_no, agree}
use Rattle.rules.specs.Values.{Hinting, Index, Lengths, max64, stated, is_checked}
use Rattle.rules.specs.Sizes.{hinting_sized, sized}
use Rattle.rules.specs.Questions.{question1, question2, question3, question4, four}
use Rattle.rules.specs.Create.{empty_index, new, bound, bind_fingerprint}
use Rattle.rules.specs.Hints.{question13, with_hints, with_hinting, add_hints, unkept, question53, with_mark, keep_hint, question14, keeps_nothing, keep_confirmation}
use Rattle.rules.specs.Load.{load}
use Rattle.rules.proofs.Tests.{all→, →all, accepted→}
use Rattle.laws.specs.Statements.{Savable}
use Rattle.laws.proofs.hint_lists.Closure.{kept_hinting, add_hints_sized, keep_hinting_sized}
use Rattle.tables.specs.Tables.{frames_of, hints_of}
use Rattle.tables.specs.Index.{kinds_ok, Tables, room_of, index_in, kinds_in, kinded, numbers_from, tables_from, tables_cleared, MadeOut, made_out, made_out_of}
use Rattle.rules.specs.declared.Made.TheVariants as made
use Rattle.index.specs.Index.{numbers_of, new_in, bound_in}
use Rattle.index.proofs.Back.{with_print, numbers_with}
use Rattle.index.proofs.Lent.{sized_in}
use Rattle.index.proofs.Standing.{stands, stands_cleared, kinds_from}
use Rattle.add_hints.specs.AddHints.{touched, add_hints_in}
use Rattle.keep_hint.specs.KeepHint.{keep_hint_in}
use Rattle.confirmations.specs.Confirmations.{keep_in}
use Rattle.confirmations.specs.Confirmations as keeping
use Rattle.load.specs.Load.{load_in}
use Rattle.absorb.specs.Absorb.{absorb_in}
use Rattle.theorems.specs.Terms.{Valid}
use Rattle.theorems.specs.TableRun.{LentIn, is_accepted, numbers_after}
use Rattle.theorems.specs.ClosureInTables.{Stands, ClosureInTables}
use Rattle.theorems.proofs.Closure.{closure}
use Rattle.theorems.proofs.MergeInTables.{kinded→, merge_left}
use Rattle.theorems.proofs.RecordersInTables.{started_stands, recorded_stands, finished_stands, created_stands, seen_stands, flushed_stands, taken_stands}
use Rattle.theorems.proofs.AbsorbInTables.{absorb_left, stopped_left}
use Rattle.theorems.proofs.disc.AcceptsInTables.{load_savable}
use Rattle.add_hints.proofs.Arriving.{given_plain}

-- numbers and tables that hold a valid list
stands_by : (l : Lengths) (x : Index) (n : AreaIndex) (t : Tables) → Valid l x → index_in n t ≡ x → kinds_in n t ≡ true
    → Stands n t
stands_by l x n t v e k =
    record {
      one = subst (λ (i : Index). question1 i ≡ true) (sym e) v.one;
      two = subst (λ (i : Index). question2 i ≡ true) (sym e) v.two;
      four = subst (λ (i : Index). question4 i ≡ true) (sym e) v.four;
      kinds = k;
    }

-- answers that hold numbers
numbers→ : (r : Answer Index) (n : AreaIndex) → numbers_of r ≡ Accepted n → (x : Index) × (r ≡ Accepted x)
    × (numbers_from x ≡ n)
unfolding numbers_of
numbers→ (Refused m) n e = let z : ◌≡◌ {A = ℕ} 0 1 = cc in let f : ⊥ = omega arith in absurd f
numbers→ (Accepted x) n e = (x, refl, cc)

-- a list put into its tables
put→ : (put : Index → Tables) (t : Tables) (r : Answer Index) (y : AreaIndex) (t' : Tables) → made_out_of put t r
    ≡ made_out (made.Index y) t'
    → (v : Index) × (r ≡ Accepted v) × (numbers_from v ≡ y) × (put v ≡ t')
unfolding made_out_of is_accepted numbers_after
put→ put t (Refused n) y t' h = let q = ap (λ (o : MadeOut). is_accepted o.answer) h in let w : ◌≡◌ {A = ℕ} 0
    1 = cc in let f : ⊥ = omega arith in absurd f
put→ put t (Accepted v) y t' h = (
  v,
  refl,
  ap (λ (o : MadeOut). numbers_after y o.answer) h,
  ap (λ (o : MadeOut). o.tables) h,
)

kept→ : (t : Tables) (r : Answer (Option Index)) (y : AreaIndex) (t' : Tables) → keeping.kept_out_of t r
    ≡ keeping.kept_out (Accepted (Some y)) t'
    → (v : Index) × (r ≡ Accepted (Some v)) × (numbers_from v ≡ y) × (tables_from v t ≡ t')
unfolding keeping.kept_out_of
kept→ t (Refused n) y t' h = let a = ap (λ (o : keeping.KeptOut). o.answer) h in let z : ◌≡◌ {A = ℕ} 0 1 = cc
    in let f : ⊥ = omega arith in absurd f
kept→ t (Accepted None) y t' h = let a = ap (λ (o : keeping.KeptOut). o.answer) h in let z : ◌≡◌ {A = ℕ} 0 1 = cc
    in let f : ⊥ = omega arith in absurd f
kept→ t (Accepted (Some v)) y t' h =
    let a : Accepted (Some (numbers_from v)) ≡ Accepted (Some y) = ap (λ (o : keeping.KeptOut). o.answer) h
    in (v, refl, cc, ap (λ (o : keeping.KeptOut). o.tables) h)

-- ---- new: no list lies in the tables
made_in : (t : Tables) (a : Area) (k budget spacing most : ℕ) (x : AreaIndex) → new_in t a k budget spacing most
    ≡ Accepted x → Stands x t
unfolding new_in new records frames_of kinds_ok each
made_in t a k budget spacing most x e =
    let n = numbers→ (new (room_of t) a k budget spacing most) x e in
    let i = empty_index a k budget spacing most in
    let q : i ≡ n.0 = (accepted→ (first_no (ask (question1 i) 1 ∷ ask (question2 i) 2 ∷ ask (question3 (room_of t) i) 3
    ∷ [])) i n.0 n.1).1 in
    let v : Valid (room_of t) i = subst (λ (z : Index). Valid (room_of t) z) (sym q)
    (closure.made (room_of t) a k budget spacing most n.0 n.1) in
    subst (λ (z : AreaIndex). Stands z t) (ap (λ (z : Index). numbers_from z) q ∙ n.2)
    (stands_by (room_of t) i (numbers_from i) t v refl refl)

-- ---- the fingerprint entry: another mark
bound_in_lemma : (x : AreaIndex) (t : Tables) (v : ℕ) (y : AreaIndex) → bound_in x t v ≡ Accepted y → Stands y t
unfolding bound_in bind_fingerprint
bound_in_lemma x t v y e =
    let j = index_in x t in
    let n = numbers→ (kinded (kinds_in x t) (bind_fingerprint (room_of t) j v)) y e in
    let d = kinded→ (kinds_in x t) (bind_fingerprint (room_of t) j v) n.0 n.1 in
    let i = bound j v in
    let q : i ≡ n.0 = (accepted→ (first_no (four (room_of t) j
    (ask (agree eqb (stated j.fingerprint) (Some v)) 15 ∷ []))) i n.0 d.1).1 in
    let w : Valid (room_of t) i = subst (λ (z : Index). Valid (room_of t) z) (sym q)
    (closure.fingerprinted (room_of t) j n.0 v d.1) in
    subst (λ (z : AreaIndex). Stands z t) (sym (numbers_with x t (Checked v)) ∙ ap (λ (z : Index). numbers_from z) q
    ∙ n.2)
    (stands_by (room_of t) i (with_print x (Checked v)) t w refl d.0)

-- ---- a list that can be saved, put into its tables
put_stands : (l : Lengths) (x : Index) (n : AreaIndex) (t t' : Tables) → Valid l x → sized x ≡ true → numbers_from x
    ≡ n → tables_from x t ≡ t' → Stands n t'
put_stands l x n t t' v z e f =
    let s : Savable x = record { one = v.one; two = v.two; four = v.four; sizes = z } in
    subst (λ (y : AreaIndex). Stands y t') e (subst (λ (u : Tables). Stands (numbers_from x) u) f
    (stands_by l x (numbers_from x) (tables_from x t) v (stands x t s) (kinds_from x t s)))

-- ---- hints
-- a delivered list has no marks
given_unkept : (list : List ℕ) → unkept (hints_of list) ≡ hints_of list
given_unkept list = given_plain (length list / 8) list

hinted_in : (x : AreaIndex) (t : Tables) (list : List ℕ) (y : AreaIndex) (t' : Tables) → LentIn x t
    → add_hints_in x t list ≡ made_out (made.Index y) t' → Stands y t'
unfolding add_hints_in add_hints sized
hinted_in x t list y t' a e =
    let j = index_in x t in
    let w = touched x.most x.hints list in
    let p = put→ (λ z. tables_cleared w z t) t (kinded (kinds_in x t) (add_hints (room_of t) j (hints_of list))) y t' e in
    let d = kinded→ (kinds_in x t) (add_hints (room_of t) j (hints_of list)) p.0 p.1 in
    let i = with_hinting j (with_hints j.scan.area j.hinting (hints_of list)) in
    let q : i ≡ p.0 = (accepted→ (first_no (four (room_of t) j (ask (question13 (hints_of list)) 13 ∷ []))) i p.0
    d.1).1 in
    let v = closure.hinted (room_of t) j p.0 (hints_of list) (given_unkept list) d.1 in
    let h = all→ _ (sized_in x t a.typed a.bytes) in
    let z : sized p.0 ≡ true = subst (λ (u : Index). sized u ≡ true) q
    (→all _ (h.0, (add_hints_sized j.scan.area j.hinting (hints_of list) h.1.0, (h.1.1.0, tt)))) in
    let s : Savable p.0 = record { one = v.one; two = v.two; four = v.four; sizes = z } in
    subst (λ (n : AreaIndex). Stands n t') p.2
    (subst (λ (u : Tables). Stands (numbers_from p.0) u) p.3
    (stands_by (room_of t) p.0 (numbers_from p.0) (tables_cleared w p.0 t) v (stands_cleared w p.0 t s)
    (kinds_from p.0 t s)))

-- ---- kept marks
mark_sized : (r : Hinting) (lsn : ℕ) → hinting_sized r ≡ true → hinting_sized (with_mark r lsn) ≡ true
unfolding hinting_sized with_mark
mark_sized r lsn e = e

marked_in : (x : AreaIndex) (t : Tables) (lsn : ℕ) (y : AreaIndex) (t' : Tables) → LentIn x t → keep_hint_in x t lsn
    ≡ made_out (made.Index y) t' → Stands y t'
unfolding keep_hint_in keep_hint sized
marked_in x t lsn y t' a e =
    let j = index_in x t in
    let p = put→ (λ z. tables_from z t) t (kinded (kinds_in x t) (keep_hint (room_of t) j lsn)) y t' e in
    let d = kinded→ (kinds_in x t) (keep_hint (room_of t) j lsn) p.0 p.1 in
    let i = with_hinting j (with_mark j.hinting lsn) in
    let q : i ≡ p.0 = (accepted→ (first_no (four (room_of t) j (ask (question53 j.hinting lsn) 53 ∷ []))) i p.0
    d.1).1 in
    let v = closure.marked (room_of t) j p.0 lsn d.1 in
    let h = all→ _ (sized_in x t a.typed a.bytes) in
    let z : sized p.0 ≡ true = subst (λ (u : Index). sized u ≡ true) q
    (→all _ (h.0, (mark_sized j.hinting lsn h.1.0, (h.1.1.0, tt)))) in
    put_stands (room_of t) p.0 y t t' v z p.2 p.3

-- ---- confirmations
kept_is : (b : Bool) (i v : Index) → cond b None (Some i) ≡ Some v → i ≡ v
kept_is true i v e = let z : ◌≡◌ {A = ℕ} 0 1 = cc in let f : ⊥ = omega arith in absurd f
kept_is false i v e = cc

confirmed_in : (x : AreaIndex) (t : Tables) (c : Confirmation) (y : AreaIndex) (t' : Tables) → LentIn x t
    → c.digest ≤ max64
    → keep_in x t c ≡ keeping.kept_out (Accepted (Some y)) t' → Stands y t'
unfolding keep_in keep_confirmation sized
confirmed_in x t c y t' a l e =
    let j = index_in x t in
    let p = kept→ t (kinded (kinds_in x t) (keep_confirmation (room_of t) j c)) y t' e in
    let d = kinded→ (kinds_in x t) (keep_confirmation (room_of t) j c) (Some p.0) p.1 in
    let i = with_hinting j (kept_hinting j.fingerprint j.hinting c) in
    let r = (accepted→ (first_no (four (room_of t) j (ask (question14 j.scan.area c) 14 ∷ [])))
    (cond (keeps_nothing (is_checked j.fingerprint) j.hinting.most) None (Some i)) (Some p.0) d.1).1 in
    let q : i ≡ p.0 = kept_is (keeps_nothing (is_checked j.fingerprint) j.hinting.most) i p.0 r in
    let v = closure.confirmed (room_of t) j p.0 c d.1 in
    let h = all→ _ (sized_in x t a.typed a.bytes) in
    let z : sized p.0 ≡ true =
    subst (λ (u : Index). sized u ≡ true) q (→all _ (
      h.0,
      (
        keep_hinting_sized j.fingerprint j.hinting c (le-leb c.digest max64 l) h.1.0,
        (h.1.1.0, tt),
      ),
    )) in
    put_stands (room_of t) p.0 y t t' v z p.2 p.3

-- ---- loading and merging
loaded_in : (a : Area) (b : List ℕ) (limit : ℕ) (t : Tables) (y : AreaIndex) (t' : Tables) → Bytes b
    → load_in a b limit t ≡ made_out (made.Index y) t' → Stands y t'
loaded_in a b limit t y t' g e =
    let p = put→ (λ z. tables_from z t) t (load (room_of t) a b limit) y t' e in
    put_stands (room_of t) p.0 y t t' (closure.loaded (room_of t) a b limit p.0 g p.1)
    (load_savable (room_of t) a b limit p.0 g p.1).sizes p.2 p.3

pub closure_in_tables : ClosureInTables
closure_in_tables =
    record {
      new = made_in;
      fingerprinted = bound_in_lemma;
      hinted = hinted_in;
      marked = marked_in;
      confirmed = confirmed_in;
      loaded = loaded_in;
      merged = λ x t y u z t' a b e. let l = merge_left x t y u z t' a b e in stands_by (room_of t) l.list z t'
          l.valid l.stands l.kinds;
      recording = started_stands;
      recorded = recorded_stands;
      finished = finished_stands;
      absorbed = λ x t image given r u a b e.
          let l = absorb_left x t image given r u a b e in
          let o = absorb_in x t image given r u in
          (stands_by (room_of t) _ o.answer.index o.tables l.valid l.list l.kinds, l.recorder);
      stopped = stopped_left;
      hint_recording = created_stands;
      seen = seen_stands;
      flushed = flushed_stands;
      taken = taken_stands;
    }
