-- keep_confirmation: its questions, and what it leaves. Assumes nothing.
use mathlib.Core.Path.{◌≡◌, refl, sym, ap, ◌∙◌}
use mathlib.Core.Bool.{Bool, true, false, not, ◌&&◌, ◌||◌}
use mathlib.Core.List.{List, [], ◌∷◌}
use Prim.Native.Nat.{ℕ, ◌+◌, ◌*◌, ◌/◌, ◌<◌, ◌≤◌}
use native.Mathlib.Omega.{arith}
use borrow.Author.Tests.{leb-true, ltb-true, ne_eqb, eq-eqb, not-true, not-false}
use lib.Dec.{leb, ltb}
use lib.ListN.{length}
use lib.Seq.{sets}
use Rattle.field.specs.Records.{records, bytes_of}
use Rattle.field.proofs.Records.{records_length}
use Rattle.field.proofs.Format.{bytes_of_length, records_pushed}
use Rattle.rules.specs.declared.AreaIndex.{AreaIndex}
use Rattle.rules.specs.declared.Confirmation.{Confirmation}
use Rattle.rules.specs.Tests.{each, ask, first_no, after, Accepted, Refused}
use Rattle.rules.specs.Values.{lim, is_checked}
use Rattle.rules.specs.Questions.{area_ok, question3, question4, hinting_room, hinting_ok}
use Rattle.rules.specs.File.{decode_confirmation, encode_confirmation}
use Rattle.rules.specs.Hints.{question14, in_area, keeps_nothing, keep, keep_all, keep_confirmation}
use Rattle.rules.proofs.Tests.{all→, and_left, and_right}
use Rattle.std.specs.Prelude.{None, Some}
use Rattle.laws.proofs.Layouts.{confirmation_layout}
use Rattle.laws.specs.Passes.{Begins}
use Rattle.laws.proofs.hint_lists.Keeping.{confirmed_rises}
use Rattle.tables.specs.Tables.{confirmations_in}
use Rattle.tables.specs.Index.{Tables, room_in, kinds_in, refusal}
use Rattle.index.specs.Steps.{Passes, held_question4}
use Rattle.tables.specs.Lent.{TableBytes}
use Rattle.index.proofs.Four.{Later, kinded_index}
use Rattle.index.proofs.Questions.{passes}
use Rattle.index.proofs.Left.{with_confirmed_table, confirmed_left}
use Rattle.index.proofs.Back.{numbers_back}
use Rattle.confirmations.specs.Steps.{Rising, Room, with_count}
use Rattle.confirmations.specs.Confirmations.{given, kept_out, kept_out_of, keep_in}

or_true : (b : Bool) → (b || true) ≡ true
or_true true = refl
or_true false = refl

-- ---- one confirmation in a table of its own
one_is : (o : List ℕ) (c : Confirmation) → c.lsn < 4294967296 → c.threshold < 4294967296
    → c.digest < 18446744073709551616 → 16 ≤ length o
    → confirmations_in 1 (sets o 0 (encode_confirmation c)) ≡ c ∷ []
unfolding records
one_is o c l t d h = records_pushed confirmation_layout 0 o c (l, (t, (d, tt))) h

module _ {most n : ℕ} {t : List ℕ} (r : Room most n t) (o o' : List ℕ) (c : Confirmation) (l : c.lsn < 4294967296)
    (u : c.threshold < 4294967296)
    (d : c.digest < 18446744073709551616) (h : length o ≡ 16) (w : o' ≡ sets o 0 (encode_confirmation c))
    (same : length o' ≡ 16) where
  is_one : confirmations_in 1 o' ≡ c ∷ []
  is_one = rw w (one_is o c l u d (omega arith))

  pub one_rising : Rising most n 1 t o'
  one_rising =
      record { few = r.few; room = r.room; there = omega arith; own = r.rises; other = rw is_one (omega arith, tt) }

  pub one_kept : {k : ℕ} {new : List ℕ} → Begins 16 encode_confirmation
      (keep_all true most (confirmations_in n t) (confirmations_in 1 o')) k t new
      → Begins 16 encode_confirmation (keep true most (confirmations_in n t) c) k t new
  unfolding keep_all
  one_kept g = rw is_one at g

-- ---- room
pub room_is : {x : AreaIndex} {t : Tables} → Passes x t → Room x.most x.confirmed t.confirmed
unfolding room_in question3 hinting_room held_question4 question4 hinting_ok
room_is {x} {t} p =
    let r : x.most + 1 ≤ length t.confirmed / 16 = leb-true _ _ (all→ _ (all→ _ p.roomy.room).1.1.0).1.0 in
    let h = all→ _ (all→ _ (and_left _ (kinds_in x t) p.held)).1.0 in
    let f : length (confirmations_in x.confirmed t.confirmed) ≤ x.most = leb-true _ _ h.1.1.0 in
    record {
      few = omega (arith, records_length 16 decode_confirmation x.confirmed t.confirmed);
      room = omega arith;
      rises = confirmed_rises x.area (confirmations_in x.confirmed t.confirmed) h.1.1.1.1.0;
    }

-- an LSN in the area of a list that passes 1
pub lsn_small : {x : AreaIndex} {t : Tables} {q : Bool} (lsn threshold : ℕ) → Passes x t
    → q ≡ (in_area x.area lsn && ltb threshold lim) → not q ≡ false → lsn < 4294967296
unfolding area_ok in_area
lsn_small {x} {t} {q} lsn threshold p e n =
    let a : x.area.end ≤ 4294967295 = leb-true _ _ (all→ _ p.roomy.area).1.1.0 in
    let b : lsn < x.area.end = ltb-true _ _
    (and_right (leb x.area.start lsn) _ (and_left _ (ltb threshold lim) (sym e ∙ not-false q n))) in
    omega arith

-- ---- the answers
module _ (x : AreaIndex) (t : Tables) (lsn threshold digest : ℕ) {n : ℕ} (e : n ≡ refusal x t) where
  abbrev c : Confirmation
  c = given lsn threshold digest

  later : Later (ask (question14 x.area c) 14 ∷ [])
  unfolding each
  later = refl

  pub keep_no : (n ≡ 0 → ⊥) → kept_out (Refused n) t ≡ keep_in x t c
  unfolding keep_in kept_out_of after keep_confirmation
  keep_no h = sym (rw (kinded_index x t (ask (question14 x.area c) 14 ∷ []) later e _, ne_eqb n 0 h))

  module _ (z : n ≡ 0) {q : Bool} (g : q ≡ (in_area x.area lsn && ltb threshold lim)) where
    pub keep_14 : not q ≡ true → kept_out (Refused 14) t ≡ keep_in x t c
    unfolding keep_in kept_out_of after keep_confirmation first_no question14
    keep_14 h =
        sym (rw (kinded_index x t (ask (question14 x.area c) 14 ∷ []) later e _, eq-eqb n 0 z, ← g, not-true q h))

    module _ (h : not q ≡ false) where
      keep_nothing : keeps_nothing (is_checked x.fingerprint) x.most ≡ true → kept_out (Accepted None) t ≡ keep_in x t c
      unfolding keep_in kept_out_of after keep_confirmation first_no question14
      keep_nothing k =
          sym (rw (
            kinded_index x t (ask (question14 x.area c) 14 ∷ []) later e _,
            eq-eqb n 0 z,
            ← g,
            not-false q h,
            k,
          ))

      pub keep_unchecked : {f : Bool} → f ≡ is_checked x.fingerprint → not f ≡ true
          → kept_out (Accepted None) t ≡ keep_in x t c
      keep_unchecked {f} w m = keep_nothing (rw (← w, not-true f m))

      pub keep_zero : x.most ≡ 0 → kept_out (Accepted None) t ≡ keep_in x t c
      keep_zero m = keep_nothing (rw (eq-eqb x.most 0 m) (or_true (not (is_checked x.fingerprint))))

      pub keep_yes : {f : Bool} {k : ℕ} {cs : List ℕ} → f ≡ is_checked x.fingerprint → not f ≡ false
          → (x.most ≡ 0 → ⊥) → TableBytes t
          → Begins 16 encode_confirmation (keep true x.most (confirmations_in x.confirmed t.confirmed) c) k
          t.confirmed cs
          → kept_out (Accepted (Some (with_count x k))) (with_confirmed_table t cs) ≡ keep_in x t c
      unfolding keep_in kept_out_of after keep_confirmation first_no question14
      keep_yes {f} {k} {cs} w u m b s =
          let new = keep true x.most (confirmations_in x.confirmed t.confirmed) c in
          let l : length (bytes_of encode_confirmation new) ≡ k * 16 = bytes_of_length confirmation_layout new
          ∙ rw (← s.count) in
          sym (rw (
            kinded_index x t (ask (question14 x.area c) 14 ∷ []) later e _,
            eq-eqb n 0 z,
            ← g,
            not-false q h,
            ← w,
            not-false f u,
            ne_eqb x.most 0 m,
            ap (λ (y : AreaIndex). with_count y (length new)) (numbers_back x t),
            ← s.count,
            l,
            ← s.bytes,
            confirmed_left (passes x t (sym e ∙ z)) b cs,
          ))
