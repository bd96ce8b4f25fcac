-- The number that saving a disc file answers, and its length. Assumes nothing.
use Prim.Native.Nat.{ℕ, ◌≤◌}
use mathlib.Core.Path.{◌≡◌, refl, sym, ap, ◌∙◌}
use mathlib.Core.Bool.{Bool, true, false}
use mathlib.Core.List.{List, [], ◌∷◌}
use native.Mathlib.Omega.{arith}
use borrow.Author.Tests.{le-leb, eqb-true, eqb-false}
use lib.Dec.{eqb, ltb}
use lib.ListN.{length}
use Rattle.rules.specs.Tests.{Accepted, ask, first_no, after, number_of, Refused}
use Rattle.rules.specs.Values.{Index}
use Rattle.rules_disc.specs.Disc.{slot_of, contents_of, entries_ok, bodies_length, disc_length, disc_bytes, save_lists, save_one, by_slot, save_both}
use Rattle.rules.proofs.Tests.{test}
use Rattle.laws.proofs.Length.{saved_length_is}
use Rattle.tables.specs.Index.{index_in, or_four, kinded, refusal, lowest}
use Rattle.save.specs.Save.{SaveOut, made, save_out}
use Rattle.blocks.specs.Calls.{saved_number}
use Rattle.disc_save.specs.DiscSave.{save_one_in, save_both_in, length_of, length_after, one_length, both_length}
use Rattle.disc_save.specs.Steps.{saved_as}
use Rattle.disc_save.proofs.Answers.{one_refused, one_saved, both_refused, both_saved}
use Rattle.theorems.specs.DiscPlayer.{DiscTold, DiscSaveNumber, DiscLengthTold}
use Rattle.theorems.proofs.disc.Tables.{disc_length_lemma}

-- ---- a disc file has at least 104 bytes
one_least : (x : Index) → 104 ≤ length (disc_bytes (x ∷ []))
unfolding disc_length bodies_length
one_least x = rw (disc_length_lemma (x ∷ [])) (omega (arith, (saved_length_is x).1))

two_least : (x y : Index) → 104 ≤ length (disc_bytes (x ∷ y ∷ []))
unfolding disc_length bodies_length
two_least x y = rw (disc_length_lemma (x ∷ y ∷ [])) (omega (arith, (saved_length_is x).1))

by_slot_least : (x y : Index) → 104 ≤ length (disc_bytes (by_slot x y))
unfolding by_slot
by_slot_least x y = test (ltb (slot_of x) (slot_of y)) (λ h. rw h (two_least x y)) (λ h. rw h (two_least y x))

-- ---- the number
refused_told : (m n : ℕ) → 1 ≤ m → m ≤ 54 → DiscTold (Refused m) n
refused_told m n h g =
    ((λ e. let q : m ≡ n = cc in (omega arith, omega arith)), (λ e. let z : ◌≡◌ {A = ℕ} 0 1 = cc in omega arith))

length_told : (m n : ℕ) → 104 ≤ m → DiscTold (Accepted m) n
length_told m n l = (
  (λ e. let z : ◌≡◌ {A = ℕ} 0 1 = cc in (omega arith, omega arith)),
  (λ e. let q : m ≡ n = cc in omega (arith, l)),
)

told_by : (k a b c d e f : Bool) (bytes : List ℕ) → 104 ≤ length bytes → (out : List ℕ) (n : ℕ)
    → DiscTold (save_out (kinded k (after (first_no (ask a 1 ∷ ask b 2 ∷ ask c 3 ∷ ask d 4 ∷ ask e 54 ∷ ask f 40 ∷ []))
    (Accepted bytes))) out).answer n
unfolding save_out kinded after first_no or_four number_of
told_by true false b c d e f bytes l out n = refused_told 1 n (omega arith) (omega arith)
told_by true true false c d e f bytes l out n = refused_told 2 n (omega arith) (omega arith)
told_by true true true false d e f bytes l out n = refused_told 3 n (omega arith) (omega arith)
told_by true true true true false e f bytes l out n = refused_told 4 n (omega arith) (omega arith)
told_by true true true true true false f bytes l out n = refused_told 54 n (omega arith) (omega arith)
told_by true true true true true true false bytes l out n = refused_told 40 n (omega arith) (omega arith)
told_by true true true true true true true bytes l out n = length_told (length bytes) n l
told_by false false b c d e f bytes l out n = refused_told 1 n (omega arith) (omega arith)
told_by false true false c d e f bytes l out n = refused_told 2 n (omega arith) (omega arith)
told_by false true true false d e f bytes l out n = refused_told 3 n (omega arith) (omega arith)
told_by false true true true false e f bytes l out n = refused_told 4 n (omega arith) (omega arith)
told_by false true true true true false f bytes l out n = refused_told 4 n (omega arith) (omega arith)
told_by false true true true true true false bytes l out n = refused_told 4 n (omega arith) (omega arith)
told_by false true true true true true true bytes l out n = refused_told 4 n (omega arith) (omega arith)

pub disc_save_number : DiscSaveNumber
unfolding save_one_in save_both_in save_one save_both save_lists
disc_save_number =
    record {
      one = λ x t out n. told_by _ _ _ _ _ _ _ (disc_bytes (index_in x t ∷ [])) (one_least (index_in x t)) out n;
      both = λ x t y u out n. told_by _ _ _ _ _ _ _ (disc_bytes (by_slot (index_in x t) (index_in y u)))
          (by_slot_least (index_in x t) (index_in y u)) out n;
    }

-- ---- the length
saved_as_lemma : (xs : List Index) (out : List ℕ) → length_of xs ≤ length out → saved_number (saved_as xs out).answer
    ≡ length_of xs
unfolding saved_as length_of first_no after save_out saved_number
saved_as_lemma xs out h =
    test (entries_ok 0 (contents_of xs))
    (λ g. let l : disc_length xs ≤ length out = rw g at h in rw (g, le-leb (disc_length xs) (length out) l)
    (disc_length_lemma xs))
    (λ g. rw g)

number_of_lemma : {s s' : SaveOut} → s ≡ s' → saved_number s.answer ≡ saved_number s'.answer
number_of_lemma e = ap (λ (o : SaveOut). saved_number o.answer) e

-- n is the number of 1 to 4, s what saving answers
after_four : (n : ℕ) (xs : List Index) (out : List ℕ) (s : SaveOut) → ((n ≡ 0 → ⊥) → saved_number s.answer ≡ n)
    → (n ≡ 0 → s ≡ saved_as xs out)
    → length_after n xs ≤ length out → saved_number s.answer ≡ length_after n xs
unfolding length_after
after_four n xs out s f g h =
    test (eqb n 0)
    (λ z. let l : length_of xs ≤ length out = rw z at h in rw z (number_of_lemma (g (eqb-true n 0 z)) ∙ saved_as_lemma xs out l))
    (λ z. rw z (f (eqb-false n 0 z)))

refused_is : {n : ℕ} {out : List ℕ} {s : SaveOut} → made (Refused n) out ≡ s → saved_number s.answer ≡ n
unfolding saved_number
refused_is e = sym (number_of_lemma e)

pub disc_length_told : DiscLengthTold
unfolding one_length both_length
disc_length_told =
    record {
      one = λ x t out h.
          after_four (refusal x t) (index_in x t ∷ []) out (save_one_in x t out)
          (λ z. refused_is (one_refused x t out refl z)) (λ z. sym (one_saved x t out refl z refl)) h;
      both = λ x t y u out h.
          after_four (lowest (refusal x t) (refusal y u)) (by_slot (index_in x t) (index_in y u)) out
          (save_both_in x t y u out)
          (λ z. refused_is (both_refused x t y u out refl z))
          (λ z. sym (both_saved x t y u out refl z refl)) h;
    }
