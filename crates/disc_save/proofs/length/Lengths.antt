-- What is told of a disc file's length. Assumes nothing.
use mathlib.Core.Path.{◌≡◌, refl, sym, ap, ◌∙◌}
use mathlib.Core.Bool.{Bool, true, false, cond}
use mathlib.Core.List.{List, [], ◌∷◌}
use Prim.Native.Nat.{ℕ, ◌+◌, ◌≤◌}
use borrow.Author.Tests.{leb-true, ne_eqb}
use lib.Dec.{eqb, ltb}
use Rattle.std.specs.Prelude.{Result, Ok, Err}
use Rattle.std.specs.Result.{result_unwrap_or}
use Rattle.rules.specs.declared.Refusal.{Refusal}
use Rattle.rules.specs.Refusals.{answer_in, number_in}
use Rattle.rules.specs.declared.AreaIndex.{AreaIndex}
use Rattle.rules.specs.Tests.{Answer, Refused, Accepted, after}
use Rattle.rules.specs.Values.{Index, max32}
use Rattle.rules.specs.File.{saved_length}
use Rattle.rules.proofs.Tests.{test, all→}
use Rattle.rules_disc.specs.Disc.{entry, slot_of, contents_of, entries_ok, disc_length, by_slot}
use Rattle.tables.specs.Index.{Tables, index_in, refusal, lowest}
use Rattle.merge.proofs.questions.Refusal.{lowest_zero}
use Rattle.disc_save.proofs.Answers.{one_length_lemma, two_length, one_contents, two_contents, one_small}
use Rattle.disc_save.specs.DiscSave.{length_of, length_after, length_answer, one_length, both_length, one_length_in, both_length_in}
use Rattle.disc_save.specs.Steps.{length_of_two, length_by_slot}

-- ---- one list
module _ (x : AreaIndex) (t : Tables) {n : ℕ} (e : n ≡ refusal x t) where
  pub one_refused : (n ≡ 0 → ⊥) → Refused n ≡ one_length_in x t
  unfolding one_length_in length_answer after
  one_refused h = rw (← e, ne_eqb n 0 h)

  pub one_number_refused : (n ≡ 0 → ⊥) → n ≡ one_length x t
  unfolding one_length length_after
  one_number_refused h = rw (← e, ne_eqb n 0 h)

  module _ (z : n ≡ 0) {s m : ℕ} {r : Bool} (p : s ≡ slot_of (index_in x t)) (l : m ≡ saved_length (index_in x t)) (q : r ≡ entries_ok 0 (entry s 16 m ∷ [])) where
    pub one_broken : r ≡ false → Refused 54 ≡ one_length_in x t
    unfolding one_length_in length_answer after
    one_broken h = rw (← e, z, ← one_contents (index_in x t) p l q, h)

    pub one_told : r ≡ true → Accepted (16 + m) ≡ one_length_in x t
    unfolding one_length_in length_answer after
    one_told h = rw (← e, z, ← one_contents (index_in x t) p l q, h) (ap Accepted (one_length_lemma (index_in x t) l))

    -- as one number
    pub one_number_broken : r ≡ false → 54 ≡ one_length x t
    unfolding one_length length_after length_of
    one_number_broken h = rw (← e, z, ← one_contents (index_in x t) p l q, h)

    pub one_number_told : r ≡ true → 16 + m ≡ one_length x t
    unfolding one_length length_after length_of
    one_number_told h = rw (← e, z, ← one_contents (index_in x t) p l q, h) (one_length_lemma (index_in x t) l)

    pub one_fits : r ≡ true → m ≤ max32
    one_fits h = one_small (index_in x t) l (one_contents (index_in x t) p l q) h

-- ---- two lists
pub two_fits : (s m t n : ℕ) {r : Bool} → r ≡ entries_ok 0 (entry s 28 m ∷ entry t (28 + m) n ∷ []) → r ≡ true → (28 + m ≤ max32) × (n ≤ max32)
unfolding entries_ok
two_fits s m t n e h =
    let g = all→ _ (sym e ∙ h) in let f = all→ _ g.1.1.1.0 in (leb-true (28 + m) max32 f.1.0, leb-true n max32 f.1.1.0)

-- 54, then the length, of lists that pass 1 to 4
abbrev fits_length : List Index → Answer ℕ
fits_length xs = cond (entries_ok 0 (contents_of xs)) (Accepted (disc_length xs)) (Refused 54)

two_is : (x y : Index) → length_of_two (slot_of x) (saved_length x) (slot_of y) (saved_length y) ≡ fits_length (x ∷ y ∷ [])
unfolding length_of_two
two_is x y = rw (← two_contents x y refl refl refl refl refl, two_length x y refl refl)

by_slot_lemma : (x y : Index) → length_by_slot (slot_of x) (saved_length x) (slot_of y) (saved_length y) ≡ fits_length (by_slot x y)
unfolding length_by_slot by_slot
by_slot_lemma x y = test (ltb (slot_of x) (slot_of y)) (λ h. rw h (two_is x y)) (λ h. rw h (two_is y x))

-- as one number the length, or that of the refusal
as_number : Answer ℕ → ℕ
as_number (Refused n) = n
as_number (Accepted n) = n

number_told : (b c : Bool) (k m n : ℕ) → as_number (cond b (cond c (Accepted k) (Refused m)) (Refused n)) ≡ cond b (cond c k m) n
unfolding as_number
number_told true true k m n = refl
number_told true false k m n = refl
number_told false c k m n = refl

number_is : (r : Result ℕ Refusal) → result_unwrap_or r (number_in r) ≡ as_number (answer_in r)
unfolding answer_in number_in as_number
number_is (Err e) = refl
number_is (Ok n) = refl

length_number : (r : Result ℕ Refusal) (n : ℕ) (xs : List Index) → answer_in r ≡ length_answer n xs → result_unwrap_or r (number_in r) ≡ length_after n xs
unfolding length_answer length_after length_of after
length_number r n xs e = number_is r ∙ ap as_number e ∙ number_told (eqb n 0) (entries_ok 0 (contents_of xs)) (disc_length xs) 54 n

pub both_number : (r : Result ℕ Refusal) (x : AreaIndex) (t : Tables) (y : AreaIndex) (u : Tables) → answer_in r ≡ both_length_in x t y u
    → result_unwrap_or r (number_in r) ≡ both_length x t y u
unfolding both_length both_length_in
both_number r x t y u e = length_number r (lowest (refusal x t) (refusal y u)) (by_slot (index_in x t) (index_in y u)) e

module _ (x : AreaIndex) (t : Tables) (y : AreaIndex) (u : Tables) {n : ℕ} (e : n ≡ lowest (refusal x t) (refusal y u)) where
  pub both_refused : (n ≡ 0 → ⊥) → Refused n ≡ both_length_in x t y u
  unfolding both_length_in length_answer after
  both_refused h = rw (← e, ne_eqb n 0 h)

  pub both_number_refused : (n ≡ 0 → ⊥) → n ≡ both_length x t y u
  unfolding both_length length_after
  both_number_refused h = rw (← e, ne_eqb n 0 h)

  module _ (z : n ≡ 0) where
    pub both_pass : (refusal x t ≡ 0) × (refusal y u ≡ 0)
    both_pass = lowest_zero (refusal x t) (refusal y u) (sym e ∙ z)

    pub both_told : {s m s' m' : ℕ} {k : Answer ℕ} → s ≡ slot_of (index_in x t) → m ≡ saved_length (index_in x t) → s' ≡ slot_of (index_in y u) → m' ≡ saved_length (index_in y u)
        → k ≡ length_by_slot s m s' m' → k ≡ both_length_in x t y u
    unfolding both_length_in length_answer after
    both_told p l p' l' q = q ∙ rw (p, l, p', l', by_slot_lemma (index_in x t) (index_in y u), ← e, z)
