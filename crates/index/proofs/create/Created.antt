-- What new and the fingerprint entry answer, by the numbers that refuse. Assumes nothing.
use Rattle.std.specs.Prelude.{Some}
use mathlib.Core.Path.{◌≡◌, refl, ap, ◌∙◌}
use mathlib.Core.Bool.{Bool, true, false, cond}
use mathlib.Core.List.{[], ◌∷◌}
use Prim.Native.Nat.{ℕ}
use lib.Dec.{eqb}
use Rattle.rules.specs.declared.Area.{Area}
use Rattle.rules.specs.declared.AreaIndex.{AreaIndex}
use Rattle.rules.specs.declared.Fingerprint.TheVariants.{Checked}
use Rattle.rules.specs.Tests.{each, agree, Refused, Accepted, after, ask, first_no}
use Rattle.rules.specs.Values.{Index, stated}
use Rattle.rules.specs.Questions.{question1, question2, question3}
use Rattle.rules.specs.Create.{new, bound, bind_fingerprint}
use Rattle.rules.proofs.Tests.{test}
use Rattle.tables.specs.Index.{Tables, index_in, numbers_from, three, refusal}
use Rattle.index.specs.Index.{numbers_of, new_in, bound_in}
use Rattle.index.specs.Steps.{fresh_of, checked_of}
use Rattle.index.proofs.Four.{kinded_index}
use Rattle.index.proofs.Back.{numbers_with}

-- ---- new
numbers_cond : (b : Bool) (n : ℕ) (x : Index) → numbers_of (cond b (Accepted x) (Refused n)) ≡ cond b (Accepted (numbers_from x)) (Refused n)
unfolding numbers_of
numbers_cond true n x = refl
numbers_cond false n x = refl

numbers_after : (n : ℕ) (x : Index) → numbers_of (after n (Accepted x)) ≡ after n (Accepted (numbers_from x))
unfolding after
numbers_after n x = numbers_cond (eqb n 0) n x

pub new_is : (t : Tables) (a : Area) (k budget spacing most : ℕ)
    → new_in t a k budget spacing most ≡ after (three (fresh_of a k budget spacing most) t) (Accepted (fresh_of a k budget spacing most))
unfolding new_in new fresh_of three question1 question2 question3
new_is t a k budget spacing most = numbers_after _ _

-- ---- the fingerprint entry
checked_is : (x : AreaIndex) (t : Tables) (v : ℕ) → numbers_from (bound (index_in x t) v) ≡ checked_of x v
unfolding checked_of
checked_is x t v = numbers_with x t (Checked v)

after_15 : (n : ℕ) (g : Bool) (y : AreaIndex) → after n (after (first_no (ask g 15 ∷ [])) (Accepted y)) ≡ cond (eqb n 0) (cond g (Accepted y) (Refused 15)) (Refused n)
unfolding after first_no
after_15 n true y = refl
after_15 n false y = refl

numbers_after_two : (n m : ℕ) (x : Index) → numbers_of (after n (after m (Accepted x))) ≡ after n (after m (Accepted (numbers_from x)))
unfolding after numbers_of
numbers_after_two n m x = test (eqb n 0) (λ e. rw e (numbers_after m x)) (λ e. rw e)

pub bound_is : (x : AreaIndex) (t : Tables) (v : ℕ)
    → bound_in x t v
    ≡ cond (eqb (refusal x t) 0) (cond (agree eqb (stated x.fingerprint) (Some v)) (Accepted (checked_of x v)) (Refused 15)) (Refused (refusal x t))
unfolding bound_in bind_fingerprint each
bound_is x t v =
    rw (← checked_is x t v)
    (ap numbers_of (kinded_index x t (ask (agree eqb (stated x.fingerprint) (Some v)) 15 ∷ []) refl refl _) ∙ numbers_after_two (refusal x t) _ _ ∙ after_15 (refusal x t) _ _)
