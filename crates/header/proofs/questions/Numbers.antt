-- The refusal number of a header, by those of its two parts. Assumes nothing.
use mathlib.Core.Path.{◌≡◌, refl, sym, ◌∙◌}
use Prim.Native.Nat.{ℕ}
use Rattle.rules.specs.declared.Area.{Area}
use Rattle.rules.specs.declared.Header.{Header}
use Rattle.rules.specs.Tests.{first_no}
use Rattle.rules.specs.Load.{header_number}
use Rattle.sections.proofs.Questions.{first_refuses, first_passes}
use Rattle.header.specs.Steps.{key_questions, size_questions}

module _ (a : Area) (h : Header) (left : ℕ) {n : ℕ} (e : n ≡ first_no (key_questions a h)) where
  pub number_no : (n ≡ 0 → ⊥) → n ≡ header_number a h left
  unfolding header_number
  number_no z = e ∙ sym (first_refuses (key_questions a h) (size_questions a h left) (λ q. z (e ∙ q)))

  pub number_yes : {m : ℕ} → n ≡ 0 → m ≡ first_no (size_questions a h left) → m ≡ header_number a h left
  unfolding header_number
  number_yes z g = g ∙ sym (first_passes (key_questions a h) (size_questions a h left) refl (sym e ∙ z))
