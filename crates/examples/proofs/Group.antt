-- A group of lines, counted one by one.
use Rattle.std.proofs.Common.{◌≡◌, ℕ, suc, Bool, true, sym, refl, ap, ◌∙◌, ap₂, eq-eqb}
use Rattle.rules.specs.declared.First.{First}
use Rattle.rules.specs.declared.First.TheVariants.{Number, Nothing}
use Rattle.examples.specs.declared.tally.Tally.{Tally}
use Rattle.examples.specs.Count.{ended, all_right}
use Rattle.examples.specs.Same.{absence_number, same_first}

-- after n right ones, a line that is right too
pub more : (n : ℕ) (t s r : Tally) (ok : Bool) → s ≡ all_right n t → r ≡ ended s ok → ok ≡ true → r ≡ all_right (suc n) t
more n t s r ok e h k = h ∙ ap₂ ended e k

-- a first record is the same as itself
pub same : (a b : First) → a ≡ b → same_first a b ≡ true
same a b e = ap (same_first a) (sym e) ∙ self a
  where
    self : (a : First) → same_first a a ≡ true
    self (Number t) = rw (eq-eqb t.number _ refl, eq-eqb t.offset _ refl)
    self (Nothing a) = eq-eqb (absence_number a) _ refl
