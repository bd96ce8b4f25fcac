-- Equal densities give one upper end. Assumes nothing.
use Rattle.std.specs.Prelude.{None, Some}
use mathlib.Core.Path.{◌≡◌, refl, sym, ap, ap₂, ◌∙◌}
use mathlib.Core.Bool.{Bool, true, false, cond, true≢false}
use Prim.Native.Nat.{ℕ, ◌*◌, ◌/◌, ◌<◌}
use native.Mathlib.Nat.{mul-div-mul_right, mul_assoc, mul_comm}
use native.Mathlib.Omega.{arith}
use borrow.Author.Tests.{leb-true, leb-false, ltb-false, le-ltb}
use lib.Dec.{leb, ltb}
use Rattle.rules.specs.declared.Hint.{Hint}
use Rattle.rules.specs.Hints.{Density, denser, upper_end}
use Rattle.rules.proofs.Tests.{test}
use Rattle.rules_jump.specs.Names.{density_rule}
use Rattle.rules_jump.specs.Statements.{LocalNamed, AverageNamed}
use Rattle.rules_jump.specs.declared.HintEnd.{HintEnd}
use Rattle.rules_jump.specs.declared.HintEnd.TheVariants as by

-- x frames at s sectors for f frames
equal_spans : (x s f s' f' : ℕ) → 0 < f → 0 < f' → s * f' ≡ s' * f → x * s / f ≡ x * s' / f'
equal_spans x s f s' f' h h' e =
    let a : x * s * f' ≡ x * s' * f = mul_assoc x s f' ∙ ap (λ (y : ℕ). x * y) e ∙ sym (mul_assoc x s' f) in
    sym (mul-div-mul_right {m = f'} (x * s) f h') ∙ ap₂ (λ (y z : ℕ). y / z) a (mul_comm f f')
    ∙ mul-div-mul_right {m = f} (x * s') f' h

same_end : (r : Hint) (end : ℕ) (d d' : Density) → 0 < d.frames → 0 < d'.frames
    → d.sectors * d'.frames ≡ d'.sectors * d.frames
    → upper_end r end d ≡ upper_end r end d'
unfolding upper_end
same_end r end d d' h h' e = rw (equal_spans _ d.sectors d.frames d'.sectors d'.frames h h' e)

is_local : HintEnd → Bool
is_local by.Later = false
is_local by.Local = true
is_local by.Average = false
is_local by.AreaEnd = false

-- the name says which way the test went
says : (b : Bool) → is_local (cond b by.Local by.Average) ≡ b
unfolding is_local
says true = refl
says false = refl

not_local : (b : Bool) → b ≡ false → cond b by.Local by.Average ≡ by.Local → ⊥
unfolding is_local
not_local b h e = true≢false (sym (ap is_local e) ∙ says b ∙ h)

not_average : (b : Bool) → b ≡ true → cond b by.Local by.Average ≡ by.Average → ⊥
unfolding is_local
not_average b h e = true≢false (sym h ∙ sym (says b) ∙ ap is_local e)

pub local_named : LocalNamed
unfolding denser density_rule
local_named r end whole d h h' n =
    let a = whole.sectors * d.frames in
    let b = d.sectors * whole.frames in
    test (ltb a b)
    (λ t. rw t)
    (λ t.
    test (leb a b)
    (λ u. rw t (same_end r end whole d h h' (omega (arith, leb-true a b u, ltb-false a b t))))
    (λ u. absurd (not_local (leb a b) u n)))

pub average_named : AverageNamed
unfolding denser density_rule
average_named r end whole None n = refl
average_named r end whole (Some d) n =
    let a = whole.sectors * d.frames in
    let b = d.sectors * whole.frames in
    test (leb a b) (λ u. absurd (not_average (leb a b) u n)) (λ u. rw (le-ltb a b (omega (arith, leb-false a b u))))
