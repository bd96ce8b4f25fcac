-- Which plan and which hint a rule names. Assumes nothing.
use Rattle.std.specs.Prelude.{Option, None, Some}
use mathlib.Core.Path.{◌≡◌, refl, sym, ap, ◌∙◌}
use mathlib.Core.Bool.{Bool, true, false, cond, true≢false}
use mathlib.Core.List.{List, [], ◌∷◌}
use Prim.Native.Nat.{ℕ, ◌*◌}
use borrow.Author.Tests.{eqb-true, eq-eqb}
use lib.Dec.{eqb, leb}
use lib.ListN.{length}
use Rattle.rules.specs.declared.EndState.{EndState}
use Rattle.rules.specs.declared.Held.{Held}
use Rattle.rules.specs.declared.Plan.{Plan}
use Rattle.rules.specs.Tests.{or_else}
use Rattle.rules.specs.Values.{Frame, Scan}
use Rattle.rules.specs.Plan.{assembly_of, plan_from, plan_or, planned, last_not_above}
use Rattle.rules.specs.Hints.{Density, largest_of, hint_place}
use Rattle.rules.proofs.Tests.{test}
use Rattle.rules_jump.specs.Names.{held_rule, plan_rule, chosen_by, near_confirmed, start_rule, density_rule, local_rule}
use Rattle.rules_jump.specs.Names.{named_end, end_rule}
use Rattle.rules_jump.specs.Statements.{ends, held_at, rule_from, PlanNamed, ConfirmedNamed, EndNamed}
use Rattle.rules_jump.specs.declared.HintStart.{HintStart}
use Rattle.rules_jump.specs.declared.HintStart.TheVariants.{Confirmed, Nearest}
use Rattle.rules_jump.specs.declared.HintEnd.{HintEnd}
use Rattle.rules_jump.specs.declared.HintEnd.TheVariants as by
use Rattle.rules_jump.specs.declared.PlanRule.TheVariants as rule
use Rattle.rules_jump.proofs.Largest.{largest_holds, largest_some}

-- ---- plan
held_named : (fs : List Frame) (ps : List Held) (j : ℕ)
    → held_rule (assembly_of fs ps j) ≡ cond (held_at ps j) rule.HeldPart rule.Checkpoint
unfolding held_rule assembly_of held_at
held_named fs [] j = refl
held_named fs (p ∷ ps) j = test (eqb p.at j) (λ t. rw t refl) (λ t. rw t (held_named fs ps j))

from_named : (x : Scan) (o : Option ℕ) → plan_rule (plan_from x o) ≡ rule_from x.parts o
unfolding plan_rule plan_from rule_from
from_named x None = refl
from_named x (Some j) = held_named x.frames x.parts j

or_named : (t : ℕ) (o : Option EndState) (p : Plan) → plan_rule (plan_or t o p) ≡ cond (ends t o) rule.Ending (plan_rule p)
unfolding plan_rule plan_or ends
or_named t None p = refl
or_named t (Some e) p = test (leb e.threshold t) (λ y. rw y refl) (λ y. rw y refl)

pub plan_named : PlanNamed
unfolding planned
plan_named x t =
    or_named t x.ending _ ∙ ap (cond (ends t x.ending) rule.Ending)
    (from_named x (last_not_above t x.checkpoints (length x.checkpoints)))

-- ---- how a hint was chosen
is_confirmed : HintStart → Bool
is_confirmed Confirmed = true
is_confirmed Nearest = false

nearest_not : Nearest ≡ Confirmed → ⊥
unfolding is_confirmed
nearest_not e = true≢false (sym (ap is_confirmed e))

named_some : (o : Option ℕ) → chosen_by o ≡ Confirmed → (i : ℕ) × (o ≡ Some i)
unfolding chosen_by
named_some None e = absurd (nearest_not e)
named_some (Some i) e = (i, refl)

some_named : (o : Option ℕ) (i : ℕ) → o ≡ Some i → chosen_by o ≡ Confirmed
unfolding chosen_by
some_named o i e = rw e refl

first_of : (o o' : Option ℕ) (i : ℕ) → o ≡ Some i → or_else o o' ≡ Some i
unfolding or_else
first_of o o' i e = rw e refl

pub confirmed_named : ConfirmedNamed
unfolding start_rule hint_place
confirmed_named checked hs cs first =
    let p = near_confirmed checked hs cs first in
    let o = largest_of p hs (length hs) in
    record {
      named = (
        λ e. let r = named_some o e in let h = largest_holds p hs (length hs) r.0 r.1 in (r.0, h.0, h.1),
        λ w. let r = largest_some p hs (length hs) w.0 w.1 w.2 in some_named o r.0 r.1,
      );
      chosen =
          λ e. let r = named_some o e in (
            r.0,
            first_of o _ r.0 r.1,
            (largest_holds p hs (length hs) r.0
                r.1).1,
          );
    }

-- ---- the upper end
is_end : HintEnd → Bool
is_end by.Later = false
is_end by.Local = false
is_end by.Average = false
is_end by.AreaEnd = true

of_densities : (b : Bool) → is_end (cond b by.Local by.Average) ≡ false
unfolding is_end
of_densities true = refl
of_densities false = refl

density_not : (whole : Density) (o : Option Density) → is_end (density_rule whole o) ≡ false
unfolding is_end density_rule
density_not whole None = refl
density_not whole (Some d) = of_densities (leb (whole.sectors * d.frames) (d.sectors * whole.frames))

later_not : (b : Bool) (r : HintEnd) → is_end r ≡ false → is_end (cond b by.Later r) ≡ false
unfolding is_end
later_not true r e = refl
later_not false r e = e

end_tells : (b : Bool) (r : HintEnd) → is_end r ≡ false → is_end (cond b by.AreaEnd r) ≡ b
unfolding is_end
end_tells true r e = refl
end_tells false r e = e

pub end_named : EndNamed
unfolding is_end end_rule named_end local_rule
end_named a hs i end playtime h = (
  λ e. eqb-true h.upper a.end (sym (end_tells (eqb h.upper a.end) _
      (later_not h.later _ (density_not _ _))) ∙ ap is_end e),
  λ e. rw (eq-eqb h.upper a.end e) refl,
)
