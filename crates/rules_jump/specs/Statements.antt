-- Change request 7: the rule named is the one by which plan, or the source's hint, gets its answer.
use Rattle.std.specs.Prelude.{◌≡◌, ◌↔◌, Bool, true, false, cond, ◌||◌, List, [], ◌∷◌, ℕ, ◌<◌, eqb, leb, length, Option, None, Some}
use Rattle.rules.specs.declared.Area.{Area}
use Rattle.rules.specs.declared.Confirmation.{Confirmation}
use Rattle.rules.specs.declared.EndState.{EndState}
use Rattle.rules.specs.declared.Held.{Held}
use Rattle.rules.specs.declared.Hint.{Hint}
use Rattle.rules.specs.Tests.{Answer, Refused, Accepted}
use Rattle.rules.specs.Values.{Index, Lengths, Scan}
use Rattle.rules.specs.Plan.{planned, last_not_above}
use Rattle.rules.specs.Hints.{Density, Hinted, denser, upper_end, hint, hint_place}
use Rattle.rules_jump.specs.Names.{plan_rule, near_confirmed, start_rule, density_rule, end_rule, NamedHint, named_hint}
use Rattle.rules_jump.specs.declared.PlanRule.{PlanRule}
use Rattle.rules_jump.specs.declared.PlanRule.TheVariants as rule
use Rattle.rules_jump.specs.declared.HintStart.TheVariants.{Confirmed}
use Rattle.rules_jump.specs.declared.HintEnd.TheVariants as by

-- ---- plan
-- is the list complete, and frame t at or past the end threshold?
unfoldable pub ends : ℕ → Option EndState → Bool
ends t None = false
ends t (Some e) = leb e.threshold t

-- is a part held for checkpoint number j?
unfoldable pub held_at : List Held → ℕ → Bool
held_at [] j = false
held_at (p ∷ ps) j = eqb p.at j || held_at ps j

unfoldable pub rule_from : List Held → Option ℕ → PlanRule
rule_from ps None = rule.AreaStart
rule_from ps (Some j) = cond (held_at ps j) rule.HeldPart rule.Checkpoint

-- each rule is named exactly where plan's own tests give its answer
abbrev pub PlanNamed : Type 0
PlanNamed =
    (x : Scan) (t : ℕ) → plan_rule (planned x t)
    ≡ cond (ends t x.ending) rule.Ending (rule_from x.parts
    (last_not_above t x.checkpoints (length x.checkpoints)))

-- ---- hint: how it was chosen
-- confirmed is named exactly where a near hint is confirmed for first, and the answer's hint is such a one
pub record Confirming (checked : Bool) (hs : List Hint) (cs : List Confirmation) (first : ℕ) : Type 0 where
  pub named : (start_rule checked hs cs first ≡ Confirmed) ↔
      ((i : ℕ) × (i < length hs) × (near_confirmed checked hs cs first i ≡ true))
  pub chosen : start_rule checked hs cs first ≡ Confirmed
      → (i : ℕ) × (hint_place checked hs cs first ≡ Some i) × (near_confirmed checked hs cs first i ≡ true)

abbrev pub ConfirmedNamed : Type 0
ConfirmedNamed = (checked : Bool) (hs : List Hint) (cs : List Confirmation) (first : ℕ) → Confirming checked hs cs first

-- ---- hint: its upper end
-- where local spacing is named, the upper end is that by local spacing, though the source may have taken an equal
-- average
abbrev pub LocalNamed : Type 0
LocalNamed =
    (r : Hint) (end : ℕ) (whole d : Density) → 0 < whole.frames → 0 < d.frames → density_rule whole (Some d) ≡ by.Local
    → upper_end r end (denser whole (Some d)) ≡ upper_end r end d

-- where the area's average is named, it is that by the average
abbrev pub AverageNamed : Type 0
AverageNamed =
    (r : Hint) (end : ℕ) (whole : Density) (o : Option Density) → density_rule whole o ≡ by.Average
    → upper_end r end (denser whole o) ≡ upper_end r end whole

-- the area's end is named exactly where the upper end is there
abbrev pub EndNamed : Type 0
EndNamed =
    (a : Area) (hs : List Hint) (i end playtime : ℕ) (h : Hinted)
    → (end_rule a hs i end playtime h ≡ by.AreaEnd) ↔ (h.upper ≡ a.end)

-- ---- the values
-- without its names a hint is the hint of document 01
unfoldable pub unnamed : Answer (Option NamedHint) → Answer (Option Hinted)
unnamed (Refused n) = Refused n
unnamed (Accepted None) = Accepted None
unnamed (Accepted (Some h)) = Accepted (Some h.hinted)

abbrev pub ValuesStay : Type 0
ValuesStay =
    (l : Lengths) (x : Index) (first end playtime : ℕ)
    → unnamed (named_hint l x first end playtime) ≡ hint l x first end playtime
