-- Change request 7: the rule by which plan, or the source's hint, gets its answer.
use Rattle.rules.specs.declared.HeldPart.{HeldPart}
use Rattle.std.specs.Prelude.{ℕ, suc, ◌*◌, Bool, cond, ◌&&◌, List, [], ◌∷◌, eqb, leb, length, get_or, drop, Option, None, Some}
use Rattle.rules.specs.declared.Area.{Area}
use Rattle.rules.specs.declared.Confirmation.{Confirmation}
use Rattle.rules.specs.declared.Hint.{Hint}
use Rattle.rules.specs.declared.Plan.{Plan}
use Rattle.rules.specs.declared.Plan.TheVariants.{Start, At, End}
use Rattle.rules.specs.Tests.{Answer, Accepted, after, ask, first_no}
use Rattle.rules.specs.Questions.{four}
use Rattle.rules.specs.Values.{Index, Lengths, no_hint, is_checked}
use Rattle.rules.specs.Hints.{Density, Hinted, largest_of, near, confirmed_at, hint_place, first_from, run_from, local}
use Rattle.rules.specs.Hints.{average, hinted_locally, hinted_later}
use Rattle.rules_jump.specs.declared.PlanRule.{PlanRule}
use Rattle.rules_jump.specs.declared.PlanRule.TheVariants as rule
use Rattle.rules_jump.specs.declared.HintStart.{HintStart}
use Rattle.rules_jump.specs.declared.HintStart.TheVariants.{Confirmed, Nearest}
use Rattle.rules_jump.specs.declared.HintEnd.{HintEnd}
use Rattle.rules_jump.specs.declared.HintEnd.TheVariants as by

-- ---- "Each plan also names its rule: area start, checkpoint, checkpoint with held part, or end state"
unfoldable pub held_rule : Option HeldPart → PlanRule
held_rule None = rule.Checkpoint
held_rule (Some p) = rule.HeldPart

unfoldable pub plan_rule : Plan → PlanRule
plan_rule Start = rule.AreaStart
plan_rule (At r) = held_rule r.assembly
plan_rule (End e) = rule.Ending

-- ---- "A hint names confirmed or nearest"
unfoldable pub chosen_by : Option ℕ → HintStart
chosen_by None = Nearest
chosen_by (Some i) = Confirmed

-- is the hint at i near, and confirmed for first?
abbrev pub near_confirmed : Bool → List Hint → List Confirmation → ℕ → ℕ → Bool
near_confirmed checked hs cs first i =
    near first (get_or hs i no_hint) && (checked && confirmed_at cs (get_or hs i no_hint).lsn first)

-- "the first listed here of equal ones": confirmed where a near hint is confirmed for first,
-- also where it is the nearest
unfoldable pub start_rule : Bool → List Hint → List Confirmation → ℕ → HintStart
start_rule checked hs cs first = chosen_by (largest_of (near_confirmed checked hs cs first) hs (length hs))

-- ---- "and whether its upper end came from a later hint, from local spacing or from the area's average"
-- of two densities that are equal the local one: "the first listed here of equal ones it compares"
unfoldable pub density_rule : Density → Option Density → HintEnd
density_rule whole None = by.Average
density_rule whole (Some d) = cond (leb (whole.sectors * d.frames) (d.sectors * whole.frames)) by.Local by.Average

-- "an upper end at the area's end is named so instead"
unfoldable pub named_end : Area → ℕ → HintEnd → HintEnd
named_end a upper r = cond (eqb upper a.end) by.AreaEnd r

-- by which density, for the hint at i
unfoldable pub local_rule : Area → List Hint → ℕ → ℕ → ℕ → HintEnd
local_rule a hs i end playtime =
    density_rule (average a playtime) (local hs i (run_from (get_or hs i no_hint).number end None (drop (suc i) hs)))

unfoldable pub end_rule : Area → List Hint → ℕ → ℕ → ℕ → Hinted → HintEnd
end_rule a hs i end playtime h = named_end a h.upper (cond h.later by.Later (local_rule a hs i end playtime))

-- the answer of hint with its names
pub record NamedHint : Type 0 where
  pub hinted : Hinted
  pub start : HintStart
  pub end : HintEnd

unfoldable pub named : Area → List Hint → ℕ → ℕ → HintStart → ℕ → Hinted → NamedHint
named a hs end playtime s i h = record { hinted = h; start = s; end = end_rule a hs i end playtime h }

unfoldable pub named_at : Area → List Hint → ℕ → ℕ → HintStart → Option ℕ → Option NamedHint
named_at a hs end playtime s None = None
named_at a hs end playtime s (Some i) =
    Some (named a hs end playtime s i (hinted_later (first_from end (drop (suc i) hs)) end (get_or hs i no_hint)
    (hinted_locally a hs i end playtime)))

-- hint, with its names
unfoldable pub named_hint : Lengths → Index → ℕ → ℕ → ℕ → Answer (Option NamedHint)
named_hint l x first end playtime =
    after (first_no (four l x (ask (leb first end) 16 ∷ [])))
    (Accepted
    (named_at x.scan.area x.hinting.hints end playtime
    (start_rule (is_checked x.fingerprint) x.hinting.hints x.hinting.confirmed first)
    (hint_place (is_checked x.fingerprint) x.hinting.hints x.hinting.confirmed first)))

-- ---- the names as numbers, in the request's order
unfoldable pub plan_rule_number : PlanRule → ℕ
plan_rule_number rule.AreaStart = 1
plan_rule_number rule.Checkpoint = 2
plan_rule_number rule.HeldPart = 3
plan_rule_number rule.Ending = 4

unfoldable pub start_rule_number : HintStart → ℕ
start_rule_number Confirmed = 1
start_rule_number Nearest = 2

unfoldable pub end_rule_number : HintEnd → ℕ
end_rule_number by.Later = 1
end_rule_number by.Local = 2
end_rule_number by.Average = 3
end_rule_number by.AreaEnd = 4
