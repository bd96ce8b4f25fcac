use Rattle.rules_coverage.specs.Coverage.{digits, decimal_text}
use Prim.Native.Nat.{ℕ, ◌^◌, ◌≤◌, ◌<◌}
use mathlib.Core.Path.{◌≡◌}
use mathlib.Core.List.{List, ◌++◌}
use lib.ListN.{length, drop}
use Rattle.sheet.proofs.text.spell.Given as goal

-- what is left to spell, before what is spelt
pub record Spelling (v : ℕ) (t : List ℕ) (at rest : ℕ) : Type 0 where
  pub room : length t ≡ 20
  pub first : 1 ≤ at
  pub last : at ≤ 20
  pub small : rest < 10 ^ at
  pub spelt : digits at rest ++ drop at t ≡ decimal_text v

abbrev pub invariant-loop-rest : goal.invariant-loop-rest
invariant-loop-rest l = Spelling l.v l.text l.at l.rest

abbrev pub decreases-loop-rest : goal.decreases-loop-rest
decreases-loop-rest l = l.rest
