use Rattle.rules.specs.Tests.{each}
use Rattle.rules_coverage.specs.Lines.{is_digit, value_from}
use Rattle.sheet.proofs.Lines.{ten_at_most}
use Prim.Native.Nat.{ℕ, ◌^◌, ◌≤◌, ◌<◌}
use mathlib.Core.Path.{◌≡◌}
use mathlib.Core.Bool.{true}
use mathlib.Core.List.{List}
use lib.ListN.{length, drop}
use Rattle.sheet.proofs.line.read_number.Given as goal

-- after i bytes the value is v
pub record Upto (s : List ℕ) (v i : ℕ) : Type 0 where
  pub few : ten_at_most (length s) ≡ true
  pub most : length s ≤ 10
  pub digits : each is_digit (drop i s) ≡ each is_digit s
  pub value : value_from v (drop i s) ≡ value_from 0 s
  pub small : v < 10 ^ i

abbrev pub invariant-loop-b : goal.invariant-loop-b
invariant-loop-b l = Upto l.fn.s l.v l.b-index
