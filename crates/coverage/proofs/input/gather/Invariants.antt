use Rattle.std.proofs.Common.{◌≤◌, length, ◌≡◌}
use Rattle.coverage.proofs.input.gather.Given as goal

abbrev pub invariant-loop-i : goal.invariant-loop-i
invariant-loop-i l = (l.len ≤ length l.line) × (length l.line ≡ length l.initial.line)
