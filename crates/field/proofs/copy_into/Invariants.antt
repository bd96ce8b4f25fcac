use Rattle.std.proofs.Common.{length, ◌≡◌, ◌++◌, drop, take}
use Rattle.field.proofs.copy_into.Given as goal

abbrev pub invariant-loop-i : goal.invariant-loop-i
invariant-loop-i l = (l.dst ≡ take l.i l.src ++ drop l.i l.initial.dst) × (length l.dst ≡ length l.initial.dst)
