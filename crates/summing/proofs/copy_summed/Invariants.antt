use Rattle.std.proofs.Common.{◌≡◌, ◌++◌, take, drop}
use Rattle.fnv.specs.Fnv.{fnv_from, prime64}
use Rattle.summing.proofs.copy_summed.Given as goal

abbrev pub invariant-loop-i : goal.invariant-loop-i
invariant-loop-i l =
    (l.dst ≡ take l.i l.src ++ drop l.i l.initial.dst) × (l.x ≡ fnv_from 64 prime64 l.sum (take l.i l.src))
