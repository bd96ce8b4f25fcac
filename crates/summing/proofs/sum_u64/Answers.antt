use native.Mathlib.Omega.{arith}
use Rattle.field.proofs.Native.{low_bytes}
use Rattle.summing.proofs.sum_u64.Goals as goal

pub returns : goal.returns
returns c = rw (← low_bytes) (grind arith)
