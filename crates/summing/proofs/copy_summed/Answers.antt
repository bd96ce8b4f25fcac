use mathlib.Core.Path.{refl}
use native.Mathlib.Omega.{arith}
use Rattle.std.proofs.lemmas.Grind.{common_steps}
use Rattle.field.proofs.Bytes.{copied_more}
use Rattle.fnv.specs.Fnv.{fnv_from, prime64}
use Rattle.fnv.proofs.Hash.{hashed_more}
use Rattle.summing.proofs.copy_summed.Goals as goal

pub loop-i-init : goal.loop-i-init
unfolding fnv_from
loop-i-init c = (refl, refl)

pub loop-i-preserved : goal.loop-i-preserved
loop-i-preserved c = (grind (arith, common_steps, copied_more), grind (arith, hashed_more 64 prime64))
