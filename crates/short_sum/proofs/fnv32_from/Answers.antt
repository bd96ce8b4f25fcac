use Rattle.std.proofs.Common.{arith}
use Rattle.std.proofs.lemmas.Grind.{common_steps}
use Rattle.fnv.proofs.Hash.{hash_fold}
use Rattle.short_sum.specs.ShortSum.{prime32}
use Rattle.short_sum.proofs.fnv32_from.Goals as goal

pub returns : goal.returns
returns c = rw (hash_fold 32 prime32) (grind (arith, common_steps))
