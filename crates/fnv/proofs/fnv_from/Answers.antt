use Rattle.std.proofs.Common.{arith}
use Rattle.std.proofs.lemmas.Grind.{common_steps}
use Rattle.fnv.specs.Fnv.{prime64}
use Rattle.fnv.proofs.Hash.{hash_fold}
use Rattle.fnv.proofs.fnv_from.Goals as goal

pub returns : goal.returns
returns c = rw (hash_fold 64 prime64) (grind (arith, common_steps))
