-- Each hash is evaluated.
use Rattle.std.proofs.Common.{refl, eq-eqb}
use Rattle.fnv.specs.Fnv.{fnv_from}
use Rattle.examples.proofs.Group.{more}
use Rattle.examples.proofs.hashes.vectors.Goals as goal

pub returns : goal.returns
unfolding fnv_from
returns c =
    let one = more 0 _ _ _ _ refl c.hex-t.ensures (eq-eqb _ _ c.fnv.ensures) in
    let two = more 1 _ _ _ _ one c.hex-t-2.ensures (eq-eqb _ _ c.fnv-2.ensures) in
    let three = more 2 _ _ _ _ two c.hex-t-3.ensures (eq-eqb _ _ c.fnv-3.ensures) in
    more 3 _ _ _ _ three c.hex.ensures (eq-eqb _ _ c.fnv-4.ensures)
