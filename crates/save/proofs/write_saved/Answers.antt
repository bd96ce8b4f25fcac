use Rattle.laws.proofs.Length.{length_body, saved_length_is}
use Rattle.save.proofs.Saving.{scanned, hinted}
use Rattle.save.proofs.Sections.{sum_behind}
use native.Mathlib.Omega.{arith}
use Rattle.rules.specs.File.{saved}
use Rattle.tables.specs.Index.{index_in}
use Rattle.tables.specs.Loans.{tables_in}
use Rattle.save.proofs.write_saved.Goals as goal

pub write_body-body-requires : goal.write_body-body-requires
write_body-body-requires c =
    (scanned c.args.x (tables_in c.args.t.now) c.requires.0, hinted c.args.x (tables_in c.args.t.now) c.requires.0, c.requires.1)

pub write_u64-requires : goal.write_u64-requires
write_u64-requires c =
    let l = length_body (index_in c.args.x (tables_in c.args.t.now)) in
    let n = saved_length_is (index_in c.args.x (tables_in c.args.t.now)) in
    omega (arith, n.1, c.requires.1, c.write_body-body.ensures.put.ends, c.write_body-body.auto.out)

pub returns : goal.returns
unfolding saved
returns c = sum_behind c.write_body-body.ensures (omega (arith, c.requires.1, length_body (index_in c.args.x (tables_in c.args.t.now)))) c.write_u64.ensures
