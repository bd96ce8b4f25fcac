use Rattle.save.proofs.output.Sums.{summed_both}
use Rattle.save.proofs.Sections.{header_summed, summed_same}
use Rattle.save.proofs.Numbers.{sizes_are, body_is}
use native.Mathlib.Omega.{arith}
use Rattle.tables.specs.Loans.{tables_in}
use Rattle.save.proofs.write_body.Goals as goal

pub write_header-sum-requires : goal.write_header-sum-requires
write_header-sum-requires c =
    let sizes = sizes_are c.args.x (tables_in c.args.t.now) in
    omega (arith, c.requires.2)

pub put_scan-scan-requires : goal.put_scan-scan-requires
put_scan-scan-requires c =
    let sizes = sizes_are c.args.x (tables_in c.args.t.now) in
    (c.requires.0, omega (arith, c.requires.2, c.write_header-sum.auto.out))

pub put_hinting-requires : goal.put_hinting-requires
put_hinting-requires c =
    let sizes = sizes_are c.args.x (tables_in c.args.t.now) in
    (c.requires.1, omega (arith, c.requires.2, c.write_header-sum.auto.out, c.put_scan-scan.ensures.put.ends, c.put_scan-scan.auto.out))

pub returns : goal.returns
returns c =
    let sizes = sizes_are c.args.x (tables_in c.args.t.now) in
    summed_same (body_is c.args.x (tables_in c.args.t.now))
    (summed_both (header_summed (c.header_of.ensures (tables_in c.args.t.now)) (omega (arith, c.requires.2)) c.write_header-sum.ensures)
    (summed_both c.put_scan-scan.ensures c.put_hinting.ensures))
