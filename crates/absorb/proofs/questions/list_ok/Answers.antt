use Rattle.absorb.proofs.questions.Lists.{list_is, below_few}
use Rattle.field.proofs.Records.{records_length}
use Rattle.rules.specs.File.{decode_lsn}
use Rattle.tables.specs.Tables.{lsns_in}
use native.Mathlib.Omega.{arith}
use Rattle.absorb.proofs.questions.list_ok.Goals as goal

pub starts_in-starts-requires : goal.starts_in-starts-requires
starts_in-starts-requires c = (
  c.requires.0,
  omega (
    arith,
    c.count_below-c.ensures,
    below_few c.args.front (lsns_in c.args.k c.args.given.now),
    records_length 4 decode_lsn c.args.k c.args.given.now,
  ),
)

pub returns-then-counts : goal.returns-then-counts
returns-then-counts c =
    grind (
      arith,
      list_is c.args.area.start c.args.front c.args.n (lsns_in c.args.k c.args.given.now) (lsns_in c.args.m c.args.held.now)
          (records_length 4 decode_lsn _ _) c.check_lsns-rises.ensures c.opens_with-opens.ensures
          c.count_below-c.ensures c.min.ensures c.min-2.ensures c.starts_in-starts.ensures,
    )

pub returns-else-counts : goal.returns-else-counts
returns-else-counts c =
    grind (
      arith,
      list_is c.args.area.start c.args.front c.args.n (lsns_in c.args.k c.args.given.now) (lsns_in c.args.m c.args.held.now)
          (records_length 4 decode_lsn _ _) c.check_lsns-rises.ensures c.opens_with-opens.ensures
          c.count_below-c.ensures c.min.ensures c.min-2.ensures c.starts_in-starts.ensures,
    )
