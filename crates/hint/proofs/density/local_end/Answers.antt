use Rattle.hint.proofs.density.Larger.{larger_counts, local_end_is}
use Rattle.std.proofs.Common.{rules}
use Rattle.hint.proofs.density.local_end.Goals as goal

pub upper_end-requires : goal.upper_end-requires
upper_end-requires c = larger_counts c.args.area _ _ _ _ c.average.ensures c.denser_local-d.ensures

pub returns : goal.returns
returns c =
    local_end_is _ _ _ _ _ _ (search rules) c.read_hint-h.ensures c.run_last-last.ensures c.average.ensures
    c.denser_local-d.ensures c.upper_end.ensures
