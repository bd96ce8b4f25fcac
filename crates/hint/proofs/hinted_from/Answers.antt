use Rattle.hint.proofs.Later.{named_later, named_density}
use Rattle.std.proofs.Common.{rules}
use Rattle.hint.proofs.hinted_from.Goals as goal

pub returns-then-upper-ne0 : goal.returns-then-upper-ne0
returns-then-upper-ne0 c =
    named_later _ _ _ _ _ _ (search rules) c.read_hint-h.ensures c.later_end-upper.ensures c.args.start
    c.if-upper-ne0.true c.named_end.ensures

pub returns : goal.returns
returns c =
    named_density _ _ _ _ _ _ (search rules) c.read_hint-h.ensures c.later_end-upper.ensures c.args.start
    c.if-upper-ne0.false c.local_end-local.ensures.0 c.local_end-local.ensures.1 c.named_end-2.ensures
