use Rattle.inspect.proofs.Whole.{whole, whole_short, sum_is}
use Rattle.inspect.proofs.inspect.Goals as goal

pub returns-then-bytes-lt8 : goal.returns-then-bytes-lt8
returns-then-bytes-lt8 c = whole_short _ _ c.if-bytes-lt8.true

pub returns : goal.returns
returns c =
    whole _ c.args.bytes.now c.if-bytes-lt8.false c.body_of.ensures
    (sum_is c.args.bytes.now c.if-bytes-lt8.false c.read_u64.ensures) c.inspect_body.ensures
