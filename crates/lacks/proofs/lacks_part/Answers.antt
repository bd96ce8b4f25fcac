use Rattle.lacks.proofs.Parts.{within_at, step_none, step_is}
use Rattle.lacks.proofs.lacks_part.Goals as goal

pub returns-then-n-i : goal.returns-then-n-i
returns-then-n-i c = step_none _ _ _ _ _ _ _ _ _ _ c.if-n-i.true c.requires.1

pub pair_at-t-requires : goal.pair_at-t-requires
pair_at-t-requires c = (
  c.requires.1,
  c.requires.2,
  c.requires.3,
  (within_at _ _ _ _ _ _ c.requires.4 c.if-n-i.false c.read_held-p.ensures).0,
  c.requires.5.0,
)

pub returns : goal.returns
returns c =
    step_is _ _ _ _ _ _ _ _ _ _ c.if-n-i.false c.read_held-p.ensures
    (within_at _ _ _ _ _ _ c.requires.4 c.if-n-i.false c.read_held-p.ensures) c.requires.5
    c.pair_at-t.ensures c.same_part.ensures
