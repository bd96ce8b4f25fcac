use Rattle.save.proofs.write.Hints.{hints_on, hints_end}
use Rattle.save.proofs.write.write_hints.Goals as goal

pub loop-j-preserved : goal.loop-j-preserved
loop-j-preserved c = hints_on _ _ _ _ c.loop-j.invariant c.loop-j-test.true c.read_hint.ensures c.put_hint-x.ensures.0 c.put_hint-x.ensures.1

pub returns : goal.returns
returns c = hints_end _ _ _ _ c.loop-j.invariant c.loop-j-test.false c.requires.1
