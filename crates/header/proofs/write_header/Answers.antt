use Rattle.header.proofs.Written.{start, step, whole}
use borrow.Author.Rules.{rules}
use Rattle.header.proofs.write_header.Goals as goal

pub loop-i-init : goal.loop-i-init
loop-i-init c = start _ _ _ c.values_of-values.ensures

pub loop-i-preserved : goal.loop-i-preserved
loop-i-preserved c = step c.loop-i.invariant c.requires (search rules) c.put_field.ensures c.sum_field-x.ensures

pub returns : goal.returns
returns c = whole _ _ _ c.values_of-values.ensures _ _ c.loop-i.invariant (search rules)
