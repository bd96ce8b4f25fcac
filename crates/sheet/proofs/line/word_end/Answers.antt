use Rattle.sheet.proofs.Lines.{word_stop, word_more, word_done}
use native.Mathlib.Omega.{arith}
use Rattle.sheet.proofs.line.word_end.Goals as goal

pub returns-then-line-i-eq32 : goal.returns-then-line-i-eq32
returns-then-line-i-eq32 c = omega (arith, word_stop c.loop-i.i c.args.line.now (omega arith) c.if-line-i-eq32.true)

pub loop-i-preserved : goal.loop-i-preserved
loop-i-preserved c = omega (arith, word_more c.loop-i.i c.args.line.now (omega arith) c.if-line-i-eq32.false)

pub returns : goal.returns
returns c = omega (arith, word_done c.loop-i.i c.args.line.now (omega arith))
