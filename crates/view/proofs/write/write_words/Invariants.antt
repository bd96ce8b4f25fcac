use Rattle.blocks.proofs.Words.{Put}
use Rattle.view.proofs.write.write_words.Given as goal

abbrev pub invariant-loop-i : goal.invariant-loop-i
invariant-loop-i l = Put l.initial.out l.fn.words l.out l.i
