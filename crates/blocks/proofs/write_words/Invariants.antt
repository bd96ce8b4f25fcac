use Rattle.blocks.proofs.Words.{Put}
use Rattle.blocks.proofs.write_words.Given as goal

abbrev pub invariant-loop-i : goal.invariant-loop-i
invariant-loop-i l = Put l.initial.head l.words l.head l.i
