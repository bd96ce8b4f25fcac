use Rattle.blocks.proofs.Words.{Got}
use Rattle.blocks.proofs.read_words.Given as goal

abbrev pub invariant-loop-i : goal.invariant-loop-i
invariant-loop-i l = Got l.head l.initial.words l.words 24 l.i
