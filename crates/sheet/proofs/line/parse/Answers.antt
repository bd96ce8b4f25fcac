use Rattle.sheet.proofs.Lines.{one_word, two_words, more_words, three_words}
use native.Mathlib.Omega.{arith}
use Rattle.sheet.proofs.line.parse.Goals as goal

pub returns-then-a-n : goal.returns-then-a-n
returns-then-a-n c = one_word _ _ c.word_end-a.ensures.0 c.if-a-n.true

pub returns-then-b-n : goal.returns-then-b-n
returns-then-b-n c = two_words _ _ c.word_end-a.ensures.0 (omega arith) _ c.word_end-b.ensures.0 c.if-b-n.true

pub returns-then-c-n : goal.returns-then-c-n
returns-then-c-n c = more_words _ _ c.word_end-a.ensures.0 (omega arith) _ c.word_end-b.ensures.0 (omega arith) _ c.word_end-c.ensures.0 (omega arith)

pub returns : goal.returns
returns c =
    three_words _ _ c.word_end-a.ensures.0 (omega arith) _ c.word_end-b.ensures.0 (omega arith) _ c.word_end-c.ensures.0 (omega arith)
    c.parse_words.ensures
