use borrow.Author.Tests.{eq-eqb, ne_eqb}
use Rattle.player_record.specs.Block.{absorbed_into}
use Rattle.player_record.proofs.block.put_absorbed.Goals as goal

pub returns-then-number-eq0 : goal.returns-then-number-eq0
unfolding absorbed_into
returns-then-number-eq0 c =
    rw (
      eq-eqb _ 0 c.if-number-eq0.true,
      c.write_words-then-number-eq0.ensures,
      c.recorder_words.ensures,
      c.write_words.ensures,
      c.index_words.ensures,
    )

pub returns-then-number-eq8 : goal.returns-then-number-eq8
unfolding absorbed_into
returns-then-number-eq8 c = rw (ne_eqb _ 0 c.if-number-eq0.false, eq-eqb _ 8 c.if-number-eq8.true, c.write_words-then-number-eq8.ensures, c.recorder_words-then-number-eq8.ensures)

pub returns : goal.returns
unfolding absorbed_into
returns c = rw (ne_eqb _ 0 c.if-number-eq0.false, ne_eqb _ 8 c.if-number-eq8.false)
