use Rattle.player.proofs.seek_raw_part.Goals as goal

pub returns : goal.returns
returns c = rw (c.bit_word.ensures, c.part_lies-lies.ensures)
