use Rattle.player_record.proofs.block.found_words.Goals as goal

pub returns : goal.returns
returns c = rw (c.bit_word-later.ensures, c.start_rule_number-start.ensures, c.end_rule_number-end.ensures)
