-- The definitions of change request 2 give what the examples should be. Assumes nothing.
use mathlib.Core.Path.{refl}
use Rattle.rules.specs.examples.Starred.{Hold}
use Rattle.rules.proofs.Examples.{evaluated}
use Rattle.rules_coverage.specs.Lines.{on_first, lines_of, lines_read, words_of, between, is_name, is_number, value_from, line_from, line_of}
use Rattle.rules_coverage.specs.Coverage.{range_ok, row_from, row_of, file_row, line_row, coverage, plus, totals, digits, decimal_text, number_text, answer_text, row_text, name_of, total_text, file_of, sheet}
use Rattle.rules_coverage.specs.CoverageExamples.{folder, line_numbers, row_numbers, lines, rows, sheets}

pub lines_hold : Hold lines
unfolding evaluated on_first lines_of lines_read words_of between is_name is_number value_from line_from line_of line_numbers lines
lines_hold = refl

pub rows_hold : Hold rows
unfolding evaluated range_ok row_from row_of file_row line_row coverage plus totals row_numbers rows
rows_hold = refl

pub sheets_hold : Hold sheets
unfolding evaluated on_first lines_of lines_read words_of between is_name is_number value_from line_from line_of range_ok row_from row_of file_row line_row coverage plus totals digits decimal_text number_text answer_text row_text name_of total_text file_of sheet folder sheets
sheets_hold = refl
