use mathlib.Core.Path.{refl, ap, ◌∙◌}
use Rattle.rules.specs.Sections.{confirmations_ok}
use Rattle.rules.specs.File.{decode_confirmation}
use Rattle.inspect.proofs.hint_sections.Sections.{cut_records, cut_length}
use Rattle.inspect.proofs.hint_sections.confirmations_ok.Goals as goal

pub check_confirmations-requires : goal.check_confirmations-requires
check_confirmations-requires c = cut_length c.args.c.at _ c.args.body.now c.requires refl c.cut.ensures

pub returns : goal.returns
returns c = c.check_confirmations.ensures ∙ ap (confirmations_ok c.args.area) (cut_records 16 decode_confirmation _ c.args.c.at c.args.body.now refl c.cut.ensures)
