use mathlib.Core.Path.{refl, ap, ◌∙◌}
use Rattle.rules.specs.Sections.{hints_ok}
use Rattle.rules.specs.File.{decode_hint}
use Rattle.inspect.proofs.hint_sections.Sections.{cut_records, cut_length}
use Rattle.inspect.proofs.hint_sections.hints_ok.Goals as goal

pub check_hints-requires : goal.check_hints-requires
check_hints-requires c = cut_length c.args.c.at _ c.args.body.now c.requires refl c.cut.ensures

pub returns : goal.returns
returns c = c.check_hints.ensures ∙ ap (hints_ok c.args.area) (cut_records 8 decode_hint _ c.args.c.at c.args.body.now refl c.cut.ensures)
