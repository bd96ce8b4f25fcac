use Rattle.save.proofs.output.Sums.{summed_both}
use Rattle.save.proofs.Sections.{filled}
use Rattle.save.proofs.write_hint_section.Goals as goal

pub returns : goal.returns
returns c = filled (summed_both c.write_hint_header.ensures c.put_hints.ensures) c.requires.1
