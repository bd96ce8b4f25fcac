use Rattle.save.proofs.write.Sections.{records_size}
use Rattle.save.proofs.output.Sums.{summed_lent}
use Rattle.laws.proofs.Layouts.{hint_layout}
use Rattle.rules.specs.File.{encode_hint}
use Rattle.tables.specs.Tables.{decode_kept}
use native.Mathlib.Omega.{arith}
use mathlib.Core.Path.{refl}
use Rattle.save.proofs.write.put_hints.Goals as goal

pub returns : goal.returns
returns c = summed_lent _ _ _ _ _ _ (records_size 8 decode_kept encode_hint hint_layout.size _ _) refl (omega arith) c.write_hints-sum.ensures
