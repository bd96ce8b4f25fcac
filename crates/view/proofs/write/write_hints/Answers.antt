use Rattle.tables.specs.Tables.{kept_in, decode_kept}
use Rattle.rules.specs.File.{encode_hint}
use Rattle.field.proofs.Records.{records_length, records_more}
use Rattle.laws.proofs.Layouts.{hint_layout}
use Rattle.view.proofs.write.Laying.{laid_none, laid_more, laid_all}
use mathlib.Core.Path.{refl}
use native.Mathlib.Omega.{arith}
use Rattle.field.specs.Records.{records}
use Rattle.view.proofs.write.write_hints.Goals as goal

pub loop-j-init : goal.loop-j-init
unfolding records
loop-j-init c = laid_none _ _

pub loop-j-preserved : goal.loop-j-preserved
loop-j-preserved c =
    laid_more encode_hint hint_layout.size _ _ _ refl (records_length 8 decode_kept _ _) (records_more 8 decode_kept _ _) c.loop-j.invariant
    (rw c.read_hint.ensures at c.write_given.ensures) c.write_given.auto.t

pub returns : goal.returns
returns c = laid_all encode_hint hint_layout.size (λ k. kept_in k c.args.table.now) (λ k. records_length 8 decode_kept k c.args.table.now) (omega arith) (omega arith) c.loop-j.invariant c.requires.1
