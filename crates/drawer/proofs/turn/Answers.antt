use mathlib.Core.Path.{refl}
use native.Mathlib.Omega.{arith}
use Rattle.field.specs.Records.{Bytes}
use Rattle.tables.specs.Index.{tables}
use Rattle.drawer.proofs.Turning.{commits, turned}
use Rattle.drawer.proofs.turn.Goals as goal

pub commit-requires : goal.commit-requires
commit-requires c = commits c.args.area _ _ _ c.args.e refl c.requires.holds

pub returns : goal.returns
returns c =
    turned c.args.area c.args.files.now _ ((let got : Bytes c.args.files.now = λ i. (c.type_inv.files i).fits in got)) c.args.x ((tables c.args.checkpoints.now c.args.frames.now c.args.store.now c.args.parts.now c.args.malformed.now c.args.hints.now c.args.confirmed.now)) c.args.e ((tables c.args.work_checkpoints.now c.args.work_frames.now c.args.work_store.now c.args.work_parts.now c.args.work_malformed.now
    c.args.work_hints.now c.args.work_confirmed.now)) c.requires c.numbers_after.ensures refl
    c.commit.ensures c.merge-made.ensures

pub overflow_add-to : goal.overflow_add-to
overflow_add-to c = omega (arith, c.requires.holds.inside, c.well_formed.1.1.1.0)

pub slice_bounds-commit-end : goal.slice_bounds-commit-end
slice_bounds-commit-end c = c.requires.holds.inside
