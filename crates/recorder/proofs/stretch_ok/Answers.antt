use native.Mathlib.Omega.{arith}
use Rattle.index.proofs.Questions.{range}
use Rattle.tables.specs.Loans.{recorder_tables_in}
use Rattle.recorder.proofs.Questions.{stretch_are}
use Rattle.recorder.proofs.stretch_ok.Goals as goal

pub check_parts-held-requires : goal.check_parts-held-requires
check_parts-held-requires c = (
  c.requires.parts,
  c.requires.checkpoints,
  c.requires.frames,
  (let e = c.requires.few in omega arith),
  (let g = range _ c.requires.area in omega arith),
)

pub ending_ok-ends-requires : goal.ending_ok-ends-requires
ending_ok-ends-requires c = (range _ c.requires.area).order

pub returns-then-held : goal.returns-then-held
returns-then-held c =
    grind (
      arith,
      stretch_are c.args.r (recorder_tables_in c.args.t.now) c.check_checkpoints-steps.ensures
          (c.check_frames-filling.ensures _).answer (c.check_parts-held.ensures _) c.end_of.ensures
          (c.ending_ok-ends.ensures _ c.last_checkpoint.ensures),
    )

pub returns-else-held : goal.returns-else-held
returns-else-held c =
    grind (
      arith,
      stretch_are c.args.r (recorder_tables_in c.args.t.now) c.check_checkpoints-steps.ensures
          (c.check_frames-filling.ensures _).answer (c.check_parts-held.ensures _) c.end_of.ensures
          (c.ending_ok-ends.ensures _ c.last_checkpoint.ensures),
    )
