use native.Mathlib.Omega.{arith}
use mathlib.Core.Path.{refl, ap, ◌∙◌}
use mathlib.Core.List.{[]}
use Rattle.rules.specs.Values.{used}
use Rattle.tables.specs.Recorder.{RecorderTables, recorder_in}
use Rattle.rules.specs.Refusals.{answer_in, number_in}
use Rattle.recorder.proofs.record.Recording.{read_number, numbers, long, checkpoint_room, part_room, record_yes}
use Rattle.recorder.proofs.record.record.Goals as goal

pub overflow_add-j : goal.overflow_add-j
unfolding number_in
overflow_add-j c =
    let x = numbers _ _ _ _ _ _ [] c.args.sector.now (read_number _ _ _ _ _ _ c.in_ok-check_record.ensures c.read-lent.ensures) refl in
    let y = x.1 in let w = x.2 in omega arith

pub used_bytes-requires : goal.used_bytes-requires
unfolding number_in
used_bytes-requires c = (long _ _ _ _ _ _ [] c.args.sector.now c.in_ok-check_record.ensures refl).frames

pub back_of-requires : goal.back_of-requires
unfolding number_in
back_of-requires c = (numbers _ _ _ _ _ _ [] c.args.sector.now (read_number _ _ _ _ _ _ c.in_ok-check_record.ensures c.read-lent.ensures) refl).0

pub assemble-after-requires : goal.assemble-after-requires
unfolding number_in
assemble-after-requires c = (
  part_room _ _ _ _ _ _ [] c.args.sector.now (read_number _ _ _ _ _ _ c.in_ok-check_record.ensures c.read-lent.ensures) refl refl refl
      (c.used_bytes.ensures _ ∙ ap (λ (u : RecorderTables). used (recorder_in c.args.r u).frames) c.read-lent.ensures),
  (numbers _ _ _ _ _ _ [] c.args.sector.now (read_number _ _ _ _ _ _ c.in_ok-check_record.ensures c.read-lent.ensures) refl).0,
)

pub write_checkpoint-requires : goal.write_checkpoint-requires
unfolding number_in
write_checkpoint-requires c = checkpoint_room _ _ _ _ _ _ [] c.args.sector.now (read_number _ _ _ _ _ _ c.in_ok-check_record.ensures c.read-lent.ensures) refl

pub advanced-requires : goal.advanced-requires
unfolding number_in
advanced-requires c =
    let x = numbers _ _ _ _ _ _ [] c.args.sector.now (read_number _ _ _ _ _ _ c.in_ok-check_record.ensures c.read-lent.ensures) refl in
    let y = x.1 in let w = x.2 in omega arith

pub returns-clause-recorded : goal.returns-clause-recorded
unfolding answer_in number_in
returns-clause-recorded c =
    record_yes _ _ _ _ _ _ c.args.bytes.now c.args.sector.now (read_number _ _ _ _ _ _ c.in_ok-check_record.ensures c.read-lent.ensures) refl
    c.write_checkpoint.ensures.1 (c.back_of.ensures _) c.digest.ensures
    c.assemble-after.ensures c.write_checkpoint.ensures.0 c.advanced.ensures
