use borrow.Author.Tests.{not-true, not-false}
use Rattle.field.specs.Records.{Bytes}
use Rattle.tables.specs.Index.{tables}
use Rattle.tables.specs.Lent.{TableBytes}
use Rattle.drawer.proofs.Answers.{typed, own_refused, size_refused, few_files, file_refuses, pairs_ready, pairs_decide}
use Rattle.drawer.proofs.ask.ask.Goals as goal

pub returns-then-number-ne0 : goal.returns-then-number-ne0
returns-then-number-ne0 c =
    own_refused c.args.x ((tables c.args.checkpoints.now c.args.frames.now c.args.store.now c.args.parts.now c.args.malformed.now c.args.hints.now c.args.confirmed.now)) c.args.lengths.now c.args.files.now c.args.limit ((tables c.args.work_checkpoints.now c.args.work_frames.now c.args.work_store.now c.args.work_parts.now c.args.work_malformed.now
    c.args.work_hints.now c.args.work_confirmed.now)) c.refuses-number.ensures
    c.if-number-ne0.true (rw c.unasked_files.ensures at c.refused.ensures)

pub returns-then-not-question44 : goal.returns-then-not-question44
returns-then-not-question44 c =
    size_refused c.args.x ((tables c.args.checkpoints.now c.args.frames.now c.args.store.now c.args.parts.now c.args.malformed.now c.args.hints.now c.args.confirmed.now)) c.args.lengths.now c.args.files.now c.args.limit ((tables c.args.work_checkpoints.now c.args.work_frames.now c.args.work_store.now c.args.work_parts.now c.args.work_malformed.now
    c.args.work_hints.now c.args.work_confirmed.now)) c.refuses-number.ensures
    c.if-number-ne0.false c.question44.ensures c.if-not-question44.true
    (rw c.unasked_files-then-not-question44.ensures at c.refused-then-not-question44.ensures)

pub ask_files-asked-requires : goal.ask_files-asked-requires
ask_files-asked-requires c =
    few_files c.args.x ((tables c.args.checkpoints.now c.args.frames.now c.args.store.now c.args.parts.now c.args.malformed.now c.args.hints.now c.args.confirmed.now)) c.args.lengths.now c.args.files.now c.args.limit ((tables c.args.work_checkpoints.now c.args.work_frames.now c.args.work_store.now c.args.work_parts.now c.args.work_malformed.now
    c.args.work_hints.now c.args.work_confirmed.now)) c.refuses-number.ensures
    c.if-number-ne0.false c.question44.ensures c.if-not-question44.false

pub returns-then-not-asked : goal.returns-then-not-asked
returns-then-not-asked c =
    file_refuses c.args.x ((tables c.args.checkpoints.now c.args.frames.now c.args.store.now c.args.parts.now c.args.malformed.now c.args.hints.now c.args.confirmed.now)) c.args.lengths.now c.args.files.now c.args.limit ((tables c.args.work_checkpoints.now c.args.work_frames.now c.args.work_store.now c.args.work_parts.now c.args.work_malformed.now
    c.args.work_hints.now c.args.work_confirmed.now)) c.refuses-number.ensures
    c.if-number-ne0.false c.question44.ensures c.if-not-question44.false c.ask_files-asked.ensures (not-true _ c.if-not-asked.true)

pub join_pairs-requires : goal.join_pairs-requires
join_pairs-requires c =
    pairs_ready c.args.x ((tables c.args.checkpoints.now c.args.frames.now c.args.store.now c.args.parts.now c.args.malformed.now c.args.hints.now c.args.confirmed.now)) c.args.lengths.now c.args.files.now c.args.limit ((tables c.args.work_checkpoints.now c.args.work_frames.now c.args.work_store.now c.args.work_parts.now c.args.work_malformed.now
    c.args.work_hints.now c.args.work_confirmed.now)) c.refuses-number.ensures
    c.if-number-ne0.false c.question44.ensures c.if-not-question44.false ((let got : Bytes c.args.files.now = λ i. (c.type_inv.files i).fits in got)) c.ask_files-asked.ensures
    (not-false _ c.if-not-asked.false)

pub returns : goal.returns
returns c =
    let t = tables c.args.checkpoints.now c.args.frames.now c.args.store.now c.args.parts.now c.args.malformed.now c.args.hints.now c.args.confirmed.now in
    pairs_decide c.args.x t c.args.lengths.now c.args.files.now c.args.limit ((tables c.args.work_checkpoints.now c.args.work_frames.now c.args.work_store.now c.args.work_parts.now c.args.work_malformed.now
    c.args.work_hints.now c.args.work_confirmed.now)) c.refuses-number.ensures
    c.if-number-ne0.false c.question44.ensures c.if-not-question44.false ((let got : Bytes c.args.files.now = λ i. (c.type_inv.files i).fits in got)) c.ask_files-asked.ensures
    (not-false _ c.if-not-asked.false) (typed c.args.x _ c.well_formed.0) ((let got : TableBytes t = record {
      checkpoints = λ i. (c.type_inv.checkpoints i).fits;
      frames = λ i. (c.type_inv.frames i).fits;
      store = λ i. (c.type_inv.store i).fits;
      parts = λ i. (c.type_inv.parts i).fits;
      malformed = λ i. (c.type_inv.malformed i).fits;
      hints = λ i. (c.type_inv.hints i).fits;
      confirmed = λ i. (c.type_inv.confirmed i).fits;
    } in got)) c.join_pairs.ensures c.with_pairs.ensures
