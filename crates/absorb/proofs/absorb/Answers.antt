use mathlib.Core.Path.{refl, sym, ◌∙◌}
use Rattle.rules.specs.Refusals.{number_in}
use Rattle.rules.proofs.Refusals.{number_ne0}
use Rattle.tables.specs.Index.{tables}
use Rattle.tables.specs.Lent.{TableBytes}
use Rattle.absorb.proofs.committed.Facts.{ready}
use Rattle.absorb.proofs.Calls.{absorb_refused, absorb_stopped, absorbs, few, absorb_done}
use Rattle.absorb.proofs.absorb.Goals as goal
use Rattle.absorb.proofs.absorb.Goals.{After-check_absorb}

bytes : (p : goal.After-check_absorb) → TableBytes ((tables p.args.checkpoints.now p.args.frames.now p.args.store.now p.args.parts.now p.args.malformed.now p.args.hints.now p.args.confirmed.now))
bytes p =
    record {
      checkpoints = λ i. (p.slice_known-1.given i).fits;
      frames = λ i. (p.slice_known-2-1.given i).fits;
      store = λ i. (p.slice_known-3-1.given i).fits;
      parts = λ i. (p.slice_known-4-1.given i).fits;
      malformed = λ i. (p.slice_known-5-1.given i).fits;
      hints = λ i. (p.type_inv.hints i).fits;
      confirmed = λ i. (p.type_inv.confirmed i).fits;
    }

pub returns-in-Err : goal.returns-in-Err
unfolding number_in
returns-in-Err c =
    rw c.nothing_absorbed.ensures
    (absorb_refused _ _ _ _ _ _ (c.from.ensures ∙ c.in-Err.ensures) (λ z. number_ne0 _ (sym c.from.ensures ∙ z)) refl)

pub returns-then-is_stopped : goal.returns-then-is_stopped
unfolding number_in
returns-then-is_stopped c =
    rw c.nothing_absorbed-then-is_stopped.ensures
    (absorb_stopped _ _ _ _ _ _ c.in_default.ensures refl (bytes (goal.at.returns-then-is_stopped c).After-check_absorb)
    (sym c.is_stopped.ensures ∙ c.if-is_stopped.true) refl)

pub drain-requires : goal.drain-requires
unfolding number_in
drain-requires c =
    few _ (tables c.args.checkpoints.now c.args.frames.now c.args.store.now c.args.parts.now c.args.malformed.now c.args.hints.now c.args.confirmed.now) _ _ _ _
    c.in_default.ensures refl (sym c.is_stopped.ensures ∙ c.if-is_stopped.false)

pub commit-index-requires : goal.commit-index-requires
unfolding number_in
commit-index-requires c =
    ready (absorbs _ (tables c.args.checkpoints.now c.args.frames.now c.args.store.now c.args.parts.now c.args.malformed.now c.args.hints.now c.args.confirmed.now) _ _ _ _
    c.in_default.ensures refl (sym c.is_stopped.ensures ∙ c.if-is_stopped.false))

pub returns : goal.returns
unfolding number_in
returns c =
    absorb_done _ _ _ _ _ _ c.in_default.ensures refl (sym c.is_stopped.ensures ∙ c.if-is_stopped.false)
    (bytes (goal.at.returns c).After-check_absorb) c.drain.ensures c.commit-index.ensures
