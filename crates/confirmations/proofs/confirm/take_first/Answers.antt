use native.Mathlib.Omega.{arith}
use Rattle.rules.specs.Sections.{confirmed_lsn}
use Rattle.rules.specs.Hints.{held_confirmation}
use Rattle.laws.proofs.hint_lists.Steps.{take_own, take_other, take_left, take_right, take_both}
use Rattle.confirmations.proofs.confirm.take_first.Goals as goal

pub returns-then-n-q : goal.returns-then-n-q
returns-then-n-q c =
    take_own confirmed_lsn held_confirmation 16 _ _ _ _ _ _ _ _ (omega arith) c.read_confirmation.ensures
    (omega arith)

pub returns-then-e-p : goal.returns-then-e-p
returns-then-e-p c =
    take_other confirmed_lsn held_confirmation 16 _ _ _ _ _ _ _ _ c.if-n-q.false
    c.read_confirmation-y.ensures (omega arith)

pub returns-then-x-y : goal.returns-then-x-y
returns-then-x-y c =
    take_left confirmed_lsn held_confirmation 16 _ _ _ _ _ _ _ _ c.if-e-p.false c.if-n-q.false
    c.read_confirmation-x.ensures c.read_confirmation-y.ensures
    c.if-x-y.true

pub returns-then-y-x : goal.returns-then-y-x
returns-then-y-x c =
    take_right confirmed_lsn held_confirmation 16 _ _ _ _ _ _ _ _ c.if-e-p.false c.if-n-q.false
    c.read_confirmation-x.ensures c.read_confirmation-y.ensures
    c.if-y-x.true

pub returns : goal.returns
returns c =
    rw c.met.ensures (take_both confirmed_lsn held_confirmation 16 _ _ _ _ _ _ _ _ c.if-e-p.false
    c.if-n-q.false c.read_confirmation-x.ensures
    c.read_confirmation-y.ensures c.if-x-y.false c.if-y-x.false)
