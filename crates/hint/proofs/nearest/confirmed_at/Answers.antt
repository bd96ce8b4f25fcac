use Rattle.std.proofs.Common.{◌+◌, ◌-◌, ◌/◌, refl, arith}
use Rattle.plan.proofs.Halves.{halves_start}
use Rattle.hint.proofs.nearest.Confirmed.{search_up, search_down, search_found, search_end}
use Rattle.hint.proofs.nearest.confirmed_at.Goals as goal

pub loop-lo-init : goal.loop-lo-init
loop-lo-init c = halves_start

pub returns-then-c-lsn : goal.returns-then-c-lsn
returns-then-c-lsn c =
    search_found c.loop-lo.invariant c.requires {mid = c.loop-lo.lo + (c.loop-lo.hi - c.loop-lo.lo) / 2} c.read_confirmation-c.ensures
    (omega arith) (omega arith) _ (omega arith) refl

pub loop-lo-preserved-then-c-lsn-2 : goal.loop-lo-preserved-then-c-lsn-2
loop-lo-preserved-then-c-lsn-2 c =
    search_up c.loop-lo.invariant c.requires c.read_confirmation-c.ensures (omega arith) (omega arith)
    (omega arith)

pub loop-lo-preserved : goal.loop-lo-preserved
loop-lo-preserved c =
    search_down c.loop-lo.invariant c.requires c.read_confirmation-c.ensures (omega arith) (omega arith)
    (omega arith)

pub returns : goal.returns
returns c = search_end c.loop-lo.invariant c.requires _ c.loop-lo-test.false
