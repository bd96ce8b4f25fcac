use native.Mathlib.Omega.{arith}
use Rattle.confirmations.proofs.confirm.Kept.{last_none, last_some}
use Rattle.confirmations.proofs.confirm.last_lsn.Goals as goal

pub returns-then-i-eq0 : goal.returns-then-i-eq0
returns-then-i-eq0 c = last_none _ c.if-i-eq0.true

pub returns : goal.returns
returns c = (last_some c.args.t.now c.if-i-eq0.false c.read_confirmation.ensures, omega arith)
