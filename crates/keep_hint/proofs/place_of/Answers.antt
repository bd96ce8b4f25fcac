use mathlib.Core.Path.{◌∙◌}
use native.Mathlib.Omega.{arith}
use Rattle.tables.specs.Tables.{kept_in}
use Rattle.tables.proofs.Rest.{rest_start, rest_on, rest_stop, rest_end}
use Rattle.keep_hint.proofs.Places.{place_start, place_here, place_on, place_end}
use Rattle.keep_hint.proofs.place_of.Goals as goal

pub loop-j-init : goal.loop-j-init
loop-j-init c = rw (← place_start _ (kept_in _ _)) (rest_start _ _ _ _ _ _ (omega arith))

pub returns-then-read_hint-lsn : goal.returns-then-read_hint-lsn
returns-then-read_hint-lsn c =
    rest_stop c.loop-j.invariant c.loop-j-test.true c.read_hint.ensures
    (λ hs. place_here _ _ _ hs c.if-read_hint-lsn.true)

pub loop-j-preserved : goal.loop-j-preserved
loop-j-preserved c =
    rest_on c.loop-j.invariant _ c.loop-j-test.true c.read_hint.ensures
    (λ hs. place_on _ _ _ hs c.if-read_hint-lsn.false)

pub returns : goal.returns
returns c = place_end _ _ (omega arith) ∙ rest_end c.loop-j.invariant c.loop-j-test.false
