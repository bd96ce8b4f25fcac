use Rattle.tables.specs.Loans.{tables_in}
use Rattle.hint_recorder.proofs.Recorder.{created_unspaced, created_none, created_yes}
use Rattle.rules.specs.Refusals.{answer_in, number_in}
use mathlib.Core.Path.{refl}
use Rattle.hint_recorder.proofs.hint_recorder.Goals as goal
use Rattle.hint_recorder.proofs.hint_recorder.Goals.{then-x-eq0-via-then-x-eq0, then-x-eq0-via-else-x-eq0+then-x-eq0-2}

pub returns-then-x-eq0 : goal.returns-then-x-eq0
unfolding answer_in number_in
returns-then-x-eq0 c =
    elim c.then-x-eq0.branch [
      | then-x-eq0-via-then-x-eq0 w ↦ created_unspaced c.args.x (tables_in c.args.t.now) c.in_ok-check.ensures refl w.if-x-eq0.true
      | then-x-eq0-via-else-x-eq0+then-x-eq0-2 w ↦
          created_none c.args.x (tables_in c.args.t.now) c.in_ok-check.ensures refl w.if-x-eq0.false w.if-x-eq0-2.true
    ]

pub returns : goal.returns
unfolding answer_in number_in
returns c =
    created_yes c.args.x (tables_in c.args.t.now) c.in_ok-check.ensures refl c.if-x-eq0.false c.if-x-eq0-2.false
