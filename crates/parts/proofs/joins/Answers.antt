use mathlib.Core.Path.{◌≡◌, sym, ◌∙◌}
use mathlib.Core.Bool.{true, false}
use borrow.Author.Tests.{eq-eqb, ne_eqb}
use Rattle.parts.specs.Steps.{joins_in}
use Rattle.parts.proofs.Rule.{last_part}
use Rattle.parts.proofs.joins.Goals.{then-last-p, else-last-p}
use Rattle.parts.proofs.joins.Goals as goal

pub returns-then-alike : goal.returns-then-alike
unfolding joins_in
returns-then-alike c =
    let e = last_part _ _ c.requires.0 c.read_held-q.ensures in
    elim c.if-last-p.branch [
      | then-last-p w ↦ rw (← e, eq-eqb _ _ w.if-last-p.true, ← w.alike.ensures, ← w.value-is, c.if-alike.true) c.bytes_agree.ensures
      | else-last-p w ↦ let z : false ≡ true = sym (w.value-is ∙ ne_eqb _ _ w.if-last-p.false) ∙ c.if-alike.true in cc
    ]

pub returns-else-alike : goal.returns-else-alike
unfolding joins_in
returns-else-alike c =
    let e = last_part _ _ c.requires.0 c.read_held-q.ensures in
    elim c.if-last-p.branch [
      | then-last-p w ↦ rw (← e, eq-eqb _ _ w.if-last-p.true, ← w.alike.ensures, ← w.value-is, c.if-alike.false)
      | else-last-p w ↦ rw (ne_eqb _ _ w.if-last-p.false, c.if-alike.false)
    ]
