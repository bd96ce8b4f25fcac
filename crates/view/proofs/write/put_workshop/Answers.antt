use native.Mathlib.Omega.{arith}
use Rattle.save.proofs.output.Stretches.{put_both}
use Rattle.view.proofs.write.put_workshop.Goals as goal

pub put_totals-at-requires : goal.put_totals-at-requires
put_totals-at-requires c = omega (arith, c.requires.1)

pub put_backings-at-requires : goal.put_backings-at-requires
put_backings-at-requires c = (c.requires.0.checkpoints, omega (arith, c.requires.1, c.put_totals-at.ensures.ends, c.put_totals-at.auto.out))

pub put_malformed-at-requires : goal.put_malformed-at-requires
put_malformed-at-requires c = (
  c.requires.0.malformed,
  omega (arith, c.requires.1, c.put_totals-at.ensures.ends, c.put_totals-at.auto.out, c.put_backings-at.ensures.ends, c.put_backings-at.auto.out),
)

pub put_lengths-at-requires : goal.put_lengths-at-requires
put_lengths-at-requires c = (
  c.requires.0.parts,
  omega (arith, c.requires.1, c.put_totals-at.ensures.ends, c.put_totals-at.auto.out, c.put_backings-at.ensures.ends, c.put_backings-at.auto.out, c.put_malformed-at.ensures.ends, c.put_malformed-at.auto.out),
)

pub put_hints-at-requires : goal.put_hints-at-requires
put_hints-at-requires c = (
  c.requires.0.hints,
  omega (arith, c.requires.1, c.put_totals-at.ensures.ends, c.put_totals-at.auto.out, c.put_backings-at.ensures.ends, c.put_backings-at.auto.out, c.put_malformed-at.ensures.ends, c.put_malformed-at.auto.out, c.put_lengths-at.ensures.ends, c.put_lengths-at.auto.out),
)

pub put_marks-at-requires : goal.put_marks-at-requires
put_marks-at-requires c = (
  c.requires.0.hints,
  omega (arith, c.requires.1, c.put_totals-at.ensures.ends, c.put_totals-at.auto.out, c.put_backings-at.ensures.ends, c.put_backings-at.auto.out, c.put_malformed-at.ensures.ends, c.put_malformed-at.auto.out, c.put_lengths-at.ensures.ends, c.put_lengths-at.auto.out, c.put_hints-at.ensures.ends, c.put_hints-at.auto.out),
)

pub put_confirmations-requires : goal.put_confirmations-requires
put_confirmations-requires c = (
  c.requires.0.confirmed,
  omega (arith, c.requires.1, c.put_totals-at.ensures.ends, c.put_totals-at.auto.out, c.put_backings-at.ensures.ends, c.put_backings-at.auto.out, c.put_malformed-at.ensures.ends, c.put_malformed-at.auto.out, c.put_lengths-at.ensures.ends, c.put_lengths-at.auto.out, c.put_hints-at.ensures.ends, c.put_hints-at.auto.out, c.put_marks-at.ensures.ends, c.put_marks-at.auto.out),
)

pub returns : goal.returns
returns c =
    put_both c.put_totals-at.ensures (put_both c.put_backings-at.ensures (put_both c.put_malformed-at.ensures
    (put_both c.put_lengths-at.ensures (put_both c.put_hints-at.ensures (put_both c.put_marks-at.ensures c.put_confirmations.ensures)))))
