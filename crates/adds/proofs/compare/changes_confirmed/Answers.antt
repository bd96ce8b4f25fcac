use mathlib.Core.Bool.{not}
use mathlib.Core.Path.{ap}
use Rattle.adds.proofs.compare.Passing.{confirmed_unchecked, confirmed_none, confirmed_some}
use Rattle.rules.specs.File.{decode_confirmation}
use Rattle.field.proofs.Records.{records_length}
use Rattle.adds.proofs.compare.changes_confirmed.Goals as goal
use Rattle.adds.proofs.compare.changes_confirmed.Goals.{then-not-checked-via-then-not-checked, then-not-checked-via-else-not-checked+then-most-eq0}

pub returns-then-not-checked : goal.returns-then-not-checked
returns-then-not-checked c =
    elim c.then-not-checked.branch [
      | then-not-checked-via-then-not-checked w ↦
          confirmed_unchecked _ _ _ (records_length 16 decode_confirmation _ _) c.requires.2 (ap not w.if-not-checked.true)
      | then-not-checked-via-else-not-checked+then-most-eq0 w ↦
          confirmed_none _ _ _ (records_length 16 decode_confirmation _ _) c.requires.2 w.if-most-eq0.true
    ]

pub returns : goal.returns
returns c =
    confirmed_some _ _ _ (records_length 16 decode_confirmation _ _) c.requires.2 (ap not c.if-not-checked.false) c.if-most-eq0.false
    c.first_arriving-first.ensures.1 c.absorbs.ensures
