use Rattle.adds.proofs.compare.Passing.{hints_none, hints_answered}
use Rattle.field.proofs.Records.{records_length}
use Rattle.add_hints.proofs.Arriving.{unkept_in_lemma}
use Rattle.tables.specs.Tables.{decode_kept}
use Rattle.adds.proofs.compare.changes_hints.Goals as goal

pub returns-then-most-eq0 : goal.returns-then-most-eq0
returns-then-most-eq0 c = hints_none _ _ c.if-most-eq0.true

pub returns : goal.returns
returns c =
    hints_answered _ _ (records_length 8 decode_kept _ _) c.requires.2 c.if-most-eq0.false
    c.weigh.ensures (unkept_in_lemma _ _) c.changed_by.ensures
