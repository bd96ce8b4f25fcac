use Rattle.rules.specs.Sections.{rising_ok, risen, hint_lsn, hint_ok, hints_ok}
use Rattle.rules.specs.File.{decode_hint}
use Rattle.field.specs.Records.{records}
use Rattle.tables.proofs.Walk.{Walk}
use Rattle.sections.proofs.records.check_numbered.Given as goal

abbrev pub invariant-loop-j : goal.invariant-loop-j
invariant-loop-j l = Walk l.w decode_hint (rising_ok hint_lsn hint_ok l.area.end) (risen hint_lsn) l.n l.section (hints_ok l.area (records l.w decode_hint l.n l.section)) l.j l.floor
