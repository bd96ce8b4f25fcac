use Rattle.tables.specs.Tables.{lsns_in}
use Rattle.rules.specs.Sections.{rising_ok, risen, own_lsn, any_lsn, rising}
use Rattle.rules.specs.File.{decode_lsn}
use Rattle.tables.proofs.Walk.{Walk}
use Rattle.sections.proofs.records.check_lsns.Given as goal

abbrev pub invariant-loop-j : goal.invariant-loop-j
invariant-loop-j l = Walk 4 decode_lsn (rising_ok own_lsn any_lsn l.front) (risen own_lsn) l.m l.section (rising own_lsn any_lsn l.initial.floor l.front (lsns_in l.m l.section)) l.j l.floor
