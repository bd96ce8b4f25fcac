use Rattle.rules.specs.Hints.{place_of}
use Rattle.tables.specs.Tables.{decode_kept, kept_in}
use Rattle.tables.proofs.Rest.{Rest}
use Rattle.keep_hint.proofs.Places.{place_from}
use Rattle.keep_hint.proofs.place_of.Given as goal

abbrev pub invariant-loop-j : goal.invariant-loop-j
invariant-loop-j l = Rest 8 decode_kept l.n l.hints (place_from l.lsn l.j) (place_of l.lsn (kept_in l.n l.hints)) l.j
