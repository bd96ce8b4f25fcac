use Prim.Native.Nat.{◌≤◌}
use Rattle.rules.specs.Sections.{kept_count}
use Rattle.tables.specs.Tables.{decode_kept, kept_in}
use Rattle.tables.proofs.Rest.{Rest}
use Rattle.keep_hint.proofs.Places.{count_from}
use Rattle.keep_hint.proofs.kept_count.Given as goal

abbrev pub invariant-loop-j : goal.invariant-loop-j
invariant-loop-j l = (l.kept ≤ l.j) × Rest 8 decode_kept l.n l.hints (count_from l.kept) (kept_count (kept_in l.n l.hints)) l.j
