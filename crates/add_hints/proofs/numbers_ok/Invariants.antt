use mathlib.Core.Path.{◌≡◌}
use Rattle.rules.specs.Tests.{each}
use Rattle.rules.specs.Sections.{hint_ok}
use Rattle.rules.specs.File.{decode_hint}
use Rattle.laws.specs.Passes.{between}
use Rattle.tables.specs.Tables.{hints_in}
use Rattle.add_hints.proofs.numbers_ok.Given as goal

abbrev pub invariant-loop-i : goal.invariant-loop-i
invariant-loop-i l = each hint_ok (between 8 decode_hint l.i l.n l.list) ≡ each hint_ok (hints_in l.n l.list)
