use Rattle.std.proofs.Common.{◌≡◌, ◌<◌}
use Rattle.std.specs.Option.{IfSome}
use Rattle.tables.specs.Tables.{confirmations_in, kept_in}
use Rattle.hint.specs.Steps.{place_of, largest_in}
use Rattle.hint.proofs.nearest.largest.Given as goal

abbrev pub invariant-loop-j : goal.invariant-loop-j
invariant-loop-j l = IfSome l.best (λ i. i < l.j)
    × (place_of l.best ≡ largest_in l.checked l.any (kept_in l.n l.hints) (confirmations_in l.m l.confirmed) l.first l.j)
