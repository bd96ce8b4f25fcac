-- Demand 3, of a single merge of any two lists.
use Rattle.std.specs.Prelude.{ℕ, ◌≤◌, ◌≡◌}
use Rattle.rules.specs.Tests.{Accepted}
use Rattle.rules.specs.Values.{Index, Lengths}
use Rattle.rules.specs.Merge.{merge}
use Rattle.rules.specs.Plan.{jump}

-- no accepted merge moves a jump's start backwards, whichever frame t is sought
abbrev pub JumpNotBack : Type 0
JumpNotBack = (l m : Lengths) (own other y : Index) (t : ℕ) → merge l own m other ≡ Accepted y
    → jump own.scan t ≤ jump y.scan t
