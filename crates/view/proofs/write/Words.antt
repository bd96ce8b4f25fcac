-- Bytes set at the start of a stretch. Assumes nothing.
use mathlib.Core.Path.{◌≡◌, ◌∙◌}
use mathlib.Core.List.{List}
use Prim.Native.Nat.{ℕ, ◌+◌, ◌≤◌}
use native.Mathlib.Nat.{zero-add}
use native.Mathlib.Omega.{arith}
use lib.ListN.{length}
use lib.Seq.{sets, sets-eq}
use Rattle.rules.specs.File.{over}

-- what is set at the start lies over it
pub sets_over : (s : List ℕ) (k : ℕ) (t : List ℕ) → length s ≡ k → k ≤ length t → sets t 0 s ≡ over s t
sets_over s k t l h =
    let f : 0 + length s ≤ length t = omega arith in
    sets-eq s t 0 f ∙ rw (zero-add (length s))
