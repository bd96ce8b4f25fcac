-- An answer into a block: a refusal leaves it, what is accepted is written over its start. Assumes nothing.
use Prim.Native.Nat.{ℕ}
use mathlib.Core.Path.{◌≡◌}
use mathlib.Core.List.{List}
use Rattle.rules.specs.File.{over}
use Rattle.rules.specs.Tests.{Answer, Refused, Accepted}
use Rattle.blocks.specs.Blocks.{block_of}
use Rattle.blocks.specs.Calls.{called, into}

module _ {A : Type 0} (words : A → List ℕ) (b : List ℕ) {r : Answer A} where
  pub refused : {n : ℕ} → r ≡ Refused n → called n b ≡ into words b r
  unfolding into
  refused e = rw e

  -- ws are written, and out is the block afterwards
  pub accepted : {x : A} {ws out : List ℕ} → r ≡ Accepted x → out ≡ over (block_of ws) b → ws ≡ words x
      → called 0 out ≡ into words b r
  unfolding into
  accepted e o w = rw (e, o, w)
