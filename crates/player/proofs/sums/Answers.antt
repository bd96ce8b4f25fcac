-- What a call on a folded sum answers where its block is long enough, from what the calls in it ensure. Assumes nothing.
use mathlib.Core.Path.{◌≡◌}
use mathlib.Core.List.{List}
use Prim.Native.Nat.{ℕ, ◌≤◌}
use lib.ListN.{length}
use Rattle.short_sum.specs.declared.Folded.{Folded}
use Rattle.short_sum.specs.ShortSum.{fold}
use Rattle.blocks.specs.Calls.{called, into, one_word}
use Rattle.player.specs.Player.{folded_of, fold_call}
use Rattle.blocks.proofs.calls.Blocks.{long_enough}

pub fold_done : (b b' : List ℕ) (n : ℕ) → 192 ≤ length b → (w k s : ℕ) (r : Folded) → called n b' ≡ into one_word b (folded_of r) → r ≡ fold w k s
    → called n b' ≡ fold_call w k s b
unfolding fold_call
fold_done b b' n l w k s r p e = long_enough b _ _ l (rw e at p)
