-- What the call answers where its head is one and its block long enough, from what the calls in it ensure. Assumes nothing.
use mathlib.Core.Path.{◌≡◌}
use mathlib.Core.Bool.{true}
use mathlib.Core.List.{List}
use Prim.Native.Nat.{ℕ, ◌≤◌}
use lib.ListN.{length}
use Rattle.rules.specs.declared.AreaIndex.{AreaIndex}
use Rattle.blocks.specs.Blocks.{index_words, is_index}
use Rattle.tables.specs.Index.{Tables, made_out}
use Rattle.rules.specs.declared.Made.{Made}
use Rattle.index.specs.Index.{made_of}
use Rattle.coarsen.specs.Coarsen.{coarse_in}
use Rattle.blocks.specs.Calls.{called, into, head_index}
use Rattle.player.specs.Player.{called_over, coarse_call}
use Rattle.blocks.proofs.calls.Blocks.{long_enough, is_head_lemma}

pub coarse_done : (b b' : List ℕ) (n : ℕ) → 192 ≤ length b → (h : List ℕ) → is_index h ≡ true → (x : AreaIndex) (k : ℕ) (t u u' : Tables) (r : Made)
    → called n b' ≡ into index_words b (made_of r) → made_out r u' ≡ coarse_in x t k u → x ≡ head_index h → called_over n b' u' ≡ coarse_call h k b t u
unfolding coarse_call
coarse_done b b' n l h g x k t u u' r p e z = is_head_lemma _ _ _ g (long_enough b _ _ l (rw (← z, ← e, p)))
