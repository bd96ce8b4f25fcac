-- What the call answers where its blocks are heads and long enough, from what the calls in it ensure. Assumes nothing.
use mathlib.Core.Path.{◌≡◌}
use mathlib.Core.Bool.{true}
use mathlib.Core.List.{List}
use Prim.Native.Nat.{ℕ, ◌≤◌}
use lib.ListN.{length}
use Rattle.rules.specs.declared.AreaIndex.{AreaIndex}
use Rattle.rules_lacks.specs.declared.Lacks.{Lacks}
use Rattle.rules.specs.Tests.{Answer}
use Rattle.blocks.specs.Blocks.{is_index}
use Rattle.tables.specs.Index.{Tables}
use Rattle.lacks.specs.Lacks.{lacks_in}
use Rattle.blocks.specs.Calls.{called, into, head_index}
use Rattle.player.specs.Player.{lacks_words, lacks_call}
use Rattle.blocks.proofs.calls.Blocks.{long_enough, is_head_lemma}

pub lacks_done : (b b' : List ℕ) (n : ℕ) → 192 ≤ length b → (g : List ℕ) → is_index g ≡ true → (x y : AreaIndex) → y ≡ head_index g → (t u : Tables) (h : List ℕ) → is_index h ≡ true
    → (r : Answer Lacks) → called n b' ≡ into lacks_words b r → r ≡ lacks_in x t y u → x ≡ head_index h → called n b' ≡ lacks_call h g b t u
unfolding lacks_call
lacks_done b b' n l g m x y w t u h k r p e z = is_head_lemma _ _ _ k (is_head_lemma _ _ _ m (long_enough b _ _ l (rw (← z, ← w, ← e) p)))
