-- What loading a disc file leaves in the blocks. Assumes nothing.
use mathlib.Core.Path.{◌≡◌}
use mathlib.Core.List.{List}
use Prim.Native.Nat.{ℕ}
use Rattle.rules.specs.File.{over}
use Rattle.blocks.specs.Blocks.{block_of}
use Rattle.blocks.specs.Calls.{called, two}
use Rattle.rules_disc.specs.declared.Listed.{Listed}
use Rattle.rules_disc.specs.declared.Loaded.{Loaded}
use Rattle.rules_disc.specs.declared.Loaded.TheVariants as loaded
use Rattle.player_disc.specs.Block.{called_lists, listed_into, loaded_into}

pub lists_put : (h g b : List ℕ) {h' g' b' : List ℕ} {p q : ℕ} {r : Loaded} {x y : Listed} → r ≡ loaded.Lists x y → called p h' ≡ listed_into h x
    → called q g' ≡ listed_into g y → b' ≡ over (block_of (two p q)) b → called_lists 0 h' g' b' ≡ loaded_into h g b r
unfolding loaded_into
lists_put h g b {h'} {g'} {b'} {p} {q} e f k w = rw (e, w, ← f, ← k)
