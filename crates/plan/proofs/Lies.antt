-- What part_bytes returns where the bytes lie in the store. Assumes nothing.
use mathlib.Core.Path.{◌≡◌}
use mathlib.Core.Bool.{true}
use mathlib.Core.List.{List}
use Prim.Native.Nat.{ℕ}
use lib.ListN.{take, drop}
use Rattle.rules.specs.Plan.{bytes_at}
use Rattle.plan.specs.Plan.{lies_in}

pub lies_bytes : (store : List ℕ) (offset len : ℕ) → lies_in store offset len ≡ true
    → bytes_at store offset len ≡ take len (drop offset store)
unfolding bytes_at lies_in
lies_bytes store offset len e = rw e
