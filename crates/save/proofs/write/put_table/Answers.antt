use mathlib.Core.Path.{◌≡◌, ◌∙◌}
use mathlib.Core.List.{List, ◌++◌}
use Prim.Native.Nat.{ℕ, ◌+◌, ◌-◌, ◌≤◌}
use native.Mathlib.Omega.{arith}
use lib.ListN.{length, take, drop}
use lib.Seq.{length-take-le}
use Rattle.fnv.specs.Fnv.{fnv_from, prime64}
use Rattle.save.specs.Output.{Filled, Summed, up_to}
use Rattle.save.specs.declared.output.Written.{Written}
use Rattle.save.proofs.output.Sums.{summed_lent}
use Rattle.save.proofs.write.put_table.Goals as goal

-- the first k bytes of a table over the start of a stretch
filled_first : {y : List ℕ} (t o : List ℕ) (k u v : ℕ) → k ≤ length t
    → (y ≡ take k t ++ drop k o) × (v ≡ fnv_from 64 prime64 u (take k t)) → Filled (take k t) o u v y
filled_first t o k u v h c = record { bytes = c.0 ∙ rw (length-take-le k t h); sum = c.1 }

-- the stretch that is lent begins where the output is written up to
first_lent : {y : List ℕ} (t : List ℕ) (k : ℕ) (o : List ℕ) (w : Written) (at to sum : ℕ) → k ≤ length t → at ≡ w.next → to ≡ w.next + k → to ≤ length o
    → (y ≡ take k t ++ drop k (take (to - at) (drop at o))) × (sum ≡ fnv_from 64 prime64 w.sum (take k t))
    → Summed (take k t) k o w (up_to to sum) (take at o ++ (y ++ drop (to - at) (drop at o)))
first_lent t k o w at to sum h b e l c =
    rw b (summed_lent (take k t) k o w to sum (length-take-le k t h) e l (filled_first t _ k w.sum sum h (rw b at c)))

pub returns : goal.returns
returns c = first_lent _ _ _ _ _ _ _ c.requires.0 (omega arith) (omega arith) (omega (arith, c.requires.1)) c.copy_first_summed-sum.ensures
