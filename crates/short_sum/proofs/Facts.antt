-- The facts of FNV-1a and of its folded sums, proved once over the width. Assumes nothing.
use mathlib.Core.Path.{◌≡◌}
use mathlib.Core.Bool.{true, and-eq-true_iff}
use Prim.Native.Nat.{ℕ, ◌+◌, ◌/◌, ◌%◌, ◌^◌, ◌<◌, ◌≤◌}
use native.Mathlib.Nat.{mod-lt, lt_of_lt_of_le}
use native.Mathlib.Omega.{arith}
use lib.Dec.{leb, ltb}
use borrow.Author.Tests.{leb-true}
use lib.Bits.{xor_lt}
use lib.Pow.{pow_pos, pow_mono, shr_lt}
use Rattle.fnv.specs.Fnv.{basis64, prime64}
use Rattle.fnv.proofs.Hash.{joined, step_last, below}
use Rattle.short_sum.specs.ShortSum.{basis32, prime32, folded, question49}
use Rattle.short_sum.specs.Statements.{AtEveryWidth, AtBoth}

half : (w k : ℕ) → question49 w k ≡ true → w ≤ k + k
unfolding question49
half w k q = leb-true w (k + k) ((and-eq-true_iff (leb w (k + k)) (ltb k w)).0 q).0

range : (w k s : ℕ) → w ≤ k + k → s < 2 ^ w → folded k s < 2 ^ k
range w k s h l = xor_lt k (s / 2 ^ k) (s % 2 ^ k) (shr_lt k k (lt_of_lt_of_le l (pow_mono h))) (mod-lt s (pow_pos k))

pub at_every_width : AtEveryWidth
at_every_width w p = record {
  stepping = step_last w p;
  joining = joined w p;
  below = below w p;
  folding = λ k s q l. range w k s (half w k q) l;
}

pub at_both : AtBoth
at_both =
    let a = at_every_width 32 prime32 in
    let b = at_every_width 64 prime64 in
    record {
      at32 = a;
      at64 = b;
      short = λ k s q. a.folding k _ q (a.below basis32 s (omega arith));
      long = λ k s q. b.folding k _ q (b.below basis64 s (omega arith));
    }
