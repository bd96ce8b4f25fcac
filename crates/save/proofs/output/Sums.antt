-- Sections of a file with their sums. Assumes nothing.
use mathlib.Core.Path.{◌≡◌, sym, ap, ◌∙◌}
use mathlib.Core.List.{List, ◌++◌}
use Prim.Native.Nat.{ℕ, ◌+◌, ◌-◌, ◌≤◌}
use native.Mathlib.Omega.{arith}
use lib.ListN.{length, take, drop, length-append}
use lib.Seq.{sets-eq, take_at, length-take-le}
use Rattle.fnv.specs.Fnv.{fnv_from, fnv64, basis64, prime64}
use Rattle.fnv.proofs.Hash.{joined}
use Rattle.save.specs.Output.{Filled, Summed, up_to, SumSoFar}
use Rattle.save.specs.declared.output.Written.{Written}
use Rattle.save.proofs.output.Stretches.{lent, put_both}

-- the sum of one stretch and another
pub sum_both : (u : ℕ) (s r : List ℕ) {v w : ℕ} → v ≡ fnv_from 64 prime64 u s → w ≡ fnv_from 64 prime64 v r → w ≡ fnv_from 64 prime64 u (s ++ r)
sum_both u s r e f = f ∙ ap (λ (x : ℕ). fnv_from 64 prime64 x r) e ∙ sym (joined 64 prime64 u s r)

module _ {s r : List ℕ} {k m : ℕ} {a b c : List ℕ} {w p q : Written} where
  -- one section behind another
  pub summed_both : Summed s k a w p b → Summed r m b p q c → Summed (s ++ r) (k + m) a w q c
  summed_both x y = record { put = put_both x.put y.put; sum = sum_both w.sum s r x.sum y.sum }

-- a stretch that is lent whole
pub summed_lent : {y : List ℕ} (s : List ℕ) (k : ℕ) (o : List ℕ) (w : Written) (to sum : ℕ) → length s ≡ k → to ≡ w.next + k → to ≤ length o
    → Filled s (take (to - w.next) (drop w.next o)) w.sum sum y
    → Summed s k o w (up_to to sum) (take w.next o ++ (y ++ drop (to - w.next) (drop w.next o)))
summed_lent s k o w to sum l e h f = record { put = lent s k o w.next to l e h f.bytes; sum = f.sum }

pub sum_so_far : SumSoFar
sum_so_far s k old w r new h x e =
    let n = w.next in
    let g : n + length s ≤ length old = omega (arith, x.put.size) in
    let l : length (take n old ++ s) ≡ r.next = simp length-append (rw (length-take-le n old (omega arith)) (omega (arith, x.put.size, x.put.ends))) in
    let t : take r.next new ≡ take n old ++ s =
    ap (take r.next) (x.put.bytes ∙ sets-eq s old n g) ∙ take_at (take n old ++ s) (drop (n + length s) old) r.next l in
    sum_both basis64 (take n old) s e x.sum ∙ ap fnv64 (sym t)
