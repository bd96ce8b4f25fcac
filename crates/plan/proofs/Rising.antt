-- The thresholds of checkpoints that are in order do not fall. Assumes nothing.
use mathlib.Core.Path.{◌≡◌}
use mathlib.Core.Bool.{true, ◌&&◌}
use mathlib.Core.List.{List, [], ◌∷◌}
use Prim.Native.Nat.{ℕ, zero, suc, ◌<◌, ◌≤◌}
use native.Mathlib.Nat.{le_trans}
use native.Mathlib.Omega.{arith}
use borrow.Author.Tests.{leb-true}
use lib.ListN.{length}
use Rattle.field.proofs.Records.{records_length, records_at}
use Rattle.rules.specs.declared.Checkpoint.{Checkpoint}
use Rattle.rules.specs.Tests.{walk}
use Rattle.rules.specs.Values.{no_checkpoint, checkpoint_at}
use Rattle.rules.specs.Sections.{Passed, passed, begun, checkpoint_ok, checkpoints_ok}
use Rattle.rules.specs.File.{decode_checkpoint}
use Rattle.tables.specs.Tables.{checkpoints_in}
use Rattle.plan.specs.Search.{Rising}
use Rattle.index.proofs.Numbers.{test, first, second}

grown : (k : ℕ) (s : Passed) (c : Checkpoint) → checkpoint_ok k s c ≡ true → s.threshold ≤ c.threshold
unfolding checkpoint_ok
grown k s c e = leb-true _ _ (test _ e 0)

module _ (k : ℕ) (s : Passed) (c : Checkpoint) (cs : List Checkpoint)
    (e : (checkpoint_ok k s c && walk (checkpoint_ok k) passed (passed s c) cs) ≡ true) where
  head : s.threshold ≤ c.threshold
  head = grown k s c (first (checkpoint_ok k s c) (walk (checkpoint_ok k) passed (passed s c) cs) e)

  tail : walk (checkpoint_ok k) passed (passed s c) cs ≡ true
  tail = second (checkpoint_ok k s c) (walk (checkpoint_ok k) passed (passed s c) cs) e

low : (k : ℕ) (s : Passed) (cs : List Checkpoint) → walk (checkpoint_ok k) passed s cs ≡ true → (i : ℕ) → i < length cs
    → s.threshold ≤ (checkpoint_at cs i).threshold
unfolding walk
low k s [] e i h = let z : ⊥ = omega arith in absurd z
low k s (c ∷ cs) e zero h = head k s c cs e
low k s (c ∷ cs) e (suc i) h =
    let l : i < length cs = omega arith in
    le_trans (head k s c cs e) (low k (passed s c) cs (tail k s c cs e) i l)

order : (k : ℕ) (s : Passed) (cs : List Checkpoint) → walk (checkpoint_ok k) passed s cs ≡ true
    → (i j : ℕ) → i ≤ j → j < length cs → (checkpoint_at cs i).threshold ≤ (checkpoint_at cs j).threshold
unfolding walk
order k s [] e i j h l = let z : ⊥ = omega arith in absurd z
order k s (c ∷ cs) e zero zero h l = omega arith
order k s (c ∷ cs) e zero (suc j) h l = low k (passed s c) cs (tail k s c cs e) j (omega arith)
order k s (c ∷ cs) e (suc i) zero h l = let z : ⊥ = omega arith in absurd z
order k s (c ∷ cs) e (suc i) (suc j) h l = order k (passed s c) cs (tail k s c cs e) i j (omega arith) (omega arith)

pub rising : (k n : ℕ) (t : List ℕ) → checkpoints_ok k 0 (checkpoints_in n t) ≡ true → Rising n t
unfolding checkpoints_ok
rising k n t e = record {
  keys = λ i j h l.
      let l' : j < length (checkpoints_in n t) = rw records_length l in
      let i' : i < n = omega arith in
      rw (← records_at 24 decode_checkpoint n t i no_checkpoint i', ← records_at 24 decode_checkpoint n t j no_checkpoint l)
      (order k (begun 0) (checkpoints_in n t) e i j h l');
}
