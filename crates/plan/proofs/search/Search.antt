-- The last checkpoint not above a frame, by halves. Assumes nothing.
use mathlib.Core.Path.{◌≡◌, refl, sym, ap, ◌∙◌}
use mathlib.Core.Bool.{true, false}
use mathlib.Core.List.{List}
use Prim.Native.Nat.{ℕ, zero, suc, ◌+◌, ◌-◌, ◌<◌, ◌≤◌}
use native.Mathlib.Omega.{arith}
use borrow.Author.Tests.{le-leb, lt-leb}
use lib.Dec.{leb}
use Rattle.field.specs.Records.{record_at}
use Rattle.field.proofs.Records.{records_at}
use Rattle.rules.specs.declared.Checkpoint.{Checkpoint}
use Rattle.rules.specs.Values.{no_checkpoint, checkpoint_at}
use Rattle.rules.specs.File.{decode_checkpoint}
use Rattle.rules.specs.Plan.{last_not_above}
use Rattle.tables.specs.Tables.{checkpoints_in}
use Rattle.plan.specs.Search.{last_in}
use Rattle.plan.proofs.Halves.{Halves}

-- ---- the search: no threshold before lo is above f, and each from hi on is
abbrev key : List ℕ → ℕ → ℕ
key t i = (record_at 24 decode_checkpoint t i).threshold

abbrev pub Search : ℕ → List ℕ → ℕ → ℕ → ℕ → Type 0
Search n t f = Halves n (λ i. key t i ≤ f) (λ i. f < key t i)

-- what is known of the last by its tests
last_by : (f : ℕ) (cs : List Checkpoint) (lo d : ℕ) → ((i : ℕ) → i < lo → leb (checkpoint_at cs i).threshold f ≡ true)
    → ((i : ℕ) → lo ≤ i → i < lo + d → leb (checkpoint_at cs i).threshold f ≡ false)
    → last_in lo ≡ last_not_above f cs (lo + d)
unfolding last_not_above last_in
last_by f cs zero zero p q = refl
last_by f cs (suc lo) zero p q =
    sym (ap (last_not_above f cs) (let z : suc lo + 0 ≡ suc lo = omega arith in z) ∙ rw (p lo (omega arith)))
last_by f cs lo (suc d) p q =
    last_by f cs lo d p (λ i a b. q i a (omega arith))
    ∙ sym (ap (last_not_above f cs) (let z : lo + suc d ≡ suc (lo + d) = omega arith in z)
    ∙ rw (q (lo + d) (omega arith) (omega arith)))

pub search_end : {n f lo hi : ℕ} (t : List ℕ) → Search n t f lo hi → hi ≤ lo
    → last_in lo ≡ last_not_above f (checkpoints_in n t) n
search_end {n} {f} {lo} {hi} t s h =
    let q : lo + (n - lo) ≡ n = omega arith in
    last_by f (checkpoints_in n t) lo (n - lo)
    (λ i l. rw (records_at 24 decode_checkpoint n t i no_checkpoint (omega arith)) (le-leb _ _ (s.below i l)))
    (λ i a b. rw (records_at 24 decode_checkpoint n t i no_checkpoint (omega arith))
    (lt-leb _ _ (s.above i (omega arith) (omega arith))))
    ∙ ap (last_not_above f (checkpoints_in n t)) q
