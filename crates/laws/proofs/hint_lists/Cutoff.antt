-- A cutoff drops the same hints as the ranks. Assumes nothing.
use mathlib.Core.Path.{◌≡◌, refl, sym, ap, ◌∙◌}
use mathlib.Core.Bool.{Bool, true, false, ◌&&◌}
use mathlib.Core.List.{List}
use Prim.Native.Nat.{ℕ, zero, suc, ◌+◌, ◌-◌, ◌<◌, ◌≤◌}
use native.Mathlib.Omega.{arith}
use lib.Dec.{leb, ltb, eqb}
use lib.ListN.{length}
use borrow.Author.Tests.{ltb-true, ltb-false, lt-ltb, le-ltb, le-leb, lt-leb, eq-eqb, ne_eqb}
use Rattle.rules.specs.declared.Hint.{Hint}
use Rattle.rules.specs.Hints.{count_of, gap, smaller, rank, kept, thin}
use Rattle.laws.specs.Cutoff.{below, level, stays, Cuts}
use Rattle.rules.proofs.Tests.{test, order}
use Rattle.laws.proofs.hint_lists.Ranks.{one, count_next, count_same, count_mono}

-- ---- counting in parts
pub count_split : (p q r : ℕ → Bool) (n : ℕ) → ((k : ℕ) → one (p k) ≡ one (q k) + one (r k)) → count_of p n ≡ count_of q n + count_of r n
unfolding count_of
count_split p q r zero h = refl
count_split p q r (suc n) h = omega (arith, count_split p q r n h, h n)

-- those of the first i
pub count_first : (p : ℕ → Bool) (i d : ℕ) → count_of (λ k. p k && ltb k i) (i + d) ≡ count_of p i
count_first p i zero =
    let z : i + 0 ≡ i = omega arith in
    rw z (count_same (λ k. p k && ltb k i) p i (λ k h. rw (lt-ltb k i h) (test (p k) (λ e. rw e) (λ e. rw e))))
count_first p i (suc d) =
    let z : i + suc d ≡ suc (i + d) = omega arith in
    let f : (p (i + d) && ltb (i + d) i) ≡ false = rw (le-ltb (i + d) i (omega arith)) (test (p (i + d)) (λ e. rw e) (λ e. rw e)) in
    rw (z, count_next (λ k. p k && ltb k i) (i + d), f, count_first p i d) (omega arith)

-- more numbers, more that pass
pub count_past : (p : ℕ → Bool) (i d : ℕ) → p i ≡ true → count_of p i < count_of p (suc i + d)
unfolding count_of
count_past p i zero e = let z : suc i + 0 ≡ suc i = omega arith in rw (z, e) (omega arith)
count_past p i (suc d) e = let z : suc i + suc d ≡ suc (suc i + d) = omega arith in rw z (omega (arith, count_past p i d e))

module _ (hs : List Hint) where
  -- those below g + 1 are those below g and those at g
  pub below_next : (g n : ℕ) → count_of (below hs (g + 1)) n ≡ count_of (below hs g) n + count_of (level hs g) n
  unfolding below level
  below_next g n =
      count_split (λ k. ltb (gap hs k) (g + 1)) (λ k. ltb (gap hs k) g) (λ k. eqb (gap hs k) g) n
      (λ k. order (gap hs k) g (λ l. rw (lt-ltb (gap hs k) (g + 1) (omega arith), lt-ltb (gap hs k) g l, ne_eqb (gap hs k) g (λ e. omega arith)))
      (λ l. rw (le-ltb (gap hs k) (g + 1) (omega arith), le-ltb (gap hs k) g (omega arith), ne_eqb (gap hs k) g (λ e. omega arith)))
      (λ e. rw (lt-ltb (gap hs k) (g + 1) (omega arith), le-ltb (gap hs k) g (omega arith), eq-eqb (gap hs k) g e)))

  pub below_mono : (g h n : ℕ) → g ≤ h → count_of (below hs g) n ≤ count_of (below hs h) n
  unfolding below
  below_mono g h n l =
      count_mono (λ k. ltb (gap hs k) g) (λ k. ltb (gap hs k) h) (λ k e. let w = ltb-true (gap hs k) g e in lt-ltb (gap hs k) h (omega arith)) n

  -- the rank: those below, and those before at the same gap
  pub rank_split : (i : ℕ) → i ≤ length hs → rank hs i ≡ count_of (below hs (gap hs i)) (length hs) + count_of (level hs (gap hs i)) i
  unfolding rank below level smaller
  rank_split i h =
      let g = gap hs i in let z : i + (length hs - i) ≡ length hs = omega arith in
      count_split (smaller hs i) (λ k. ltb (gap hs k) g) (λ k. eqb (gap hs k) g && ltb k i) (length hs)
      (λ k. order (gap hs k) g (λ l. rw (lt-ltb (gap hs k) g l, ne_eqb (gap hs k) g (λ e. omega arith)))
      (λ l. rw (le-ltb (gap hs k) g (omega arith), ne_eqb (gap hs k) g (λ e. omega arith))) (λ e. rw (le-ltb (gap hs k) g (omega arith)) (omega arith))) ∙
      ap (λ (m : ℕ). count_of (λ k. ltb (gap hs k) g) (length hs) + m) (rw z at (count_first (λ k. eqb (gap hs k) g) i (length hs - i)))

  leb_add : (a r m : ℕ) → leb (a + r) (a + m) ≡ leb r m
  leb_add a r m =
      test (ltb m r) (λ e. let w = ltb-true m r e in lt-leb (a + r) (a + m) (omega arith) ∙ sym (lt-leb r m w))
      (λ e. let w = ltb-false m r e in le-leb (a + r) (a + m) (omega arith) ∙ sym (le-leb r m w))

  level_here : (i : ℕ) → level hs (gap hs i) i ≡ true
  unfolding level
  level_here i = eq-eqb (gap hs i) (gap hs i) refl

  pub stays_rank : (e c r i : ℕ) → Cuts hs (length hs) e c r → i < length hs → stays hs c r i ≡ leb e (rank hs i)
  unfolding stays
  stays_rank e c r i k h =
      let n = length hs in let g = gap hs i in let rk = rank_split i (omega arith) in
      order g c
      (λ l. let z : suc i + (n - suc i) ≡ n = omega arith in let past = rw z at (count_past (level hs g) i (n - suc i) (level_here i)) in
      let lt : rank hs i < e = omega (arith, below_next g n, below_mono (g + 1) c n (omega arith), k.sum) in
      rw (le-ltb c g (omega arith), ne_eqb g c (λ z. omega arith), lt-leb e (rank hs i) lt))
      (λ l. let ge : e ≤ rank hs i = omega (arith, below_mono (c + 1) g n (omega arith), k.most) in rw (lt-ltb c g l, le-leb e (rank hs i) ge))
      (λ q. rw (le-ltb c g (omega arith), eq-eqb g c q, rk, q, ← k.sum) (sym (leb_add (count_of (below hs c) n) r (count_of (level hs c) i))))

pub kept_same : (p q : ℕ → Bool) (hs : List Hint) (n : ℕ) → ((k : ℕ) → k < n → p k ≡ q k) → kept p hs n ≡ kept q hs n
unfolding kept
kept_same p q hs zero h = refl
kept_same p q hs (suc n) h = rw (kept_same p q hs n (λ k l. h k (omega arith)), h n (omega arith))

-- the cutoff thins as the ranks do
pub thin_cut : (hs : List Hint) (most c r : ℕ) → Cuts hs (length hs) (length hs - most) c r → kept (stays hs c r) hs (length hs) ≡ thin most hs
unfolding thin
thin_cut hs most c r k = kept_same (stays hs c r) (λ i. leb (length hs - most) (rank hs i)) hs (length hs) (λ i h. stays_rank hs (length hs - most) c r i k h)
