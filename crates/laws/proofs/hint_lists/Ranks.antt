-- Counting, and ranks in a strict order: as many ranks reach e as there are places from e on. Assumes nothing.
use mathlib.Core.Path.{◌≡◌, refl, ◌∙◌}
use mathlib.Core.Bool.{Bool, true, false, cond}
use Prim.Native.Nat.{ℕ, zero, suc, ◌+◌, ◌-◌, ◌<◌, ◌≤◌}
use native.Mathlib.Omega.{arith}
use lib.Dec.{leb}
use borrow.Author.Tests.{leb-true, leb-false, le-leb, lt-leb}
use Rattle.rules.specs.Hints.{count_of}
use Rattle.rules.proofs.Tests.{test}

-- ---- counting
abbrev pub one : Bool → ℕ
one b = cond b 1 0

pub count_none : (p : ℕ → Bool) → count_of p 0 ≡ 0
unfolding count_of
count_none p = refl

pub count_next : (p : ℕ → Bool) (n : ℕ) → count_of p (suc n) ≡ count_of p n + one (p n)
unfolding count_of
count_next p n = refl

pub count_le : (p : ℕ → Bool) (n : ℕ) → count_of p n ≤ n
unfolding count_of
count_le p zero = omega arith
count_le p (suc n) = test (p n) (λ e. rw e (omega (arith, count_le p n))) (λ e. rw e (omega (arith, count_le p n)))

pub count_same : (p q : ℕ → Bool) (n : ℕ) → ((k : ℕ) → k < n → p k ≡ q k) → count_of p n ≡ count_of q n
unfolding count_of
count_same p q zero h = refl
count_same p q (suc n) h = rw (count_same p q n (λ k l. h k (omega arith)), h n (omega arith))

pub count_every : (p : ℕ → Bool) (n : ℕ) → ((k : ℕ) → k < n → p k ≡ true) → count_of p n ≡ n
unfolding count_of
count_every p zero h = refl
count_every p (suc n) h = rw (count_every p n (λ k l. h k (omega arith)), h n (omega arith)) (omega arith)

module _ (p q : ℕ → Bool) (h : (k : ℕ) → p k ≡ true → q k ≡ true) where
  one_mono : (n : ℕ) → one (p n) ≤ one (q n)
  one_mono n = test (p n) (λ e. rw (e, h n e) (omega arith)) (λ e. rw e (omega arith))

  pub count_mono : (n : ℕ) → count_of p n ≤ count_of q n
  unfolding count_of
  count_mono zero = omega arith
  count_mono (suc n) = omega (arith, count_mono n, one_mono n)

  -- one more that passes q alone
  pub count_more : (n d : ℕ) → p n ≡ false → q n ≡ true → count_of p (suc n + d) < count_of q (suc n + d)
  unfolding count_of
  count_more n zero e f = let z : suc n + 0 ≡ suc n = omega arith in rw (z, e, f) (omega (arith, count_mono n))
  count_more n (suc d) e f = let z : suc n + suc d ≡ suc (suc n + d) = omega arith in rw z (omega (arith, count_more n d e f, one_mono (suc n + d)))

-- ---- ranks: s i k says that k goes before i
-- the rank of i among the first n
abbrev pub rank_in : (ℕ → ℕ → Bool) → ℕ → ℕ → ℕ
rank_in s n i = count_of (s i) n

module _ (s : ℕ → ℕ → Bool) (self : (i : ℕ) → s i i ≡ false) (chain : (i j k : ℕ) → s i j ≡ true → s j k ≡ true → s i k ≡ true)
    (total : (i j : ℕ) → i < j → s i j ≡ false → s j i ≡ true) where
  rank_over : (n i : ℕ) → s i n ≡ true → rank_in s n n ≤ rank_in s n i
  rank_over n i e = count_mono (s n) (s i) (λ k f. chain i n k e f) n

  rank_under : (n i : ℕ) → i < n → s i n ≡ false → rank_in s n i < rank_in s n n
  rank_under n i l e =
      let t = total i n l e in let z : suc i + (n - suc i) ≡ n = omega arith in
      rw z at (count_more (s i) (s n) (λ k f. chain n i k t f) i (n - suc i) (self i) t)

  -- the next place leaves ranks up to its own, and moves the others up
  leb_low : (e n i : ℕ) → e ≤ rank_in s n n → i < n → leb e (rank_in s (suc n) i) ≡ leb e (rank_in s n i)
  leb_low e n i h l =
      test (s i n) (λ t. rw (count_next (s i) n, t, le-leb e (rank_in s n i) (omega (arith, rank_over n i t)), le-leb e (rank_in s n i + 1) (omega (arith, rank_over n i t))))
      (λ t. let z : rank_in s n i + 0 ≡ rank_in s n i = omega arith in rw (count_next (s i) n, t, z))

  leb_high : (e n i : ℕ) → rank_in s n n < e → i < n → leb e (rank_in s (suc n) i) ≡ leb (e - 1) (rank_in s n i)
  leb_high e n i h l =
      test (s i n)
      (λ t. test (leb (e - 1) (rank_in s n i)) (λ f. rw (count_next (s i) n, t, f) (le-leb e (rank_in s n i + 1) (omega (arith, leb-true (e - 1) (rank_in s n i) f))))
      (λ f. rw (count_next (s i) n, t, f) (lt-leb e (rank_in s n i + 1) (omega (arith, leb-false (e - 1) (rank_in s n i) f)))))
      (λ t. rw (count_next (s i) n, t, lt-leb e (rank_in s n i + 0) (omega (arith, rank_under n i l t)), lt-leb (e - 1) (rank_in s n i) (omega (arith, rank_under n i l t))))

  own : (n : ℕ) → rank_in s (suc n) n ≡ rank_in s n n
  own n = rw (count_next (s n) n, self n) (omega arith)

  -- e at most the next place's rank, or above it
  pub ranks : (e n : ℕ) → count_of (λ i. leb e (rank_in s n i)) n ≡ n - e
  ranks e zero = rw (count_none (λ i. leb e (rank_in s 0 i))) (omega arith)
  ranks e (suc n) =
      let p : ℕ → Bool = λ i. leb e (rank_in s (suc n) i) in
      count_next p n ∙
      test (leb e (rank_in s n n))
      (λ t. let l = leb-true e (rank_in s n n) t in
      rw (own n, t, count_same p (λ i. leb e (rank_in s n i)) n (λ i k. leb_low e n i l k), ranks e n) (omega (arith, count_le (s n) n)))
      (λ t. let l = leb-false e (rank_in s n n) t in
      rw (own n, t, count_same p (λ i. leb (e - 1) (rank_in s n i)) n (λ i k. leb_high e n i l k), ranks (e - 1) n) (omega arith))
