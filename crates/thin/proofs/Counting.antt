-- Counting, and gaps as the passes compute them. Assumes nothing.
use mathlib.Core.Path.{◌≡◌, refl}
use mathlib.Core.Bool.{Bool, true, false}
use mathlib.Core.List.{List}
use Prim.Native.Nat.{ℕ, zero, suc, ◌+◌, ◌-◌, ◌<◌, ◌≤◌}
use native.Mathlib.Numerals.{add-one}
use native.Mathlib.Omega.{arith}
use borrow.Author.Tests.{lt-ltb, le-ltb}
use lib.Dec.{ltb}
use mir.Val.{bool_byte}
use lib.ListN.{get_or}
use Rattle.rules.specs.declared.Hint.{Hint}
use Rattle.rules.specs.Values.{no_hint}
use Rattle.rules.specs.Sections.{is_kept}
use Rattle.rules.specs.Hints.{count_of, rise, rise_at, gap}
use Rattle.rules.proofs.Tests.{test}
use Rattle.laws.proofs.hint_lists.Ranks.{count_none, count_next, count_every}
use Rattle.laws.specs.Cutoff.{below}
use Rattle.thin.specs.Thin.{one, gap_from}
use Rattle.thin.specs.Steps.{ahead}

-- ---- counting
pub one_yes : {b : Bool} → b ≡ true → one b ≡ 1
one_yes e = rw e

pub one_no : {b : Bool} → b ≡ false → one b ≡ 0
one_no e = rw e

pub one_le : (b : Bool) → one b ≤ 1
one_le true = omega arith
one_le false = omega arith

-- a Bool as the code counts it
pub byte_one : {o : ℕ} (b : Bool) → o ≡ bool_byte b → o ≡ one b
byte_one true e = e
byte_one false e = e

pub count_more : (p : ℕ → Bool) (i : ℕ) → count_of p (i + 1) ≡ count_of p i + one (p i)
count_more p i = rw add-one (count_next p i)

-- more numbers, more that pass
count_up : (p : ℕ → Bool) (i d : ℕ) → count_of p i ≤ count_of p (i + d)
count_up p i zero = let e : i + 0 ≡ i = omega arith in rw e (omega arith)
count_up p i (suc d) =
    let e : i + suc d ≡ suc (i + d) = omega arith in
    rw (e, count_next p (i + d)) (omega (arith, count_up p i d))

pub count_long : (p : ℕ → Bool) (i n : ℕ) → i ≤ n → count_of p i ≤ count_of p n
count_long p i n h = let e : i + (n - i) ≡ n = omega arith in rw e at (count_up p i (n - i))

-- ---- gaps below a bound
module _ (hs : List Hint) where
  pub below_zero : (n : ℕ) → count_of (below hs 0) n ≡ 0
  unfolding below
  below_zero zero = count_none (below hs 0)
  below_zero (suc n) = rw (count_next (below hs 0) n, le-ltb (gap hs n) 0 (omega arith)) (omega (arith, below_zero n))

  pub below_every : (g n : ℕ) → ((k : ℕ) → k < n → gap hs k < g) → count_of (below hs g) n ≡ n
  unfolding below
  below_every g n h = count_every (below hs g) n (λ k l. lt-ltb (gap hs k) g (h k l))

-- ---- gaps as the passes compute them
rise_at_lemma : (hs : List Hint) (i : ℕ) → (get_or hs i no_hint).number < 4294967296
    → rise (ahead hs i) (get_or hs i no_hint).number ≡ rise_at hs i
unfolding rise_at ahead rise
rise_at_lemma hs zero h = rw (le-ltb 4294967295 (get_or hs 0 no_hint).number (omega arith))
rise_at_lemma hs (suc i) h = refl

pub gap_at : (hs : List Hint) (i : ℕ) → (get_or hs i no_hint).number < 4294967296
    → gap_from (ahead hs i) (get_or hs i no_hint) ≡ gap hs i
unfolding gap gap_from
gap_at hs i h = rw (rise_at_lemma hs i h)

pub ahead_next : (hs : List Hint) (i : ℕ) → ahead hs (i + 1) ≡ (get_or hs i no_hint).number
unfolding ahead
ahead_next hs i = rw add-one

rise_fits : (p x : ℕ) → x < 4294967296 → rise p x < 4294967296
unfolding rise
rise_fits p x h = test (ltb p x) (λ e. rw e (omega arith)) (λ e. rw e (omega arith))

pub gap_fits : (hs : List Hint) (i : ℕ) → (get_or hs i no_hint).number < 4294967296 → gap hs i < 4294967297
unfolding gap
gap_fits hs i h =
    let r : rise_at hs i < 4294967296 = rw (rise_at_lemma hs i h) at (rise_fits (ahead hs i) (get_or hs i no_hint).number h) in
    test (is_kept (get_or hs i no_hint)) (λ e. rw e (omega arith)) (λ e. rw e (omega arith))
