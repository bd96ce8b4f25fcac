-- The last n of two rising lists merged, counted from behind. Assumes nothing.
use mathlib.Core.Path.{◌≡◌, sym, ap, ◌∙◌}
use mathlib.Core.Bool.{cond}
use mathlib.Core.List.{List, [], ◌∷◌, ◌++◌}
use Prim.Native.Nat.{ℕ, zero, suc, ◌+◌, ◌-◌, ◌<◌, ◌≤◌}
use native.Mathlib.Omega.{arith}
use lib.Dec.{leb}
use lib.ListN.{length, get_or, take, drop, take-append-drop}
use lib.Seq.{take-suc, drop-cons, split_at, take-length, drop-length}
use borrow.Author.Tests.{le-leb, lt-leb}
use Rattle.rules.specs.Hints.{last_ones}
use Rattle.rules.proofs.Tests.{order}
use Rattle.laws.specs.Merging.{merged_with, last_key}
use Rattle.laws.specs.Order.{Rises}
use Rattle.laws.proofs.hint_lists.Lists.{all_map, all_append, all_split, last_length}
use Rattle.laws.proofs.hint_lists.Rising.{rises_split}
use Rattle.laws.proofs.hint_lists.Merging.{Below, From, nil_with, with_both, with_least, with_split, front_left, front_right}
use Rattle.laws.proofs.hint_lists.Keeping.{last_few, last_of}

module _ {A : Type 0} (key : A → ℕ) (meet : A → A → A) (z : A) where
  -- above each key
  abbrev above : List A → ℕ
  above [] = 0
  above (x ∷ xs) = suc (key x) + above xs

  below_above : (b : ℕ) (xs : List A) → above xs ≤ b → Below key meet b xs
  below_above b [] h = tt
  below_above b (x ∷ xs) h = (omega arith, below_above b xs (omega arith))

  -- the places i and j split both lists by a key, and k of the merge lie behind
  pub record Splitting (xs ys : List A) (i j k : ℕ) : Type 0 where
    pub bound : ℕ
    pub own : i ≤ length xs
    pub other : j ≤ length ys
    pub own_below : Below key meet bound (take i xs)
    pub own_from : From key meet bound (drop i xs)
    pub other_below : Below key meet bound (take j ys)
    pub other_from : From key meet bound (drop j ys)
    pub count : k ≡ length (merged_with key meet (drop i xs) (drop j ys))

  pub splitting_start : (xs ys : List A) → Splitting xs ys (length xs) (length ys) 0
  splitting_start xs ys =
      record {
        bound = above xs + above ys;
        own = omega arith;
        other = omega arith;
        own_below = rw take-length (below_above (above xs + above ys) xs (omega arith));
        own_from = rw (drop-length xs) tt;
        other_below = rw take-length (below_above (above xs + above ys) ys (omega arith));
        other_from = rw (drop-length ys) tt;
        count = rw (drop-length xs, drop-length ys, nil_with key meet []);
      }

  -- ---- the last of the first i
  module _ (xs : List A) (r : Rises key 0 xs) (i : ℕ) (l : i < length xs) where
    abbrev last : A
    last = get_or xs i z

    before_last : Below key meet (key last) (take i xs)
    before_last = (rises_split key 0 (take i xs) last (drop (suc i) xs) (rw (split_at xs i z l) at r)).2

    last_below : (b : ℕ) → Below key meet b (take (suc i) xs) → key last < b
    last_below b h = (all_split (λ x. key x < b) (take i xs) (last ∷ []) (rw (take-suc xs i z l) at h)).1.0

    -- all of the first i are below what the last of them is below
    all_below : (b : ℕ) → key last < b → Below key meet b (take (suc i) xs)
    all_below b h =
        rw (take-suc xs i z l)
        (all_append (λ x. key x < b) (take i xs) (last ∷ []) (all_map (λ x. key x < key last) (λ x. key x < b) (λ x u. omega arith) (take i xs) before_last) (h, tt))

    from_last : (b : ℕ) → key last < b → From key meet b (drop (suc i) xs) → From key meet (key last) (drop i xs)
    from_last b h f = rw (drop-cons xs i z l) (omega arith, lower b (drop (suc i) xs) h f)
      where
        lower : (b : ℕ) (us : List A) → key last < b → From key meet b us → From key meet (key last) us
        lower b us h f = all_map (λ x. b ≤ key x) (λ x. key last ≤ key x) (λ x u. omega arith) us f

  lower : (b c : ℕ) (us : List A) → c ≤ b → From key meet b us → From key meet c us
  lower b c us h f = all_map (λ x. b ≤ key x) (λ x. c ≤ key x) (λ x u. omega arith) us f

  -- ---- one more is counted: of the first list, of the second, of both
  module _ (xs ys : List A) (r : Rises key 0 xs) (q : Rises key 0 ys) where
    own_step : (i j k : ℕ) → Splitting xs ys (suc i) j k → Below key meet (key (get_or xs i z)) (take j ys) → Splitting xs ys i j (k + 1)
    own_step i j k s h =
        let l = s.own in let x = get_or xs i z in let b = last_below xs r i l s.bound s.own_below in
        record {
          bound = key x;
          own = omega arith;
          other = s.other;
          own_below = before_last xs r i l;
          own_from = from_last xs r i l s.bound b s.own_from;
          other_below = h;
          other_from = lower s.bound (key x) (drop j ys) (omega arith) s.other_from;
          count = rw (drop-cons xs i z l, front_left key meet s.bound (drop (suc i) xs) (drop j ys) s.own_from s.other_from x b) (omega (arith, s.count));
        }

    other_step : (i j k : ℕ) → Splitting xs ys i (suc j) k → Below key meet (key (get_or ys j z)) (take i xs) → Splitting xs ys i j (k + 1)
    other_step i j k s h =
        let l = s.other in let y = get_or ys j z in let b = last_below ys q j l s.bound s.other_below in
        record {
          bound = key y;
          own = s.own;
          other = omega arith;
          own_below = h;
          own_from = lower s.bound (key y) (drop i xs) (omega arith) s.own_from;
          other_below = before_last ys q j l;
          other_from = from_last ys q j l s.bound b s.other_from;
          count = rw (drop-cons ys j z l, front_right key meet s.bound (drop i xs) (drop (suc j) ys) s.own_from s.other_from y b) (omega (arith, s.count));
        }

    both_step : (i j k : ℕ) → Splitting xs ys (suc i) (suc j) k → key (get_or xs i z) ≡ key (get_or ys j z) → Splitting xs ys i j (k + 1)
    both_step i j k s e =
        let l = s.own in let m = s.other in let x = get_or xs i z in let y = get_or ys j z in
        let b = last_below xs r i l s.bound s.own_below in let c = last_below ys q j m s.bound s.other_below in
        record {
          bound = key x;
          own = omega arith;
          other = omega arith;
          own_below = before_last xs r i l;
          own_from = from_last xs r i l s.bound b s.own_from;
          other_below = rw e (before_last ys q j m);
          other_from = rw e (from_last ys q j m s.bound c s.other_from);
          count = rw (drop-cons xs i z l, drop-cons ys j z m, with_both key meet x y (drop (suc i) xs) (drop (suc j) ys) e) (omega (arith, s.count));
        }

    -- the step as it is computed, from the last keys
    pub splitting_step : (i j k : ℕ) → Splitting xs ys i j k → 0 < i + j
        → Splitting xs ys (i - cond (leb (last_key key z ys j) (last_key key z xs i)) 1 0) (j - cond (leb (last_key key z xs i) (last_key key z ys j)) 1 0) (k + 1)
    unfolding last_key
    splitting_step zero zero k s h = let w : ⊥ = omega arith in absurd w
    splitting_step (suc i) zero k s h =
        let x = get_or xs i z in let u : suc i - 1 ≡ i = omega arith in
        rw (lt-leb (suc (key x)) 0 (omega arith), le-leb 0 (suc (key x)) (omega arith), u) (own_step i 0 k s tt)
    splitting_step zero (suc j) k s h =
        let y = get_or ys j z in let v : suc j - 1 ≡ j = omega arith in
        rw (lt-leb (suc (key y)) 0 (omega arith), le-leb 0 (suc (key y)) (omega arith), v) (other_step 0 j k s tt)
    splitting_step (suc i) (suc j) k s h =
        let x = get_or xs i z in let y = get_or ys j z in let l = s.own in let m = s.other in
        let u : suc i - 1 ≡ i = omega arith in let v : suc j - 1 ≡ j = omega arith in
        let u0 : suc i - 0 ≡ suc i = omega arith in let v0 : suc j - 0 ≡ suc j = omega arith in
        order (key x) (key y)
        (λ g. rw (lt-leb (suc (key y)) (suc (key x)) (omega arith), le-leb (suc (key x)) (suc (key y)) (omega arith), u0, v) (other_step (suc i) j k s (all_below xs r i l (key y) g)))
        (λ g. rw (le-leb (suc (key y)) (suc (key x)) (omega arith), lt-leb (suc (key x)) (suc (key y)) (omega arith), u, v0) (own_step i (suc j) k s (all_below ys q j m (key x) g)))
        (λ e. rw (le-leb (suc (key y)) (suc (key x)) (omega arith), le-leb (suc (key x)) (suc (key y)) (omega arith), u, v) (both_step i j k s e))

  -- ---- the end
  module _ (xs ys : List A) (n i j k : ℕ) (s : Splitting xs ys i j k) where
    -- as many as are asked for
    pub splitting_full : k ≡ n → last_ones n (merged_with key meet xs ys) ≡ merged_with key meet (drop i xs) (drop j ys)
    splitting_full h =
        let e : merged_with key meet xs ys ≡ merged_with key meet (take i xs) (take j ys) ++ merged_with key meet (drop i xs) (drop j ys) =
        rw (take-append-drop i xs, take-append-drop j ys) at
        (with_split key meet s.bound (take i xs) (drop i xs) (take j ys) (drop j ys) s.own_below s.own_from s.other_below s.other_from) in
        rw e (last_of n (merged_with key meet (take i xs) (take j ys)) (merged_with key meet (drop i xs) (drop j ys)) (sym s.count ∙ h))

    -- both lists whole
    pub splitting_whole : i + j ≡ 0 → k ≤ n → last_ones n (merged_with key meet xs ys) ≡ merged_with key meet (drop i xs) (drop j ys)
    splitting_whole h l =
        let u : i ≡ 0 = omega arith in let v : j ≡ 0 = omega arith in
        let c : k ≡ length (merged_with key meet xs ys) = rw (u, v) at s.count in
        rw (u, v) (last_few n (merged_with key meet xs ys) (omega arith))

    -- no fewer than the first list has
    pub splitting_least : length xs ≤ n → last_ones n (merged_with key meet xs ys) ≡ merged_with key meet (drop i xs) (drop j ys) → length xs ≤ k
    splitting_least l e = omega (arith, s.count, ap length e, last_length n (merged_with key meet xs ys), with_least key meet xs ys)
