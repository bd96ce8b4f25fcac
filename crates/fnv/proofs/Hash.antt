-- The laws of FNV-1a, at any width w and prime p.
use Rattle.std.proofs.Common.{◌≡◌, ℕ, ◌+◌, ◌*◌, ◌^◌, ◌<◌, ◌≤◌, List, [], ◌∷◌, ◌++◌, length, get_or, take, drop, sym, refl, ap, ◌∙◌, mod-lt, add-one, arith, drop_of_length-le, drop-cons, pow_pos}
use Rattle.std.specs.List.{fold}
use lib.Seq.{take-suc}
use lib.Bits.{bit_xor}
use Rattle.fnv.specs.Fnv.{fnv_step, fnv_from}

module _ (w p : ℕ) where
  -- the hash of one stretch after another is that of the second from that of the first
  pub joined : (h : ℕ) (a b : List ℕ) → fnv_from w p h (a ++ b) ≡ fnv_from w p (fnv_from w p h a) b
  unfolding fnv_from
  joined h [] b = refl
  joined h (x ∷ a) b = joined (fnv_step w p h x) a b

  -- one byte more at the end is one step more
  pub step_last : (h : ℕ) (a : List ℕ) (b : ℕ) → fnv_from w p h (a ++ (b ∷ [])) ≡ fnv_step w p (fnv_from w p h a) b
  unfolding fnv_from
  step_last h a b = joined h a (b ∷ [])

  -- a hash of w bits stays one
  pub below : (h : ℕ) (a : List ℕ) → h < 2 ^ w → fnv_from w p h a < 2 ^ w
  unfolding fnv_from
  below h [] k = k
  below h (x ∷ a) k = below (fnv_step w p h x) a (mod-lt (bit_xor x h * p) (pow_pos w))

  -- the hash is a fold of the steps
  pub hash_fold : (h : ℕ) (s : List ℕ) → fnv_from w p h s ≡ fold (fnv_step w p) h s
  unfolding fnv_from
  hash_fold h [] = refl
  hash_fold h (b ∷ s) = hash_fold (fnv_step w p h b) s

  -- the hash of one byte more
  pub hashed_more : (h i : ℕ) (s : List ℕ) → i < length s
      → fnv_from w p h (take (i + 1) s) ≡ fnv_step w p (fnv_from w p h (take i s)) (get_or s i 0)
  hashed_more h i s k = rw (add-one, take-suc s i 0 k) (step_last h (take i s) (get_or s i 0))

  -- hashing what is left at i is one step, and then hashing what is left at i + 1
  turn : (h i : ℕ) (s : List ℕ) → i < length s
      → fnv_from w p h (drop i s) ≡ fnv_from w p (fnv_step w p h (get_or s i 0)) (drop (i + 1) s)
  unfolding fnv_from
  turn h i s k = ap (fnv_from w p h) (drop-cons s i 0 k) ∙ rw add-one

  -- nothing is left at the end
  done : (h i : ℕ) (s : List ℕ) → length s ≤ i → fnv_from w p h (drop i s) ≡ h
  unfolding fnv_from
  done h i s k = ap (fnv_from w p h) (drop_of_length-le s k)

  -- a loop over s at place i: what is left, hashed from x, is all, hashed from h
  pub record Hashing (h : ℕ) (s : List ℕ) (x i : ℕ) : Type 0 where
    pub within : i ≤ length s
    pub left : fnv_from w p x (drop i s) ≡ fnv_from w p h s

  -- before the first byte
  pub hashing_start : (h : ℕ) (s : List ℕ) → Hashing h s h 0
  hashing_start h s = record { within = omega arith; left = refl }

  module _ {h : ℕ} {s : List ℕ} {x i : ℕ} (l : Hashing h s x i) where
    -- one step more
    pub hashing_on : {y : ℕ} → i < length s → y ≡ fnv_step w p x (get_or s i 0) → Hashing h s y (i + 1)
    hashing_on k e =
        record {
          within = omega (arith, k);
          left = ap (λ (z : ℕ). fnv_from w p z (drop (i + 1) s)) e ∙ sym (turn x i s k) ∙ l.left;
        }

    -- at the end x is the hash of all
    pub hashing_end : length s ≤ i → x ≡ fnv_from w p h s
    hashing_end k = sym (done x i s k) ∙ l.left
