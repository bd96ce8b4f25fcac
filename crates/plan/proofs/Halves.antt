-- A search by halves among n places, of which the first ones lie below what is sought and the others above. Assumes
-- nothing.
use Prim.Native.Nat.{ℕ, ◌+◌, ◌<◌, ◌≤◌}
use native.Mathlib.Omega.{arith}

pub record Halves (n : ℕ) (Below Above : ℕ → Type 0) (lo hi : ℕ) : Type 0 where
  pub ordered : lo ≤ hi
  pub within : hi ≤ n
  pub below : (i : ℕ) → i < lo → Below i
  pub above : (i : ℕ) → hi ≤ i → i < n → Above i

module _ {n : ℕ} {Below Above : ℕ → Type 0} where
  pub halves_start : Halves n Below Above 0 n
  halves_start =
      record {
        ordered = omega arith;
        within = omega arith;
        below = λ i h. let z : ⊥ = omega arith in absurd z;
        above = λ i a b. let z : ⊥ = omega arith in absurd z;
      }

  module _ {lo hi mid : ℕ} (s : Halves n Below Above lo hi) (h : mid < hi) where
    -- the middle one belongs below
    pub halves_up : ((i : ℕ) → i ≤ mid → Below i) → Halves n Below Above (mid + 1) hi
    halves_up b =
        record { ordered = omega arith; within = s.within; below = λ i q. b i (omega arith); above = s.above }

    -- or above
    pub halves_down : lo ≤ mid → ((i : ℕ) → mid ≤ i → i < n → Above i) → Halves n Below Above lo mid
    halves_down g a =
        let w = s.within in record { ordered = g; within = omega arith; below = s.below; above = a }
