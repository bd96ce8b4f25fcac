-- Where frames begin in a file. Assumes nothing.
use mathlib.Core.Path.{◌≡◌, refl, ap, ◌∙◌}
use mathlib.Core.List.{List}
use Prim.Native.Nat.{ℕ, zero, suc, ◌+◌, ◌<◌, ◌≤◌}
use native.Mathlib.Nat.{add-zero, eq-or-lt_of_le}
use mathlib.Core.Logic.{⊎_elim}
use native.Mathlib.Omega.{arith}
use lib.ListN.{length, drop, length-drop}
use lib.Seq.{drop-drop, length-take-le}
use Rattle.field.specs.Number.{number_at}
use Rattle.field.proofs.Number.{number_drop}
use Rattle.rules.specs.Values.{frame_at}
use Rattle.tables.specs.Files.{place_at, frames_read, each_read}

pub place_first : (b : List ℕ) (at : ℕ) → at ≡ place_at b at 0
unfolding place_at
place_first b at = refl

pub place_shift : (b : List ℕ) (at i : ℕ) → place_at b at (suc i) ≡ place_at b (at + 8 + number_at 4 b (at + 4)) i
unfolding place_at
place_shift b at zero = refl
place_shift b at (suc i) = rw (place_shift b at i)

-- a frame lies before the end of the frames
pub place_inside : (b : List ℕ) (at f i : ℕ) → i < f → place_at b at i + 8 + number_at 4 b (place_at b at i + 4) ≤ place_at b at f
unfolding place_at
place_inside b at zero i h = let z : ⊥ = omega arith in absurd z
place_inside b at (suc f) i h =
    ⊎_elim (λ (q : i ≡ f). rw q (omega arith)) (λ (q : i < f). omega (arith, place_inside b at f i q)) (eq-or-lt_of_le (let l : i ≤ f = omega arith in l))

-- what stands there is the frame
read_step : (b : List ℕ) (at : ℕ) → drop (number_at 4 (drop at b) 4) (drop 8 (drop at b)) ≡ drop (at + 8 + number_at 4 b (at + 4)) b
read_step b at = rw number_drop (simp drop-drop)

pub read_start : (f i : ℕ) (b : List ℕ) (at : ℕ) → i < f → (frame_at (frames_read f (drop at b)) i).start ≡ number_at 4 b (place_at b at i)
unfolding each_read place_at
read_start zero i b at h = let z : ⊥ = omega arith in absurd z
read_start (suc f) zero b at h = number_drop 4 at b 0 ∙ rw add-zero
read_start (suc f) (suc i) b at h =
    let h' : i < f = omega arith in
    ap (λ (t : List ℕ). (frame_at (frames_read f t) i).start) (read_step b at) ∙ read_start f i b (at + 8 + number_at 4 b (at + 4)) h' ∙ rw (place_shift b at i)

pub read_length : (f i : ℕ) (b : List ℕ) (at : ℕ) → i < f → place_at b at f ≤ length b → length (frame_at (frames_read f (drop at b)) i).bytes ≡ number_at 4 b (place_at b at i + 4)
unfolding each_read
read_length zero i b at h l = let z : ⊥ = omega arith in absurd z
read_length (suc f) zero b at h l =
    let g : at + 8 + number_at 4 b (at + 4) ≤ place_at b at (suc f) = rw (← place_first b at) at (place_inside b at (suc f) 0 h) in
    let n : number_at 4 b (at + 4) ≤ length (drop 8 (drop at b)) = simp length-drop (omega arith) in
    rw (number_drop, ← place_first b at) (length-take-le (number_at 4 b (at + 4)) (drop 8 (drop at b)) n)
read_length (suc f) (suc i) b at h l =
    let h' : i < f = omega arith in
    let l' : place_at b (at + 8 + number_at 4 b (at + 4)) f ≤ length b = rw (place_shift b at f) at l in
    ap (λ (t : List ℕ). length (frame_at (frames_read f t) i).bytes) (read_step b at) ∙ read_length f i b (at + 8 + number_at 4 b (at + 4)) h' l' ∙ rw (place_shift b at i)

pub read_count : (f : ℕ) (b : List ℕ) → length (frames_read f b) ≡ f
unfolding each_read
read_count zero b = refl
read_count (suc f) b = ap suc (read_count f _)
