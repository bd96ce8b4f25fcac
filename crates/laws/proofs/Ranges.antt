-- The numbers of a list that questions 1, 2 and 4 accept fit their fields. Assumes nothing.
use Rattle.std.specs.Prelude.{Option, None, Some}
use mathlib.Core.Path.{◌≡◌, refl}
use mathlib.Core.Bool.{true}
use mathlib.Core.List.{List, [], ◌∷◌}
use Prim.Native.Nat.{ℕ, zero, suc, ◌+◌, ◌-◌, ◌*◌, ◌≤◌, ◌<◌}
use native.Mathlib.Nat.{mul-le-mul_left}
use native.Mathlib.Omega.{arith}
use borrow.Author.Tests.{leb-true, ltb-true}
use lib.Dec.{leb, ltb}
use lib.Signed.{mag}
use lib.ListN.{length}
use Rattle.field.proofs.Format.{Each, each_at}
use Rattle.rules.specs.declared.Area.{Area}
use Rattle.rules.specs.declared.Checkpoint.{Checkpoint}
use Rattle.rules.specs.declared.EndState.{EndState}
use Rattle.rules.specs.declared.Held.{Held}
use Rattle.rules.specs.Tests.{walk}
use Rattle.rules.specs.Values.{max_frame, Frame, max32, max64, no_frame, boundaries, frontier_of, frame_at}
use Rattle.rules.specs.Sections.{Passed, passed, checkpoint_ok, Filled, part_ok}
use Rattle.rules.specs.Questions.{area_ok}
use Rattle.rules.specs.Sizes.{frame_sized}
use Rattle.rules.proofs.Tests.{all→, each_map, each_both}
use Rattle.rules.proofs.Walk.{walk_state, walk_each}
use Rattle.laws.proofs.scans.Parts.{frame_in, fill, frame→, part→}
use Rattle.laws.proofs.scans.Scans.{in_boundary, checkpoint→}
use Rattle.laws.proofs.Layouts.{CheckpointFits, HeldFits}
use Rattle.laws.proofs.Readers.{FrameFits}

-- ---- the area
pub record AreaFacts (a : Area) : Type 0 where
  pub slot : a.key.slot ≤ 1
  pub range : a.start ≤ a.end
  pub small : a.end ≤ max32

pub area_ok→ : (a : Area) → area_ok a ≡ true → AreaFacts a
unfolding area_ok
area_ok→ a h = let g = all→ (leb a.key.slot 1 ∷ leb a.start a.end ∷ leb a.end max32 ∷ []) h in
    record { slot = leb-true _ _ g.0; range = leb-true _ _ g.1.0; small = leb-true _ _ g.1.1.0 }

pub boundaries_small : (a : Area) (k : ℕ) → 1 ≤ k → boundaries a k ≤ a.end - a.start
boundaries_small a k l = go (boundaries a k) refl
  where
    go : (n : ℕ) → boundaries a k ≡ n → n ≤ a.end - a.start
    go zero e = omega arith
    go (suc n) e =
        let h = in_boundary a k n l (omega arith) in
        let g : n * 1 ≤ n * k = mul-le-mul_left n l in
        omega arith

-- the frontier is in the area
pub frontier_small : (a : Area) (k n : ℕ) (e : Option EndState) → 1 ≤ k → AreaFacts a → n ≤ boundaries a k → frontier_of a k n e ≤ a.end
unfolding frontier_of
frontier_small a k zero None l f h = omega arith
frontier_small a k (suc n) None l f h = let g = in_boundary a k n l h in omega arith
frontier_small a k n (Some e) l f h = omega arith

-- ---- the sections
module _ (a : Area) (k : ℕ) (l : 1 ≤ k) (f : AreaFacts a) where
  pub checkpoint_fits : (s : Passed) (c : Checkpoint) → suc s.number ≤ boundaries a k → checkpoint_ok k s c ≡ true → c.digest ≤ max64
      → CheckpointFits c
  checkpoint_fits s c i h d = let g = checkpoint→ k s c h in let b = in_boundary a k s.number l i in omega arith

  pub checkpoints_fit : (s : Passed) (cs : List Checkpoint) → s.number + length cs ≤ boundaries a k → walk (checkpoint_ok k) passed s cs ≡ true
      → Each (λ c. leb c.digest max64 ≡ true) cs → Each CheckpointFits cs
  checkpoints_fit s cs i h d =
      each_both (λ c p q. p (leb-true c.digest max64 q)) (walk_state (checkpoint_ok k) passed (λ s n. s.number + n ≤ boundaries a k)
      (λ c. c.digest ≤ max64 → CheckpointFits c)
      (λ s c n i g. ((λ d. checkpoint_fits s c (omega arith) g d), omega arith)) s cs i h) d

-- a frame's number and length
pub record Placed (a : Area) (f : Frame) : Type 0 where
  pub start : f.start < a.end
  pub size : length f.bytes ≤ max_frame

pub frames_placed : (a : Area) (budget : ℕ) (s : Filled) (fs : List Frame)
    → walk (frame_in a budget) fill s fs ≡ true → Each (Placed a) fs
frames_placed a budget s fs h =
    walk_each (frame_in a budget) fill (λ s f g. let q = frame→ a budget s f g in record { start = q.high; size = q.long }) s fs h

pub frames_fit : (a : Area) (fs : List Frame) → AreaFacts a → Each (Placed a) fs → Each (λ f. frame_sized f ≡ true) fs → Each FrameFits fs
frames_fit a fs g ps qs = each_both (λ f p q. record { numbers = omega arith; bytes = q }) ps qs

pub parts_fit : (a : Area) (k : ℕ) (cs : List Checkpoint) (fs : List Frame) (o : Option Held) (ps : List Held) → AreaFacts a
    → length cs ≤ max32 → length fs ≤ max32 → Each (Placed a) fs → walk (part_ok a k 0 cs fs) (λ o p. Some p) o ps ≡ true
    → Each (λ p. ltb (mag p.remaining) 2147483648 ≡ true) ps → Each HeldFits ps
parts_fit a k cs fs o ps f m n g h r =
    each_both (λ p q s. record { numbers = q; signed = ltb-true _ _ s }) (walk_each (part_ok a k 0 cs fs) (λ o p. Some p)
    (λ o p q. let u = (part→ a k 0 cs fs o p q).0 in
    let s : length (frame_at fs p.frame).bytes ≤ max_frame = each_at {P = λ f. length f.bytes ≤ max_frame} p.frame no_frame (each_map (λ f p. p.size) g) (omega arith) in
    omega arith) o ps h) r
