-- What loading with a limit leaves keeps question 4. Assumes nothing.
use Rattle.std.specs.Prelude.{Option, None, Some}
use mathlib.Core.Path.{◌≡◌, refl}
use mathlib.Core.Bool.{Bool, true}
use mathlib.Core.List.{List, [], ◌∷◌}
use Prim.Native.Nat.{ℕ, zero, suc, ◌+◌, ◌-◌, ◌<◌, ◌≤◌, min}
use native.Mathlib.Omega.{arith}
use lib.Dec.{leb, ltb}
use lib.ListN.{length}
use borrow.Author.Tests.{leb-true, ltb-true, ltb-false}
use Rattle.rules.specs.declared.Area.{Area}
use Rattle.rules.specs.declared.Checkpoint.{Checkpoint}
use Rattle.rules.specs.declared.Held.{Held}
use Rattle.rules.specs.Tests.{walk}
use Rattle.rules.specs.Values.{Frame, Scan, frame_at}
use Rattle.rules.specs.Sections.{Filled, unfilled, part_ok, follows}
use Rattle.rules.specs.Load.{fitting, within, limited_scan}
use Rattle.rules.specs.Run.{Content, content_of}
use Rattle.laws.specs.Kept.{Says}
use Rattle.rules.proofs.Tests.{choose}
use Rattle.rules.proofs.Walk.{arrived, arrived_none, arrived_cons, walk_none, walk_cons, walk_head, walk_tail}
use Rattle.laws.proofs.scans.Parts.{frame_in, fill, frame→, →frame, frames_walk, keep, frames_to, PartIs, part→, →part, follows→, HeldIs}
use Rattle.laws.proofs.scans.Scans.{ScanIs}

-- ---- frames
pub fit_length : (b : ℕ) (fs : List Frame) → length (fitting b fs) ≤ length fs
unfolding fitting
fit_length b [] = omega arith
fit_length b (f ∷ fs) =
    choose (λ l. length l ≤ suc (length fs)) (leb (length f.bytes) b) (f ∷ fitting (b - length f.bytes) fs) []
    (λ e. omega (arith, fit_length (b - length f.bytes) fs)) (λ e. omega arith)

pub fit_at : (b : ℕ) (fs : List Frame) (i : ℕ) → i < length (fitting b fs) → frame_at (fitting b fs) i ≡ frame_at fs i
unfolding fitting
fit_at b [] i = λ l. refl
fit_at b (f ∷ fs) zero =
    choose (λ l. 0 < length l → frame_at l 0 ≡ f) (leb (length f.bytes) b) (f ∷ fitting (b - length f.bytes) fs) [] (λ e l. refl)
    (λ e l. let z : ⊥ = omega arith in absurd z)
fit_at b (f ∷ fs) (suc i) =
    choose (λ l. suc i < length l → frame_at l (suc i) ≡ frame_at fs i) (leb (length f.bytes) b) (f ∷ fitting (b - length f.bytes) fs) []
    (λ e l. fit_at (b - length f.bytes) fs i (omega arith)) (λ e l. let z : ⊥ = omega arith in absurd z)

-- their rule holds with the lowered budget
fit_walk : (a : Area) (budget low : ℕ) (s : Filled) (b : ℕ) (fs : List Frame) → s.used + b ≡ low → walk (frame_in a budget) fill s fs ≡ true
    → walk (frame_in a low) fill s (fitting b fs) ≡ true
unfolding fitting
fit_walk a budget low s b [] u e = walk_none (frame_in a low) fill s
fit_walk a budget low s b (f ∷ fs) u e =
    choose (λ l. walk (frame_in a low) fill s l ≡ true) (leb (length f.bytes) b) (f ∷ fitting (b - length f.bytes) fs) []
    (λ t.
    let h = frame→ a budget s f (walk_head (frame_in a budget) fill s f fs e) in let l = leb-true (length f.bytes) b t in
    walk_cons (frame_in a low) fill s f _ (→frame a low s f (record { low = h.low; high = h.high; long = h.long; fits = omega arith }))
    (fit_walk a budget low (fill s f) (b - length f.bytes) fs (omega arith) (walk_tail (frame_in a budget) fill s f fs e)))
    (λ t. walk_none (frame_in a low) fill s)

-- ---- parts
module _ (n : ℕ) (ok ok' : Option Held → Held → Bool) (same : (o : Option Held) (p : Held) → ok o p ≡ true → p.frame < n → ok' o p ≡ true) where
  in_walk : (o : Option Held) (ps : List Held) → walk ok keep o ps ≡ true → walk ok' keep o (within n ps) ≡ true
  unfolding within
  in_walk o [] e = walk_none ok' keep o
  in_walk o (p ∷ ps) e =
      choose (λ l. walk ok' keep o l ≡ true) (ltb p.frame n) (p ∷ within n ps) []
      (λ t. walk_cons ok' keep o p _ (same o p (walk_head ok keep o p ps e) (ltb-true p.frame n t)) (in_walk (Some p) ps (walk_tail ok keep o p ps e)))
      (λ t. walk_none ok' keep o)

-- the parts that are left reach the n frames that are left
in_reach : (n : ℕ) (ok : Option Held → Held → Bool) → ((o : Option Held) (p : Held) → ok o p ≡ true → follows o p ≡ true) → (o : Option Held) (ps : List Held)
    → walk ok keep o ps ≡ true → frames_to o ≤ n → n ≤ frames_to (arrived keep o ps) → frames_to (arrived keep o (within n ps)) ≡ n
unfolding within
in_reach n ok f o [] e l = λ k. let m = rw (arrived_none keep o) at k in rw (arrived_none keep o) (omega arith)
in_reach n ok f o (p ∷ ps) e l = λ k.
    choose (λ l. frames_to (arrived keep o l) ≡ n) (ltb p.frame n) (p ∷ within n ps) []
    (λ t. let x = ltb-true p.frame n t in
    rw (arrived_cons keep o p (within n ps)) (in_reach n ok f (Some p) ps (walk_tail ok keep o p ps e) (omega arith) (rw (arrived_cons keep o p ps) at k)))
    (λ t. let x = ltb-false p.frame n t in let y = (follows→ o p (f o p (walk_head ok keep o p ps e))).1 in rw (arrived_none keep o) (omega arith))

-- and they say what they said
says_none : (P : ℕ → Content → Type 0) (gs : List Frame) → Says P gs []
says_none P gs i l = let z : ⊥ = omega arith in absurd z

says_cons : (P : ℕ → Content → Type 0) (gs : List Frame) (p : Held) (ps : List Held) → P p.at (content_of gs p) → Says P gs ps → Says P gs (p ∷ ps)
says_cons P gs p ps x s zero l = x
says_cons P gs p ps x s (suc i) l = s i (omega arith)

in_says : (P : ℕ → Content → Type 0) (n : ℕ) (fs gs : List Frame) → ((i : ℕ) → i < n → frame_at gs i ≡ frame_at fs i) → (ps : List Held) → Says P fs ps → Says P gs (within n ps)
unfolding within
in_says P n fs gs same [] s = says_none P gs
in_says P n fs gs same (p ∷ ps) s =
    choose (Says P gs) (ltb p.frame n) (p ∷ within n ps) []
    (λ t. says_cons P gs p (within n ps) (rw (same p.frame (ltb-true p.frame n t)) (s zero (omega arith))) (in_says P n fs gs same ps (λ i l. s (suc i) (omega arith))))
    (λ t. says_none P gs)

-- ---- frames and parts under a lower budget
module _ (a : Area) (k budget first low : ℕ) (cs : List Checkpoint) (fs : List Frame) (ps : List Held) (ok : HeldIs a k budget first cs fs ps) where
  part_fits : (p : Held) → PartIs a k first cs fs p → p.frame < length (fitting low fs) → PartIs a k first cs (fitting low fs) p
  part_fits p f l =
      let e = fit_at low fs p.frame l in
      record { low = f.low; high = f.high; frame = l; back = f.back; start = rw e f.start; len = rw e f.len; number = f.number }

  pub limited_held : HeldIs a k low first cs (fitting low fs) (within (length (fitting low fs)) ps)
  limited_held =
      let gs = fitting low fs in let n = length gs in let r = ok.reached in let l = fit_length low fs in
      record {
        frames = rw (frames_walk a low gs) (fit_walk a budget low (unfilled a) low fs (omega arith) (rw (frames_walk a budget fs) at ok.frames));
        parts =
            in_walk n (part_ok a k first cs fs) (part_ok a k first cs gs)
            (λ o p w m. let h = part→ a k first cs fs o p w in →part a k first cs gs o p (part_fits p h.0 m) h.1) None ps ok.parts;
        reached = in_reach n (part_ok a k first cs fs) (λ o p w. (part→ a k first cs fs o p w).1) None ps ok.parts (omega arith) (omega arith);
      }

  pub limited_says : (P : ℕ → Content → Type 0) → Says P fs ps → Says P (fitting low fs) (within (length (fitting low fs)) ps)
  limited_says P s = in_says P (length (fitting low fs)) fs (fitting low fs) (fit_at low fs) ps s

-- closure of question 4 under a limit
pub limited_ok : (limit : ℕ) (x : Scan) → ScanIs x → ScanIs (limited_scan limit x)
limited_ok limit x ok =
    let s = ok.stretch in
    record {
      stretch =
          record {
            within = s.within;
            full = s.full;
            checkpoints = s.checkpoints;
            held = limited_held x.area x.interval x.budget 0 (min x.budget limit) x.checkpoints x.frames x.parts s.held;
            ending = s.ending;
          };
      malformed = ok.malformed;
    }
