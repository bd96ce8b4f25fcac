-- Frames and parts: the rules as facts, and what the part rule keeps. Assumes nothing.
use Rattle.std.specs.Prelude.{Option, None, Some}
use mathlib.Core.Path.{◌≡◌, refl, sym, ap, ◌∙◌}
use mathlib.Core.Bool.{Bool, true}
use mathlib.Core.Logic.{⊎_elim}
use mathlib.Core.List.{List, [], ◌∷◌, ◌++◌}
use Prim.Native.Nat.{ℕ, zero, suc, ◌+◌, ◌-◌, ◌<◌, ◌≤◌}
use native.Mathlib.Omega.{arith}
use lib.Dec.{eqb, leb}
use lib.ListN.{length, take, get_or, length-append, get_or-append}
use borrow.Author.Tests.{eqb-true, eqb-false, leb-true, ltb-true, eq-eqb, le-leb, lt-ltb}
use Rattle.rules.specs.declared.Area.{Area}
use Rattle.rules.specs.declared.Checkpoint.{Checkpoint}
use Rattle.rules.specs.declared.Held.{Held}
use Rattle.rules.specs.Tests.{all, walk, last_or}
use Rattle.rules.specs.Values.{Frame, lim, max_frame, no_held, no_checkpoint, checkpoint_at, frame_at, used, lsn_of, same_kind}
use Rattle.rules.specs.Sections.{Filled, unfilled, filled, frame_ok, frames_ok, follows, belongs, part_ok, reached, parts_ok}
use Rattle.rules.specs.Questions.{held_ok}
use Rattle.laws.specs.Kept.{Grow}
use Rattle.rules.proofs.Tests.{test, all→, →all, or_cases, or_left, or_right}
use Rattle.rules.proofs.Walk.{Snoc, ends, last_or_snoc, arrived, arrived_none, arrived_cons, arrived_snoc, walk_none, walk_head, walk_tail, walk_last, walk_at, walk_weaken, walk_rises}

-- ---- frames
-- a frame in its state, and the state after it
abbrev pub frame_in : Area → ℕ → Filled → Frame → Bool
frame_in a budget s f = frame_ok a budget s f.start (length f.bytes)

abbrev pub fill : Filled → Frame → Filled
fill s f = filled s f.start (length f.bytes)

pub record FrameIs (a : Area) (budget : ℕ) (s : Filled) (f : Frame) : Type 0 where
  pub low : s.floor ≤ f.start
  pub high : f.start < a.end
  pub long : length f.bytes ≤ max_frame
  pub fits : s.used + length f.bytes ≤ budget

pub frame→ : (a : Area) (budget : ℕ) (s : Filled) (f : Frame) → frame_in a budget s f ≡ true → FrameIs a budget s f
unfolding frame_ok
frame→ a budget s f e =
    let h = all→ _ e in
    record { low = leb-true _ _ h.0; high = ltb-true _ _ h.1.0; long = leb-true _ _ h.1.1.0; fits = leb-true _ _ h.1.1.1.0 }

pub →frame : (a : Area) (budget : ℕ) (s : Filled) (f : Frame) → FrameIs a budget s f → frame_in a budget s f ≡ true
unfolding frame_ok
→frame a budget s f h = →all _ (le-leb _ _ h.low, (lt-ltb _ _ h.high, (le-leb _ _ h.long, (le-leb _ _ h.fits, tt))))

-- the rule of frames is a walk
pub frames_walk : (a : Area) (budget : ℕ) (fs : List Frame) → frames_ok a budget fs ≡ walk (frame_in a budget) fill (unfilled a) fs
unfolding frames_ok
frames_walk a budget fs = refl

pub fill_used : (s : Filled) (fs : List Frame) → (arrived fill s fs).used ≡ s.used + used fs
unfolding arrived used
fill_used s [] = omega arith
fill_used s (f ∷ fs) = omega (arith, fill_used (fill s f) fs)

pub used_none : used [] ≡ 0
unfolding used
used_none = refl

pub used_snoc : (fs : List Frame) (f : Frame) → used (fs ++ (f ∷ [])) ≡ used fs + length f.bytes
unfolding used
used_snoc [] f = omega arith
used_snoc (x ∷ fs) f = rw (used_snoc fs f) (omega arith)

-- all frames together fit the budget
pub frames_used : (a : Area) (budget : ℕ) (fs : List Frame) → frames_ok a budget fs ≡ true → used fs ≤ budget
frames_used a budget fs e =
    let w = rw (frames_walk a budget fs) at e in
    ⊎_elim (λ (z : fs ≡ []). rw (z, used_none) (omega arith))
    (λ (s : Snoc fs).
    let w' = rw s.is at w in
    let x = (frame→ a budget _ s.last (walk_last (frame_in a budget) fill (unfilled a) s.init s.last w')).fits in
    rw s.is (omega (arith, used_snoc s.init s.last, fill_used (unfilled a) s.init)))
    (ends fs)

-- each frame starts in the area, with at most 65,536 bytes
pub frames_at : (a : Area) (budget : ℕ) (s : Filled) (fs : List Frame) (i : ℕ) → a.start ≤ s.floor → walk (frame_in a budget) fill s fs ≡ true → i < length fs
    → (a.start ≤ (frame_at fs i).start) × ((frame_at fs i).start < a.end) × (length (frame_at fs i).bytes ≤ max_frame)
frames_at a budget s [] i m e l = let z : ⊥ = omega arith in absurd z
frames_at a budget s (f ∷ fs) zero m e l =
    let h = frame→ a budget s f (walk_head (frame_in a budget) fill s f fs e) in let x = h.low in (omega arith, h.high, h.long)
frames_at a budget s (f ∷ fs) (suc i) m e l =
    let h = frame→ a budget s f (walk_head (frame_in a budget) fill s f fs e) in let x = h.low in
    frames_at a budget (fill s f) fs i (omega arith) (walk_tail (frame_in a budget) fill s f fs e) (omega arith)

pub frame_at_lemma : (a : Area) (budget : ℕ) (fs : List Frame) (i : ℕ) → frames_ok a budget fs ≡ true → i < length fs
    → (a.start ≤ (frame_at fs i).start) × ((frame_at fs i).start < a.end) × (length (frame_at fs i).bytes ≤ max_frame)
frame_at_lemma a budget fs i e l = frames_at a budget (unfilled a) fs i (omega arith) (rw (frames_walk a budget fs) at e) l

-- ---- parts
abbrev pub keep : Option Held → Held → Option Held
keep o p = Some p

-- the last part, if any
abbrev pub latest : List Held → Option Held
latest ps = arrived keep None ps

-- the lowest number that the part after o may have, and how many frames the parts up to o reach
abbrev pub at_after : Option Held → ℕ
at_after None = 0
at_after (Some q) = suc q.at

abbrev pub frames_to : Option Held → ℕ
frames_to None = 0
frames_to (Some q) = suc q.frame

pub record PartIs (a : Area) (k first : ℕ) (cs : List Checkpoint) (fs : List Frame) (p : Held) : Type 0 where
  pub low : first ≤ p.at
  pub high : p.at < first + length cs
  pub frame : p.frame < length fs
  pub back : 0 < (checkpoint_at cs (p.at - first)).back
  pub start : lsn_of a k p.at - (checkpoint_at cs (p.at - first)).back ≡ (frame_at fs p.frame).start
  pub len : p.len ≤ length (frame_at fs p.frame).bytes
  pub number : p.number < lim

pub part→ : (a : Area) (k first : ℕ) (cs : List Checkpoint) (fs : List Frame) (o : Option Held) (p : Held) → part_ok a k first cs fs o p ≡ true
    → PartIs a k first cs fs p × (follows o p ≡ true)
unfolding part_ok belongs
part→ a k first cs fs o p e =
    let h = all→ _ e in let b = all→ _ h.1.1.1.0 in (
      record {
        low = leb-true _ _ h.0;
        high = ltb-true _ _ h.1.0;
        frame = ltb-true _ _ h.1.1.0;
        back = ltb-true _ _ b.0;
        start = eqb-true _ _ b.1.0;
        len = leb-true _ _ b.1.1.0;
        number = ltb-true _ _ h.1.1.1.1.1.0;
      },
      h.1.1.1.1.0,
    )

pub →part : (a : Area) (k first : ℕ) (cs : List Checkpoint) (fs : List Frame) (o : Option Held) (p : Held) → PartIs a k first cs fs p → follows o p ≡ true
    → part_ok a k first cs fs o p ≡ true
unfolding part_ok belongs
→part a k first cs fs o p h f =
    →all _
    (le-leb _ _ h.low, (lt-ltb _ _ h.high, (lt-ltb _ _ h.frame, (→all _ (lt-ltb _ _ h.back, (eq-eqb _ _ h.start, (le-leb _ _ h.len, tt))), (f, (lt-ltb _ _ h.number, tt))))))

-- numbers rise, and the frame is the last one or the next
pub follows→ : (o : Option Held) (p : Held) → follows o p ≡ true → (at_after o ≤ p.at) × (p.frame ≤ frames_to o) × (frames_to o ≤ suc p.frame)
unfolding follows
follows→ None p e = let z = eqb-true p.frame 0 e in (omega arith, omega arith, omega arith)
follows→ (Some q) p e =
    let h = all→ _ e in let l = ltb-true q.at p.at h.0 in
    let same = all (eqb p.frame q.frame ∷ leb q.len p.len ∷ eqb q.number p.number ∷ same_kind q.kind p.kind ∷ []) in
    ⊎_elim (λ (z : same ≡ true). let w = eqb-true p.frame q.frame (all→ _ z).0 in (omega arith, omega arith, omega arith))
    (λ z. let w = eqb-true p.frame (suc q.frame) z in (omega arith, omega arith, omega arith))
    (or_cases same (eqb p.frame (suc q.frame)) h.1.0)

-- a part of a new frame follows
pub follows_open : (o : Option Held) (p : Held) → at_after o ≤ p.at → p.frame ≡ frames_to o → follows o p ≡ true
unfolding follows
follows_open None p l e = eq-eqb _ _ e
follows_open (Some q) p l e =
    →all _
    (lt-ltb q.at p.at (omega arith), (or_right (all (eqb p.frame q.frame ∷ leb q.len p.len ∷ eqb q.number p.number ∷ same_kind q.kind p.kind ∷ [])) (eq-eqb _ _ e), tt))

-- a part of the last frame follows
pub follows_same : (q p : Held) → q.at < p.at → p.frame ≡ q.frame → leb q.len p.len ≡ true → eqb q.number p.number ≡ true → same_kind q.kind p.kind ≡ true
    → follows (Some q) p ≡ true
unfolding follows
follows_same q p t e l n k = →all _ (lt-ltb _ _ t, (or_left (eqb p.frame (suc q.frame)) (→all _ (eq-eqb _ _ e, (l, (n, (k, tt))))), tt))

pub latest_last : (ps : List Held) → 1 ≤ length ps → latest ps ≡ Some (last_or no_held ps)
latest_last ps l =
    ⊎_elim (λ (z : ps ≡ []). let w : length ps ≡ 0 = ap length z in let y : ⊥ = omega arith in absurd y)
    (λ (s : Snoc ps). rw s.is (arrived_snoc keep None s.init s.last ∙ ap Some (sym (last_or_snoc no_held s.init s.last))))
    (ends ps)

pub latest_none : (ps : List Held) → length ps ≡ 0 → latest ps ≡ None
latest_none [] e = arrived_none keep None
latest_none (p ∷ ps) e = let z : ⊥ = omega arith in absurd z

pub reached_latest : (ps : List Held) → reached ps ≡ frames_to (latest ps)
unfolding reached
reached_latest ps =
    test (eqb (length ps) 0) (λ t. rw (t, latest_none ps (eqb-true (length ps) 0 t)))
    (λ t. let w = eqb-false (length ps) 0 t in let l : 1 ≤ length ps = omega arith in rw (t, latest_last ps l))

pub record HeldIs (a : Area) (k budget first : ℕ) (cs : List Checkpoint) (fs : List Frame) (ps : List Held) : Type 0 where
  pub frames : frames_ok a budget fs ≡ true
  pub parts : walk (part_ok a k first cs fs) keep None ps ≡ true
  pub reached : frames_to (latest ps) ≡ length fs

pub held→ : (a : Area) (k budget first : ℕ) (cs : List Checkpoint) (fs : List Frame) (ps : List Held) → held_ok a k budget first cs fs ps ≡ true
    → HeldIs a k budget first cs fs ps
unfolding held_ok parts_ok
held→ a k budget first cs fs ps e =
    let h = all→ _ e in let p = all→ _ h.1.0 in
    record { frames = h.0; parts = p.0; reached = sym (reached_latest ps) ∙ eqb-true (reached ps) (length fs) p.1.0 }

pub →held : (a : Area) (k budget first : ℕ) (cs : List Checkpoint) (fs : List Frame) (ps : List Held) → HeldIs a k budget first cs fs ps
    → held_ok a k budget first cs fs ps ≡ true
unfolding held_ok parts_ok
→held a k budget first cs fs ps h = →all _ (h.frames, (→all _ (h.parts, (eq-eqb (reached ps) (length fs) (reached_latest ps ∙ h.reached), tt)), tt))

-- each part, as facts
pub part_at : (a : Area) (k budget first : ℕ) (cs : List Checkpoint) (fs : List Frame) (ps : List Held) (i : ℕ) → HeldIs a k budget first cs fs ps → i < length ps
    → PartIs a k first cs fs (get_or ps i no_held)
part_at a k budget first cs fs ps i h l =
    (part→ a k first cs fs (latest (take i ps)) (get_or ps i no_held) (walk_at (part_ok a k first cs fs) keep no_held None ps i h.parts l)).0

-- ---- counts
module _ (a : Area) (k first : ℕ) (cs : List Checkpoint) (fs : List Frame) where
  -- from number m on there is a checkpoint for each part
  parts_few : (m : ℕ) (o : Option Held) (ps : List Held) → m ≤ first + length cs → ((p : Held) → part_ok a k first cs fs o p ≡ true → m ≤ p.at)
      → walk (part_ok a k first cs fs) keep o ps ≡ true → m + length ps ≤ first + length cs
  parts_few m o [] l b e = omega arith
  parts_few m o (p ∷ ps) l b e =
      let x = walk_head (part_ok a k first cs fs) keep o p ps e in let y = b p x in let z = (part→ a k first cs fs o p x).0.high in
      let r = parts_few (suc p.at) (Some p) ps (omega arith) (λ q w. (follows→ (Some p) q (part→ a k first cs fs (Some p) q w).1).0) (walk_tail (part_ok a k first cs fs) keep o p ps e) in
      omega arith

  frames_few : (o : Option Held) (ps : List Held) → walk (part_ok a k first cs fs) keep o ps ≡ true → frames_to (arrived keep o ps) ≤ frames_to o + length ps
  frames_few o [] e = rw (arrived_none keep o) (omega arith)
  frames_few o (p ∷ ps) e =
      let x = (follows→ o p (part→ a k first cs fs o p (walk_head (part_ok a k first cs fs) keep o p ps e)).1).1 in
      let r = frames_few (Some p) ps (walk_tail (part_ok a k first cs fs) keep o p ps e) in
      rw (arrived_cons keep o p ps) (omega arith)

  -- the part after the last may have the number of the next checkpoint
  pub latest_below : (o : Option Held) (ps : List Held) → at_after o ≤ first + length cs → walk (part_ok a k first cs fs) keep o ps ≡ true
      → at_after (arrived keep o ps) ≤ first + length cs
  latest_below o [] l e = rw (arrived_none keep o) l
  latest_below o (p ∷ ps) l e =
      let x = (part→ a k first cs fs o p (walk_head (part_ok a k first cs fs) keep o p ps e)).0.high in
      rw (arrived_cons keep o p ps) (latest_below (Some p) ps (omega arith) (walk_tail (part_ok a k first cs fs) keep o p ps e))

-- the checkpoints that parts belong to rise
pub parts_rise : (a : Area) (k first : ℕ) (cs : List Checkpoint) (fs : List Frame) (ps : List Held) → walk (part_ok a k first cs fs) keep None ps ≡ true → (i j : ℕ) → i < j → j < length ps
    → (get_or ps i no_held).at < (get_or ps j no_held).at
parts_rise a k first cs fs ps h i j l m =
    let w = walk_rises (part_ok a k first cs fs) keep (λ p. p.at) at_after 1 (λ o p x. (follows→ o p (part→ a k first cs fs o p x).1).0) (λ o p. omega arith) no_held None ps i j h l m in
    omega arith

-- no more frames than parts, no more parts than checkpoints, no more bytes than the budget
pub held_counts : (a : Area) (k budget first : ℕ) (cs : List Checkpoint) (fs : List Frame) (ps : List Held) → HeldIs a k budget first cs fs ps
    → (length fs ≤ length ps) × (length ps ≤ length cs) × (used fs ≤ budget)
held_counts a k budget first cs fs ps h =
    let x = frames_few a k first cs fs None ps h.parts in let r = h.reached in
    let y = parts_few a k first cs fs first None ps (omega arith) (λ p w. (part→ a k first cs fs None p w).0.low) h.parts in
    (omega arith, omega arith, frames_used a budget fs h.frames)

-- ---- nothing held
pub held_none : (a : Area) (k budget first : ℕ) (cs : List Checkpoint) → HeldIs a k budget first cs [] []
unfolding frames_ok
held_none a k budget first cs =
    record { frames = walk_none (frame_in a budget) fill (unfilled a); parts = walk_none (part_ok a k first cs []) keep None; reached = ap frames_to (arrived_none keep None) }

-- ---- more frames, more checkpoints
pub part_grow : (a : Area) (k first : ℕ) (cs : List Checkpoint) (fs gs : List Frame) (p : Held) → Grow fs gs → PartIs a k first cs fs p → PartIs a k first cs gs p
part_grow a k first cs fs gs p g h =
    let s = g.start p.frame h.frame in let b = g.long p.frame h.frame in let m = g.more in let x = h.frame in let y = h.len in
    record { low = h.low; high = h.high; frame = omega arith; back = h.back; start = h.start ∙ sym s; len = omega arith; number = h.number }

pub part_append : (a : Area) (k first : ℕ) (cs ds : List Checkpoint) (fs : List Frame) (p : Held) → PartIs a k first cs fs p → PartIs a k first (cs ++ ds) fs p
part_append a k first cs ds fs p h =
    let x = h.low in let y = h.high in
    let e = get_or-append cs ds no_checkpoint (p.at - first) (omega arith) in
    record { low = x; high = omega (arith, length-append cs ds); frame = h.frame; back = rw e h.back; start = rw e h.start; len = h.len; number = h.number }

-- the walk of parts, where the facts about each are kept
pub walk_parts : (a : Area) (k first : ℕ) (cs ds : List Checkpoint) (fs gs : List Frame) → ((p : Held) → PartIs a k first cs fs p → PartIs a k first ds gs p) → (ps : List Held)
    → walk (part_ok a k first cs fs) keep None ps ≡ true → walk (part_ok a k first ds gs) keep None ps ≡ true
walk_parts a k first cs ds fs gs w ps e =
    walk_weaken (part_ok a k first cs fs) (part_ok a k first ds gs) keep
    (λ o p x. let h = part→ a k first cs fs o p x in →part a k first ds gs o p (w p h.0) h.1) None ps e

pub held_append : (a : Area) (k budget first : ℕ) (cs ds : List Checkpoint) (fs : List Frame) (ps : List Held) → HeldIs a k budget first cs fs ps
    → HeldIs a k budget first (cs ++ ds) fs ps
held_append a k budget first cs ds fs ps h =
    record { frames = h.frames; parts = walk_parts a k first cs (cs ++ ds) fs fs (λ p. part_append a k first cs ds fs p) ps h.parts; reached = h.reached }
