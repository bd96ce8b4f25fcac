-- What the part rule needs of tables follows from question 4 of their lists. Assumes nothing.
use Rattle.std.specs.Prelude.{Option, None, Some}
use mathlib.Core.Path.{◌≡◌, ap}
use mathlib.Core.Bool.{true}
use mathlib.Core.List.{List, [], ◌∷◌}
use Prim.Native.Nat.{ℕ, suc, ◌+◌, ◌*◌, ◌<◌, ◌≤◌}
use native.Mathlib.Omega.{arith}
use borrow.Author.Tests.{ltb-true, ltb-false}
use lib.Dec.{ltb}
use lib.ListN.{length}
use Rattle.field.proofs.Records.{records_length}
use Rattle.rules.specs.declared.Area.{Area}
use Rattle.rules.specs.declared.Checkpoint.{Checkpoint}
use Rattle.rules.specs.declared.Held.{Held}
use Rattle.rules.specs.Tests.{walk}
use Rattle.rules.specs.Values.{Frame, used}
use Rattle.rules.specs.Sections.{part_ok}
use Rattle.rules.specs.File.{decode_held}
use Rattle.rules.proofs.Tests.{test}
use Rattle.rules.proofs.Walk.{walk_head, walk_tail}
use Rattle.laws.proofs.scans.Parts.{keep, at_after, frames_to, latest_last, part→, follows→, HeldIs, frames_used}
use Rattle.laws.proofs.scans.Parts.{held_counts}
use Rattle.tables.specs.Tables.{frames_in, parts_in}
use Rattle.tables.specs.Index.{kinds_ok}
use Rattle.parts.specs.declared.Counts.{Counts}
use Rattle.parts.specs.Parts.{PartTables}
use Rattle.parts.specs.Steps.{Room, wanted, InOrder, Lent}
use Rattle.parts.proofs.Frames.{count}

module _ (a : Area) (k first : ℕ) (cs : List Checkpoint) (fs : List Frame) where
  -- the frame of the part before
  frame_of : Option Held → ℕ
  frame_of None = 0
  frame_of (Some q) = q.frame

  steps : (o : Option Held) (x : ℕ) → x ≤ frames_to o → frames_to o ≤ suc x → (frame_of o ≤ x) × (x ≤ frame_of o + 1)
  unfolding frame_of
  steps None x l h = (omega arith, omega arith)
  steps (Some q) x l h = (omega arith, omega arith)

  in_order : (o : Option Held) (ps : List Held) → walk (part_ok a k first cs fs) keep o ps ≡ true
      → InOrder (frame_of o) fs ps
  unfolding frame_of
  in_order o [] e = tt
  in_order o (p ∷ ps) e =
      let w = part→ a k first cs fs o p (walk_head (part_ok a k first cs fs) keep o p ps e) in
      let g = follows→ o p w.1 in
      let s = steps o p.frame g.1 g.2 in
      (s.0, s.1, w.0.frame, w.0.len, in_order (Some p) ps (walk_tail (part_ok a k first cs fs) keep o p ps e))

  -- at most one part for each checkpoint from number n on
  few_wanted : (n : ℕ) (o : Option Held) (ps : List Held) → n ≤ first + length cs → at_after o ≤ first + length cs
      → walk (part_ok a k first cs fs) keep o ps ≡ true
      → (n + wanted n ps ≤ first + length cs) × (at_after o + wanted n ps ≤ first + length cs)
  unfolding wanted
  few_wanted n o [] l m e = (omega arith, omega arith)
  few_wanted n o (p ∷ ps) l m e =
      let w = part→ a k first cs fs o p (walk_head (part_ok a k first cs fs) keep o p ps e) in
      let g = (follows→ o p w.1).0 in
      let h = w.0.high in
      let r = few_wanted n (Some p) ps l (omega arith) (walk_tail (part_ok a k first cs fs) keep o p ps e) in
      let r0 = r.0 in let r1 = r.1 in
      test (ltb p.at n) (λ q. let z = ltb-true p.at n q in rw q (omega arith, omega arith))
      (λ q. let z = ltb-false p.at n q in rw q (omega arith, omega arith))

module _ {a : Area} {k budget first : ℕ} {cs : List Checkpoint} (f h : ℕ) (t : PartTables)
    (ok : HeldIs a k budget first cs (frames_in f t.frames t.store) (parts_in h t.parts)) where
  -- another list's tables
  pub lent_from : f * 8 ≤ length t.frames → h * 24 ≤ length t.parts → budget ≤ length t.store → Lent f h t
  unfolding frame_of
  lent_from lf lp ls =
      let u = frames_used a budget (frames_in f t.frames t.store) ok.frames in
      record {
        frames = lf;
        parts = lp;
        store = omega arith;
        order = in_order a k first cs
            (frames_in f t.frames t.store) None (parts_in h t.parts) ok.parts;
      }

  pub wanted_from : (n : ℕ) → n ≤ first + length cs → n + wanted n (parts_in h t.parts) ≤ first + length cs
  wanted_from n l =
      (few_wanted a k first cs (frames_in f t.frames t.store) n None (parts_in h t.parts) l (omega arith)
      ok.parts).0

  -- the own tables, with space for n more
  pub room_from : {c : Counts} (n m : ℕ) → c.frames ≡ f → c.parts ≡ h
      → c.used ≡ used (frames_in f t.frames t.store) → kinds_ok h t.parts ≡ true
      → length cs + n ≤ m → m * 8 ≤ length t.frames → m * 24 ≤ length t.parts → budget ≤ length t.store
      → m < 4294967296 → Room n budget c t
  room_from {c} n m ef eh eu kinds l lf lp ls small =
      let u = frames_used a budget (frames_in f t.frames t.store) ok.frames in
      let x = held_counts a k budget first cs (frames_in f t.frames t.store) (parts_in h t.parts) ok in
      let cf = count f t.frames t.store in let cp = records_length 24 decode_held h t.parts in
      let x0 = x.0 in let x1 = x.1 in
      record {
        ready =
            record {
              frames = omega arith;
              parts = omega arith;
              store = ls;
              bytes = rw ef eu;
              fits = omega arith;
              some = λ z.
                  let q = ap frames_to (latest_last (parts_in h t.parts) (omega arith)) in let r = ok.reached in
                  omega arith;
            };
        kinds = rw eh kinds;
        frames = omega arith;
        parts = omega arith;
        few = (omega arith, omega arith);
      }
