-- A part's bytes in the store, and the part of a checkpoint. Assumes nothing.
use Rattle.rules.specs.declared.HeldPart.{HeldPart}
use Rattle.std.specs.Prelude.{Option, None}
use mathlib.Core.Path.{◌≡◌, refl, sym, ap, ◌∙◌}
use mathlib.Core.Bool.{cond}
use mathlib.Core.List.{List, [], ◌∷◌}
use Prim.Native.Nat.{ℕ, zero, suc, ◌+◌, ◌<◌, ◌≤◌}
use native.Mathlib.Numerals.{add-one}
use native.Mathlib.Omega.{arith}
use borrow.Author.Tests.{eq-eqb, ne_eqb}
use lib.Dec.{eqb}
use lib.ListN.{length, take, drop, drop_of_length-le}
use lib.Seq.{drop-nil}
use Rattle.field.specs.Records.{record_at}
use Rattle.field.proofs.Records.{records_length}
use Rattle.rules.specs.declared.Held.{Held}
use Rattle.rules.specs.Values.{Frame, used}
use Rattle.rules.specs.File.{decode_held}
use Rattle.rules.specs.Plan.{offset_of, assembly_of}
use Rattle.tables.specs.declared.FrameHeader.{FrameHeader}
use Rattle.tables.specs.Tables.{header_at, frames_of, parts_in}
use Rattle.tables.proofs.Frames.{stretch_length, frames_used, weight}
use Rattle.tables.proofs.Walk.{records_turn}
use Rattle.plan.specs.Steps.{stored_of}

-- ---- the bytes of the frames before one
take_frames : (g : ℕ) (hs : List FrameHeader) (store : List ℕ) → take g (frames_of hs store) ≡ frames_of (take g hs) store
unfolding frames_of
take_frames zero hs store = refl
take_frames (suc g) [] store = refl
take_frames (suc g) (h ∷ hs) store = rw (take_frames g hs (drop h.len store))

-- one frame more
weight_suc : (i : ℕ) (hs : List FrameHeader) → weight (take (suc i) hs) ≡ weight (take i hs) + (header_at hs i).len
unfolding frames_of used
weight_suc zero [] = refl
weight_suc (suc i) [] = refl
weight_suc zero (h ∷ hs) = rw stretch_length (omega arith)
weight_suc (suc i) (h ∷ hs) = rw (stretch_length, drop-nil, weight_suc i hs) (omega arith)

pub weight_next : {n : ℕ} {h : FrameHeader} (i : ℕ) (hs : List FrameHeader) → n ≡ weight (take i hs) → h ≡ header_at hs i
    → n + h.len ≡ weight (take (i + 1) hs)
weight_next i hs e g = sym (rw (add-one, weight_suc i hs, e, g))

pub weight_offset : {n : ℕ} (i g : ℕ) (hs : List FrameHeader) (store : List ℕ) → i ≤ g → g ≤ i → n ≡ weight (take i hs)
    → n ≡ offset_of (frames_of hs store) g
weight_offset i g hs store a b e =
    let q : i ≡ g = omega arith in
    e ∙ ap (λ (k : ℕ). weight (take k hs)) q ∙ rw (take_frames g hs store) (frames_used (take g hs) [] store)

-- ---- the part of checkpoint j: i parts are passed
pub record Sought (h : ℕ) (t : List ℕ) (j i : ℕ) : Type 0 where
  pub within : i ≤ h
  pub rest : (fs : List Frame) → assembly_of fs (drop i (parts_in h t)) j ≡ assembly_of fs (parts_in h t) j

module _ {h : ℕ} {t : List ℕ} {j i : ℕ} (s : Sought h t j i) where
  at : {p : Held} → i < h → p ≡ record_at 24 decode_held t i → (fs : List Frame)
      → cond (eqb p.at j) (stored_of fs p) (assembly_of fs (drop (i + 1) (parts_in h t)) j)
      ≡ assembly_of fs (parts_in h t) j
  unfolding assembly_of
  at {p} l e fs =
      rw e (sym (ap (λ (ps : List Held). assembly_of fs ps j) (records_turn 24 decode_held h t i l)) ∙ s.rest fs)

  pub sought_found : {p : Held} {r : Option HeldPart} → i < h → p ≡ record_at 24 decode_held t i → p.at ≡ j → (fs : List Frame)
      → r ≡ stored_of fs p
      → r ≡ assembly_of fs (parts_in h t) j
  sought_found {p} l e q fs g = g ∙ rw (eq-eqb p.at j q) at (at l e fs)

  pub sought_on : {p : Held} → i < h → p ≡ record_at 24 decode_held t i → (p.at ≡ j → ⊥) → Sought h t j (i + 1)
  sought_on {p} l e q = record { within = omega arith; rest = λ fs. rw (ne_eqb p.at j q) at (at l e fs) }

  pub sought_none : h ≤ i → (fs : List Frame) → None ≡ assembly_of fs (parts_in h t) j
  unfolding assembly_of
  sought_none l fs =
      let n : length (parts_in h t) ≤ i = rw records_length l in
      sym (ap (λ (ps : List Held). assembly_of fs ps j) (drop_of_length-le (parts_in h t) n)) ∙ s.rest fs
