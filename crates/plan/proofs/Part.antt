-- The part that a plan names is held, and its bytes lie in the store where the plan says. Assumes nothing.
use Rattle.std.specs.Prelude.{Option, None, Some}
use mathlib.Core.Path.{◌≡◌, refl, sym, ap, ◌∙◌}
use mathlib.Core.List.{List, [], ◌∷◌}
use Prim.Native.Nat.{ℕ, suc, ◌<◌}
use native.Mathlib.Omega.{arith}
use borrow.Author.Tests.{eqb-true}
use lib.Dec.{eqb, leb}
use lib.ListN.{length, get_or, drop}
use Rattle.field.proofs.Records.{records_length}
use Rattle.rules.specs.declared.AreaIndex.{AreaIndex}
use Rattle.rules.specs.declared.EndState.{EndState}
use Rattle.rules.specs.declared.Held.{Held}
use Rattle.rules.specs.declared.HeldPart.{HeldPart}
use Rattle.rules.specs.declared.Plan.{Plan}
use Rattle.rules.specs.declared.Plan.TheVariants.{At, End}
use Rattle.rules.specs.declared.Resume.{Resume}
use Rattle.rules.specs.Values.{Frame, Scan, no_held, used}
use Rattle.rules.specs.Sections.{parts_ok}
use Rattle.rules.specs.File.{decode_held}
use Rattle.rules.specs.Plan.{offset_of, assembly_of, plan_from, plan_or, planned, bytes_at}
use Rattle.rules.proofs.Tests.{test, all→, after→, accepted→}
use Rattle.laws.proofs.scans.Parts.{part→}
use Rattle.rules.proofs.Walk.{walk_at}
use Rattle.tables.specs.Index.{Tables, index_in, refusal}
use Rattle.index.specs.Steps.{Passes}
use Rattle.index.proofs.Questions.{passes, passes_parts}
use Rattle.index.proofs.Store.{store_part}
use Rattle.index.proofs.Lent.{store_is}
use Rattle.plan.specs.Steps.{stored_of}
use Rattle.plan.specs.Part.{Names, PlanNames}
use Rattle.plan.proofs.Steps.{answer_is}

-- ---- a stored part is one of the list
record Found (fs : List Frame) (ps : List Held) (j : ℕ) (h : HeldPart) : Type 0 where
  place : ℕ
  within : place < length ps
  at : (get_or ps place no_held).at ≡ j
  is : Some h ≡ stored_of fs (get_or ps place no_held)

found : (fs : List Frame) (ps : List Held) (j : ℕ) (h : HeldPart) → assembly_of fs ps j ≡ Some h → Found fs ps j h
unfolding assembly_of
found fs [] j h e = let z : ◌≡◌ {A = ℕ} 0 1 = cc in let f : ⊥ = omega arith in absurd f
found fs (p ∷ ps) j h e =
    test (eqb p.at j)
    (λ q. let s : stored_of fs p ≡ Some h = rw q at e in
    record { place = 0; within = omega arith; at = eqb-true p.at j q; is = sym s })
    (λ q.
    let r = found fs ps j h (rw q at e) in
    record { place = suc r.place; within = let l = r.within in omega arith; at = r.at; is = r.is })

-- ---- what a plan says of its checkpoint's part
from_some : (x : Scan) (o : Option ℕ) (r : Resume) → plan_from x o ≡ At r
    → r.assembly ≡ assembly_of x.frames x.parts r.number
unfolding plan_from
from_some x None r e = let z : ◌≡◌ {A = ℕ} 0 1 = cc in let f : ⊥ = omega arith in absurd f
from_some x (Some j) r e =
    let n : j ≡ r.number = cc in
    let a : assembly_of x.frames x.parts j ≡ r.assembly = cc in
    rw (← n) (sym a)

or_some : (f : ℕ) (o : Option EndState) (p : Plan) (r : Resume) → plan_or f o p ≡ At r → p ≡ At r
unfolding plan_or
or_some f None p r e = e
or_some f (Some s) p r e =
    test (leb s.threshold f) (λ q. let w : End s ≡ At r = rw q at e in let z : ◌≡◌ {A = ℕ} 0 1 = cc in
    let g : ⊥ = omega arith in absurd g) (λ q. rw q at e)

planned_part : (x : Scan) (f : ℕ) (r : Resume) → planned x f ≡ At r
    → r.assembly ≡ assembly_of x.frames x.parts r.number
unfolding planned
planned_part x f r e = from_some x _ r (or_some f x.ending _ r e)

-- ---- its bytes
offset_is : (fs : List Frame) (p : Held) (h : HeldPart) → Some h ≡ stored_of fs p → h.offset ≡ offset_of fs p.frame
offset_is fs p h e = cc

len_is : (fs : List Frame) (p : Held) (h : HeldPart) → Some h ≡ stored_of fs p → h.len ≡ p.len
len_is fs p h e = cc

bytes_same : {o o' l l' : ℕ} {b : List ℕ} (s : List ℕ) → o ≡ o' → l ≡ l' → bytes_at s o' l' ≡ b → bytes_at s o l ≡ b
bytes_same s p q e = rw (p, q) e

named : {x : AreaIndex} {t : Tables} {j : ℕ} {h : HeldPart} → Passes x t
    → assembly_of (index_in x t).scan.frames (index_in x t).scan.parts j ≡ Some h → Names x t j h
unfolding parts_ok
named {x} {t} {j} {h} p e =
    let fs = (index_in x t).scan.frames in
    let ps = (index_in x t).scan.parts in
    let g = found fs ps j h e in
    let w = (all→ _ (passes_parts p)).0 in
    let k = (part→ x.area x.interval 0 (index_in x t).scan.checkpoints fs _ (get_or ps g.place no_held)
    (walk_at _ _ no_held None ps g.place w g.within)).0 in
    let b : bytes_at t.store (offset_of fs (get_or ps g.place no_held).frame) (get_or ps g.place no_held).len ≡ _ =
    ap (λ (s : List ℕ). bytes_at s (offset_of fs (get_or ps g.place no_held).frame) (get_or ps g.place no_held).len)
    (sym (store_is p))
    ∙ store_part fs (drop (used fs) t.store) (get_or ps g.place no_held) k.frame k.len in
    record {
      place = g.place;
      within = rw (records_length 24 decode_held x.parts t.parts) at g.within;
      at = g.at;
      bytes =
          bytes_same t.store (offset_is fs (get_or ps g.place no_held) h g.is)
          (len_is fs (get_or ps g.place no_held) h g.is) b;
    }

pub plan_names : PlanNames
plan_names x t f r h e a =
    let n = after→ (refusal x t) _ (At r) (sym (answer_is x t f refl) ∙ e) in
    let q = (accepted→ _ _ (At r) n.1).1 in
    named (passes x t n.0) (sym (planned_part (index_in x t).scan f r q) ∙ a)
