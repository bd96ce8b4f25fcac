-- The part that a plan names, where nothing is lacking. Assumes nothing.
use Rattle.std.specs.Prelude.{Option, None, Some}
use mathlib.Core.Path.{◌≡◌, refl, sym, ap, ◌∙◌}
use mathlib.Core.Bool.{true}
use mathlib.Core.List.{List, [], ◌∷◌, ◌++◌}
use Prim.Native.Nat.{ℕ, zero, suc, ◌<◌}
use native.Mathlib.Omega.{arith}
use lib.Dec.{eqb, leb}
use lib.ListN.{length, get_or}
use borrow.Author.Tests.{eqb-true, eq-eqb, ne_eqb}
use Rattle.rules.specs.declared.EndState.{EndState}
use Rattle.rules.specs.declared.Held.{Held}
use Rattle.rules.specs.declared.HeldPart.{HeldPart}
use Rattle.rules.specs.declared.Plan.{Plan}
use Rattle.rules.specs.declared.Plan.TheVariants.{At, End}
use Rattle.rules.specs.declared.Resume.{Resume}
use Rattle.rules.specs.Values.{Frame, Scan, no_held}
use Rattle.rules.specs.Plan.{offset_of, assembly_of, plan_from, plan_or, planned, bytes_at}
use Rattle.rules.proofs.Tests.{test}
use Rattle.laws.proofs.scans.Parts.{part_at, parts_rise}
use Rattle.laws.proofs.scans.Scans.{ScanIs}
use Rattle.tables.specs.Index.{store_of}
use Rattle.index.proofs.Store.{store_part}
use Rattle.plan.specs.Steps.{stored_of}
use Rattle.rules_lacks.specs.Lacks.{covers, same_part}
use Rattle.rules_lacks.proofs.Laws.{covers→, same_part→}
use Rattle.theorems.specs.Lacks.{SamePart}

-- ---- what a plan says of its checkpoint's part
from_some : (x : Scan) (o : Option ℕ) (r : Resume) → plan_from x o ≡ At r → r.assembly
    ≡ assembly_of x.frames x.parts r.number
unfolding plan_from
from_some x None r e = let z : ◌≡◌ {A = ℕ} 0 1 = cc in let f : ⊥ = omega arith in absurd f
from_some x (Some j) r e =
    let n : j ≡ r.number = cc in
    let a : assembly_of x.frames x.parts j ≡ r.assembly = cc in
    rw (← n) (sym a)

or_some : (f : ℕ) (o : Option EndState) (p : Plan) (r : Resume) → plan_or f o p ≡ At r → p ≡ At r
unfolding plan_or
or_some f None p r e = e
or_some f (Some s) p r e =
    test (leb s.threshold f) (λ q. let w : End s
    ≡ At r = rw q at e in let z : ◌≡◌ {A = ℕ} 0 1 = cc in let g : ⊥ = omega arith in absurd g) (λ q. rw q at e)

pub planned_part : (x : Scan) (f : ℕ) (r : Resume) → planned x f ≡ At r → r.assembly
    ≡ assembly_of x.frames x.parts r.number
unfolding planned
planned_part x f r e = from_some x _ r (or_some f x.ending _ r e)

-- ---- a stored part is one of the list, and the first of its checkpoint
record Found (fs : List Frame) (ps : List Held) (j : ℕ) (h : HeldPart) : Type 0 where
  place : ℕ
  within : place < length ps
  at : (get_or ps place no_held).at ≡ j
  is : Some h ≡ stored_of fs (get_or ps place no_held)

found : (fs : List Frame) (ps : List Held) (j : ℕ) (h : HeldPart) → assembly_of fs ps j ≡ Some h → Found fs ps j h
unfolding assembly_of
found fs [] j h e = let z : ◌≡◌ {A = ℕ} 0 1 = cc in let f : ⊥ = omega arith in absurd f
found fs (p ∷ ps) j h e =
    test (eqb p.at j)
    (λ q. let s : stored_of fs p ≡ Some h = rw q at e in record
    { place = 0; within = omega arith; at = eqb-true p.at j q; is = sym s })
    (λ q.
    let r = found fs ps j h (rw q at e) in
    record { place = suc r.place; within = let l = r.within in omega arith; at = r.at; is = r.is })

first_part : (fs : List Frame) (ps : List Held) (i : ℕ) → i < length ps
    → ((k : ℕ) → k < i → (get_or ps k no_held).at < (get_or ps i no_held).at)
    → assembly_of fs ps (get_or ps i no_held).at ≡ stored_of fs (get_or ps i no_held)
unfolding assembly_of
first_part fs [] i l f = let z : ⊥ = omega arith in absurd z
first_part fs (p ∷ ps) zero l f = rw (eq-eqb p.at p.at refl)
first_part fs (p ∷ ps) (suc i) l f =
    let w = f zero (omega arith) in
    rw (ne_eqb p.at (get_or ps i no_held).at (λ z. omega arith))
    (first_part fs ps i (omega arith) (λ k m. f (suc k) (omega arith)))

-- ---- the same part
kind_is : (fs : List Frame) (p : Held) (h : HeldPart) → Some h ≡ stored_of fs p → h.kind ≡ p.kind
kind_is fs p h e = cc

number_is : (fs : List Frame) (p : Held) (h : HeldPart) → Some h ≡ stored_of fs p → h.number ≡ p.number
number_is fs p h e = cc

remaining_is : (fs : List Frame) (p : Held) (h : HeldPart) → Some h ≡ stored_of fs p → h.remaining ≡ p.remaining
remaining_is fs p h e = cc

offset_is : (fs : List Frame) (p : Held) (h : HeldPart) → Some h ≡ stored_of fs p → h.offset ≡ offset_of fs p.frame
offset_is fs p h e = cc

len_is : (fs : List Frame) (p : Held) (h : HeldPart) → Some h ≡ stored_of fs p → h.len ≡ p.len
len_is fs p h e = cc

bytes_same : {o o' l l' : ℕ} {b : List ℕ} (s : List ℕ) → o ≡ o' → l ≡ l' → bytes_at s o' l' ≡ b → bytes_at s o l ≡ b
bytes_same s p q e = rw (p, q) e

module _ (own other : Scan) (ok : ScanIs own) (ok' : ScanIs other)
    (c : covers (same_part own.frames other.frames) own.parts other.parts ≡ true) where
  named : (j : ℕ) (h : HeldPart) → assembly_of other.frames other.parts j ≡ Some h
      → (k : HeldPart) × (assembly_of own.frames own.parts j ≡ Some k)
      × SamePart own.frames k other.frames h
  named j h e =
      let f = found other.frames other.parts j h e in
      let g = covers→ no_held (same_part own.frames other.frames) own.parts other.parts c f.place
      f.within in
      let p = get_or own.parts g.place no_held in let q = get_or other.parts f.place no_held in
      let s = same_part→ own.frames other.frames p q g.holds in
      let at : p.at ≡ j = s.0 ∙ f.at in
      let k : HeldPart = record {
        kind = p.kind;
        number = p.number;
        remaining = p.remaining;
        offset = offset_of own.frames p.frame;
        len = p.len;
      } in
      let mine = part_at own.area own.interval own.budget 0 own.checkpoints own.frames own.parts
      g.place ok.stretch.held g.inside in
      let theirs = part_at other.area other.interval other.budget 0 other.checkpoints other.frames
      other.parts f.place ok'.stretch.held f.within in
      let first : assembly_of own.frames own.parts p.at ≡ Some k =
      first_part own.frames own.parts g.place g.inside
      (λ i l. parts_rise own.area own.interval 0 own.checkpoints own.frames own.parts
      ok.stretch.held.parts i g.place l g.inside) in (
        k,
        ap (assembly_of own.frames own.parts) (sym at) ∙ first,
        record {
          kind = (λ i. (s.1 i).kind) ∙ sym (kind_is other.frames q h f.is);
          number = (λ i. (s.1 i).number) ∙ sym (number_is other.frames q h f.is);
          remaining = (λ i. (s.1 i).remaining) ∙ sym (remaining_is other.frames q h f.is);
          bytes = λ u v.
              store_part own.frames u p mine.frame mine.len ∙ (λ i. (s.1 i).bytes)
              ∙ sym (bytes_same (store_of other.frames ++ v) (offset_is other.frames q h f.is)
              (len_is other.frames q h f.is)
              (store_part other.frames v q theirs.frame theirs.len));
        },
      )

  pub plan_names : (t : ℕ) (r s : Resume) (h : HeldPart) → planned other t ≡ At r → planned own t ≡ At s → s.number
      ≡ r.number → r.assembly ≡ Some h
      → (k : HeldPart) × (s.assembly ≡ Some k) × SamePart own.frames k other.frames h
  plan_names t r s h e d n a =
      let w = named r.number h (sym (planned_part other t r e) ∙ a) in
      (w.0, planned_part own t s d ∙ ap (assembly_of own.frames own.parts) n ∙ w.1, w.2)
