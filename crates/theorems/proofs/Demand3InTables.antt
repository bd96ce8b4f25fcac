-- Demand 3 about tables: the statements of specs/Demand3InTables.antt. Assumes nothing.
use Rattle.std.specs.Prelude.{Option, None, Some}
use mathlib.Core.Path.{◌≡◌, refl, sym, ap, ap₂, subst, ◌∙◌}
use mathlib.Core.List.{List, [], ◌∷◌, ◌++◌}
use mathlib.Core.Bool.{true}
use Prim.Native.Nat.{ℕ, zero, suc, ◌+◌, ◌<◌, ◌≤◌}
use native.Mathlib.Omega.{arith}
use lib.Dec.{eqb}
use lib.ListN.{length, get_or, take, drop, replicate, length-drop}
use lib.Seq.{take-take, take-append-le, drop-drop}
use borrow.Author.Tests.{eqb-true, eq-eqb, le-leb}
use Rattle.rules.specs.declared.Area.{Area}
use Rattle.rules.specs.declared.Held.{Held}
use Rattle.rules.specs.declared.HeldPart.{HeldPart}
use Rattle.rules.specs.declared.Plan.TheVariants.{At}
use Rattle.rules.specs.Tests.{first_no}
use Rattle.rules.specs.Values.{Frame, Index, Lengths, no_held, frame_at, part_bytes, used}
use Rattle.rules.specs.Questions.{question1, question2, four}
use Rattle.rules.specs.Plan.{offset_of, assembly_of, planned, plan, start_of, bytes_at}
use Rattle.rules.specs.Run.{Reading, Content, Cut, Place, State, begin, merge_refusal}
use Rattle.rules.proofs.Tests.{test, asked, both, accepted→, and_left}
use Rattle.laws.proofs.scans.Parts.{part_at}
use Rattle.laws.proofs.scans.Scans.{scan_of, scan→}
use Rattle.tables.specs.Index.{room_of, room_in, index_in, kinds_in}
use Rattle.index.specs.Steps.{Passes, held_question4}
use Rattle.plan.specs.Plan.{plan_in}
use Rattle.index.proofs.Questions.{passes_store}
use Rattle.tables.specs.declared.FrameHeader.{FrameHeader}
use Rattle.tables.specs.Tables.{headers_in, stretch, frames_of}
use Rattle.tables.proofs.Frames.{stretch_length}
use Rattle.theorems.specs.Terms.{AllCut}
use Rattle.theorems.specs.TableRun.{TablePlace, TableCall, is_accepted, merging, place_in, call_of, calls_of, state_in, AllCutIn, after_table_calls}
use Rattle.theorems.specs.Demand3InTables.{OutcomesInTables, PartsByRuleInTables, Demand3InTables, HoldsPart, part_in, PartsAgreeInTables, PlansHeldPart, MergeAcceptedInTables, NoneRefusedInTables, JumpNotBackInTables}
use Rattle.theorems.proofs.Accepts.{refuses_nothing}
use Rattle.theorems.proofs.Demand3.{Good, run_good, start_good, parts_left, outcomes, none_refused}
use Rattle.theorems.proofs.Jump.{jump_not_back}
use Rattle.theorems.proofs.MergeInTables.{kinded→, merge_left}
use Rattle.theorems.proofs.TableRun.{cut_savable, cut_list, left, step_same, merged_place, kinds_pass}
use Rattle.theorems.proofs.lacking.Planned.{planned_part}

-- ---- what a run leaves
pub outcomes_in_tables : OutcomesInTables
outcomes_in_tables R p c cs i = rw (left R p c cs).is
    (outcomes R (λ k. place_in (p k)) (λ k. cut_list (c k)) (calls_of cs) i)

pub parts_by_rule_in_tables : PartsByRuleInTables
parts_by_rule_in_tables R p c cs d =
    let first : ℕ → Place = λ k. place_in (p k) in
    let cut : AllCut R first = λ k. cut_list (c k) in
    let s = after_table_calls R p cs in
    let l = left R p c cs in
    let g : Good R first cut (state_in s) = rw l.is
    (run_good R first cut (calls_of cs) (begin first) (start_good R first cut)) in
    rw (step_same R first cut d s g l.kinds).is (parts_left R first cut (call_of d) (state_in s) g)

module _ (R : Reading) (p : ℕ → TablePlace) (c : AllCutIn R p) (cs : List TableCall) (i j : ℕ) where
  abbrev place : ℕ → TablePlace
  place k = (after_table_calls R p cs).now k

  accepts : merge_refusal (place_in (place i)) (place_in (place j)) ≡ 0
      → is_accepted (merging (place i) (place j)).answer ≡ true
  accepts n =
      let k = (left R p c cs).kinds in
      (merged_place (place i) (place j) (cut_savable _ (outcomes_in_tables R p c cs i).cut)
      (cut_savable _ (outcomes_in_tables R p c cs j).cut) (k i) (k j)).2 ∙ eq-eqb _ 0 n

pub merge_accepted_in_tables : MergeAcceptedInTables
merge_accepted_in_tables R p c cs i j q r n = accepts R p c cs i j ((outcomes_in_tables R p c cs i).joins j q r n)

pub none_refused_in_tables : NoneRefusedInTables
none_refused_in_tables R p c t q cs i j =
    accepts R p c cs i j
    (subst (λ (σ : State). merge_refusal (σ.now i) (σ.now j) ≡ 0) (sym (left R p c cs).is)
    (none_refused R (λ k. place_in (p k)) (λ k. cut_list (c k)) t q (calls_of cs) i j))

-- ---- jumps
pub jump_not_back_in_tables : JumpNotBackInTables
unfolding plan_in
jump_not_back_in_tables x t y u z t' f a b e =
    let own = index_in x t in
    let l = merge_left x t y u z t' a b e in
    let m = l.list in
    let p = refuses_nothing.plans in
    record {
      before = planned own.scan f;
      after = planned m.scan f;
      planned = kinds_pass (kinds_in x t) _ (and_left (kinds_in x t) _ l.both) ∙ p (room_of t) own f l.own;
      replanned =
          kinds_pass (kinds_in z t') _ l.kinds
          ∙ ap₂ (λ (n : Lengths) (i : Index). plan n i f) l.room l.stands ∙ p (room_of t) m f l.valid;
      forward =
          subst (λ (r : Area). start_of x.area (planned own.scan f) ≤ start_of r (planned m.scan f))
          (sym (ap (λ (i : Index). i.scan.area) l.stands))
          (jump_not_back (room_of t) (room_of u) own (index_in y u) m f l.accepted);
    }

-- ---- held parts
-- the part that a plan names
named : List Frame → Held → HeldPart
named fs p = record {
  kind = p.kind;
  number = p.number;
  remaining = p.remaining;
  offset = offset_of fs p.frame;
  len = p.len;
}

held_of : HeldPart → Option HeldPart → HeldPart
held_of d None = d
held_of d (Some h) = h

is_stored : Option HeldPart → ℕ
is_stored None = 0
is_stored (Some h) = 1

found : (fs : List Frame) (ps : List Held) (j : ℕ) (h : HeldPart) → assembly_of fs ps j ≡ Some h
    → (i : ℕ) × (i < length ps) × ((get_or ps i no_held).at ≡ j) × (named fs (get_or ps i no_held) ≡ h)
unfolding assembly_of named is_stored held_of
found fs [] j h e = let z : ◌≡◌ {A = ℕ} 0 1 = ap is_stored e in let f : ⊥ = omega arith in absurd f
found fs (p ∷ ps) j h e =
    test (eqb p.at j) (λ b. (0, omega arith, eqb-true p.at j b, ap (held_of h) (rw b at e)))
    (λ b. let r = found fs ps j h (rw b at e) in (suc r.0, omega (arith, r.1), r.2, r.3))

-- the bytes of a frame from its start on, as far as they lie in the store
in_store : (hs : List FrameHeader) (store : List ℕ) (i n : ℕ) → n ≤ length (frame_at (frames_of hs store) i).bytes
    → used (take i (frames_of hs store)) + n ≤ length store
    → take n (drop (used (take i (frames_of hs store))) store) ≡ take n (frame_at (frames_of hs store) i).bytes
unfolding frames_of used stretch
in_store [] store i n l b = let z : n ≡ 0 = omega arith in rw z refl
in_store (h ∷ hs) store zero n l b =
    let m : n ≤ h.len = rw (stretch_length h.len store) at l in
    sym (take-take n h.len (store ++ replicate h.len 0) m
    ∙ take-append-le n store (replicate h.len 0) (omega arith))
in_store (h ∷ hs) store (suc i) n l b =
    let m : h.len + used (take i (frames_of hs (drop h.len store))) + n ≤ length store = rw
    (stretch_length h.len store) at b in
    rw (stretch_length h.len store, ← drop-drop (used (take i (frames_of hs (drop h.len store)))) h.len store)
    (in_store hs (drop h.len store) i n l (rw (length-drop h.len store) (omega (arith, m))))

-- a part's bytes are those of its frame
bytes_in : (hs : List FrameHeader) (store : List ℕ) (d : Held) → let fs = frames_of hs store in
    d.len ≤ length (frame_at fs d.frame).bytes → offset_of fs d.frame + d.len ≤ length store
    → bytes_at store (offset_of fs d.frame) d.len ≡ part_bytes fs d
unfolding bytes_at
bytes_in hs store d l n = rw (le-leb _ _ n) (in_store hs store d.frame d.len l n)

-- and lie among those of all
within_used : (fs : List Frame) (i n : ℕ) → i < length fs → n ≤ length (frame_at fs i).bytes
    → used (take i fs) + n ≤ used fs
unfolding used
within_used [] i n l b = let z : ⊥ = omega arith in absurd z
within_used (f ∷ fs) zero n l b = omega arith
within_used (f ∷ fs) (suc i) n l b = let r = within_used fs i n (omega arith) b in omega (arith, r)

-- what a place holds for a checkpoint, where its list is cut from the reading, is what the reading says of it
part_said : (R : Reading) (p : TablePlace) → Cut R (index_in p.numbers p.tables) → (at : ℕ) (h : HeldPart)
    → HoldsPart p at h
    → record { bytes = part_in p h; number = h.number; kind = h.kind; remaining = h.remaining } ≡ R.part at
unfolding named
part_said R p c at h w =
    let x = p.numbers in
    let u = p.tables in
    let v = index_in x u in
    let fs = v.scan.frames in
    let f = found fs v.scan.parts at h w.part in
    let d = get_or v.scan.parts f.0 no_held in
    let i = part_at v.scan.area v.scan.interval v.scan.budget 0 v.scan.checkpoints fs
    v.scan.parts f.0 (scan→ v.scan (scan_of v c.four)).stretch.held f.1 in
    let n : offset_of fs d.frame + d.len ≤ length u.store = subst
    (λ (g : HeldPart). g.offset + g.len ≤ length u.store) (sym f.3) w.inside in
    let b : bytes_at u.store (offset_of fs d.frame) d.len
    ≡ part_bytes fs d = bytes_in (headers_in x.frames u.frames) u.store d i.len n in
    subst (λ (g : HeldPart). record {
      bytes = part_in p g;
      number = g.number;
      kind = g.kind;
      remaining = g.remaining;
    } ≡ R.part at) f.3
    ((λ j. record { bytes = b j; number = d.number; kind = d.kind; remaining = d.remaining })
    ∙ c.parts f.0 f.1 ∙ ap R.part f.2)

pub parts_agree_in_tables : PartsAgreeInTables
parts_agree_in_tables R p q c d cs ds i j at h k a b =
    let e = part_said R ((after_table_calls R p cs).now i) (outcomes_in_tables R p c cs i).cut at h a
    ∙ sym (part_said R ((after_table_calls R q ds).now j) (outcomes_in_tables R q d ds j).cut at k b) in
    record {
      bytes = ap (λ (m : Content). m.bytes) e;
      number = ap (λ (m : Content). m.number) e;
      kind = ap (λ (m : Content). m.kind) e;
      remaining = ap (λ (m : Content). m.remaining) e;
    }

pub plans_held_part : PlansHeldPart
unfolding plan_in plan planned question1 question2 room_in held_question4 named
plans_held_part p t r h e s =
    let x = p.numbers in
    let u = p.tables in
    let v = index_in x u in
    let k = kinded→ (kinds_in x u) (plan (room_of u) v t) (At r) e in
    let a = accepted→ (first_no (four (room_of u) v [])) (planned v.scan t) (At r) k.1 in
    let q = asked _ refl a.0 in
    let fs = v.scan.frames in
    let w : assembly_of fs v.scan.parts r.number ≡ Some h =
    sym (planned_part v.scan t r a.1) ∙ s in
    let f = found fs v.scan.parts r.number h w in
    let d = get_or v.scan.parts f.0 no_held in
    let i = part_at v.scan.area v.scan.interval v.scan.budget 0 v.scan.checkpoints fs
    v.scan.parts f.0 (scan→ v.scan (scan_of v q.1.1.1.0)).stretch.held f.1 in
    let pass : Passes x u = record {
      roomy = record { area = q.0; numbers = q.1.0; room = q.1.1.0 };
      held = both q.1.1.1.0 k.0;
    } in
    let n : offset_of fs d.frame + d.len ≤ length u.store = omega
    (arith, within_used fs d.frame d.len i.frame i.len, passes_store pass) in
    record { inside = subst (λ (g : HeldPart). g.offset + g.len ≤ length u.store) f.3 n; part = w }

pub demand3_in_tables : Demand3InTables
demand3_in_tables =
    record {
      outcomes = outcomes_in_tables;
      parts_by_rule = parts_by_rule_in_tables;
      parts_agree = parts_agree_in_tables;
      planned = plans_held_part;
      accepted = merge_accepted_in_tables;
      none_refused = none_refused_in_tables;
      jump = jump_not_back_in_tables;
    }
