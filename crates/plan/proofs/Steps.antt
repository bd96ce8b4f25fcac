-- A plan by its parts: the end state, the search, the checkpoint and its part. Assumes nothing.
use Rattle.rules.specs.declared.HeldPart.{HeldPart}
use Rattle.std.specs.Prelude.{Some, Option, None}
use mathlib.Core.Path.{◌≡◌, refl, sym, ap, ◌∙◌}
use mathlib.Core.List.{[]}
use Prim.Native.Nat.{ℕ, zero, suc, ◌-◌, ◌<◌, ◌≤◌}
use native.Mathlib.Omega.{arith}
use borrow.Author.Tests.{le-leb, lt-leb, eq-eqb, ne_eqb}
use Rattle.field.proofs.Records.{records_length}
use Rattle.rules.specs.declared.AreaIndex.{AreaIndex}
use Rattle.rules.specs.declared.Checkpoint.{Checkpoint}
use Rattle.rules.specs.declared.EndState.{EndState}
use Rattle.rules.specs.declared.Plan.{Plan}
use Rattle.rules.specs.declared.Plan.TheVariants as variant
use Rattle.rules.specs.Tests.{each, first_no, Accepted, after, Refused}
use Rattle.rules.specs.Values.{checkpoint_at, lsn_of}
use Rattle.rules.specs.File.{decode_checkpoint}
use Rattle.rules.specs.Plan.{last_not_above, assembly_of, plan_from, plan_or, planned, plan}
use Rattle.tables.specs.Tables.{checkpoints_in, frames_in, parts_in}
use Rattle.tables.specs.Index.{Tables, index_in, refusal}
use Rattle.plan.specs.Plan.{plan_in}
use Rattle.index.specs.Steps.{Passes}
use Rattle.plan.specs.Search.{last_in}
use Rattle.plan.specs.Steps.{PlanReads, resume_in, within_of, plan_of}
use Rattle.index.proofs.Four.{kinded_index}
use Rattle.index.proofs.Questions.{range, passes_long, checkpoints_hold}
use Rattle.plan.proofs.Rising.{rising}

pub ready : {x : AreaIndex} {t : Tables} → Passes x t → PlanReads x t
ready {x} {t} p =
    let r = range x.area p.roomy.area in
    let l = passes_long p in
    record {
      start = omega (arith, r.order, r.end);
      checkpoints = l.checkpoints;
      frames = l.frames;
      parts = l.parts;
      rising = rising x.interval x.checkpoints t.checkpoints (checkpoints_hold p);
    }

pub last_some : (m : ℕ) → (m ≡ 0 → ⊥) → last_in m ≡ Some (m - 1)
unfolding last_in
last_some zero h = absurd (h refl)
last_some (suc m) h = ap Some (let q : m ≡ suc m - 1 = omega arith in q)

module _ (x : AreaIndex) (t : Tables) where
  pub resume_is : {l : ℕ} {c : Checkpoint} {a : Option HeldPart} (j : ℕ) → l ≡ lsn_of x.area x.interval j
      → c ≡ checkpoint_at (checkpoints_in x.checkpoints t.checkpoints) j
      → a ≡ assembly_of (frames_in x.frames t.frames t.store) (parts_in x.parts t.parts) j
      → variant.At (record { number = j; lsn = l; checkpoint = c; assembly = a }) ≡ resume_in x t j
  unfolding resume_in
  resume_is j p q r = rw (p, q, r)

  module _ {m : ℕ} (f : ℕ) (e : last_in m ≡ last_not_above f (checkpoints_in x.checkpoints t.checkpoints)
      x.checkpoints) where
    pub within_none : m ≡ 0 → variant.Start ≡ within_of x t f
    unfolding within_of plan_from last_in
    within_none z = rw (← e, z)

    pub within_some : {r : Plan} → (m ≡ 0 → ⊥) → r ≡ resume_in x t (m - 1) → r ≡ within_of x t f
    unfolding within_of plan_from resume_in
    within_some z g =
        g ∙ sym (rw (← e, last_some m z))

  module _ (f : ℕ) where
    plan_is : plan_of x t f ≡ plan_or f x.ending (within_of x t f)
    unfolding plan_of planned within_of
    plan_is = rw (records_length 24 decode_checkpoint x.checkpoints t.checkpoints)

    pub plan_open : {r : Plan} → x.ending ≡ None → r ≡ within_of x t f → r ≡ plan_of x t f
    unfolding plan_or
    plan_open e g = g ∙ sym (plan_is ∙ rw e)

    pub plan_past : {e : EndState} → x.ending ≡ Some e → e.threshold ≤ f → variant.End e ≡ plan_of x t f
    unfolding plan_or
    plan_past {e} q h = sym (plan_is ∙ rw (q, le-leb e.threshold f h))

    pub plan_before : {e : EndState} {r : Plan} → x.ending ≡ Some e → f < e.threshold → r ≡ within_of x t f
        → r ≡ plan_of x t f
    unfolding plan_or
    plan_before {e} q h g = g ∙ sym (plan_is ∙ rw (q, lt-leb e.threshold f h))

    pub answer_is : {n : ℕ} → n ≡ refusal x t
        → plan_in x t f ≡ after n (after (first_no []) (Accepted (planned (index_in x t).scan f)))
    unfolding plan_in plan each
    answer_is e = kinded_index x t [] refl e _

    pub plan_no : {n : ℕ} → n ≡ refusal x t → (n ≡ 0 → ⊥) → Refused n ≡ plan_in x t f
    unfolding after
    plan_no {n} e h = sym (answer_is e ∙ rw (ne_eqb n 0 h))

    pub plan_yes : {n : ℕ} {p : Plan} → n ≡ refusal x t → n ≡ 0 → p ≡ plan_of x t f
        → Accepted p ≡ plan_in x t f
    unfolding plan_of after first_no
    plan_yes {n} e h g = sym (answer_is e ∙ rw (eq-eqb n 0 h, g))
