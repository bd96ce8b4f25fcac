-- What is lacking, from the numbers and the tables. Assumes nothing.
use Rattle.std.specs.Prelude.{Option, None, Some}
use mathlib.Core.Path.{◌≡◌, refl, sym, ap₂, ◌∙◌}
use mathlib.Core.Bool.{true}
use mathlib.Core.List.{List, [], ◌∷◌}
use Prim.Native.Nat.{ℕ, ◌-◌, ◌*◌, ◌≤◌}
use native.Mathlib.Omega.{arith}
use lib.Dec.{eqb}
use lib.ListN.{length}
use borrow.Author.Tests.{eqb-true, eq-eqb, ne_eqb}
use Rattle.field.proofs.Records.{records_length}
use Rattle.rules.specs.declared.Area.{Area}
use Rattle.rules.specs.declared.AreaIndex.{AreaIndex}
use Rattle.rules.specs.declared.Checkpoint.{Checkpoint}
use Rattle.rules.specs.declared.Held.{Held}
use Rattle.rules.specs.Tests.{walk, Accepted, after, Refused}
use Rattle.rules.specs.Values.{count}
use Rattle.rules.specs.Sections.{part_ok, malformed_ok, hints_ok, confirmations_ok, own_lsn, any_lsn}
use Rattle.rules.specs.Sections.{hint_lsn, hint_ok, confirmed_lsn, confirmation_ok}
use Rattle.rules.specs.File.{decode_checkpoint}
use Rattle.rules.proofs.Tests.{all→}
use Rattle.rules.proofs.Walk.{walk_head, walk_tail}
use Rattle.laws.proofs.scans.Parts.{keep, part→}
use Rattle.tables.specs.Tables.{decode_header, headers_in, frames_in, parts_in, lsns_in, confirmations_in, kept_in}
use Rattle.tables.proofs.Frames.{frames_length}
use Rattle.tables.specs.Index.{Tables, index_in}
use Rattle.index.specs.Steps.{Passes}
use Rattle.index.proofs.Questions.{passes_long, passes_hints, passes_store}
use Rattle.merge.specs.Merge.{merge_refusal}
use Rattle.merge.specs.Steps.{Joins}
use Rattle.merge.proofs.questions.Refusal.{asked_after}
use Rattle.merge.proofs.questions.Ready.{scan_is, hinting_is}
use Rattle.rules_lacks.specs.declared.Lacks.{Lacks}
use Rattle.lacks.specs.declared.Missing.{Missing}
use Rattle.rules_lacks.specs.Lacks.{same_hint, confirms_also, lacking, lacks}
use Rattle.lacks.specs.Pass.{missed}
use Rattle.lacks.specs.Parts.{part_key, PartsWithin, stands_in, PartsLent}
use Rattle.lacks.specs.Steps.{lacks_by, counts_in}
use Rattle.lacks.specs.Lacks.{lacks_in}
use Rattle.lacks.proofs.Pass.{missed_rising, hint_key, confirmed_key}
use Rattle.lacks.proofs.Parts.{parts_rise, parts_missed}

-- ---- what the steps need
walk_within : (a : Area) (k : ℕ) (cs : List Checkpoint) (f : ℕ) (headers store : List ℕ) (o : Option Held)
    (ps : List Held)
    → walk (part_ok a k 0 cs (frames_in f headers store)) keep o ps ≡ true → PartsWithin f headers store ps
walk_within a k cs f headers store o [] e = tt
walk_within a k cs f headers store o (p ∷ ps) e =
    let fs = frames_in f headers store in
    let h = (part→ a k 0 cs fs o p (walk_head (part_ok a k 0 cs fs) keep o p ps e)).0 in
    let l = h.frame in let n = frames_length (headers_in f headers) store in
    let m = records_length 8 decode_header f headers in (
      (omega arith, h.len),
      walk_within a k cs f headers store (Some p) ps (walk_tail (part_ok a k 0 cs fs) keep o p ps e),
    )

pub parts_lent : {x : AreaIndex} {t : Tables} → Passes x t
    → PartsLent x.parts t.parts x.frames t.frames t.store
parts_lent {x} {t} p =
    record {
      room = (passes_long p).parts;
      frames = record { room = (passes_long p).frames; bytes = passes_store p };
      within =
          walk_within x.area x.interval (index_in x t).scan.checkpoints x.frames t.frames t.store None
          (parts_in x.parts t.parts) (scan_is p).stretch.held.parts;
    }

module _ {x y : AreaIndex} {t u : Tables} (j : Joins x t y u) where
  pub lsns_room : (x.malformed * 4 ≤ length t.malformed) × (y.malformed * 4 ≤ length u.malformed)
  lsns_room = ((passes_long j.own).malformed, (passes_long j.other).malformed)

  pub hints_room : (x.hints * 8 ≤ length t.hints) × (y.hints * 8 ≤ length u.hints)
  hints_room = ((passes_hints j.own).hints, (passes_hints j.other).hints)

  pub confirmed_room : (x.confirmed * 16 ≤ length t.confirmed) × (y.confirmed * 16 ≤ length u.confirmed)
  confirmed_room = ((passes_hints j.own).confirmed, (passes_hints j.other).confirmed)

  pub both_lent : PartsLent x.parts t.parts x.frames t.frames t.store
      × PartsLent y.parts u.parts y.frames u.frames u.store
  both_lent = (parts_lent j.own, parts_lent j.other)

  -- ---- the counts
  module _ {a b c d e : ℕ}
      (p0 : a ≡ y.checkpoints - x.checkpoints)
      (p1 : b ≡ missed part_key (stands_in x.frames t.frames t.store y.frames u.frames u.store)
      (parts_in x.parts t.parts) (parts_in y.parts u.parts))
      (p2 : c ≡ missed own_lsn eqb (lsns_in x.malformed t.malformed) (lsns_in y.malformed u.malformed))
      (p3 : d ≡ missed hint_lsn same_hint (kept_in x.hints t.hints) (kept_in y.hints u.hints))
      (p4 : e ≡ missed confirmed_lsn confirms_also (confirmations_in x.confirmed t.confirmed)
      (confirmations_in y.confirmed u.confirmed)) where
    pub counts_are : ◌≡◌ {A = Missing}
        (record { checkpoints = a; parts = b; malformed = c; hints = d; confirmed = e }) (counts_in x t y u)
    unfolding counts_in lacking malformed_ok hints_ok confirmations_ok
    counts_are =
        let s = scan_is j.own in let r = scan_is j.other in
        let g = hinting_is j.own in let h = hinting_is j.other in
        let e0 : a ≡ count (index_in y u).scan - count (index_in x t).scan =
        p0 ∙ sym
        (ap₂ (λ (p q : ℕ). q - p) (records_length 24 decode_checkpoint x.checkpoints t.checkpoints)
        (records_length 24 decode_checkpoint y.checkpoints u.checkpoints)) in
        let e1 =
        p1 ∙ parts_missed _ _ _ _ _ _ 0 0 _ _ (parts_rise _ _ _ _ _ _ s.stretch.held)
        (parts_rise _ _ _ _ _ _ r.stretch.held) in
        let e2 =
        p2 ∙ missed_rising own_lsn eqb eqb-true any_lsn _ _ _ _ _ _ (all→ _ s.malformed).1.0
        (all→ _ r.malformed).1.0 in
        let e3 = p3 ∙ missed_rising hint_lsn same_hint hint_key hint_ok _ _ _ _ _ _ g.hints h.hints in
        let e4 =
        p4 ∙ missed_rising confirmed_lsn confirms_also confirmed_key confirmation_ok _ _ _ _ _ _ g.confirmed
        h.confirmed in
        λ i. record { checkpoints = e0 i; parts = e1 i; malformed = e2 i; hints = e3 i; confirmed = e4 i }

-- ---- with the numbers
counted : (x : AreaIndex) (t : Tables) (y : AreaIndex) (u : Tables)
    → lacks_by x y (counts_in x t y u) ≡ lacking (index_in x t) (index_in y u)
unfolding lacks_by counts_in lacking
counted x t y u = refl

-- ---- the call
module _ (x : AreaIndex) (t : Tables) (y : AreaIndex) (u : Tables) {n : ℕ} (e : n ≡ merge_refusal x t y u) where
  call_is : lacks_in x t y u ≡ after n (Accepted (lacking (index_in x t) (index_in y u)))
  unfolding lacks
  call_is = asked_after x t y u (lacking (index_in x t) (index_in y u)) e

  pub lacks_refused : (n ≡ 0 → ⊥) → Refused n ≡ lacks_in x t y u
  unfolding after
  lacks_refused h = sym (call_is ∙ rw (ne_eqb n 0 h))

  pub lacks_done : {b : Lacks} {c : Missing} → n ≡ 0 → c ≡ counts_in x t y u → b ≡ lacks_by x y c
      → Accepted b ≡ lacks_in x t y u
  unfolding after
  lacks_done h g q = sym (call_is ∙ rw (eq-eqb n 0 h, q, g, counted x t y u))
