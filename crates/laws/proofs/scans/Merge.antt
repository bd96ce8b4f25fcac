-- Merging keeps question 4. Assumes nothing.
use mathlib.Core.Path.{◌≡◌, sym, ap, ap₂, ◌∙◌}
use mathlib.Core.Bool.{true, ◌||◌, not}
use mathlib.Core.Logic.{⊎_elim}
use mathlib.Core.List.{List, ◌++◌}
use Prim.Native.Nat.{ℕ, ◌-◌, ◌≤◌}
use native.Mathlib.Nat.{zero-add, sub-zero}
use native.Mathlib.Omega.{arith}
use lib.Dec.{ltb}
use lib.ListN.{length, take, drop, take-append-drop}
use borrow.Author.Tests.{ltb-true}
use Rattle.rules.specs.declared.Area.{Area}
use Rattle.rules.specs.declared.Checkpoint.{Checkpoint}
use Rattle.rules.specs.declared.Held.{Held}
use Rattle.rules.specs.Tests.{agrees}
use Rattle.rules.specs.Values.{Frame, Scan, complete, count, boundaries, same_checkpoint}
use Rattle.rules.specs.PartRule.{Stored, add_parts}
use Rattle.rules.specs.Merge.{further, merged_stored, taken_scan, merged_scan}
use Rattle.rules.specs.Run.{Content}
use Rattle.laws.specs.Kept.{Says}
use Rattle.rules.proofs.Tests.{choose, and_right, or_cases, agrees_prefix}
use Rattle.rules.proofs.Same.{same_checkpoint_eq}
use Rattle.laws.proofs.scans.Parts.{HeldIs, latest}
use Rattle.laws.proofs.scans.PartRule.{Taken, add_parts_ok}
use Rattle.laws.proofs.scans.Scans.{ScanIs}

-- the parts of a list from number first on are added to those of an index
pub index_takes : (P : ℕ → Content → Type 0) (a : Area) (k budget budget' first : ℕ) (cs ds : List Checkpoint) (gs : List Frame) (qs : List Held) (h : Stored)
    → HeldIs a k budget 0 cs h.frames h.parts → HeldIs a k budget' first ds gs qs → first ≤ length cs → Says P h.frames h.parts → Says P gs qs
    → Taken P a k budget 0 (cs ++ drop (length cs - first) ds) (length cs) h (latest qs) (add_parts budget gs (length cs) qs h)
index_takes P a k budget budget' first cs ds gs qs h ok ok' l s s' =
    rw (zero-add (length cs)) at (add_parts_ok P a k budget budget' 0 first cs ds gs qs h ok ok' (omega arith) s (λ i z m. s' i z))

-- the rest of a list appended to its first part is the list: what merge appends, after question 43
pub appended : (cs ds : List Checkpoint) → cs ≡ take (length cs) ds → cs ++ drop (length cs) ds ≡ ds
appended cs ds e = ap (λ (l : List Checkpoint). l ++ drop (length cs) ds) e ∙ take-append-drop (length cs) ds

module _ (own other : Scan) (ok : ScanIs own) (ok' : ScanIs other) (ea : own.area ≡ other.area) (ei : own.interval ≡ other.interval) where
  -- a further list has no fewer checkpoints
  pub further_count : further own other ≡ true → count own ≤ count other
  unfolding further
  further_count f =
      let x = ok.stretch.within in let b = ap₂ boundaries ea ei in
      ⊎_elim (λ v. let y = ok'.stretch.full v in omega arith) (λ v. let y = ltb-true (count own) (count other) v in omega arith)
      (or_cases (complete other) (ltb (count own) (count other)) (and_right (not (complete own)) (complete other || ltb (count own) (count other)) f))

  -- its checkpoints begin with the own ones
  pub further_prefix : agrees same_checkpoint own.checkpoints other.checkpoints ≡ true → further own other ≡ true → own.checkpoints ≡ take (count own) other.checkpoints
  further_prefix g f = agrees_prefix same_checkpoint same_checkpoint_eq own.checkpoints other.checkpoints g (further_count f)

  module _ (P : ℕ → Content → Type 0) (s : Says P own.frames own.parts) (s' : Says P other.frames other.parts)
      (prefix : further own other ≡ true → own.checkpoints ≡ take (count own) other.checkpoints) where
    merge_takes : further own other ≡ true
        → Taken P own.area own.interval own.budget 0 other.checkpoints (count own) (record { frames = own.frames; parts = own.parts }) (latest other.parts) (merged_stored own other)
    merge_takes f =
        let theirs : HeldIs own.area own.interval other.budget 0 other.checkpoints other.frames other.parts = rw (ea, ei) ok'.stretch.held in
        let cs : own.checkpoints ++ drop (count own - 0) other.checkpoints ≡ other.checkpoints =
        ap (λ (n : ℕ). own.checkpoints ++ drop n other.checkpoints) (sub-zero (count own)) ∙ appended own.checkpoints other.checkpoints (prefix f) in
        rw cs at
        (index_takes P own.area own.interval own.budget other.budget 0 own.checkpoints other.checkpoints other.frames other.parts
        (record { frames = own.frames; parts = own.parts }) ok.stretch.held theirs (omega arith) s s')

    taken_ok : further own other ≡ true → ScanIs (taken_scan own other)
    taken_ok f =
        let t = ok'.stretch in let b = ap₂ boundaries ea ei in
        rw (appended own.checkpoints other.checkpoints (prefix f))
        (record {
          stretch =
              record {
                within = let x = t.within in omega arith;
                full = λ v. t.full v ∙ sym b;
                checkpoints = rw ei t.checkpoints;
                held = (merge_takes f).held;
                ending = rw ea t.ending;
              };
          malformed = rw (ea, ei) ok'.malformed;
        })

    -- closure of question 4 under merging, and the parts still say what P says
    pub merged_ok : ScanIs (merged_scan own other) × Says P (merged_scan own other).frames (merged_scan own other).parts
    unfolding merged_scan
    merged_ok =
        choose (λ x. ScanIs x × Says P x.frames x.parts) (further own other) (taken_scan own other) own (λ f. (taken_ok f, (merge_takes f).says)) (λ f. (ok, s))
