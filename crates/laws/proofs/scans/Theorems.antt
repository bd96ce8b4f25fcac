-- Absorbing, merging and loading with a limit keep question 4. Assumes nothing.
use Rattle.std.specs.Prelude.{Option}
use mathlib.Core.Path.{◌≡◌}
use mathlib.Core.Bool.{true, cond}
use mathlib.Core.List.{List}
use Prim.Native.Nat.{ℕ}
use lib.Dec.{eqb}
use borrow.Author.Tests.{eqb-true, eqb-false}
use Rattle.rules.specs.declared.Mode.TheVariants.{Stopped}
use Rattle.rules.specs.Values.{Index, Scan, Recorder, Lengths}
use Rattle.rules.specs.Questions.{scan_ok, question1, question2}
use Rattle.rules.specs.Record.{absorb, absorb_number, Absorbed, absorbed_index, emptied, is_stopped, with_mode}
use Rattle.rules.specs.Merge.{question41, question43, merged_scan}
use Rattle.rules.specs.Run.{Content}
use Rattle.laws.specs.Kept.{Says, Sound, SoundIndex}
use Rattle.rules.proofs.Tests.{choose, all→}
use Rattle.rules.proofs.Same.{same_area_eq}
use Rattle.laws.proofs.scans.Scans.{ScanIs, scan→, →scan}
use Rattle.laws.proofs.scans.Merge.{further_prefix, merged_ok}
use Rattle.laws.proofs.scans.Limit.{limited_ok, limited_says}
use Rattle.laws.proofs.scans.Record.{emptied_sound}
use Rattle.laws.proofs.scans.Absorb.{absorb_asked, absorbed_ok}
use Rattle.rules.specs.Load.{limited_scan}

-- ---- scans
pub absorb_sound : (l : Lengths) (x : Index) (m : Lengths) (r : Recorder) (image : Option ℕ) (ms : List ℕ) → (absorb l x m r image ms).number ≡ 0
    → SoundIndex (absorb l x m r image ms).index × Sound (absorb l x m r image ms).recorder
unfolding absorb question1 question2
absorb_sound l x m r image ms e =
    let n = absorb_number l x m r image ms in
    choose (λ (y : Absorbed). y.number ≡ 0 → SoundIndex y.index × Sound y.recorder) (eqb n 0)
    (cond (is_stopped r.mode) (record { number = 0; index = x; recorder = r }) (record { number = 0; index = absorbed_index x r image ms; recorder = emptied r }))
    (record { number = n; index = x; recorder = cond (eqb n 8) (with_mode r Stopped) r })
    (λ t.
    let z = eqb-true n 0 t in let a = absorb_asked l x m r image ms z in
    choose (λ (y : Absorbed). y.number ≡ 0 → SoundIndex y.index × Sound y.recorder) (is_stopped r.mode) (record { number = 0; index = x; recorder = r })
    (record { number = 0; index = absorbed_index x r image ms; recorder = emptied r }) (λ s w. a)
    (λ s w. ((a.0.0, a.0.1, absorbed_ok l x m r image ms z s), emptied_sound r a.1)))
    (λ t w. let z : ⊥ = eqb-false n 0 t w in absurd z) e

module _ (own other : Index) (e : scan_ok own.scan ≡ true) (e' : scan_ok other.scan ≡ true) (q : question41 own other ≡ true) (q' : question43 own other ≡ true) where
  merging : (P : ℕ → Content → Type 0) → Says P own.scan.frames own.scan.parts → Says P other.scan.frames other.scan.parts
      → ScanIs (merged_scan own.scan other.scan) × Says P (merged_scan own.scan other.scan).frames (merged_scan own.scan other.scan).parts
  unfolding question41 question43
  merging P s s' =
      let x = scan→ own.scan e in let y = scan→ other.scan e' in let t = all→ _ q in
      let ea = same_area_eq _ _ t.0 in let ei = eqb-true _ _ t.1.0 in
      merged_ok own.scan other.scan x y ea ei P s s'
      (further_prefix own.scan other.scan x y ea ei (all→ _ q').0)

pub merge_closed : (own other : Index) → scan_ok own.scan ≡ true → scan_ok other.scan ≡ true → question41 own other ≡ true → question43 own other ≡ true
    → scan_ok (merged_scan own.scan other.scan) ≡ true
merge_closed own other e e' q q' = →scan _ (merging own other e e' q q' (λ i c. Unit {0}) (λ i z. tt) (λ i z. tt)).0

pub merge_bytes : (P : ℕ → Content → Type 0) (own other : Index) → scan_ok own.scan ≡ true → scan_ok other.scan ≡ true → question41 own other ≡ true → question43 own other ≡ true
    → Says P own.scan.frames own.scan.parts → Says P other.scan.frames other.scan.parts
    → Says P (merged_scan own.scan other.scan).frames (merged_scan own.scan other.scan).parts
merge_bytes P own other e e' q q' s s' = (merging own other e e' q q' P s s').1

pub limit_closed : (limit : ℕ) (x : Scan) → scan_ok x ≡ true → scan_ok (limited_scan limit x) ≡ true
limit_closed limit x e = →scan _ (limited_ok limit x (scan→ x e))

pub limit_bytes : (P : ℕ → Content → Type 0) (limit : ℕ) (x : Scan) → scan_ok x ≡ true → Says P x.frames x.parts
    → Says P (limited_scan limit x).frames (limited_scan limit x).parts
limit_bytes P limit x e s =
    limited_says x.area x.interval x.budget 0 _ x.checkpoints x.frames x.parts (scan→ x e).stretch.held P s
