-- After every accepted call hints and confirmations pass question 4. Assumes nothing.
use Rattle.std.specs.Prelude.{Some}
use mathlib.Core.Path.{◌≡◌, refl}
use mathlib.Core.Bool.{Bool, true}
use mathlib.Core.List.{[], ◌∷◌, List}
use Prim.Native.Nat.{ℕ, ◌≤◌}
use native.Mathlib.Omega.{arith}
use lib.Dec.{eqb}
use borrow.Author.Tests.{eqb-true, le-leb}
use Rattle.rules.specs.Tests.{agree, ask, first_no, Accepted, after}
use Rattle.rules.specs.Values.{Scan, Index, Lengths, stated, is_checked}
use Rattle.rules.specs.Questions.{question1, question2, question3, question4, four, hinting_ok}
use Rattle.rules.specs.Hints.{keep, keeps_nothing, with_hinting, with_confirmed, question13, question14, question53, add_hints, keep_hint, keep_confirmation}
use Rattle.rules.specs.Merge.{further, merged_scan, merged, merge_number, question41, question43}
use Rattle.rules.specs.Create.{empty_index, bind_fingerprint, new}
use Rattle.rules.proofs.Tests.{test, given, and_left, and_right, both, all→, asked, accepted→}
use Rattle.rules.proofs.Same.{same_area_eq}
use Rattle.laws.proofs.hint_lists.Closure.{add_hints_ok, mark_ok, keep_hinting_ok, merge_ok, bind_ok, new_ok}
use Rattle.laws.proofs.hint_lists.Lists.{All}
use Rattle.laws.proofs.hint_lists.KeptHints.{Unmarked}
use Rattle.rules.specs.declared.Hint.{Hint}
use Rattle.rules.specs.declared.Area.{Area}
use Rattle.rules.specs.declared.Confirmation.{Confirmation}

-- area, interval and budget stay
pub merged_numbers : (own other : Scan) → ((merged_scan own other).area ≡ own.area) × ((merged_scan own other).interval ≡ own.interval) × ((merged_scan own other).budget ≡ own.budget)
unfolding merged_scan
merged_numbers own other = test (further own other) (λ e. rw e (refl, refl, refl)) (λ e. rw e (refl, refl, refl))

-- question 4 of hints and confirmations
abbrev pub HintingHolds : Index → Type 0
HintingHolds x = hinting_ok x.scan.area x.fingerprint x.hinting ≡ true

-- ---- questions 1 to 4, then qs
pub holds_of : (x : Index) → question4 x ≡ true → HintingHolds x
unfolding question4
holds_of x e = (all→ _ e).1.0

moved : {x y : Index} → x ≡ y → HintingHolds x → HintingHolds y
moved e h = rw e at h

-- an accepted call: its questions were answered yes, and r is what it gives
pub record Answered {A : Type 0} (l : Lengths) (x : Index) (q : Bool) (r y : A) : Type 0 where
  pub one : question1 x ≡ true
  pub two : question2 x ≡ true
  pub three : question3 l x ≡ true
  pub four : question4 x ≡ true
  pub own : q ≡ true
  pub is : r ≡ y

pub four→ : {A : Type 0} (l : Lengths) (x : Index) (q : Bool) (n : ℕ) (r y : A) → 1 ≤ n → after (first_no (four l x (ask q n ∷ []))) (Accepted r) ≡ Accepted y
    → Answered l x q r y
four→ l x q n r y h e =
    let t = accepted→ (first_no (four l x (ask q n ∷ []))) r y e in
    let s = asked (four l x (ask q n ∷ [])) (both (le-leb 1 n h) refl) t.0 in
    record { one = s.0; two = s.1.0; three = s.1.1.0; four = s.1.1.1.0; own = s.1.1.1.1.0; is = t.1 }

-- a delivered list has no marks
pub add_hints_holds : (l : Lengths) (x y : Index) (list : List Hint) → All Unmarked list → add_hints l x list ≡ Accepted y → HintingHolds y
unfolding add_hints
add_hints_holds l x y list u e =
    let t = four→ l x (question13 list) 13 _ y (omega arith) e in
    moved t.is (add_hints_ok x.scan.area x.fingerprint x.hinting list u t.own (holds_of x t.four))

pub mark_holds : (l : Lengths) (x y : Index) (lsn : ℕ) → keep_hint l x lsn ≡ Accepted y → HintingHolds y
unfolding keep_hint
mark_holds l x y lsn e =
    let t = four→ l x (question53 x.hinting lsn) 53 _ y (omega arith) e in
    moved t.is (mark_ok x.scan.area x.fingerprint x.hinting lsn t.own (holds_of x t.four))

pub keep_holds : (l : Lengths) (x y : Index) (c : Confirmation) → keep_confirmation l x c ≡ Accepted (Some y) → HintingHolds y
unfolding keep_confirmation
keep_holds l x y c e =
    let t = four→ l x (question14 x.scan.area c) 14 _ (Some y) (omega arith) e in
    let k = with_hinting x (with_confirmed x.hinting (keep (is_checked x.fingerprint) x.hinting.most x.hinting.confirmed c)) in
    let h : HintingHolds k = keep_hinting_ok x.scan.area x.fingerprint x.hinting c t.own (holds_of x t.four) in
    moved (given (keeps_nothing (is_checked x.fingerprint) x.hinting.most) k y t.is) h

pub bind_holds : (l : Lengths) (x y : Index) (v : ℕ) → bind_fingerprint l x v ≡ Accepted y → HintingHolds y
unfolding bind_fingerprint
bind_holds l x y v e =
    let t = four→ l x (agree eqb (stated x.fingerprint) (Some v)) 15 _ y (omega arith) e in
    moved t.is (bind_ok x.scan.area x.fingerprint v x.hinting (holds_of x t.four))

pub new_holds : (l : Lengths) (a : Area) (k budget spacing most : ℕ) (y : Index) → new l a k budget spacing most ≡ Accepted y → HintingHolds y
unfolding new
new_holds l a k budget spacing most y e =
    moved (accepted→ _ (empty_index a k budget spacing most) y e).1 (new_ok a k budget spacing most)

-- ---- merge
pub merged_holds : (own other : Index) → own.scan.area ≡ other.scan.area → HintingHolds own → HintingHolds other → HintingHolds (merged own other)
unfolding merged
merged_holds own other q h k =
    rw (merged_numbers own.scan other.scan).0 (merge_ok own.scan.area own.fingerprint other.fingerprint own.hinting other.hinting h (rw (← q) at k))

-- an accepted merge, as facts
pub record Taken (l : Lengths) (own : Index) (m : Lengths) (other : Index) : Type 0 where
  pub one : question1 own ≡ true
  pub two : question2 own ≡ true
  pub three : question3 l own ≡ true
  pub four : question4 own ≡ true
  pub four' : question4 other ≡ true
  pub area : own.scan.area ≡ other.scan.area
  pub interval : own.scan.interval ≡ other.scan.interval
  pub same : question41 own other ≡ true
  pub agreed : question43 own other ≡ true

pub taken : (l m : Lengths) (own other : Index) → merge_number l own m other ≡ 0 → Taken l own m other
unfolding merge_number question41
taken l m own other e =
    let q = asked _ refl e in let q41 = all→ _ q.1.1.1.1.0 in
    record {
      one = and_left (question1 own) _ q.0;
      two = and_left (question2 own) _ q.1.0;
      three = and_left (question3 l own) _ q.1.1.0;
      four = and_left (question4 own) _ q.1.1.1.0;
      four' = and_right (question4 own) _ q.1.1.1.0;
      area = same_area_eq _ _ q41.0;
      interval = eqb-true _ _ q41.1.0;
      same = q.1.1.1.1.0;
      agreed = q.1.1.1.1.1.1.0;
    }
