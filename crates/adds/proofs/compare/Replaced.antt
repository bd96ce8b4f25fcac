-- A held number that is replaced: the held list changes, whether thinning keeps the hint or drops it. Assumes nothing.
use mathlib.Core.Path.{◌≡◌, refl, subst}
use mathlib.Core.Bool.{true, false, ◌||◌, not}
use mathlib.Core.Logic.{⊎_elim}
use mathlib.Core.List.{List, [], ◌∷◌}
use Prim.Native.Nat.{ℕ, suc, ◌≤◌}
use native.Mathlib.Omega.{arith}
use lib.Dec.{eqb}
use borrow.Author.Tests.{eqb-false, ne_eqb, not-true}
use Rattle.rules.specs.declared.Area.{Area}
use Rattle.rules.specs.declared.Hint.{Hint}
use Rattle.rules.specs.Sections.{hint_lsn, hint_ok, hints_ok}
use Rattle.rules.specs.Hints.{arrived_hint, insert_all, joined_hints}
use Rattle.rules.proofs.Tests.{never, order, or_cases}
use Rattle.laws.specs.Merging.{merged_with}
use Rattle.laws.specs.Order.{Rises}
use Rattle.laws.proofs.hint_lists.Lists.{All, all_map, all_sub}
use Rattle.laws.proofs.hint_lists.Rising.{rises_from, rises_all, rising→}
use Rattle.laws.proofs.hint_lists.Merging.{nil_with, with_nil, with_left, with_right, with_both, with_cases}
use Rattle.laws.proofs.hint_lists.Adding.{insert_all_rising}
use Rattle.laws.proofs.hint_lists.Hints.{limited_to_keeps}
use Rattle.laws.proofs.hint_lists.Thinning.{thin_sub}
use Rattle.adds.specs.Marks.{marked, marks_of}
use Rattle.adds.proofs.compare.Marks.{nil_marked, marked_nil, marked_left, marked_right, marked_both}
use Rattle.adds.proofs.compare.Marks.{some_replaced}

abbrev merged : List Hint → List Hint → List Hint
merged xs ys = merged_with hint_lsn arrived_hint xs ys

-- what holds of each of both lists holds of each of the merged one
all_merged : (P : Hint → Type 0) → ((x y : Hint) → P x → P y → P (arrived_hint x y)) → (xs ys : List Hint) → All P xs
    → All P ys → All P (merged xs ys)
all_merged P m [] ys h k = rw (nil_with hint_lsn arrived_hint ys) k
all_merged P m (x ∷ xs) [] h k = rw (with_nil hint_lsn arrived_hint (x ∷ xs)) h
all_merged P m (x ∷ xs) (y ∷ ys) h k =
    with_cases hint_lsn arrived_hint (All P) x y xs ys (λ l. (h.0, all_merged P m xs (y ∷ ys) h.1 k))
    (λ l. (k.0, all_merged P m (x ∷ xs) ys h k.1))
    (λ e. (m x y h.0 k.0, all_merged P m xs ys h.1 k.1))

-- an LSN, b or more, at which all has one number, and xs another
record Differ (b : ℕ) (xs all : List Hint) : Type 0 where
  lsn : ℕ
  number : ℕ
  above : b ≤ lsn
  here : All (λ h. h.lsn ≡ lsn → h.number ≡ number) all
  there : All (λ h. h.lsn ≡ lsn → h.number ≡ number) xs → ⊥

none_replaced : (b : _) (hs : List Hint) → some_replaced (marks_of b hs) ≡ false
unfolding marks_of
none_replaced b [] = refl
none_replaced b (h ∷ hs) = none_replaced b hs

differ_at : (b : ℕ) (xs ys : List Hint) → Rises hint_lsn b xs → Rises hint_lsn b ys → some_replaced (marked xs ys) ≡ true
    → Differ b xs (merged xs ys)
differ_at b [] ys r s f = never f (rw (nil_marked ys) (none_replaced true ys))
differ_at b (x ∷ xs) [] r s f = never f (rw (marked_nil (x ∷ xs)) (none_replaced false (x ∷ xs)))
differ_at b (x ∷ xs) (y ∷ ys) r s f =
    let bx = r.0 in let by = s.0 in
    order x.lsn y.lsn
    (λ l. let g : some_replaced (marked xs (y ∷ ys)) ≡ true = rw (marked_left x y xs ys l) at f in
    let c = differ_at (suc x.lsn) xs (y ∷ ys) r.1 (omega arith, s.1) g in let w = c.above in
    record {
      lsn = c.lsn;
      number = c.number;
      above = omega arith;
      here = rw (with_left hint_lsn arrived_hint x y xs ys l) ((λ e. let z : ⊥ = omega arith in absurd z), c.here);
      there = λ k. c.there k.1;
    })
    (λ l. let g : some_replaced (marked (x ∷ xs) ys) ≡ true = rw (marked_right x y xs ys l) at f in
    let c = differ_at (suc y.lsn) (x ∷ xs) ys (omega arith, r.1) s.1 g in let w = c.above in
    record {
      lsn = c.lsn;
      number = c.number;
      above = omega arith;
      here = rw (with_right hint_lsn arrived_hint x y xs ys l) ((λ e. let z : ⊥ = omega arith in absurd z), c.here);
      there = c.there;
    })
    (λ e. let g : (not (eqb x.number y.number) || some_replaced (marked xs ys)) ≡ true = rw
    (marked_both x y xs ys e) at f in
    let r' = rises_from hint_lsn (suc y.lsn) (suc x.lsn) xs (omega arith) r.1 in
    ⊎_elim
    (λ n. let d = eqb-false x.number y.number (not-true (eqb x.number y.number) n) in
    let later : All (λ h. suc y.lsn ≤ h.lsn) (merged xs ys) =
    all_merged (λ h. suc y.lsn ≤ h.lsn) (λ x y p q. q) xs ys (rises_all hint_lsn (suc y.lsn) xs r')
    (rises_all hint_lsn (suc y.lsn) ys s.1) in
    record {
      lsn = y.lsn;
      number = y.number;
      above = by;
      here =
          rw (with_both hint_lsn arrived_hint x y xs ys e) (
            (λ q. refl),
            all_map (λ h. suc y.lsn ≤ h.lsn) (λ h. h.lsn ≡ y.lsn → h.number ≡ y.number)
                (λ h k q. let z : ⊥ = omega arith in absurd z) (merged xs ys) later,
          );
      there = λ k. d (k.0 e);
    })
    (λ n. let c = differ_at (suc y.lsn) xs ys r' s.1 n in let w = c.above in
    record {
      lsn = c.lsn;
      number = c.number;
      above = omega arith;
      here = rw (with_both hint_lsn arrived_hint x y xs ys e) ((λ q. let z : ⊥ = omega arith in absurd z), c.here);
      there = λ k. c.there k.1;
    })
    (or_cases (not (eqb x.number y.number)) (some_replaced (marked xs ys)) g))

pub replaced_changes : (a : Area) (most : ℕ) (hs xs : List Hint) → hints_ok a hs ≡ true → hints_ok a xs ≡ true
    → 1 ≤ most → some_replaced (marked hs xs) ≡ true
    → joined_hints a most hs xs ≡ hs → ⊥
unfolding joined_hints hints_ok
replaced_changes a most hs xs h g some f e =
    let c =
    differ_at a.start hs xs (rising→ hint_lsn hint_ok a.start a.end hs h).order
    (rising→ hint_lsn hint_ok a.start a.end xs g).order f in
    let P : Hint → Type 0 = λ k. k.lsn ≡ c.lsn → k.number ≡ c.number in
    let m : All P (insert_all a hs xs) = rw (insert_all_rising a a.start hs xs (omega arith) g) c.here in
    let q : All P (joined_hints a most hs xs) =
    rw (ne_eqb most 0 (λ z. omega arith))
    (limited_to_keeps a (All P) (λ n l k. all_sub P (thin_sub n l) k) most (insert_all a hs xs) m) in
    c.there (subst (λ (l : List Hint). All P l) e q)
