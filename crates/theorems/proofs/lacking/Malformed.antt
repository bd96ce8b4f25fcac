-- Of two lists cut from one reading a merged list lacks no malformed LSN. Assumes nothing.
use Rattle.std.specs.Prelude.{Option, None, Some}
use mathlib.Core.Path.{◌≡◌, refl, sym, ap, subst, ◌∙◌}
use mathlib.Core.Bool.{Bool, true, false, not, ◌&&◌}
use mathlib.Core.Logic.{⊎_elim}
use mathlib.Core.List.{List, [], ◌∷◌}
use Prim.Native.Nat.{ℕ, zero, suc, ◌-◌, ◌*◌, ◌<◌, ◌≤◌}
use native.Mathlib.Nat.{zero-mul, mul-le-mul_right, eq-or-lt_of_le}
use native.Mathlib.Omega.{arith}
use lib.Dec.{eqb, ltb}
use lib.ListN.{length, get_or, take}
use borrow.Author.Tests.{leb-true, ltb-true, ltb-false, lt-ltb, le-ltb}
use Rattle.rules.specs.declared.Area.{Area}
use Rattle.rules.specs.declared.EndState.{EndState}
use Rattle.rules.specs.Tests.{is_some}
use Rattle.rules.specs.Values.{Index, max_malformed, boundaries, frontier_of, frontier, count, complete}
use Rattle.rules.specs.Sections.{own_lsn}
use Rattle.rules.specs.Questions.{area_ok, question1, question2}
use Rattle.rules.specs.Record.{below}
use Rattle.rules.specs.Merge.{merged, merge_number, merge}
use Rattle.rules.specs.Run.{Reading, Cut}
use Rattle.rules.proofs.Tests.{test, never, all→, accepted→}
use Rattle.rules.proofs.Same.{eqb_self}
use Rattle.laws.specs.Order.{Rises}
use Rattle.laws.proofs.hint_lists.Lists.{All, all_map}
use Rattle.laws.proofs.hint_lists.Rising.{rises_all}
use Rattle.laws.proofs.scans.Record.{interval_pos}
use Rattle.laws.proofs.scans.Scans.{in_boundary}
use Rattle.rules.proofs.Frontier.{frontier_open}
use Rattle.theorems.proofs.CutLaws.{cut_counts, cut_merged}
use Rattle.rules_lacks.specs.Lacks.{covers, lacking}
use Rattle.rules_lacks.proofs.Laws.{→covers, none_missing}
use Rattle.theorems.specs.Lacks.{MergeMalformed}
use Rattle.theorems.proofs.lacking.MergeLacks.{merge_lacks}

-- ---- a further frontier
frontier_order : (a : Area) (k n m : ℕ) (e d : Option EndState) → 1 ≤ k → a.start ≤ a.end → n ≤ m
    → n ≤ boundaries a k → (is_some e ≡ true → is_some d ≡ true)
    → frontier_of a k n e ≤ frontier_of a k m d
unfolding frontier_of is_some
frontier_order a k n m None None hk ha l w f =
    let was = frontier_open a k n in
    let now = frontier_open a k m in
    let h : (n - 1) * k ≤ (m - 1) * k = mul-le-mul_right {m = n - 1} {n = m - 1} k (omega arith) in omega arith
frontier_order a k n m None (Some v) hk ha l w f =
    let was = frontier_open a k n in
    ⊎_elim (λ (z : 0 ≡ n). let e : n - 1 ≡ 0 = omega arith in let o : (n - 1) * k ≡ 0 = ap (λ (i : ℕ). i * k) e
    ∙ zero-mul k in omega arith)
    (λ (z : 0 < n). let h = in_boundary a k (n - 1) hk (omega arith) in omega arith)
    (eq-or-lt_of_le (let z : 0 ≤ n = omega arith in z))
frontier_order a k n m (Some v) None hk ha l w f = never {b = false} (f refl) refl
frontier_order a k n m (Some v) (Some u) hk ha l w f = omega arith

-- ---- of a rising list those below a bound come first
none_below : (f : ℕ) (ls : List ℕ) → All (λ l. f ≤ l) ls → below f ls ≡ []
unfolding below
none_below f [] h = refl
none_below f (l ∷ ls) h = rw (le-ltb l f h.0) (none_below f ls h.1)

abbrev Begins : List ℕ → List ℕ → Type 0
Begins xs ys = (i : ℕ) → i < length xs → (i < length ys) × (get_or ys i 0 ≡ get_or xs i 0)

begins_cons : (l : ℕ) (xs ys : List ℕ) → Begins xs ys → Begins (l ∷ xs) (l ∷ ys)
begins_cons l xs ys f zero w = (omega arith, refl)
begins_cons l xs ys f (suc i) w = let h = f i (omega arith) in let z = h.0 in (omega arith, h.1)

begins_none : (ys : List ℕ) → Begins [] ys
begins_none ys i w = let z : ⊥ = omega arith in absurd z

below_begins : (f g : ℕ) → f ≤ g → (n b : ℕ) (ls : List ℕ) → Rises own_lsn b ls
    → Begins (take n (below f ls)) (take n (below g ls))
unfolding below
below_begins f g w zero b ls r = begins_none []
below_begins f g w (suc n) b [] r = begins_none []
below_begins f g w (suc n) b (l ∷ ls) r =
    test (ltb l f)
    (λ e. let k = ltb-true l f e in rw (e, lt-ltb l g (omega arith))
    (begins_cons l (take n (below f ls)) (take n (below g ls)) (below_begins f g w n (suc l) ls r.1)))
    (λ e. let k = ltb-false l f e in
    let o : below f ls ≡ [] = none_below f ls (all_map (λ x. suc l ≤ x) (λ x. f ≤ x) (λ x h. omega arith) ls
    (rises_all own_lsn (suc l) ls r.1)) in
    rw (e, o) (begins_none (take (suc n) (below g (l ∷ ls)))))

begins_covers : (xs ys : List ℕ) → Begins xs ys → covers eqb ys xs ≡ true
begins_covers xs ys f =
    →covers 0 eqb ys xs (λ i l. let h = f i l in record
    { place = i; inside = h.0; holds = rw h.1 (eqb_self (get_or xs i 0)) })

-- ---- two lists cut from one reading
module _ (R : Reading) (x y : Index) (cx : Cut R x) (cy : Cut R y) (r : Rises own_lsn 0 R.malformed)
    (l : count x.scan ≤ count y.scan)
    (f : complete x.scan ≡ true → complete y.scan ≡ true) where
  further_front : frontier x.scan ≤ frontier y.scan
  unfolding question1 question2 area_ok
  further_front =
      let e = cy.area ∙ sym cx.area in let k = cy.interval ∙ sym cx.interval in
      rw (e, k)
      (frontier_order x.scan.area x.scan.interval (count x.scan) (count y.scan) x.scan.ending
      y.scan.ending (interval_pos _ _ cx.two)
      (leb-true _ _ (all→ _ cx.one).1.0) l (cut_counts R x cx).within f)

  malformed_none : (lacking y x).malformed ≡ 0
  unfolding lacking
  malformed_none =
      let c = begins_covers (take max_malformed (below (frontier x.scan) R.malformed))
      (take max_malformed (below (frontier y.scan) R.malformed))
      (below_begins (frontier x.scan) (frontier y.scan) further_front max_malformed 0 R.malformed r) in
      rw (cx.malformed, cy.malformed) (none_missing eqb _ _ c)

known→ : (a b : Bool) → (a && not b) ≡ false → a ≡ true → b ≡ true
known→ true true e h = refl
known→ true false e h = never {b = true} refl e
known→ false b e h = never {b = false} h refl

fewer : (n m : ℕ) → m - n ≡ 0 → m ≤ n
fewer n m e = omega arith

pub merge_malformed : MergeMalformed
unfolding merge lacking
merge_malformed R l m own other y r cx cz e =
    let h = merge_lacks l m own other y e in
    let q = (accepted→ (merge_number l own m other) (merged own other) y e).1 in
    let cy : Cut R y = subst (λ (z : Index). Cut R z) q (cut_merged R own other cx cz) in (
      malformed_none R own y cx cy r (fewer _ _ h.checkpoints) (known→ _ _ h.ending),
      malformed_none R other y cz cy r (fewer _ _ h.checkpoints') (known→ _ _ h.ending'),
    )
