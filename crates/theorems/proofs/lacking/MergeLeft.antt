-- Which hints, confirmations and parts of the two a merged list can lack. Assumes nothing.
use mathlib.Core.Path.{◌≡◌, refl, sym, ap, subst, ◌∙◌}
use mathlib.Core.Bool.{Bool, true, false}
use mathlib.Core.Logic.{⊎_elim, ◌⊎◌, inl, inr}
use mathlib.Core.List.{List, [], ◌∷◌, ◌++◌}
use Prim.Native.Nat.{ℕ, zero, suc, ◌+◌, ◌<◌, ◌≤◌}
use native.Mathlib.Omega.{arith}
use lib.Dec.{eqb, leb, ltb}
use lib.ListN.{length, get_or, length-append}
use borrow.Author.Tests.{eqb-true, eqb-false, leb-false, ltb-true, ltb-false}
use Rattle.rules.specs.declared.Area.{Area}
use Rattle.rules.specs.declared.Confirmation.{Confirmation}
use Rattle.rules.specs.declared.Held.{Held}
use Rattle.rules.specs.declared.Hint.{Hint}
use Rattle.rules.specs.Values.{Scan, Index, no_held, no_hint, no_confirmation, boundaries, count, complete, is_checked}
use Rattle.rules.specs.Sections.{hint_lsn, hints_ok, confirmed_lsn}
use Rattle.rules.specs.Hints.{insert, arrived_hint, unkept_hint, unkept, insert_all, limited_to, joined_hints, held_confirmation, last_ones, keeps_nothing, keep, keep_all}
use Rattle.rules.specs.PartRule.{stores, add_parts, piece}
use Rattle.rules.specs.Merge.{further, merged, merge_number, merge}
use Rattle.rules.specs.Run.{content_of}
use Rattle.rules.proofs.Tests.{test, never, order, or_right, accepted→}
use Rattle.laws.specs.Order.{Rises}
use Rattle.laws.specs.Merging.{inserted_with}
use Rattle.laws.proofs.hint_lists.Lists.{All, all_at, all_map, all_sub, sub_last, last_length, insert_none, insert_cases}
use Rattle.laws.proofs.Marks.{unkept_length, unkept_ok}
use Rattle.laws.proofs.hint_lists.Rising.{rises_all, rises_insert}
use Rattle.laws.proofs.scans.Parts.{part_at}
use Rattle.laws.proofs.hint_lists.Merging.{inserted_with_lemma}
use Rattle.laws.proofs.hint_lists.Confirmations.{met_lsn}
use Rattle.laws.proofs.hint_lists.Keeping.{last_few, last_past, keep_all_merged, confirmed_rises}
use Rattle.laws.proofs.hint_lists.Closure.{HintingIs, hinting→}
use Rattle.laws.proofs.hint_lists.Calls.{taken, holds_of}
use Rattle.rules_lacks.proofs.Laws.{ConfirmsAlso}
use Rattle.theorems.specs.Terms.{Holds, stored_in}
use Rattle.theorems.specs.Hints.{One, Among, Stands}
use Rattle.theorems.specs.Useful.{MergeOf}
use Rattle.theorems.specs.Lacks.{Confirms, together, Thinned, PushedOut, OtherDigest, MergeLeft}
use Rattle.theorems.proofs.Jump.{Joinable, joinable}
use Rattle.theorems.proofs.ScanLaws.{counts}
use Rattle.theorems.proofs.Hints.{Any, any_all, all_places, unique, unkept_at, one→, →one, lsn_inside, last_of, met_or_not, unmet_stays, given_all}
use Rattle.theorems.proofs.Useful.{merge_takes}

-- ---- one of a list, by cases
record SomeAt {A : Type 0} (d : A) (P : A → Type 0) (xs : List A) : Type 0 where
  place : ℕ
  inside : place < length xs
  holds : P (get_or xs place d)

module _ {A : Type 0} (d : A) (P : A → Type 0) where
  some→ : (xs : List A) → Any P xs → SomeAt d P xs
  some→ [] h = absurd h
  some→ (x ∷ xs) h =
      ⊎_elim (λ p. record { place = 0; inside = omega arith; holds = p })
      (λ r. let o = some→ xs r in let l = o.inside in record
      { place = suc o.place; inside = omega arith; holds = o.holds }) h

  →some : (xs : List A) (i : ℕ) → i < length xs → P (get_or xs i d) → Any P xs
  →some [] i l p = let z : ⊥ = omega arith in absurd z
  →some (x ∷ xs) zero l p = inl p
  →some (x ∷ xs) (suc i) l p = inr (→some xs i (omega arith) p)

-- ---- the last n of a list that rises: one of the list is there, or n later ones are
module _ {A : Type 0} (key : A → ℕ) (P : A → Type 0) (k n : ℕ) (keyed : (x : A) → P x → key x ≡ k) where
  abbrev Out : List A → Type 0
  Out xs = (length (last_ones n xs) ≡ n) × All (λ x. k < key x) (last_ones n xs)

  last_all : (xs : List A) → length xs ≤ n → Any P xs → Any P (last_ones n xs) ⊎ Out xs
  last_all xs l h = inl (subst (λ (z : List A). Any P z) (sym (last_few n xs l)) h)

  last_some : (b : ℕ) (xs : List A) → Rises key b xs → Any P xs → Any P (last_ones n xs) ⊎ Out xs
  last_some b [] r h = absurd h
  last_some b (x ∷ xs) r h =
      order n (suc (length xs))
      (λ l.
      subst (λ (z : List A). Any P z ⊎ ((length z ≡ n) × All (λ y. k < key y) z)) (sym (last_past n x xs (omega arith)))
      (⊎_elim
      (λ p.
      let q = keyed x p in
      inr (
        omega (arith, last_length n xs),
        all_sub (λ y. k < key y) (sub_last n xs)
            (all_map (λ y. suc (key x) ≤ key y) (λ y. k < key y) (λ y m. omega arith) xs
            (rises_all key (suc (key x)) xs r.1)),
      ))
      (λ q. last_some (suc (key x)) xs r.1 q) h))
      (λ l. last_all (x ∷ xs) (omega arith) h) (λ e. last_all (x ∷ xs) (omega arith) h)

-- ---- confirmations
abbrev pub Better : Confirmation → Confirmation → Type 0
Better c x = ConfirmsAlso x c

abbrev Another : Confirmation → Confirmation → Type 0
Another c x = (x.lsn ≡ c.lsn) × (x.digest ≡ c.digest → ⊥)

pub better_self : (c : Confirmation) → Better c c
better_self c = record { lsn = refl; digest = refl; threshold = omega arith }

abbrev pub inserted : Confirmation → List Confirmation → List Confirmation
inserted d cs = insert confirmed_lsn held_confirmation d cs

-- the held y and the new d of one LSN
met : (c y d : Confirmation) → y.lsn ≡ d.lsn → Better c y → Better c (held_confirmation y d) ⊎ Another c d
unfolding held_confirmation
met c y d e h =
    let t = h.threshold in
    test (eqb y.digest d.digest) (λ w. inl
    (rw w (record { lsn = h.lsn; digest = h.digest; threshold = omega arith })))
    (λ w. inr (sym e ∙ h.lsn, λ q. eqb-false y.digest d.digest w (h.digest ∙ sym q)))

pub met_new : (y d : Confirmation) → y.lsn ≡ d.lsn → Better d (held_confirmation y d)
unfolding held_confirmation
met_new y d e =
    test (eqb y.digest d.digest) (λ w. rw w
    (record { lsn = e; digest = eqb-true y.digest d.digest w; threshold = omega arith }))
    (λ w. rw w (better_self d))

held_on : (c d : Confirmation) (ys : List Confirmation) → Any (Better c) ys
    → Any (Better c) (inserted d ys) ⊎ Another c d
held_on c d [] h = absurd h
held_on c d (y ∷ ys) h =
    insert_cases confirmed_lsn held_confirmation d y ys (λ l. Any (Better c) l ⊎ Another c d) (λ e. inl (inr h))
    (λ e. ⊎_elim (λ p. inl (inl p)) (λ r. ⊎_elim (λ q. inl (inr q)) (λ o. inr o) (held_on c d ys r)) h)
    (λ e. ⊎_elim (λ p. ⊎_elim (λ q. inl (inl q)) (λ o. inr o) (met c y d e p)) (λ r. inl (inr r)) h)

new_there : (d : Confirmation) (ys : List Confirmation) → Any (Better d) (inserted d ys)
new_there d [] = rw (insert_none confirmed_lsn held_confirmation d) (inl (better_self d))
new_there d (y ∷ ys) =
    insert_cases confirmed_lsn held_confirmation d y ys (Any (Better d)) (λ e. inl (better_self d))
    (λ e. inr (new_there d ys)) (λ e. inl (met_new y d e))

abbrev pub all_inserted : List Confirmation → List Confirmation → List Confirmation
all_inserted cs ds = inserted_with confirmed_lsn held_confirmation cs ds

held_all : (c : Confirmation) (cs ds : List Confirmation) → Any (Better c) cs
    → Any (Better c) (all_inserted cs ds) ⊎ Any (Another c) ds
unfolding inserted_with
held_all c cs [] h = inl h
held_all c cs (d ∷ ds) h =
    ⊎_elim (λ p. ⊎_elim (λ q. inl q) (λ o. inr (inr o)) (held_all c (inserted d cs) ds p)) (λ o. inr (inl o))
    (held_on c d cs h)

none_other : (c : Confirmation) (ds : List Confirmation) → All (λ x. suc c.lsn ≤ x.lsn) ds → Any (Another c) ds → ⊥
none_other c [] a h = h
none_other c (d ∷ ds) a h = ⊎_elim (λ o. let e = o.0 in let l = a.0 in omega arith) (λ r. none_other c ds a.1 r) h

new_all : (cs ds : List Confirmation) (b i : ℕ) → Rises confirmed_lsn b ds → i < length ds
    → Any (Better (get_or ds i no_confirmation)) (all_inserted cs ds)
unfolding inserted_with
new_all cs [] b i r l = let z : ⊥ = omega arith in absurd z
new_all cs (d ∷ ds) b zero r l =
    ⊎_elim (λ p. p) (λ o. absurd (none_other d ds (rises_all confirmed_lsn (suc d.lsn) ds r.1) o))
    (held_all d (inserted d cs) ds (new_there d cs))
new_all cs (d ∷ ds) b (suc i) r l = new_all (inserted d cs) ds (suc d.lsn) i r.1 (omega arith)

pub rises_all_inserted : (cs ds : List Confirmation) → Rises confirmed_lsn 0 cs
    → Rises confirmed_lsn 0 (all_inserted cs ds)
unfolding inserted_with
rises_all_inserted cs [] r = r
rises_all_inserted cs (d ∷ ds) r = rises_all_inserted (inserted d cs) ds
    (rises_insert confirmed_lsn held_confirmation d (λ y q. met_lsn y d q) 0 cs (omega arith) r)

keep_none : (checked : Bool) (most : ℕ) (cs : List Confirmation) (d : Confirmation) → keeps_nothing checked most
    ≡ true → keep checked most cs d ≡ cs
unfolding keep
keep_none checked most cs d e = rw e

kept_none : (checked : Bool) (most : ℕ) (cs ds : List Confirmation) → keeps_nothing checked most ≡ true
    → keep_all checked most cs ds ≡ cs
unfolding keep_all
kept_none checked most cs [] e = refl
kept_none checked most cs (d ∷ ds) e = rw (keep_none checked most cs d e) (kept_none checked most cs ds e)

module _ (own other y : Index) (k : HintingIs own.scan.area own.fingerprint own.hinting)
    (o : HintingIs other.scan.area other.fingerprint other.hinting)
    (is : y.hinting.confirmed ≡ keep_all (is_checked own.fingerprint) own.hinting.most
    own.hinting.confirmed other.hinting.confirmed) where
  abbrev checked : Bool
  checked = is_checked own.fingerprint

  abbrev most : ℕ
  most = own.hinting.most

  abbrev cs : List Confirmation
  cs = own.hinting.confirmed

  abbrev ds : List Confirmation
  ds = other.hinting.confirmed

  rises : Rises confirmed_lsn 0 cs
  rises = confirmed_rises own.scan.area cs k.confirmed

  rises' : Rises confirmed_lsn 0 ds
  rises' = confirmed_rises other.scan.area ds o.confirmed

  last_ones_lemma : keeps_nothing checked most ≡ false → y.hinting.confirmed ≡ last_ones most (all_inserted cs ds)
  last_ones_lemma e =
      is ∙ keep_all_merged checked most e cs ds k.fewer rises rises'
      ∙ ap (last_ones most) (sym (inserted_with_lemma confirmed_lsn held_confirmation met_lsn 0 cs ds rises'))

  confirms_of : (c : Confirmation) → Any (Better c) y.hinting.confirmed → Confirms y.hinting.confirmed c
  confirms_of c h =
      let f = some→ no_confirmation (Better c) y.hinting.confirmed h in let p = f.holds in
      record { place = f.place; inside = f.inside; lsn = p.lsn; digest = p.digest; threshold = p.threshold }

  -- one that is confirmed once all are inserted
  stays_or_out : (c : Confirmation) → keeps_nothing checked most ≡ false → Any (Better c) (all_inserted cs ds)
      → Confirms y.hinting.confirmed c ⊎ PushedOut own y c.lsn
  stays_or_out c e h =
      let q = last_ones_lemma e in
      ⊎_elim (λ p. inl (confirms_of c (subst (λ (z : List Confirmation). Any (Better c) z) (sym q) p)))
      (λ p. inr (record {
        full = ap length q ∙ p.0;
        later = λ i l. all_at (λ (x : Confirmation). c.lsn < x.lsn) y.hinting.confirmed i no_confirmation l
            (subst (λ (z : List Confirmation). All (λ (v : Confirmation). c.lsn < v.lsn) z) (sym q) p.1);
      }))
      (last_some confirmed_lsn (Better c) c.lsn most (λ x p. p.lsn) 0 (all_inserted cs ds)
      (rises_all_inserted cs ds rises) h)

  own_confirmed : (i : ℕ) → i < length cs
      → Confirms y.hinting.confirmed (get_or cs i no_confirmation) ⊎
      (OtherDigest ds (get_or cs i no_confirmation) ⊎ PushedOut own y (get_or cs i no_confirmation).lsn)
  own_confirmed i l =
      let c = get_or cs i no_confirmation in let h = →some no_confirmation (Better c) cs i l (better_self c) in
      test (keeps_nothing checked most)
      (λ e. inl (confirms_of c (subst (λ (z : List Confirmation). Any (Better c) z)
      (sym (is ∙ kept_none checked most cs ds e)) h)))
      (λ e. ⊎_elim (λ p. ⊎_elim (λ q. inl q) (λ q. inr (inr q)) (stays_or_out c e p))
      (λ p. let f = some→ no_confirmation (Another c) ds p in inr
      (inl (record { place = f.place; inside = f.inside; lsn = f.holds.0; digest = f.holds.1 })))
      (held_all c cs ds h))

  other_confirmed : (i : ℕ) → i < length ds
      → Confirms y.hinting.confirmed (get_or ds i no_confirmation) ⊎
      ((keeps_nothing checked most ≡ true) ⊎ PushedOut own y (get_or ds i no_confirmation).lsn)
  other_confirmed i l =
      test (keeps_nothing checked most) (λ e. inr (inl e))
      (λ e. ⊎_elim (λ q. inl q) (λ q. inr (inr q))
      (stays_or_out (get_or ds i no_confirmation) e (new_all cs ds 0 i rises' l)))

-- ---- hints
same_hint : (h k : Hint) → k.lsn ≡ h.lsn → k.number ≡ h.number → arrived_hint h k ≡ h
same_hint h k e d = λ i. record { lsn = e i; number = d i; mark = h.mark }

-- has x the LSN of h, with another number?
abbrev Renumbers : Hint → Hint → Type 0
Renumbers h x = (x.lsn ≡ h.lsn) × (x.number ≡ h.number → ⊥)

-- what is there before thinning
module _ (a : Area) (hs gs : List Hint) (ok : hints_ok a gs ≡ true) (h : Hint) where
  -- a hint of the other list
  other_there : Any (λ z. z ≡ h) gs → Any (λ z. unkept_hint z ≡ unkept_hint h) (insert_all a hs gs)
  other_there m = given_all a hs gs h (last_of a gs ok h m) (lsn_inside a gs ok h m)

  -- a hint of the own list, unless the other has another number at its LSN
  own_there : Any (λ z. z ≡ h) hs → Any (λ z. z ≡ h) (insert_all a hs gs) ⊎ One (Renumbers h) gs
  own_there m =
      ⊎_elim
      (λ v.
      let k = get_or gs v.place no_hint in
      test (eqb k.number h.number)
      (λ q. inl (any_all (λ z. z ≡ h) a hs gs
      (all_places (λ x. (y : Hint) → y.lsn ≡ x.lsn → y ≡ h → arrived_hint y x ≡ h) gs
      (λ i l y e p.
      let u = unique a gs ok i v.place l v.inside (sym e ∙ ap hint_lsn p ∙ sym v.holds) in let x = get_or gs i
      no_hint in
      ap (λ (z : Hint). arrived_hint z x) p ∙ same_hint h x (ap hint_lsn u ∙ v.holds)
      (ap (λ (z : Hint). z.number) u ∙ eqb-true k.number h.number q))) m))
      (λ q. inr (record {
        place = v.place;
        inside = v.inside;
        holds = (v.holds, eqb-false k.number h.number q);
      })))
      (λ n. inl (unmet_stays a hs gs h n m)) (met_or_not gs h.lsn)

module _ (own other y : Index) (k : HintingIs own.scan.area own.fingerprint own.hinting)
    (o : HintingIs other.scan.area other.fingerprint other.hinting)
    (area : own.scan.area ≡ other.scan.area)
    (is : y.hinting.hints ≡ joined_hints own.scan.area own.hinting.most own.hinting.hints
    (unkept other.hinting.hints)) where
  abbrev ms : ℕ
  ms = own.hinting.most

  abbrev gs : List Hint
  gs = other.hinting.hints

  abbrev found : List Hint
  found = together own other

  -- what is there before thinning
  there : (P : Hint → Type 0) → eqb ms 0 ≡ false → Any P found → One P y.hinting.hints ⊎ Thinned own other y
  unfolding joined_hints limited_to
  there P e a =
      test (leb (length found) ms) (λ w. inl (subst (λ (z : List Hint). One P z) (sym (is ∙ rw (e, w)))
      (→one P found a)))
      (λ w. let l = leb-false (length found) ms w in inr (record { above = omega arith; left = is ∙ rw (e, w) }))

  ok_there : hints_ok own.scan.area (unkept gs) ≡ true
  ok_there = unkept_ok own.scan.area gs ∙ subst (λ (z : Area). hints_ok z gs ≡ true) (sym area) o.hints

  -- the other's hints without their marks
  renumbers : (h : Hint) → One (Renumbers h) (unkept gs) → One (Renumbers h) gs
  renumbers h v =
      let l = v.inside in
      record {
        place = v.place;
        inside = omega (arith, unkept_length gs);
        holds = subst (λ (z : Hint). Renumbers h z) (unkept_at gs v.place) v.holds;
      }

  unkept_among : (h : Hint) → Among gs h → Among (unkept gs) (unkept_hint h)
  unkept_among h v = let l = v.inside in record {
    place = v.place;
    inside = omega (arith, unkept_length gs);
    holds = unkept_at gs v.place ∙ ap unkept_hint v.holds;
  }

  own_hint : (h : Hint) → Among own.hinting.hints h
      → Among y.hinting.hints h ⊎ (One (Renumbers h) other.hinting.hints ⊎ Thinned own other y)
  unfolding joined_hints
  own_hint h a =
      test (eqb ms 0) (λ e. inl (subst (λ (z : List Hint). Among z h) (sym (is ∙ rw e)) a))
      (λ e. ⊎_elim (λ p. ⊎_elim (λ q. inl q) (λ q. inr (inr q)) (there (λ z. z ≡ h) e p))
      (λ p. inr (inl (renumbers h p)))
      (own_there own.scan.area own.hinting.hints (unkept gs) ok_there h
      (one→ (λ z. z ≡ h) own.hinting.hints a)))

  other_hint : (h : Hint) → Among other.hinting.hints h
      → Stands y.hinting.hints h ⊎ ((own.hinting.most ≡ 0) ⊎ Thinned own other y)
  other_hint h a =
      test (eqb ms 0) (λ e. inr (inl (eqb-true ms 0 e)))
      (λ e. ⊎_elim (λ q. inl q) (λ q. inr (inr q))
      (there (λ z. unkept_hint z ≡ unkept_hint h) e
      (other_there own.scan.area own.hinting.hints (unkept gs) ok_there (unkept_hint h)
      (one→ (λ z. z ≡ unkept_hint h) (unkept gs) (unkept_among h a)))))

-- ---- parts
at_length : (xs ys : List Held) (q : Held) → get_or (xs ++ (q ∷ ys)) (length xs) no_held ≡ q
at_length [] ys q = refl
at_length (x ∷ xs) ys q = at_length xs ys q

module _ (own other y : Scan) (j : Joinable own other) (m : MergeOf own other y) where
  fewer : further own other ≡ false → count other ≤ count own
  unfolding further
  fewer e =
      let c = counts own j.ok in let d = counts other j.ok' in
      let g : count other ≤ boundaries own.area own.interval = rw (j.area, j.interval) d.within in
      test (complete own) (λ w. let f = c.full w in omega arith)
      (λ w. test (ltb (count own) (count other))
      (λ v. let z : further own other ≡ true = rw w (or_right (complete other) v) in never z e)
      (λ v. ltb-false (count own) (count other) v))

  below : (xs ys : List Held) (q : Held) → other.parts ≡ xs ++ (q ∷ ys) → q.at < count other
  below xs ys q e =
      let l : length xs < length other.parts = rw e (omega (arith, length-append xs (q ∷ ys))) in
      let p = part_at other.area other.interval other.budget 0 other.checkpoints other.frames
      other.parts (length xs) j.ok'.stretch.held l in
      let h = p.high in
      let i : get_or other.parts (length xs) no_held ≡ q = ap (λ (z : List Held). get_or z (length xs) no_held) e
      ∙ at_length xs ys q in
      let g : q.at < 0 + count other = subst (λ (z : Held). z.at < 0 + count other) i h in omega arith

  other_part : (xs ys : List Held) (q : Held) → other.parts ≡ xs ++ (q ∷ ys)
      → Holds (stored_in y) q.at (content_of other.frames q)
      ⊎ ((q.at < count own) ⊎ (stores own.budget
      (add_parts own.budget other.frames (count own) xs (stored_in own)) (piece other.frames q) ≡ false))
  other_part xs ys q e =
      test (ltb q.at (count own)) (λ l. inr (inl (ltb-true q.at (count own) l)))
      (λ l.
      test (further own other)
      (λ f.
      test (stores own.budget (add_parts own.budget other.frames (count own) xs (stored_in own))
      (piece other.frames q))
      (λ s. inl ((m.parts f).admitted xs ys q e (ltb-false q.at (count own) l) s)) (λ s. inr (inr s)))
      (λ f. let a = fewer f in let b = below xs ys q e in inr (inl (omega arith))))

-- ---- all of it
pub merge_left : MergeLeft
unfolding merge merged
merge_left l m own other y e =
    let r = accepted→ (merge_number l own m other) (merged own other) y e in let c = taken l m own other r.0 in
    let k = hinting→ own.scan.area own.fingerprint own.hinting (holds_of own c.four) in
    let o = hinting→ other.scan.area other.fingerprint other.hinting (holds_of other c.four') in
    let ih : y.hinting.hints ≡ joined_hints own.scan.area own.hinting.most own.hinting.hints
    (unkept other.hinting.hints) = sym (ap (λ (z : Index). z.hinting.hints) r.1) in
    let ic : y.hinting.confirmed ≡ keep_all (is_checked own.fingerprint) own.hinting.most
    own.hinting.confirmed other.hinting.confirmed =
    sym (ap (λ (z : Index). z.hinting.confirmed) r.1) in
    record {
      hints = own_hint own other y k o c.area ih;
      confirmed = own_confirmed own other y k o ic;
      parts' = other_part own.scan other.scan y.scan (joinable l m own other c)
          (merge_takes l m own other y e).scan;
      hints' = other_hint own other y k o c.area ih;
      confirmed' = other_confirmed own other y k o ic;
    }
