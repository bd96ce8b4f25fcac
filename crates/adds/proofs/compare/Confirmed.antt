-- Whether another list's confirmations change the held ones. Assumes nothing.
use mathlib.Core.Path.{◌≡◌, refl, sym, ap, subst, ◌∙◌}
use mathlib.Core.Bool.{Bool, true, false, not}
use mathlib.Core.List.{List, [], ◌∷◌}
use Prim.Native.Nat.{ℕ, suc, ◌<◌, ◌≤◌}
use native.Mathlib.Omega.{arith}
use lib.Dec.{eqb, ltb}
use lib.ListN.{length}
use borrow.Author.Tests.{eqb-true, eqb-false, ltb-true, ltb-false, lt-ltb, le-ltb, ne_eqb}
use Rattle.rules.specs.declared.Area.{Area}
use Rattle.rules.specs.declared.Confirmation.{Confirmation}
use Rattle.rules.specs.Sections.{confirmed_lsn, confirmation_ok, confirmations_ok}
use Rattle.rules.specs.Hints.{last_ones, held_confirmation, keeps_nothing, keep_all}
use Rattle.rules.proofs.Tests.{test, order, never}
use Rattle.laws.specs.Merging.{merged_with}
use Rattle.laws.specs.Order.{Rises}
use Rattle.laws.proofs.hint_lists.Lists.{All, all_map, all_sub, sub_last, last_length}
use Rattle.laws.proofs.hint_lists.Rising.{rises_from, rises_all, rising→}
use Rattle.laws.proofs.hint_lists.Merging.{nil_with, with_nil, with_left, with_right, with_both, with_cases, with_least}
use Rattle.laws.proofs.hint_lists.Confirmations.{met_lsn, keep_all_none}
use Rattle.laws.proofs.hint_lists.Keeping.{last_few, last_past, keep_all_merged}
use Rattle.merge.specs.Keys.{from_key}
use Rattle.adds.specs.Adds.{same_list, same_confirmation}
use Rattle.adds.specs.Confirmed.{absorbed, arriving, confirmed_change}
use Rattle.merge.proofs.keys.Laws.{from_rises}
use Rattle.adds.proofs.compare.Same.{differ, same_list_self, same_list_eq}
use Rattle.adds.proofs.compare.Same.{same_confirmation_self, same_confirmation_eq}

abbrev merged : List Confirmation → List Confirmation → List Confirmation
merged cs ds = merged_with confirmed_lsn held_confirmation cs ds

abbrev same : List Confirmation → List Confirmation → Bool
same cs ds = same_list same_confirmation cs ds

same_no : (cs ds : List Confirmation) → (cs ≡ ds → ⊥) → same cs ds ≡ false
same_no cs ds h = differ (same_list same_confirmation) (same_list_eq same_confirmation same_confirmation_eq) cs ds h

-- ---- the merged list is the held one where each is held as it is
absorbed_is : (cs ds : List Confirmation) → same cs (merged cs ds) ≡ absorbed cs ds
unfolding same_list absorbed
absorbed_is [] [] = rw (nil_with confirmed_lsn held_confirmation [])
absorbed_is [] (d ∷ ds) = rw (nil_with confirmed_lsn held_confirmation (d ∷ ds))
absorbed_is (c ∷ cs) [] =
    rw (with_nil confirmed_lsn held_confirmation (c ∷ cs)) (same_list_self same_confirmation same_confirmation_self (c ∷ cs))
absorbed_is (c ∷ cs) (d ∷ ds) =
    order c.lsn d.lsn
    (λ l. rw (
      with_left confirmed_lsn held_confirmation c d cs ds l,
      lt-ltb c.lsn d.lsn l,
      same_confirmation_self c,
    ) (absorbed_is cs (d ∷ ds)))
    (λ l. rw (
      with_right confirmed_lsn held_confirmation c d cs ds l,
      le-ltb c.lsn d.lsn (omega arith),
      lt-ltb d.lsn c.lsn l,
      differ same_confirmation same_confirmation_eq c d
          (λ e. let z : c.lsn ≡ d.lsn = ap (λ (x : Confirmation). x.lsn) e in omega arith),
    ))
    (λ e. rw (
      with_both confirmed_lsn held_confirmation c d cs ds e,
      le-ltb c.lsn d.lsn (omega arith),
      le-ltb d.lsn c.lsn (omega arith),
      absorbed_is cs ds,
    ))

-- ---- the last M of the merged list
-- fewer than M are held
last_free : (most : ℕ) (cs ds : List Confirmation) → length cs < most
    → same cs (last_ones most (merged cs ds)) ≡ same cs (merged cs ds)
last_free most cs ds l =
    test (ltb most (length (merged cs ds)))
    (λ e. let w = ltb-true most (length (merged cs ds)) e in let n = last_length most (merged cs ds) in
    same_no cs (last_ones most (merged cs ds)) (λ z. let y = ap length z in omega arith)
    ∙ sym (same_no cs (merged cs ds) (λ z. let y = ap length z in omega arith)))
    (λ e. rw (last_few most (merged cs ds) (ltb-false most (length (merged cs ds)) e)))

-- M are held: those below the lowest go
module _ (most : ℕ) (c : Confirmation) (cs : List Confirmation) (full : suc (length cs) ≡ most) where
  last_low : (ds : List Confirmation)
      → last_ones most (merged (c ∷ cs) ds) ≡ last_ones most (merged (c ∷ cs) (from_key confirmed_lsn c.lsn ds))
  unfolding from_key
  last_low [] = refl
  last_low (d ∷ ds) =
      test (ltb d.lsn c.lsn)
      (λ e. rw e (ap (last_ones most) (with_right confirmed_lsn held_confirmation c d cs ds (ltb-true d.lsn c.lsn e))
      ∙ last_past most d (merged (c ∷ cs) ds)
      (let w = with_least confirmed_lsn held_confirmation (c ∷ cs) ds in omega arith) ∙ last_low ds))
      (λ e. rw e)

  abbrev Above : List Confirmation → Type 0
  Above xs = All (λ x. c.lsn < x.lsn) xs

  above_merged : (xs ys : List Confirmation) → Above xs → Above ys → Above (merged xs ys)
  above_merged [] ys h g = rw (nil_with confirmed_lsn held_confirmation ys) g
  above_merged (x ∷ xs) [] h g = rw (with_nil confirmed_lsn held_confirmation (x ∷ xs)) h
  above_merged (x ∷ xs) (y ∷ ys) h g =
      with_cases confirmed_lsn held_confirmation Above x y xs ys (λ l. (h.0, above_merged xs (y ∷ ys) h.1 g))
      (λ l. (g.0, above_merged (x ∷ xs) ys h g.1))
      (λ e. (rw (met_lsn x y e) g.0, above_merged xs ys h.1 g.1))

  -- a list that begins where the held one does, and rises above that
  last_begins : (v : Confirmation) (vs : List Confirmation) → length cs ≤ length vs → Above vs
      → same (c ∷ cs) (last_ones most (v ∷ vs)) ≡ same (c ∷ cs) (v ∷ vs)
  last_begins v vs l a =
      test (eqb (length vs) (length cs))
      (λ e. let q = eqb-true (length vs) (length cs) e in rw (last_few most (v ∷ vs) (omega arith)))
      (λ e. let q = eqb-false (length vs) (length cs) e in
      let m : most ≤ length vs = omega (arith, q) in
      let none : c ∷ cs ≡ last_ones most vs → ⊥ =
      λ z. let h : Above (c ∷ cs) =
      subst (λ (x : List Confirmation). Above x) (sym z) (all_sub (λ x. c.lsn < x.lsn) (sub_last most vs) a) in
      let w = h.0 in omega arith in
      rw (last_past most v vs m)
      (same_no (c ∷ cs) (last_ones most vs) none ∙ sym
      (same_no (c ∷ cs) (v ∷ vs) (λ z. let y = ap length z in q (omega arith)))))

  above : (b : ℕ) (xs : List Confirmation) → c.lsn < b → Rises confirmed_lsn b xs → Above xs
  above b xs l r =
      all_map (λ x. b ≤ x.lsn) (λ x. c.lsn < x.lsn) (λ x h. omega arith) xs (rises_all confirmed_lsn b xs r)

  module _ (held : Rises confirmed_lsn (suc c.lsn) cs) where
    last_met : (ds : List Confirmation) (b : ℕ) → Rises confirmed_lsn b ds → c.lsn ≤ b
        → same (c ∷ cs) (last_ones most (merged (c ∷ cs) ds)) ≡ same (c ∷ cs) (merged (c ∷ cs) ds)
    last_met [] b r l =
        rw (with_nil confirmed_lsn held_confirmation (c ∷ cs))
        (last_begins c cs (omega arith) (above (suc c.lsn) cs (omega arith) held))
    last_met (d ∷ ds) b r l =
        let w = r.0 in
        order c.lsn d.lsn
        (λ m. rw (with_left confirmed_lsn held_confirmation c d cs ds m)
        (last_begins c (merged cs (d ∷ ds)) (with_least confirmed_lsn held_confirmation cs (d ∷ ds))
        (above_merged cs (d ∷ ds) (above (suc c.lsn) cs (omega arith) held)
        (m, above (suc d.lsn) ds (omega arith) r.1))))
        (λ m. let z : ⊥ = omega arith in absurd z)
        (λ e. rw (with_both confirmed_lsn held_confirmation c d cs ds e)
        (last_begins (held_confirmation c d) (merged cs ds) (with_least confirmed_lsn held_confirmation cs ds)
        (above_merged cs ds (above (suc c.lsn) cs (omega arith) held)
        (above (suc d.lsn) ds (omega arith) r.1))))

    last_full : (b : ℕ) (ds : List Confirmation) → Rises confirmed_lsn b ds
        → same (c ∷ cs) (last_ones most (merged (c ∷ cs) ds)) ≡ absorbed (c ∷ cs) (from_key confirmed_lsn c.lsn ds)
    last_full b ds r =
        rw (last_low ds)
        (last_met (from_key confirmed_lsn c.lsn ds) c.lsn (from_rises confirmed_lsn b c.lsn ds r) (omega arith)
        ∙ absorbed_is (c ∷ cs) (from_key confirmed_lsn c.lsn ds))

last_arriving : (most : ℕ) (cs ds : List Confirmation) → length cs ≤ most → 1 ≤ most → Rises confirmed_lsn 0 cs
    → Rises confirmed_lsn 0 ds
    → same cs (last_ones most (merged cs ds)) ≡ absorbed cs (arriving most cs ds)
unfolding arriving
last_arriving most [] ds l s r t =
    rw (ne_eqb 0 most (λ z. omega arith)) (last_free most [] ds (omega arith) ∙ absorbed_is [] ds)
last_arriving most (c ∷ cs) ds l s r t =
    test (eqb (suc (length cs)) most)
    (λ e. rw e (last_full most c cs (eqb-true (suc (length cs)) most e) r.1 0 ds t))
    (λ e. let q = eqb-false (suc (length cs)) most e in rw e
    (last_free most (c ∷ cs) ds (omega (arith, q)) ∙ absorbed_is (c ∷ cs) ds))

-- ---- kept one by one
pub confirmed_change_lemma : (a : Area) (checked : Bool) (most : ℕ) (cs ds : List Confirmation)
    → confirmations_ok a cs ≡ true → confirmations_ok a ds ≡ true → length cs ≤ most
    → not (same cs (keep_all checked most cs ds)) ≡ confirmed_change checked most cs ds
unfolding confirmed_change confirmations_ok
confirmed_change_lemma a checked most cs ds h g l =
    test (keeps_nothing checked most)
    (λ e. rw (e, keep_all_none checked most e cs ds, same_list_self same_confirmation same_confirmation_self cs))
    (λ e. let s : 1 ≤ most = test (eqb most 0) (λ z. never (some_zero checked most z) e)
    (λ z. let q = eqb-false most 0 z in omega (arith, q)) in
    let r =
    rises_from confirmed_lsn 0 a.start cs (omega arith)
    (rising→ confirmed_lsn confirmation_ok a.start a.end cs h).order in
    let t =
    rises_from confirmed_lsn 0 a.start ds (omega arith)
    (rising→ confirmed_lsn confirmation_ok a.start a.end ds g).order in
    rw (e, keep_all_merged checked most e cs ds l r t, last_arriving most cs ds l s r t))
  where
    some_zero : (checked : Bool) (most : ℕ) → eqb most 0 ≡ true → keeps_nothing checked most ≡ true
    some_zero true most z = z
    some_zero false most z = refl
