-- Whether another list's hints change the held ones, by one pass over both. Assumes nothing.
use mathlib.Core.Path.{◌≡◌, sym, ap, ◌∙◌}
use mathlib.Core.Bool.{Bool, true, false, not}
use mathlib.Core.List.{List}
use Prim.Native.Nat.{ℕ, ◌-◌, ◌/◌, ◌<◌, ◌≤◌}
use native.Mathlib.Omega.{arith}
use lib.Dec.{eqb, leb}
use lib.ListN.{length, get_or, get_or-eq_default}
use lib.Seq.{take-length}
use borrow.Author.Tests.{eqb-true, eqb-false, leb-true, leb-false, ltb-true, ne_eqb, le-leb, lt-leb}
use Rattle.rules.specs.declared.Area.{Area}
use Rattle.rules.specs.declared.Hint.{Hint}
use Rattle.rules.specs.Values.{no_hint, lim}
use Rattle.rules.specs.Sections.{hint_lsn, hint_ok, hints_ok}
use Rattle.rules.specs.Hints.{count_of, kept, thin, insert_all, limited_to, joined_hints, unkept}
use Rattle.rules.proofs.Tests.{test}
use Rattle.laws.specs.Order.{Rises}
use Rattle.laws.proofs.Marks.{unkept_ok}
use Rattle.laws.proofs.hint_lists.Lists.{all_map, all_at}
use Rattle.laws.proofs.hint_lists.Rising.{rising→, rising_each}
use Rattle.laws.proofs.hint_lists.Hints.{insert_all_keeps, hints_insert}
use Rattle.laws.proofs.hint_lists.Adding.{insert_all_rising}
use Rattle.laws.proofs.hint_lists.Thinning.{kept_length, kept_every, thin_length}
use Rattle.rules_lacks.specs.Lacks.{equal_hint}
use Rattle.rules_lacks.proofs.Laws.{equal_hint_self, equal_hint_eq}
use Rattle.adds.specs.declared.compare.Weighed.{Weighed}
use Rattle.adds.specs.Adds.{same_list}
use Rattle.adds.specs.Marks.{marked, lower, unweighed, weighed, changed_by}
use Rattle.adds.proofs.compare.Same.{differ, same_list_self, same_list_eq}
use Rattle.adds.proofs.compare.Counts.{count_full}
use Rattle.adds.proofs.compare.Marks.{hints_of, new_at, some_replaced, hints_length, hints_at}
use Rattle.adds.proofs.compare.Marks.{marked_hints, kept_all_held, new_unkept}
use Rattle.adds.proofs.compare.Weighing.{Numbered, NewUnkept, weighed_replaced, weighed_all, leaves, changes}
use Rattle.adds.proofs.compare.Replaced.{replaced_changes}

changed : (hs l : List Hint) → (l ≡ hs → ⊥) → not (same_list equal_hint hs l) ≡ true
changed hs l e = rw (differ (same_list equal_hint) (same_list_eq equal_hint equal_hint_eq) hs l (λ p. e (sym p)))

unchanged : (hs l : List Hint) → l ≡ hs → not (same_list equal_hint hs l) ≡ false
unchanged hs l e = rw (e, same_list_self equal_hint equal_hint_self hs)

-- where no number is replaced
module _ (a : Area) (hs xs : List Hint) (h : hints_ok a hs ≡ true) (g : hints_ok a xs ≡ true)
    (none : some_replaced (marked hs xs) ≡ false)
    (plain : NewUnkept (marked hs xs)) where
  abbrev all : List Hint
  all = hints_of (marked hs xs)

  all_inserted : all ≡ insert_all a hs xs
  unfolding hints_ok
  all_inserted = marked_hints hs xs none ∙ sym (insert_all_rising a a.start hs xs (omega arith) g)

  all_ok : hints_ok a all ≡ true
  unfolding hints_ok
  all_ok =
      rw all_inserted (insert_all_keeps a (λ l. hints_ok a l ≡ true) (λ x. hint_ok x ≡ true) (hints_insert a) hs xs h
      (all_map _ (λ x. hint_ok x ≡ true) (λ x u. u.1.1) xs (rising_each hint_lsn hint_ok a.start a.end xs g)))

  all_rise : Rises hint_lsn a.start all
  unfolding hints_ok
  all_rise = (rising→ hint_lsn hint_ok a.start a.end all all_ok).order

  small : Numbered (marked hs xs)
  unfolding hints_ok
  small i =
      rw (← hints_at (marked hs xs) i) (test (leb (length all) i)
      (λ e. let l = leb-true (length all) i e in rw (get_or-eq_default all no_hint l) (omega arith))
      (λ e. let l = leb-false (length all) i e in
      let u = all_at _ all i no_hint l (rising_each hint_lsn hint_ok a.start a.end all all_ok) in
      let w = ltb-true (get_or all i no_hint).number lim u.1.1 in omega arith))

  -- with no new one, the list stays
  none_new : length (marked hs xs) ≡ length hs → all ≡ hs
  none_new e =
      let n = length (marked hs xs) in
      let stays : ℕ → Bool = λ i. not (new_at (marked hs xs) i) in
      let k = kept_all_held hs xs in
      let c : count_of stays n ≡ n = sym (kept_length stays all n) ∙ ap length k ∙ sym e in
      let m = hints_length (marked hs xs) in
      let f = kept_every stays all n (omega arith) (count_full stays n c) in
      let t : kept stays all n ≡ all = f ∙ rw (← m) (take-length all) in
      sym t ∙ k

  module _ (most : ℕ) (few : length hs ≤ most) (some : 1 ≤ most) where
    abbrev w : Weighed
    w = weighed unweighed (marked hs xs)

    joined : joined_hints a most hs xs ≡ limited_to most all
    unfolding joined_hints
    joined = rw (ne_eqb most 0 (λ z. omega arith), all_inserted)

    under : length (marked hs xs) ≤ most → joined_hints a most hs xs ≡ all
    unfolding limited_to
    under l = joined ∙ rw (hints_length (marked hs xs), le-leb _ _ l)

    over : most < length (marked hs xs) → joined_hints a most hs xs ≡ thin (most - most / 4) all
    unfolding limited_to
    over l = joined ∙ rw (hints_length (marked hs xs), lt-leb _ _ l)

    none_replaced : not (same_list equal_hint hs (joined_hints a most hs xs)) ≡ changed_by w (length hs) most
    unfolding changed_by
    none_replaced =
        let n = length (marked hs xs) in
        let len = hints_length (marked hs xs) in
        let f : (weighed unweighed (marked hs xs)).replaced ≡ false = weighed_replaced unweighed (marked hs xs) ∙ none in
        rw (f, weighed_all (marked hs xs) small)
        (test (eqb n (length hs))
        (λ e. let q = eqb-true n (length hs) e in rw e (unchanged hs _ (under (omega arith) ∙ none_new q)))
        (λ e. let q = eqb-false n (length hs) e in
        rw e (test (leb n most)
        (λ f. rw f (changed hs _ (λ z. q (sym len ∙ ap length (sym (under (leb-true n most f)) ∙ z)))))
        (λ f. let l = leb-false n most f in
        rw f (test (eqb (length hs) (most - most / 4))
        (λ c. let s = eqb-true (length hs) (most - most / 4) c in
        rw c (test (lower w.new w.held)
        (λ d. rw d (unchanged hs _
        (over l ∙ rw (← s) (leaves (marked hs xs) small a.start all_rise hs (kept_all_held hs xs) d))))
        (λ d. rw d (changed hs _
        (λ z. changes (marked hs xs) small a.start all_rise hs (kept_all_held hs xs) (omega arith) plain d
        (rw s (sym (over l) ∙ z)))))))
        (λ c. let s = eqb-false (length hs) (most - most / 4) c in
        rw c (changed hs _ (λ z. let t = thin_length (most - most / 4) all in
        let y : length (thin (most - most / 4) all) ≡ length hs = ap length (sym (over l) ∙ z) in
        s (omega arith)))))))))

pub hints_change : (a : Area) (hs ys : List Hint) → hints_ok a hs ≡ true → hints_ok a ys ≡ true → (most : ℕ)
    → length hs ≤ most → 1 ≤ most
    → not (same_list equal_hint hs (joined_hints a most hs (unkept ys)))
    ≡ changed_by (weighed unweighed (marked hs (unkept ys))) (length hs) most
unfolding changed_by
hints_change a hs ys h g most few some =
    let xs = unkept ys in
    let g' : hints_ok a xs ≡ true = unkept_ok a ys ∙ g in
    test (some_replaced (marked hs xs))
    (λ e. let f : (weighed unweighed (marked hs xs)).replaced ≡ true = weighed_replaced unweighed (marked hs xs) ∙ e in
    rw f (changed hs _ (replaced_changes a most hs xs h g' some e)))
    (λ e. none_replaced a hs xs h g' e (new_unkept hs ys) most few some)
