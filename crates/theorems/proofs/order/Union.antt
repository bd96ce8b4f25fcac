-- Hints joined and confirmations kept, where all that can come fit the limit and agree: what both lists hold, and no more. Assumes nothing.
use mathlib.Core.Path.{◌≡◌, refl, sym, ap, ◌∙◌}
use mathlib.Core.Bool.{true, false}
use mathlib.Core.Logic.{⊎_elim, ◌⊎◌, inl, inr}
use mathlib.Core.List.{List, [], ◌∷◌, Memᴰ}
use Prim.Native.Nat.{ℕ, min, ◌<◌, ◌≤◌}
use native.Mathlib.Omega.{arith}
use lib.Dec.{eqb, leb}
use lib.ListN.{length}
use borrow.Author.Tests.{eqb-true, leb-true, le-leb, eq-eqb, leb-false}
use Rattle.rules.specs.declared.Area.{Area}
use Rattle.rules.specs.declared.Confirmation.{Confirmation}
use Rattle.rules.specs.declared.Hint.{Hint}
use Rattle.rules.specs.Sections.{hint_lsn, hint_ok, hints_ok, confirmed_lsn, confirmations_ok}
use Rattle.rules.specs.Hints.{unkept, arrived_hint, insert_all, limited_to, joined_hints, held_confirmation, keeps_nothing, keep_all}
use Rattle.rules.proofs.Tests.{test}
use Rattle.laws.specs.Merging.{merged_with}
use Rattle.laws.specs.Order.{Rises}
use Rattle.laws.proofs.hint_lists.Lists.{All, all_map}
use Rattle.laws.proofs.hint_lists.Rising.{rising→, rising_each}
use Rattle.laws.proofs.hint_lists.Merging.{inserted_with_lemma}
use Rattle.laws.proofs.hint_lists.Adding.{insert_all_rising}
use Rattle.laws.proofs.hint_lists.Hints.{insert_all_keeps, hints_insert}
use Rattle.laws.proofs.hint_lists.Confirmations.{met_lsn}
use Rattle.laws.proofs.hint_lists.KeptHints.{Unmarked}
use Rattle.laws.proofs.hint_lists.Keeping.{last_few, keep_all_merged, confirmed_rises}
use Rattle.rules_lacks.proofs.Laws.{ConfirmsAlso}
use Rattle.theorems.proofs.Hints.{Any}
use Rattle.theorems.proofs.lacking.MergeLeft.{met_new, rises_all_inserted}
use Rattle.theorems.proofs.order.Gather.{Has, has→, →has, fewer, Meets, with_all, with_from, with_own, with_other}

-- ---- hints
-- no two that are Ok have one LSN and two numbers
abbrev pub OneNumber : (Hint → Type 0) → Type 0
OneNumber Ok = (h k : Hint) → h.lsn ≡ k.lsn → Ok h → Ok k → h ≡ k

-- two equal hints meet in one
met_arrived : (x y : Hint) → x ≡ y → arrived_hint x y ≡ y
met_arrived x y e = let m = ap (λ (h : Hint). h.mark) e in λ i. record { lsn = y.lsn; number = y.number; mark = m i }

-- hints without marks are what a merge takes of them
pub unkept_same : (hs : List Hint) → All Unmarked hs → unkept hs ≡ hs
unfolding unkept
unkept_same [] u = refl
unkept_same (h ∷ hs) u =
    let e = sym u.0 in let r = unkept_same hs u.1 in λ i. record
    { lsn = h.lsn; number = h.number; mark = e i } ∷ r i

hint_meets : (Ok : Hint → Type 0) → OneNumber Ok → Meets hint_lsn arrived_hint Ok (λ c d. c ≡ d)
hint_meets Ok o =
    record {
      one = λ x y e p q. inr (met_arrived x y (o x y e p q));
      own = λ x y e p q. met_arrived x y (o x y e p q) ∙ sym (o x y e p q);
      other = λ x y e p q. met_arrived x y (o x y e p q);
      through = λ x y z e f. e ∙ f;
    }

module _ (a : Area) (Ok : Hint → Type 0) (o : OneNumber Ok) (ls : List ℕ) (most : ℕ) (fits : length ls ≤ most)
    (above : 1 ≤ most)
    (hs list : List Hint) (hok : hints_ok a hs ≡ true) (lok : hints_ok a list ≡ true) (p : All Ok hs) (q : All Ok list)
    (i : All (λ h. Has ls h.lsn) hs) (j : All (λ h. Has ls h.lsn) list) where
  numbers_ok : All (λ h. hint_ok h ≡ true) list
  unfolding hints_ok
  numbers_ok = all_map _ (λ h. hint_ok h ≡ true) (λ h u. u.1.1) list
      (rising_each hint_lsn hint_ok a.start a.end list lok)

  joined_rises : hints_ok a (insert_all a hs list) ≡ true
  joined_rises = insert_all_keeps a (λ l. hints_ok a l ≡ true) (λ x. hint_ok x ≡ true)
      (λ x ys t u w. hints_insert a x ys t u w) hs list hok numbers_ok

  joined_merged : insert_all a hs list ≡ merged_with hint_lsn arrived_hint hs list
  unfolding hints_ok
  joined_merged = insert_all_rising a a.start hs list (omega arith) lok

  joined_few : length (insert_all a hs list) ≤ most
  unfolding hints_ok
  joined_few =
      let r = (rising→ hint_lsn hint_ok a.start a.end (insert_all a hs list) joined_rises).order in
      let k = with_all hint_lsn arrived_hint Ok (λ c d. c ≡ d) (hint_meets Ok o) (λ h. Has ls h.lsn) hs list p q i j in
      omega (arith, fits, fewer hint_lsn ls a.start (insert_all a hs list) r (rw joined_merged k))

  pub joined_is : joined_hints a most hs list ≡ merged_with hint_lsn arrived_hint hs list
  unfolding joined_hints limited_to
  joined_is =
      let z : eqb most 0 ≡ false = test (eqb most 0)
      (λ e. let w : most ≡ 0 = eqb-true most 0 e in let f : ⊥ = omega arith in absurd f) (λ e. e) in
      rw (z, le-leb (length (insert_all a hs list)) most joined_few) joined_merged

  pub joined_from : (h : Hint) → Memᴰ h (joined_hints a most hs list) → Memᴰ h hs ⊎ Memᴰ h list
  joined_from h m =
      ⊎_elim (λ n. inl (has→ hs h n)) (λ n. inr (has→ list h n))
      (with_from hint_lsn arrived_hint Ok (λ c d. c ≡ d) (hint_meets Ok o) (λ y. y ≡ h) hs list p q
      (rw joined_is at (→has (joined_hints a most hs list) h m)))

  pub joined_own : (h : Hint) → Memᴰ h hs → Memᴰ h (joined_hints a most hs list)
  joined_own h m = has→ _ h (rw joined_is (with_own hint_lsn arrived_hint Ok (λ c d. c ≡ d) (hint_meets Ok o) h hs list
      p q (→has hs h m)))

  pub joined_other : (h : Hint) → Memᴰ h list → Memᴰ h (joined_hints a most hs list)
  joined_other h m = has→ _ h (rw joined_is (with_other hint_lsn arrived_hint Ok (λ c d. c ≡ d) (hint_meets Ok o) h hs
      list p q (→has list h m)))

-- ---- confirmations
-- no two that are Ok have one LSN and two digests
abbrev pub OneDigest : (Confirmation → Type 0) → Type 0
OneDigest Ok = (c d : Confirmation) → c.lsn ≡ d.lsn → Ok c → Ok d → c.digest ≡ d.digest

module _ (x y : Confirmation) (l : x.lsn ≡ y.lsn) (g : x.digest ≡ y.digest) where
  met_is : held_confirmation x y ≡ record {
    lsn = x.lsn;
    threshold = min x.threshold y.threshold;
    digest = x.digest;
  }
  unfolding held_confirmation
  met_is = rw (eq-eqb x.digest y.digest g) refl

  met_one : (held_confirmation x y ≡ x) ⊎ (held_confirmation x y ≡ y)
  met_one =
      test (leb x.threshold y.threshold)
      (λ e. let w : x.threshold ≤ y.threshold = leb-true _ _ e in let t : min x.threshold y.threshold
      ≡ x.threshold = omega arith in
      inl (met_is ∙ (λ i. record { lsn = x.lsn; threshold = t i; digest = x.digest })))
      (λ e. let w : y.threshold < x.threshold = leb-false _ _ e in let t : min x.threshold y.threshold
      ≡ y.threshold = omega arith in
      inr (met_is ∙ (λ i. record { lsn = l i; threshold = t i; digest = g i })))

  met_own : ConfirmsAlso (held_confirmation x y) x
  met_own = rw met_is (record { lsn = refl; digest = refl; threshold = omega arith })

confirmation_meets : (Ok : Confirmation → Type 0) → OneDigest Ok → Meets confirmed_lsn held_confirmation Ok ConfirmsAlso
confirmation_meets Ok o =
    record {
      one = λ x y e p q. met_one x y e (o x y e p q);
      own = λ x y e p q. met_own x y e (o x y e p q);
      other = λ x y e p q. met_new x y e;
      through = λ x y z e f. let u = e.threshold in let v = f.threshold in record
          { lsn = e.lsn ∙ f.lsn; digest = e.digest ∙ f.digest; threshold = omega arith };
    }

module _ (a : Area) (Ok : Confirmation → Type 0) (o : OneDigest Ok) (ls : List ℕ) (most : ℕ)
    (fits : length ls ≤ most) (above : 1 ≤ most)
    (cs ds : List Confirmation) (few : length cs ≤ most) (cok : confirmations_ok a cs ≡ true)
    (dok : confirmations_ok a ds ≡ true) (p : All Ok cs) (q : All Ok ds)
    (i : All (λ h. Has ls h.lsn) cs) (j : All (λ h. Has ls h.lsn) ds) where
  kept_few : length (merged_with confirmed_lsn held_confirmation cs ds) ≤ most
  kept_few =
      let r = confirmed_rises a cs cok in let s = confirmed_rises a ds dok in
      let t : Rises confirmed_lsn 0 (merged_with confirmed_lsn held_confirmation cs ds) = rw
      (← inserted_with_lemma confirmed_lsn held_confirmation met_lsn 0 cs ds s) (rises_all_inserted cs ds r) in
      omega (
        arith,
        fits,
        fewer confirmed_lsn ls 0 (merged_with confirmed_lsn held_confirmation cs ds) t
            (with_all confirmed_lsn held_confirmation Ok ConfirmsAlso (confirmation_meets Ok o) (λ h. Has ls h.lsn)
            cs ds p q i j),
      )

  pub kept_is : keep_all true most cs ds ≡ merged_with confirmed_lsn held_confirmation cs ds
  kept_is =
      let z : keeps_nothing true most ≡ false = test (eqb most 0)
      (λ e. let w : most ≡ 0 = eqb-true most 0 e in let f : ⊥ = omega arith in absurd f) (λ e. e) in
      keep_all_merged true most z cs ds few (confirmed_rises a cs cok) (confirmed_rises a ds dok)
      ∙ last_few most (merged_with confirmed_lsn held_confirmation cs ds) kept_few

  pub kept_from : (c : Confirmation) → Memᴰ c (keep_all true most cs ds) → Memᴰ c cs ⊎ Memᴰ c ds
  kept_from c m =
      ⊎_elim (λ n. inl (has→ cs c n)) (λ n. inr (has→ ds c n))
      (with_from confirmed_lsn held_confirmation Ok ConfirmsAlso (confirmation_meets Ok o) (λ y. y ≡ c) cs ds p q
      (rw kept_is at (→has (keep_all true most cs ds) c m)))

  pub kept_own : (d : Confirmation) → Any (λ c. ConfirmsAlso c d) cs
      → Any (λ c. ConfirmsAlso c d) (keep_all true most cs ds)
  kept_own d m = rw kept_is (with_own confirmed_lsn held_confirmation Ok ConfirmsAlso (confirmation_meets Ok o) d cs ds
      p q m)

  pub kept_other : (d : Confirmation) → Any (λ c. ConfirmsAlso c d) ds
      → Any (λ c. ConfirmsAlso c d) (keep_all true most cs ds)
  kept_other d m = rw kept_is (with_other confirmed_lsn held_confirmation Ok ConfirmsAlso (confirmation_meets Ok o) d
      cs ds p q m)
