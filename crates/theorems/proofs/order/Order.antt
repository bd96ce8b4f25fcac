-- Change request 13: the statements of specs/Order.antt. Assumes nothing.
use Rattle.std.specs.Prelude.{Option, None, Some}
use mathlib.Core.Path.{◌≡◌, refl, sym, ap, subst, ◌∙◌}
use mathlib.Core.Bool.{true, false, cond}
use mathlib.Core.Logic.{⊎_elim, ◌⊎◌, inr}
use mathlib.Core.List.{List, [], ◌∷◌, ◌++◌, Memᴰ}
use Prim.Native.Nat.{ℕ, ◌≤◌}
use native.Mathlib.Omega.{arith}
use lib.Dec.{eqb}
use lib.ListN.{length}
use borrow.Author.Tests.{eqb-true, eqb-false, leb-true}
use Rattle.rules.specs.declared.Area.{Area}
use Rattle.rules.specs.declared.Confirmation.{Confirmation}
use Rattle.rules.specs.declared.Fingerprint.TheVariants.{Unknown, Checked}
use Rattle.rules.specs.declared.Hint.{Hint}
use Rattle.rules.specs.Tests.{is_some, or_else, agree, Accepted}
use Rattle.rules.specs.Values.{Index, stated, is_checked}
use Rattle.rules.specs.Hints.{joined_hints, keep_all}
use Rattle.rules.specs.Merge.{question41, question42, question43, further, held_from, merged_fingerprint, merged_scan, merged, merge_number, merge}
use Rattle.rules.specs.Run.{Place, merge_call, State, begin, answered, merge_into, merge_refusal, step, run}
use Rattle.rules.specs.Sections.{hint_lsn, hint_ok, hints_ok, confirmed_lsn, is_kept, mark_ok, marks_ok}
use Rattle.rules.proofs.Tests.{test, never, both, or_cases, all→, →all, asks, →after, agree_none}
use Rattle.rules.proofs.Same.{same_area_self, eqb_self}
use Rattle.laws.specs.Order.{Rises}
use Rattle.laws.proofs.hint_lists.Lists.{All, each→}
use Rattle.laws.proofs.hint_lists.Rising.{rising→}
use Rattle.laws.proofs.hint_lists.Calls.{holds_of}
use Rattle.laws.proofs.hint_lists.Closure.{HintingIs, hinting→}
use Rattle.laws.proofs.hint_lists.Confirmations.{keep_all_none}
use Rattle.laws.proofs.hint_lists.Keeping.{confirmed_rises}
use Rattle.laws.proofs.hint_lists.KeptHints.{Unmarked}
use Rattle.rules_lacks.proofs.Laws.{ConfirmsAlso}
use Rattle.theorems.specs.Terms.{Valid}
use Rattle.theorems.specs.Useful.{MergeOf}
use Rattle.theorems.specs.Order.{hints_at, confirmed_at, Together, Merge, merge_calls, after_merges, Lowest, HintsGathered, OrderFree}
use Rattle.theorems.proofs.Closure.{closure}
use Rattle.theorems.proofs.Hints.{Any}
use Rattle.theorems.proofs.Useful.{merge_takes}
use Rattle.theorems.proofs.lacking.MergeLeft.{better_self}
use Rattle.theorems.proofs.order.Gather.{any_map, Has, →has, all_there, all_member, one_there, one_at, same_members}
use Rattle.theorems.proofs.order.Union.{unkept_same, OneNumber, OneDigest, joined_from, joined_own, joined_other, kept_from, kept_own, kept_other}

module _ (p : ℕ → Place) (a : Area) (k most : ℕ) (t : Together p a k most) where
  -- ---- hints and confirmations of the lists at first
  abbrev Given : Hint → Type 0
  Given h = (w : ℕ) × Memᴰ h (hints_at (p w))

  no_mark : (w : ℕ) (h : Hint) → Memᴰ h (hints_at (p w)) → Unmarked h
  unfolding marks_ok is_kept
  no_mark w h m =
      let x = (p w).list in
      let r = (hinting→ x.scan.area x.fingerprint x.hinting (holds_of x (t.valid w).four)).marks in
      let l = leb-true _ _ (all_member (λ g. mark_ok g ≡ true) (hints_at (p w)) h
      (each→ mark_ok (hints_at (p w)) (all→ _ r).0) m) in
      let k = eqb-false _ _ (t.unmarked w h m) in
      below h.mark l k
    where
      below : (n : ℕ) → n ≤ 1 → (n ≡ 1 → ⊥) → n ≡ 0
      below n l k = test (eqb n 0) (λ e. eqb-true n 0 e)
          (λ e. let z : n ≡ 0 → ⊥ = eqb-false n 0 e in absurd (k (omega (arith, z))))

  one_number : OneNumber Given
  one_number h g e m n =
      let f : h.number ≡ g.number = t.numbers m.0 n.0 h g m.1 n.1 e in
      let k : h.mark ≡ g.mark = no_mark m.0 h m.1 ∙ sym (no_mark n.0 g n.1) in
      λ i. record { lsn = e i; number = f i; mark = k i }

  abbrev Stated : Confirmation → Type 0
  Stated c = (w : ℕ) × Memᴰ c (confirmed_at (p w))

  one_digest : OneDigest Stated
  one_digest c d e m n = t.digests m.0 n.0 c d m.1 n.1 e

  -- ---- the invariant of a place, whose list was that of place i
  pub record Inv (i : ℕ) (q : Place) (ws : List ℕ) : Type 0 where
    pub valid : Valid q.room q.list
    pub area : q.list.scan.area ≡ a
    pub interval : q.list.scan.interval ≡ k
    pub limit : q.list.hinting.most ≡ most
    pub fingerprint : q.list.fingerprint ≡ (p i).list.fingerprint
    pub image : (q.list.image ≡ None) ⊎ ((w : ℕ) × (q.list.image ≡ (p w).list.image))
    pub read : (w : ℕ) × (q.list.scan.checkpoints ≡ (p w).list.scan.checkpoints)
        × (q.list.scan.ending ≡ (p w).list.scan.ending)
    pub hints_from : (h : Hint) → Memᴰ h (hints_at q) → (w : ℕ) × Memᴰ w ws × Memᴰ h (hints_at (p w))
    pub hints_all : (w : ℕ) (h : Hint) → Memᴰ w ws → Memᴰ h (hints_at (p w)) → Memᴰ h (hints_at q)
    pub confirmed_from : (c : Confirmation) → Memᴰ c (confirmed_at q) → (w : ℕ) × Memᴰ w ws
        × Memᴰ c (confirmed_at (p w))
    pub confirmed_all : (w : ℕ) (d : Confirmation) → Memᴰ w ws → Memᴰ d (confirmed_at (p w))
        → Any (λ c. ConfirmsAlso c d) (confirmed_at q)

  pub start : (i : ℕ) → Inv i (p i) (i ∷ [])
  start i =
      record {
        valid = t.valid i;
        area = t.area i;
        interval = t.interval i;
        limit = t.limit i;
        fingerprint = refl;
        image = inr (i, refl);
        read = (i, refl, refl);
        hints_from = λ h m. (i, mathlib.Core.List.Memᴰ.head refl, m);
        hints_all = λ w h m n. subst (λ (v : ℕ). Memᴰ h (hints_at (p v))) (mathlib.Core.List.Memᴰ.eq_of_singleton m) n;
        confirmed_from = λ c m. (i, mathlib.Core.List.Memᴰ.head refl, m);
        confirmed_all = λ w d m n.
            any_map (λ c. c ≡ d) (λ c. ConfirmsAlso c d) (λ c e. rw e (better_self d)) (confirmed_at (p i))
            (→has (confirmed_at (p i)) d (subst (λ (v : ℕ). Memᴰ d (confirmed_at (p v)))
            (mathlib.Core.List.Memᴰ.eq_of_singleton m) n));
      }

  -- ---- a merge
  module _ (i j : ℕ) (q r : Place) (us vs : List ℕ) (c : Inv i q us) (d : Inv j r vs) where
    same_area : question41 q.list r.list ≡ true
    unfolding question41
    same_area = →all _ (rw (c.area, d.area) (same_area_self a), (rw (c.interval, d.interval) (eqb_self k), tt))

    images_agree : agree eqb q.list.image r.list.image ≡ true
    unfolding agree
    images_agree =
        ⊎_elim (λ e. rw e refl)
        (λ m. ⊎_elim (λ e. rw e (agree_none eqb q.list.image)) (λ n. rw (m.1, n.1) (t.images m.0 n.0))
        d.image) c.image

    prints_agree : agree eqb (stated q.list.fingerprint) (stated r.list.fingerprint) ≡ true
    unfolding agree stated
    prints_agree =
        ⊎_elim (λ f. rw (c.fingerprint, f i) refl)
        (λ f. rw (c.fingerprint, d.fingerprint, f.1 i, f.1 j) (eqb_self f.0)) t.fingerprint

    same_ids : question42 q.list r.list ≡ true
    unfolding question42
    same_ids = →all _ (images_agree, (prints_agree, tt))

    same_read : question43 q.list r.list ≡ true
    unfolding question43
    same_read =
        let m = c.read in let n = d.read in
        rw (m.1, m.2, n.1, n.2) (t.agreeing m.0 n.0)

    pub joins : merge_refusal q r ≡ 0
    unfolding merge_number
    joins =
        let v = c.valid in let w = d.valid in
        asks _ (
          both v.one w.one,
          (
            both v.two w.two,
            (both v.three w.three, (both v.four w.four, (same_area, (same_ids, (same_read, tt))))),
          ),
        )

    abbrev list : Index
    list = merged q.list r.list

    is_merged : merge_into q r ≡ Accepted list
    unfolding merge
    is_merged = →after joins refl

    of_scans : MergeOf q.list.scan r.list.scan list.scan
    of_scans = (merge_takes q.room r.room q.list r.list list is_merged).scan

    read_after : (w : ℕ) × (list.scan.checkpoints ≡ (p w).list.scan.checkpoints)
        × (list.scan.ending ≡ (p w).list.scan.ending)
    read_after =
        test (further q.list.scan r.list.scan)
        (λ f. let s = (of_scans.taken f).0 in (d.read.0, s.checkpoints ∙ d.read.1, s.ending ∙ d.read.2))
        (λ f. let s = of_scans.same f in rw s c.read)

    image_after : (list.image ≡ None) ⊎ ((w : ℕ) × (list.image ≡ (p w).list.image))
    unfolding merged or_else
    image_after = either q.list.image r.list.image c.image d.image
      where
        either : (m n : Option ℕ) → (m ≡ None) ⊎ ((w : ℕ) × (m ≡ (p w).list.image))
            → (n ≡ None) ⊎ ((w : ℕ) × (n ≡ (p w).list.image))
            → (or_else m n ≡ None) ⊎ ((w : ℕ) × (or_else m n ≡ (p w).list.image))
        either None n h g = g
        either (Some v) n h g = h

    print_after : list.fingerprint ≡ q.list.fingerprint
    unfolding merged
    print_after = ⊎_elim (λ f. rw (c.fingerprint, d.fingerprint, f i, f j)
        (unfold merged_fingerprint in unfold stated in unfold held_from in refl))
        (λ f. rw (c.fingerprint, f.1 i) (unfold merged_fingerprint in refl)) t.fingerprint

    own_is : HintingIs q.list.scan.area q.list.fingerprint q.list.hinting
    own_is = hinting→ q.list.scan.area q.list.fingerprint q.list.hinting
        (holds_of q.list c.valid.four)

    other_is : HintingIs r.list.scan.area r.list.fingerprint r.list.hinting
    other_is = hinting→ r.list.scan.area r.list.fingerprint r.list.hinting
        (holds_of r.list d.valid.four)

    area_after : list.scan.area ≡ q.list.scan.area
    unfolding merged merged_scan
    area_after = test (further q.list.scan r.list.scan) (λ f. rw f refl) (λ f. rw f refl)

    interval_after : list.scan.interval ≡ q.list.scan.interval
    unfolding merged merged_scan
    interval_after = test (further q.list.scan r.list.scan) (λ f. rw f refl) (λ f. rw f refl)

    abbrev InHints : Hint → Type 0
    InHints h = Has t.hint_lsns h.lsn

    abbrev InConfirmed : Confirmation → Type 0
    InConfirmed e = Has t.confirmed_lsns e.lsn

    -- what each of both lists holds was given
    module _ (n : ℕ) (s : Place) (ws : List ℕ) (e : Inv n s ws) where
      given_hints : All Given (hints_at s)
      given_hints = all_there Given (hints_at s) (λ h m. let o = e.hints_from h m in (o.0, o.2))

      inside_hints : All InHints (hints_at s)
      inside_hints = all_there InHints (hints_at s)
          (λ h m. let o = e.hints_from h m in →has t.hint_lsns h.lsn (t.hints_in o.0 h o.2))

      unmarked_hints : All Unmarked (hints_at s)
      unmarked_hints = all_there Unmarked (hints_at s) (λ h m. let o = e.hints_from h m in no_mark o.0 h o.2)

      given_confirmed : All Stated (confirmed_at s)
      given_confirmed = all_there Stated (confirmed_at s) (λ h m. let o = e.confirmed_from h m in (o.0, o.2))

      inside_confirmed : All InConfirmed (confirmed_at s)
      inside_confirmed = all_there InConfirmed (confirmed_at s)
          (λ h m. let o = e.confirmed_from h m in →has t.confirmed_lsns h.lsn (t.confirmed_in o.0 h o.2))

    abbrev hints_after : List Hint
    hints_after = joined_hints a most (hints_at q) (hints_at r)

    hints_are : list.hinting.hints ≡ hints_after
    unfolding merged
    hints_are = rw (c.area, c.limit, unkept_same (hints_at r) (unmarked_hints j r vs d)) refl

    module _ (h : Hint) where
      from_hints : Memᴰ h hints_after → Memᴰ h (hints_at q) ⊎ Memᴰ h (hints_at r)
      from_hints m =
          joined_from a Given one_number t.hint_lsns most t.hints_fit t.above (hints_at q) (hints_at r)
          (rw c.area at own_is.hints) (rw d.area at other_is.hints)
          (given_hints i q us c) (given_hints j r vs d) (inside_hints i q us c) (inside_hints j r vs d) h m

      own_hints : Memᴰ h (hints_at q) → Memᴰ h hints_after
      own_hints m =
          joined_own a Given one_number t.hint_lsns most t.hints_fit t.above (hints_at q) (hints_at r)
          (rw c.area at own_is.hints) (rw d.area at other_is.hints)
          (given_hints i q us c) (given_hints j r vs d) (inside_hints i q us c) (inside_hints j r vs d) h m

      other_hints : Memᴰ h (hints_at r) → Memᴰ h hints_after
      other_hints m =
          joined_other a Given one_number t.hint_lsns most t.hints_fit t.above (hints_at q) (hints_at r)
          (rw c.area at own_is.hints) (rw d.area at other_is.hints)
          (given_hints i q us c) (given_hints j r vs d) (inside_hints i q us c) (inside_hints j r vs d) h m

    -- ---- confirmations: none without a fingerprint
    abbrev confirmed_after : List Confirmation
    confirmed_after = keep_all (is_checked q.list.fingerprint) most (confirmed_at q) (confirmed_at r)

    confirmed_are : list.hinting.confirmed ≡ confirmed_after
    unfolding merged
    confirmed_are = rw c.limit refl

    module _ (v : ℕ) (f : (n : ℕ) → (p n).list.fingerprint ≡ Checked v) where
      checked : is_checked q.list.fingerprint ≡ true
      unfolding is_checked
      checked = rw (c.fingerprint, f i) refl

      kept_few : length (confirmed_at q) ≤ most
      kept_few = rw c.limit at own_is.fewer

      from_confirmed : (e : Confirmation) → Memᴰ e confirmed_after
          → Memᴰ e (confirmed_at q) ⊎ Memᴰ e (confirmed_at r)
      from_confirmed e m =
          kept_from a Stated one_digest t.confirmed_lsns most t.confirmed_fit t.above (confirmed_at q)
          (confirmed_at r) kept_few (rw c.area at own_is.confirmed)
          (rw d.area at other_is.confirmed) (given_confirmed i q us c) (given_confirmed j r vs d)
          (inside_confirmed i q us c) (inside_confirmed j r vs d) e
          (rw checked at m)

      own_confirmed : (e : Confirmation) → Any (λ y. ConfirmsAlso y e) (confirmed_at q)
          → Any (λ y. ConfirmsAlso y e) confirmed_after
      own_confirmed e m =
          rw checked
          (kept_own a Stated one_digest t.confirmed_lsns most t.confirmed_fit t.above (confirmed_at q)
          (confirmed_at r) kept_few (rw c.area at own_is.confirmed)
          (rw d.area at other_is.confirmed) (given_confirmed i q us c) (given_confirmed j r vs d)
          (inside_confirmed i q us c) (inside_confirmed j r vs d) e m)

      other_confirmed : (e : Confirmation) → Any (λ y. ConfirmsAlso y e) (confirmed_at r)
          → Any (λ y. ConfirmsAlso y e) confirmed_after
      other_confirmed e m =
          rw checked
          (kept_other a Stated one_digest t.confirmed_lsns most t.confirmed_fit t.above (confirmed_at q)
          (confirmed_at r) kept_few (rw c.area at own_is.confirmed)
          (rw d.area at other_is.confirmed) (given_confirmed i q us c) (given_confirmed j r vs d)
          (inside_confirmed i q us c) (inside_confirmed j r vs d) e m)

    module _ (f : (n : ℕ) → (p n).list.fingerprint ≡ Unknown) where
      unknown : confirmed_after ≡ confirmed_at q
      unfolding is_checked
      unknown = rw (c.fingerprint, f i) (keep_all_none false most refl (confirmed_at q) (confirmed_at r))

      nothing : (n : ℕ) → confirmed_at (p n) ≡ []
      unfolding stated is_some
      nothing n =
          let e = (hinting→ (p n).list.scan.area (p n).list.fingerprint (p n).list.hinting
          (holds_of (p n).list (t.valid n).four)).known in
          ⊎_elim (λ z. empty (confirmed_at (p n)) (eqb-true (length (confirmed_at (p n))) 0 z))
          (λ z. never {b = false} (rw (f n) at z) refl)
          (or_cases (eqb (length (confirmed_at (p n))) 0) (is_some (stated (p n).list.fingerprint)) e)
        where
          empty : (xs : List Confirmation) → length xs ≡ 0 → xs ≡ []
          empty [] z = refl
          empty (x ∷ xs) z = let w : ⊥ = omega arith in absurd w

    -- ---- the invariant afterwards
    abbrev place : Place
    place = record { list = list; room = q.room }

    widen : {A : Type 0} (f : Place → List A) (x : A) → (w : ℕ) × Memᴰ w us × Memᴰ x (f (p w)) → (w : ℕ)
        × Memᴰ w (us ++ vs) × Memᴰ x (f (p w))
    widen f x o = (o.0, mathlib.Core.List.Memᴰ.append_left vs o.1, o.2)

    widen' : {A : Type 0} (f : Place → List A) (x : A) → (w : ℕ) × Memᴰ w vs × Memᴰ x (f (p w)) → (w : ℕ)
        × Memᴰ w (us ++ vs) × Memᴰ x (f (p w))
    widen' f x o = (o.0, mathlib.Core.List.Memᴰ.append_right us o.1, o.2)

    confirmed_from_lemma : (e : Confirmation) → Memᴰ e list.hinting.confirmed → (w : ℕ) × Memᴰ w (us ++ vs)
        × Memᴰ e (confirmed_at (p w))
    confirmed_from_lemma e m =
        ⊎_elim (λ f. widen confirmed_at e (c.confirmed_from e (rw (confirmed_are, unknown f) at m)))
        (λ f. ⊎_elim (λ n. widen confirmed_at e (c.confirmed_from e n))
        (λ n. widen' confirmed_at e (d.confirmed_from e n)) (from_confirmed f.0 f.1 e (rw confirmed_are at m)))
        t.fingerprint

    confirmed_all_lemma : (w : ℕ) (e : Confirmation) → Memᴰ w (us ++ vs) → Memᴰ e (confirmed_at (p w))
        → Any (λ y. ConfirmsAlso y e) list.hinting.confirmed
    confirmed_all_lemma w e m n =
        rw confirmed_are
        (⊎_elim (λ f. let z : Memᴰ e [] = rw (nothing f w) at n in absurd (mathlib.Core.List.Memᴰ.not-nil z))
        (λ f. ⊎_elim (λ u. own_confirmed f.0 f.1 e (c.confirmed_all w e u n))
        (λ u. other_confirmed f.0 f.1 e (d.confirmed_all w e u n)) (mathlib.Core.List.Memᴰ.append_cases us m))
        t.fingerprint)

    pub merged_inv : Inv i place (us ++ vs)
    merged_inv =
        record {
          valid = closure.merged q.room r.room q.list r.list list is_merged;
          area = area_after ∙ c.area;
          interval = interval_after ∙ c.interval;
          limit = unfold merged in c.limit;
          fingerprint = print_after ∙ c.fingerprint;
          image = image_after;
          read = read_after;
          hints_from = λ h m. ⊎_elim (λ n. widen hints_at h (c.hints_from h n))
              (λ n. widen' hints_at h (d.hints_from h n)) (from_hints h (rw hints_are at m));
          hints_all = λ w h m n. rw hints_are (⊎_elim (λ u. own_hints h (c.hints_all w h u n))
              (λ u. other_hints h (d.hints_all w h u n)) (mathlib.Core.List.Memᴰ.append_cases us m));
          confirmed_from = confirmed_from_lemma;
          confirmed_all = confirmed_all_lemma;
        }

    pub after_merge : Inv i (answered q (merge_into q r)) (cond (eqb (merge_refusal q r) 0) (us ++ vs) us)
    unfolding answered
    after_merge = rw (is_merged, joins) merged_inv

  -- ---- the run
  abbrev pub Good : State → Type 0
  Good s = (i : ℕ) → Inv i (s.now i) (s.went i)

  pub step_good : (i j : ℕ) (s : State) → Good s → Good (step a (merge_call i j) s)
  unfolding step
  step_good i j s g n =
      test (eqb n i) (λ e. let e' : n ≡ i = eqb-true n i e in rw e
      (rw e' (after_merge i j (s.now i) (s.now j) (s.went i) (s.went j) (g i) (g j)))) (λ e. rw e (g n))

  run_good : (ms : List Merge) (s : State) → Good s → Good (run a (merge_calls ms) s)
  unfolding run merge_calls
  run_good [] s g = g
  run_good (m ∷ ms) s g = run_good ms (step a (merge_call m.into m.from) s) (step_good m.into m.from s g)

  pub good : (ms : List Merge) → Good (after_merges a p ms)
  good ms = run_good ms (begin p) start

  -- ---- from the invariant to the claim
  module _ (i : ℕ) (q : Place) (ws : List ℕ) (v : Inv i q ws) where
    hinted : HintingIs q.list.scan.area q.list.fingerprint q.list.hinting
    hinted = hinting→ q.list.scan.area q.list.fingerprint q.list.hinting
        (holds_of q.list v.valid.four)

    pub hint_order : Rises hint_lsn q.list.scan.area.start (hints_at q)
    unfolding hints_ok
    hint_order = (rising→ hint_lsn hint_ok q.list.scan.area.start q.list.scan.area.end (hints_at q)
        hinted.hints).order

    pub confirmed_order : Rises confirmed_lsn 0 (confirmed_at q)
    confirmed_order = confirmed_rises q.list.scan.area (confirmed_at q) hinted.confirmed

    lowest_there : (c : Confirmation) → Memᴰ c (confirmed_at q) → Lowest p ws c
    lowest_there c m =
        let o = v.confirmed_from c m in
        record {
          list = o.0;
          went = o.1;
          is = o.2;
          lowest = λ w d n h e.
              one_there (c.threshold ≤ d.threshold) (confirmed_at q)
              (λ y g k.
              let f : c ≡ y = one_at confirmed_lsn 0 (confirmed_at q) c y confirmed_order m g (sym e ∙ sym k.lsn) in
              let t = ap (λ (z : Confirmation). z.threshold) f in let l = k.threshold in omega (arith, t, l))
              (v.confirmed_all w d n h);
        }

    there_lowest : (c : Confirmation) → Lowest p ws c → Memᴰ c (confirmed_at q)
    there_lowest c o =
        one_there (Memᴰ c (confirmed_at q)) (confirmed_at q)
        (λ y g k.
        let u = v.confirmed_from y g in
        let l = o.lowest u.0 y u.1 u.2 k.lsn in let l' = k.threshold in
        let e : c.threshold ≡ y.threshold = omega (arith, l, l') in
        let f : c ≡ y = (λ i. record { lsn = sym k.lsn i; threshold = e i; digest = sym k.digest i }) in
        mathlib.Core.List.Memᴰ.cast f g)
        (v.confirmed_all o.list c o.went o.is)

pub hints_gathered : HintsGathered
hints_gathered p a k most t ms i =
    let g = good p a k most t ms in let s = after_merges a p ms in
    record {
      accepted = λ j. joins p a k most t i j (s.now i) (s.now j) (s.went i) (s.went j) (g i) (g j);
      hints = λ h. ((λ m. (g i).hints_from h m), (λ m. (g i).hints_all m.0 h m.1 m.2));
      confirmed = λ c. (
        lowest_there p a k most t i (s.now i) (s.went i) (g i) c,
        there_lowest p a k most t i (s.now i) (s.went i) (g i) c,
      );
    }

pub order_free : OrderFree
order_free p a k most t ms ns i j same =
    let s = after_merges a p ms in let u = after_merges a p ns in
    let g = good p a k most t ms i in let h = good p a k most t ns j in
    let x = hints_gathered p a k most t ms i in let y = hints_gathered p a k most t ns j in
    let low : (vs ws : List ℕ) → ((w : ℕ) → Memᴰ w vs → Memᴰ w ws)
    → ((w : ℕ) → Memᴰ w ws → Memᴰ w vs) → (c : Confirmation) → Lowest p vs c → Lowest p ws c =
    λ vs ws f e c o. record {
      list = o.list;
      went = f o.list o.went;
      is = o.is;
      lowest = λ w d m. o.lowest w d (e w m);
    } in (
      same_members hint_lsn a.start (hints_at (s.now i)) (hints_at (u.now j))
          (rw g.area at (hint_order p a k most t i (s.now i) (s.went i) g))
          (rw h.area at (hint_order p a k most t j (u.now j) (u.went j) h))
          (λ z m. let o = (x.hints z).0 m in (y.hints z).1 (o.0, (same o.0).0 o.1, o.2))
          (λ z m. let o = (y.hints z).0 m in (x.hints z).1 (o.0, (same o.0).1 o.1, o.2)),
      same_members confirmed_lsn 0 (confirmed_at (s.now i)) (confirmed_at (u.now j))
          (confirmed_order p a k most t i (s.now i) (s.went i) g)
          (confirmed_order p a k most t j (u.now j) (u.went j) h)
          (λ z m. (y.confirmed z).1 (low (s.went i) (u.went j) (λ w. (same w).0) (λ w. (same w).1) z
          ((x.confirmed z).0 m)))
          (λ z m. (x.confirmed z).1 (low (u.went j) (s.went i) (λ w. (same w).1) (λ w. (same w).0) z
          ((y.confirmed z).0 m))),
    )
