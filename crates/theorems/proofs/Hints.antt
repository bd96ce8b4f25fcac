-- What add_hints holds before thinning, and what thinning keeps: the statements of specs/Hints.antt. Assumes nothing.
use mathlib.Core.Path.{◌≡◌, refl, sym, ap, subst, ◌∙◌}
use mathlib.Core.Bool.{Bool, true, cond}
use mathlib.Core.Logic.{⊎_elim, ◌⊎◌, inl, inr}
use mathlib.Core.List.{List, [], ◌∷◌, ◌++◌}
use Prim.Native.Nat.{ℕ, zero, suc, ◌-◌, ◌/◌, ◌<◌, ◌≤◌}
use native.Mathlib.Omega.{arith}
use borrow.Author.Tests.{eqb-true, eqb-false, leb-true, ltb-true, ltb-false, le-leb, lt-ltb}
use lib.Dec.{eqb, leb, ltb}
use lib.ListN.{length, get_or, length-set, get_or-eq_default}
use lib.Seq.{take-length, get_or-set_same, get_or-set_other}
use Rattle.rules.specs.declared.Area.{Area}
use Rattle.rules.specs.declared.Hint.{Hint}
use Rattle.rules.specs.Tests.{each, Accepted}
use Rattle.rules.specs.Values.{Index, Lengths, lim, max_list, no_hint}
use Rattle.rules.specs.Questions.{question4}
use Rattle.rules.specs.Sections.{hint_lsn, hint_ok, hints_ok, is_kept, kept_count, marks_ok}
use Rattle.rules.specs.Hints.{insert, arrived_hint, in_area, insert_all, count_of, rank, kept, thin, unkept_hint, unkept, question13, add_hints, question53, place_of, kept_hint, with_mark, with_hinting, keep_hint}
use Rattle.rules.specs.Merge.{merged, merge_number, merge}
use Rattle.rules.proofs.Tests.{test, both, order, and_left, and_right, all→, accepted→}
use Rattle.rules.proofs.Walk.{rising_at, rising_rises}
use Rattle.laws.proofs.hint_lists.Lists.{Sub, empty, same, skip, All, Passes, each→, all_at, all_map, all_insert, insert_none, insert_cases}
use Rattle.laws.proofs.hint_lists.Hints.{insert_all_keeps, hints_insert}
use Rattle.laws.proofs.hint_lists.Thinning as thinning
use Rattle.laws.proofs.hint_lists.KeptHints.{Unmarked, kept_at, Numbers, thin_stays, count_kept, kept_lsns_count, insert_all_marks, joined_marks, unkept_unmarked, marked_at, marked_unkept, marked_again}
use Rattle.laws.proofs.Marks.{unkept_ok}
use Rattle.laws.proofs.hint_lists.Rising.{rising_each}
use Rattle.laws.specs.Marks.{kept_lsns}
use Rattle.laws.proofs.hint_lists.Closure.{hinting→}
use Rattle.laws.proofs.hint_lists.Calls.{Answered, holds_of, four→, taken}
use Rattle.theorems.specs.Hints.{One, AtLsn, LastAt, Joined, HintsJoined, ThinLength, ThinAmong, ThinPasses, MarksStay}

-- ---- P holds of one, by cases
abbrev pub Any : {A : Type 0} → (A → Type 0) → List A → Type 0
Any P [] = ⊥
Any P (x ∷ xs) = P x ⊎ Any P xs

module _ (P : Hint → Type 0) where
  pub any_at : (hs : List Hint) (i : ℕ) → i < length hs → P (get_or hs i no_hint) → Any P hs
  any_at [] i l p = let z : ⊥ = omega arith in absurd z
  any_at (x ∷ xs) zero l p = inl p
  any_at (x ∷ xs) (suc i) l p = inr (any_at xs i (omega arith) p)

  pub one→ : (hs : List Hint) → One P hs → Any P hs
  one→ hs o = any_at hs o.place o.inside o.holds

  pub →one : (hs : List Hint) → Any P hs → One P hs
  →one [] h = absurd h
  →one (x ∷ xs) h =
      ⊎_elim (λ p. record { place = 0; inside = omega arith; holds = p })
      (λ r. let o = →one xs r in let l = o.inside in record
      { place = suc o.place; inside = omega arith; holds = o.holds }) h

  any_sub : {xs ys : List Hint} → Sub xs ys → Any P xs → Any P ys
  any_sub empty h = h
  any_sub (same s) h = ⊎_elim (λ p. inl p) (λ r. inr (any_sub s r)) h
  any_sub (skip s) h = inr (any_sub s h)

  -- what holds of a held one holds of one afterwards, if it goes over to a hint that arrives at its LSN, with the held mark
  any_insert : (x : Hint) → ((y : Hint) → y.lsn ≡ x.lsn → P y → P (arrived_hint y x)) → (ys : List Hint) → Any P ys
      → Any P (insert hint_lsn arrived_hint x ys)
  any_insert x f [] h = absurd h
  any_insert x f (y ∷ ys) h =
      insert_cases hint_lsn arrived_hint x y ys (Any P) (λ e. inr h)
      (λ e. ⊎_elim (λ p. inl p) (λ r. inr (any_insert x f ys r)) h)
      (λ e. ⊎_elim (λ p. inl (f y e p)) (λ r. inr r) h)

  any_new : ((y x : Hint) → P x → P (arrived_hint y x)) → (x : Hint) (ys : List Hint) → P x
      → Any P (insert hint_lsn arrived_hint x ys)
  any_new f x [] p = rw (insert_none hint_lsn arrived_hint x) (inl p)
  any_new f x (y ∷ ys) p = insert_cases hint_lsn arrived_hint x y ys (Any P) (λ e. inl p) (λ e. inr (any_new f x ys p))
      (λ e. inl (f y x p))

  pub any_all : (a : Area) (hs list : List Hint)
      → All (λ x. (y : Hint) → y.lsn ≡ x.lsn → P y → P (arrived_hint y x)) list → Any P hs
      → Any P (insert_all a hs list)
  unfolding insert_all
  any_all a hs [] f h = h
  any_all a hs (x ∷ xs) f h =
      any_all a (cond (in_area a x.lsn) (insert hint_lsn arrived_hint x hs) hs) xs f.1
      (test (in_area a x.lsn) (λ e. rw e (any_insert x f.0 hs h)) (λ e. rw e h))

pub all_places : (P : Hint → Type 0) (hs : List Hint) → ((i : ℕ) → i < length hs → P (get_or hs i no_hint)) → All P hs
all_places P [] f = tt
all_places P (x ∷ xs) f = (f zero (omega arith), all_places P xs (λ i l. f (suc i) (omega arith)))

-- ---- LSNs
abbrev HasLsn : ℕ → List Hint → Type 0
HasLsn n hs = Any (λ x. x.lsn ≡ n) hs

-- an LSN stays where a hint arrives there
lsns_stay : (n : ℕ) (list : List Hint) → All (λ x. (y : Hint) → y.lsn ≡ x.lsn → y.lsn ≡ n → x.lsn ≡ n) list
lsns_stay n list = all_places (λ x. (y : Hint) → y.lsn ≡ x.lsn → y.lsn ≡ n → x.lsn ≡ n) list
    (λ i l y e p. sym e ∙ p)

lsn_all : (n : ℕ) (a : Area) (hs list : List Hint) → in_area a n ≡ true → HasLsn n list → HasLsn n (insert_all a hs list)
unfolding insert_all
lsn_all n a hs [] i h = absurd h
lsn_all n a hs (x ∷ xs) i h =
    ⊎_elim
    (λ (e : x.lsn ≡ n).
    let j : in_area a x.lsn ≡ true = ap (in_area a) e ∙ i in
    rw j (any_all (λ y. y.lsn ≡ n) a (insert hint_lsn arrived_hint x hs) xs (lsns_stay n xs)
    (any_new (λ y. y.lsn ≡ n) (λ y z p. p) x hs e)))
    (λ r. lsn_all n a (cond (in_area a x.lsn) (insert hint_lsn arrived_hint x hs) hs) xs i r) h

-- and no other comes in
abbrev From : Area → List Hint → List Hint → ℕ → Type 0
From a hs list n = AtLsn hs n ⊎ ((in_area a n ≡ true) × AtLsn list n)

from_all : (a : Area) (hs list : List Hint) → All (λ x. From a hs list x.lsn) (insert_all a hs list)
from_all a hs list =
    insert_all_keeps a (All (λ x. From a hs list x.lsn)) (λ x. AtLsn list x.lsn)
    (λ x ys i p q. all_insert hint_lsn arrived_hint x (λ x. From a hs list x.lsn) (inr (i, p)) (λ y e w. inr (i, p))
    ys q) hs list
    (all_places (λ x. From a hs list x.lsn) hs (λ i l. inl (record { place = i; inside = l; holds = refl })))
    (all_places (λ x. AtLsn list x.lsn) list (λ i l. record { place = i; inside = l; holds = refl }))

-- ---- where each comes from
-- of an inserted hint and those held
any_from : (P Q : Hint → Type 0) → ((y x : Hint) → P (arrived_hint y x) → Q x) → ((x : Hint) → P x → Q x)
    → (x : Hint) (ys : List Hint) → Any P (insert hint_lsn arrived_hint x ys) → Q x ⊎ Any P ys
any_from P Q f g x [] h = ⊎_elim (λ p. inl (g x p)) (λ r. inr r) (rw (insert_none hint_lsn arrived_hint x) at h)
any_from P Q f g x (y ∷ ys) h =
    insert_cases hint_lsn arrived_hint x y ys (λ l. Any P l → Q x ⊎ Any P (y ∷ ys))
    (λ e k. ⊎_elim (λ p. inl (g x p)) (λ r. inr r) k)
    (λ e k. ⊎_elim (λ p. inr (inl p)) (λ r. ⊎_elim (λ p. inl p) (λ q. inr (inr q)) (any_from P Q f g x ys r)) k)
    (λ e k. ⊎_elim (λ p. inl (f y x p)) (λ r. inr (inr r)) k) h

-- at one LSN there is one
pub unique : (a : Area) (hs : List Hint) → hints_ok a hs ≡ true → (i j : ℕ) → i < length hs → j < length hs
    → (get_or hs i no_hint).lsn ≡ (get_or hs j no_hint).lsn
    → get_or hs i no_hint ≡ get_or hs j no_hint
unfolding hints_ok
unique a hs ok i j l m e =
    order i j (λ b. let w = rising_rises hint_lsn hint_ok a.end no_hint a.start hs i j ok b m in let z : ⊥ = omega
    arith in absurd z)
    (λ b. let w = rising_rises hint_lsn hint_ok a.end no_hint a.start hs j i ok b l in let z : ⊥ = omega arith
    in absurd z)
    (λ b. ap (λ (k : ℕ). get_or hs k no_hint) b)

abbrev Is : Hint → Hint → Type 0
Is h y = y ≡ h

-- the same LSN and number, kept or not
abbrev Like : Hint → Hint → Type 0
Like h y = unkept_hint y ≡ unkept_hint h

-- of a list that rises
module _ (a : Area) (all : List Hint) (ok : hints_ok a all ≡ true) (h : Hint) (m : Any (Is h) all) where
  pub lsn_inside : in_area a h.lsn ≡ true
  unfolding hints_ok in_area
  lsn_inside =
      let o = →one (Is h) all m in
      let r = rising_at hint_lsn hint_ok a.end no_hint a.start all o.place ok o.inside in
      let q : (get_or all o.place no_hint).lsn ≡ h.lsn = ap hint_lsn o.holds in
      both (le-leb a.start h.lsn (rw q at r.0)) (lt-ltb h.lsn a.end (rw q at r.1))

  one_at : (k : Hint) → Any (Like k) all → k.lsn ≡ h.lsn → Like h k
  one_at k w e =
      let o = →one (Is h) all m in let n = →one (Like k) all w in
      sym n.holds ∙ ap unkept_hint (unique a all ok n.place o.place n.inside o.inside
      (ap hint_lsn n.holds ∙ e ∙ sym (ap hint_lsn o.holds)) ∙ o.holds)

  pub last_of : LastAt all h
  unfolding hints_ok
  last_of =
      let o = →one (Is h) all m in
      record {
        place = o.place;
        inside = o.inside;
        is = ap unkept_hint o.holds;
        last = λ i l w e. let r = rising_rises hint_lsn hint_ok a.end no_hint a.start all o.place i ok l w
            in let q = ap hint_lsn o.holds in omega arith;
      }

-- ---- whether a list has an LSN
pub unmet_cons : (x : Hint) (xs : List Hint) (n : ℕ) → (x.lsn ≡ n → ⊥) → (AtLsn xs n → ⊥) → AtLsn (x ∷ xs) n → ⊥
unmet_cons x xs n f g o = ⊎_elim (λ e. f e) (λ r. g (→one (λ y. y.lsn ≡ n) xs r)) (one→ (λ y. y.lsn ≡ n) (x ∷ xs) o)

pub met_or_not : (hs : List Hint) (n : ℕ) → AtLsn hs n ⊎ (AtLsn hs n → ⊥)
met_or_not [] n = inr (λ o. one→ (λ y. y.lsn ≡ n) [] o)
met_or_not (x ∷ xs) n =
    test (eqb x.lsn n) (λ e. inl (→one (λ y. y.lsn ≡ n) (x ∷ xs) (inl (eqb-true x.lsn n e))))
    (λ e. ⊎_elim (λ o. inl (→one (λ y. y.lsn ≡ n) (x ∷ xs) (inr (one→ (λ y. y.lsn ≡ n) xs o))))
    (λ f. inr (unmet_cons x xs n (eqb-false x.lsn n e) f)) (met_or_not xs n))

-- a hint whose LSN the list does not have stays
pub unmet_stays : (a : Area) (hs list : List Hint) (h : Hint) → (AtLsn list h.lsn → ⊥) → Any (Is h) hs
    → Any (Is h) (insert_all a hs list)
unmet_stays a hs list h n m =
    any_all (Is h) a hs list
    (all_places (λ x. (y : Hint) → y.lsn ≡ x.lsn → y ≡ h → arrived_hint y x ≡ h) list
    (λ i l y e p. absurd (n (record { place = i; inside = l; holds = sym e ∙ ap hint_lsn p })))) m

pub unmet_like : (a : Area) (hs list : List Hint) (h : Hint) → (AtLsn list h.lsn → ⊥) → Any (Like h) hs
    → Any (Like h) (insert_all a hs list)
unmet_like a hs list h n m =
    any_all (Like h) a hs list
    (all_places (λ x. (y : Hint) → y.lsn ≡ x.lsn → Like h y → Like h (arrived_hint y x)) list
    (λ i l y e p. absurd (n (record { place = i; inside = l; holds = sym e ∙ ap hint_lsn p })))) m

-- ---- the last of the list at an LSN
given_at : (a : Area) (hs list : List Hint) (h : Hint) (i : ℕ) → i < length list → Like h (get_or list i no_hint)
    → ((j : ℕ) → i < j → j < length list → (get_or list j no_hint).lsn ≡ h.lsn → ⊥) → in_area a h.lsn ≡ true
    → Any (Like h) (insert_all a hs list)
unfolding insert_all
given_at a hs [] h i l e f w = let z : ⊥ = omega arith in absurd z
given_at a hs (x ∷ xs) h zero l e f w =
    let j : in_area a x.lsn ≡ true = ap (λ (z : Hint). in_area a z.lsn) e ∙ w in
    rw j
    (unmet_like a (insert hint_lsn arrived_hint x hs) xs h
    (λ o. let k = o.inside in f (suc o.place) (omega arith) (omega arith) o.holds)
    (any_new (Like h) (λ y z p. p) x hs e))
given_at a hs (x ∷ xs) h (suc i) l e f w =
    given_at a (cond (in_area a x.lsn) (insert hint_lsn arrived_hint x hs) hs) xs h i (omega arith) e
    (λ j m k. f (suc j) (omega arith) (omega arith)) w

pub given_all : (a : Area) (hs list : List Hint) (h : Hint) → LastAt list h → in_area a h.lsn ≡ true
    → Any (Like h) (insert_all a hs list)
given_all a hs list h f w = given_at a hs list h f.place f.inside f.is f.last w

module _ (a : Area) (hs : List Hint) (x : Hint) (xs : List Hint) (h : Hint) where
  abbrev with_first : List Hint
  with_first = cond (in_area a x.lsn) (insert hint_lsn arrived_hint x hs) hs

  with_ok : hints_ok a hs ≡ true → hint_ok x ≡ true → hints_ok a with_first ≡ true
  with_ok ok p = test (in_area a x.lsn) (λ i. rw i (hints_insert a x hs i p ok)) (λ i. rw i ok)

  last_first : (AtLsn xs h.lsn → ⊥) → (i : ℕ) → 0 < i → i < suc (length xs) → (get_or (x ∷ xs) i no_hint).lsn ≡ h.lsn
      → ⊥
  last_first n zero l m e = omega arith
  last_first n (suc i) l m e = n (record { place = i; inside = omega arith; holds = e })

  -- a hint that is there once x is, and whose LSN the rest does not have
  first_from : hints_ok a with_first ≡ true → Any (Is h) with_first → (AtLsn xs h.lsn → ⊥)
      → LastAt (x ∷ xs) h ⊎ (Any (Is h) hs × (AtLsn (x ∷ xs) h.lsn → ⊥))
  first_from ok m n =
      test (eqb x.lsn h.lsn)
      (λ e. let q = eqb-true x.lsn h.lsn e in
      let i : in_area a x.lsn ≡ true = ap (in_area a) q ∙ lsn_inside a with_first ok h m in
      let t : Any (Like x) with_first = rw i (any_new (Like x) (λ y z p. p) x hs refl) in
      inl (record { place = 0; inside = omega arith; is = one_at a with_first ok h m x t q; last = last_first n }))
      (λ e. let q = eqb-false x.lsn h.lsn e in
      inr (
        test (in_area a x.lsn) (λ i. ⊎_elim (λ w. absurd (q w)) (λ w. w)
            (any_from (Is h) (λ z. z.lsn ≡ h.lsn) (λ y z p. ap hint_lsn p) (λ z p. ap hint_lsn p) x hs (rw i at m)))
            (λ i. rw i at m),
        unmet_cons x xs h.lsn q n,
      ))

  later_last : (f : LastAt xs h) (i : ℕ) → suc f.place < i → i < suc (length xs) → (get_or (x ∷ xs) i no_hint).lsn
      ≡ h.lsn → ⊥
  later_last f zero l m e = omega arith
  later_last f (suc i) l m e = f.last i (omega arith) (omega arith) e

  later : LastAt xs h → LastAt (x ∷ xs) h
  later f = let l = f.inside in record {
    place = suc f.place;
    inside = omega arith;
    is = f.is;
    last = later_last f;
  }

origin_all : (a : Area) (hs list : List Hint) → hints_ok a hs ≡ true → Passes hint_ok list → (h : Hint)
    → Any (Is h) (insert_all a hs list)
    → LastAt list h ⊎ (Any (Is h) hs × (AtLsn list h.lsn → ⊥))
unfolding insert_all
origin_all a hs [] ok p h m = inr (m, λ o. one→ (λ y. y.lsn ≡ h.lsn) [] o)
origin_all a hs (x ∷ xs) ok p h m =
    let ok' = with_ok a hs x xs h ok p.0 in
    ⊎_elim (λ f. inl (later a hs x xs h f)) (λ q. first_from a hs x xs h ok' q.0 q.1)
    (origin_all a (with_first a hs x xs h) xs ok' p.1 h m)

passing : (list : List Hint) → question13 list ≡ true → Passes hint_ok list
unfolding question13
passing list e = each→ hint_ok list (and_right (leb (length list) max_list) (each (λ h. ltb h.number lim) list) e)

joined : (x : Index) (list : List Hint) → All Unmarked list → hints_ok x.scan.area x.hinting.hints ≡ true
    → question13 list ≡ true
    → Joined x list (insert_all x.scan.area x.hinting.hints list)
joined x list u ok q =
    let a = x.scan.area in let hs = x.hinting.hints in let all = insert_all a hs list in
    let r : hints_ok a all ≡ true =
    insert_all_keeps a (λ ys. hints_ok a ys ≡ true) (λ y. hint_ok y ≡ true) (λ y ys i p w. hints_insert a y ys i p w) hs
    list ok (passing list q) in
    record {
      rises = r;
      lsns = λ n. (
        (λ o. rw o.holds at (all_at (λ y. From a hs list y.lsn) all o.place no_hint o.inside
            (from_all a hs list))),
        (λ s. →one (λ y. y.lsn ≡ n) all
            (⊎_elim (λ o. any_all (λ y. y.lsn ≡ n) a hs list (lsns_stay n list) (one→ (λ y. y.lsn ≡ n) hs o))
            (λ o. lsn_all n a hs list o.0 (one→ (λ y. y.lsn ≡ n) list o.1)) s)),
      );
      held = λ h o n. →one (Is h) all (unmet_stays a hs list h n (one→ (Is h) hs o));
      given = λ h f i. →one (Like h) all (given_all a hs list h f i);
      origin = λ h o. ⊎_elim (λ f. inl f) (λ p. inr (→one (Is h) hs p.0, p.1))
          (origin_all a hs list ok (passing list q) h (one→ (Is h) all o));
      marks = insert_all_marks a hs list u;
    }

-- a list without marks
pub unkept_at : (hs : List Hint) (i : ℕ) → get_or (unkept hs) i no_hint ≡ unkept_hint (get_or hs i no_hint)
unfolding unkept
unkept_at [] i = refl
unkept_at (h ∷ hs) zero = refl
unkept_at (h ∷ hs) (suc i) = unkept_at hs i

pub unmarked_of : (list : List Hint) → unkept list ≡ list → All Unmarked list
unmarked_of list e = subst (All Unmarked) e (unkept_unmarked list)

pub hints_joined : HintsJoined
unfolding add_hints
hints_joined l x y list n e =
    let t = four→ l x (question13 list) 13 _ y (omega arith) e in
    let h = hinting→ x.scan.area x.fingerprint x.hinting (holds_of x t.four) in
    (joined x list (unmarked_of list n) h.hints t.own, ap (λ (z : Index). z.hinting.hints) (sym t.is))

pub thin_length : ThinLength
thin_length = thinning.thin_length

pub thin_among : ThinAmong
thin_among most hs h o = →one (λ y. y ≡ h) hs (any_sub (λ y. y ≡ h) (thinning.thin_sub most hs) (one→ (λ y. y ≡ h) _ o))

-- ---- kept hints
-- the hint at a place that is kept
module _ (p : ℕ → Bool) (hs : List Hint) (i : ℕ) (e : p i ≡ true) where
  any_left : (xs ys : List Hint) → Any (Is (get_or hs i no_hint)) xs → Any (Is (get_or hs i no_hint)) (xs ++ ys)
  any_left [] ys h = absurd h
  any_left (x ∷ xs) ys h = ⊎_elim (λ q. inl q) (λ r. inr (any_left xs ys r)) h

  any_last : (xs : List Hint) → Any (Is (get_or hs i no_hint)) (xs ++ (get_or hs i no_hint ∷ []))
  any_last [] = inl refl
  any_last (x ∷ xs) = inr (any_last xs)

  kept_there : (n : ℕ) → i < n → Any (Is (get_or hs i no_hint)) (kept p hs n)
  unfolding kept
  kept_there zero l = let z : ⊥ = omega arith in absurd z
  kept_there (suc n) l =
      order i n (λ m. any_left (kept p hs n) (cond (p n) (get_or hs n no_hint ∷ []) []) (kept_there n m))
      (λ m. let z : ⊥ = omega arith in absurd z)
      (λ q. let f : p n ≡ true = ap p (sym q) ∙ e in
      let t = subst (λ (k : ℕ). Any (Is (get_or hs i no_hint)) (kept p hs n ++ (get_or hs k no_hint ∷ []))) q
      (any_last (kept p hs n)) in rw f t)

each_number : (hs : List Hint) → each hint_ok hs ≡ true → Numbers hs
each_number hs e k =
    test (ltb k (length hs)) (λ l. ltb-true _ lim
    (all_at (λ h. hint_ok h ≡ true) hs k no_hint (ltb-true k (length hs) l) (each→ hint_ok hs e)))
    (λ l. rw (get_or-eq_default hs no_hint (ltb-false k (length hs) l)) (omega arith))

pub thin_passes : ThinPasses
unfolding thin kept_at
thin_passes most hs h ok l e o =
    let i = o.place in let s = o.inside in
    let c : count_of (kept_at hs) (length hs) ≡ kept_count hs = count_kept hs (length hs) (omega arith)
    ∙ rw (take-length hs, kept_lsns_count hs) in
    let k : is_kept (get_or hs i no_hint) ≡ true = ap is_kept o.holds ∙ e in
    let w = thin_stays hs (each_number hs ok) most i k (omega (arith, c, l)) in
    let a = kept_there (λ j. leb (length hs - most) (rank hs j)) hs i w (length hs) s in
    →one (Is h) (thin most hs) (subst (λ (z : Hint). Any (Is z) (thin most hs)) o.holds a)

-- ---- kept marks stay
-- the marks of an index that passes 4
marks_of : (x : Index) → question4 x ≡ true → kept_count x.hinting.hints ≤ x.hinting.most / 4
unfolding marks_ok
marks_of x q = leb-true _ _ (all→ _ (hinting→ x.scan.area x.fingerprint x.hinting (holds_of x q)).marks).1.0

hints_of : (x : Index) → question4 x ≡ true → hints_ok x.scan.area x.hinting.hints ≡ true
hints_of x q = (hinting→ x.scan.area x.fingerprint x.hinting (holds_of x q)).hints

pub marks_added : (l : Lengths) (x y : Index) (list : List Hint) → unkept list ≡ list → add_hints l x list
    ≡ Accepted y → kept_lsns y.hinting.hints ≡ kept_lsns x.hinting.hints
unfolding add_hints
marks_added l x y list n e =
    let t = four→ l x (question13 list) 13 _ y (omega arith) e in
    ap (λ (z : Index). kept_lsns z.hinting.hints) (sym t.is)
    ∙ joined_marks x.scan.area x.hinting.most x.hinting.hints list (hints_of x t.four)
    (passing list t.own) (unmarked_of list n) (marks_of x t.four)

pub marks_merged : (l m : Lengths) (own other y : Index) → merge l own m other ≡ Accepted y
    → kept_lsns y.hinting.hints ≡ kept_lsns own.hinting.hints
unfolding merge merged hints_ok
marks_merged l m own other y e =
    let r = accepted→ (merge_number l own m other) (merged own other) y e in let c = taken l m own other r.0 in
    let hs = other.hinting.hints in let a = own.scan.area in
    let ok : hints_ok a hs ≡ true = subst (λ (z : Area). hints_ok z hs ≡ true) (sym c.area)
    (hints_of other c.four') in
    let p : Passes hint_ok (unkept hs) =
    all_map _ (λ h. hint_ok h ≡ true) (λ h u. u.1.1) (unkept hs)
    (rising_each hint_lsn hint_ok a.start a.end (unkept hs) (unkept_ok a hs ∙ ok)) in
    ap (λ (z : Index). kept_lsns z.hinting.hints) (sym r.1)
    ∙ joined_marks a own.hinting.most own.hinting.hints (unkept hs) (hints_of own c.four) p
    (unkept_unmarked hs) (marks_of own c.four)

-- ---- keep_hint
-- the place of an LSN
place_lsn : (lsn : ℕ) (hs : List Hint) → place_of lsn hs < length hs → (get_or hs (place_of lsn hs) no_hint).lsn ≡ lsn
unfolding place_of
place_lsn lsn [] l = let z : ⊥ = omega arith in absurd z
place_lsn lsn (h ∷ hs) l =
    test (eqb h.lsn lsn) (λ e. rw e (eqb-true h.lsn lsn e))
    (λ e. let m : suc (place_of lsn hs) < suc (length hs) = rw e at l in rw e (place_lsn lsn hs (omega arith)))

module _ (l : Lengths) (x y : Index) (lsn : ℕ) (e : keep_hint l x lsn ≡ Accepted y) where
  abbrev hs : List Hint
  hs = x.hinting.hints

  abbrev at : ℕ
  at = place_of lsn hs

  mark_asked : Answered l x (question53 x.hinting lsn) (with_hinting x (with_mark x.hinting lsn)) y
  unfolding keep_hint
  mark_asked = four→ l x (question53 x.hinting lsn) 53 _ y (omega arith) e

  mark_inside : at < length hs
  unfolding question53
  mark_inside = ltb-true at (length hs) (and_left (ltb at (length hs)) _ mark_asked.own)

  hints_after : y.hinting.hints ≡ marked_at hs at
  unfolding with_mark
  hints_after = ap (λ (z : Index). z.hinting.hints) (sym mark_asked.is)

  mark_there : One (λ h. (h.lsn ≡ lsn) × (is_kept h ≡ true)) y.hinting.hints
  unfolding is_kept
  mark_there =
      let s = get_or-set_same hs at (kept_hint (get_or hs at no_hint)) no_hint mark_inside in let m = mark_inside in
      subst (λ (z : List Hint). One (λ h. (h.lsn ≡ lsn) × (is_kept h ≡ true)) z) (sym hints_after)
      (record { place = at; inside = rw length-set m; holds = (ap hint_lsn s ∙ place_lsn lsn hs m, ap is_kept s) })

  mark_others : (i : ℕ) → ((get_or hs i no_hint).lsn ≡ lsn → ⊥) → get_or y.hinting.hints i no_hint ≡ get_or hs i no_hint
  mark_others i n =
      ap (λ (z : List Hint). get_or z i no_hint) hints_after
      ∙ get_or-set_other hs at i (kept_hint (get_or hs at no_hint)) no_hint
      (λ q. n (ap (λ (k : ℕ). (get_or hs k no_hint).lsn) q ∙ place_lsn lsn hs mark_inside))

  mark_same : unkept y.hinting.hints ≡ unkept hs
  mark_same = ap unkept hints_after ∙ marked_unkept hs at

  mark_again : One (λ h. (h.lsn ≡ lsn) × (is_kept h ≡ true)) hs → y ≡ x
  unfolding with_mark
  mark_again o =
      let u = unique x.scan.area hs (hints_of x mark_asked.four) at o.place mark_inside o.inside
      (place_lsn lsn hs mark_inside ∙ sym o.holds.0) in
      let k = marked_again hs at (ap is_kept u ∙ o.holds.1) in
      sym mark_asked.is ∙ (λ i. with_hinting x
      (record {
        spacing = x.hinting.spacing;
        most = x.hinting.most;
        hints = k i;
        confirmed = x.hinting.confirmed;
      }))

pub marks_stay : MarksStay
marks_stay = record {
  added = marks_added;
  merged = marks_merged;
  marked = mark_there;
  others = λ l x y lsn i e n. mark_others l x y lsn e i n;
  same = mark_same;
  again = mark_again;
}
