-- Thinning passes over kept hints, where no more are kept than are to be left. Assumes nothing.
use mathlib.Core.Path.{◌≡◌, refl, sym, ap, ◌∙◌}
use mathlib.Core.Bool.{Bool, true, false, ◌||◌, not, cond}
use mathlib.Core.List.{List, [], ◌∷◌, ◌++◌, append-nil}
use Prim.Native.Nat.{ℕ, zero, suc, ◌+◌, ◌-◌, ◌/◌, ◌<◌, ◌≤◌}
use native.Mathlib.Omega.{arith}
use lib.Dec.{eqb, leb, ltb}
use lib.ListN.{length, get_or, set, take, length-append, get_or-eq_default}
use lib.Seq.{take-suc, take-length}
use borrow.Author.Tests.{eqb-true, leb-true, ltb-true, le-leb, ltb-false}
use Rattle.rules.specs.declared.Area.{Area}
use Rattle.rules.specs.declared.Hint.{Hint}
use Rattle.rules.specs.Values.{Hinting, no_hint, max32, lim}
use Rattle.rules.specs.Sections.{hint_lsn, hint_ok, hints_ok, is_kept, kept_count, mark_ok, marks_ok}
use Rattle.rules.specs.Hints.{count_of, rise, rise_at, gap, smaller, rank, kept, thin, insert, arrived_hint, insert_all, limited_to, joined_hints, unkept_hint, unkept, place_of, question53, kept_hint, with_mark}
use Rattle.rules.proofs.Tests.{test, never, and_left, and_right, all→, →all}
use Rattle.laws.specs.Marks.{kept_lsns}
use Rattle.laws.proofs.hint_lists.Lists.{All, Passes, each→, →each, all_at, all_map, all_sub, all_insert, insert_none, insert_cases}
use Rattle.laws.proofs.hint_lists.Ranks.{count_next, count_mono}
use Rattle.laws.proofs.hint_lists.Thinning.{smaller_less, kept_none, kept_yes, kept_no, thin_sub}
use Rattle.laws.proofs.hint_lists.Rising.{rising_each}
use Rattle.laws.proofs.hint_lists.Hints.{insert_all_keeps, limited_to_keeps, joined_cases, hints_insert}

-- is the hint at place k kept?
unfoldable pub kept_at : List Hint → ℕ → Bool
kept_at hs k = is_kept (get_or hs k no_hint)

-- numbers below LIM
abbrev pub Numbers : List Hint → Type 0
Numbers hs = (k : ℕ) → (get_or hs k no_hint).number < lim

module _ (hs : List Hint) (small : Numbers hs) where
  rise_small : (p t : ℕ) → t < lim → rise p t ≤ max32
  unfolding rise
  rise_small p t l = test (ltb p t) (λ e. rw e (omega arith)) (λ e. rw e (omega arith))

  rise_at_small : (k : ℕ) → rise_at hs k ≤ max32
  unfolding rise_at
  rise_at_small zero = omega arith
  rise_at_small (suc k) = rise_small (get_or hs k no_hint).number (get_or hs (suc k) no_hint).number (small (suc k))

  unkept_gap : (k : ℕ) → kept_at hs k ≡ false → gap hs k ≤ max32
  unfolding gap kept_at
  unkept_gap k e = rw e (rise_at_small k)

  kept_gap : (k : ℕ) → kept_at hs k ≡ true → gap hs k ≡ suc max32
  unfolding gap kept_at
  kept_gap k e = rw e refl

  -- every unkept hint goes before a kept one
  unkept_smaller : (i k : ℕ) → kept_at hs i ≡ true → not (kept_at hs k) ≡ true → smaller hs i k ≡ true
  unkept_smaller i k e f =
      test (kept_at hs k) (λ g. let z : ◌≡◌ {A = Bool} false true = rw g at f in let w : ⊥ = bad z in absurd w)
      (λ g. let u = unkept_gap k g in let v = kept_gap i e in smaller_less hs i k (omega (arith, u, v)))
    where
      bad : ◌≡◌ {A = Bool} false true → ⊥
      bad z = let n : ◌≡◌ {A = ℕ} 0 1 = ap (λ (b : Bool). cond b 1 0) z in omega (arith, n)

  split : (n : ℕ) → n ≡ count_of (λ k. not (kept_at hs k)) n + count_of (kept_at hs) n
  unfolding count_of
  split zero = refl
  split (suc n) = test (kept_at hs n) (λ e. rw e (omega (arith, split n))) (λ e. rw e (omega (arith, split n)))

  pub kept_rank : (i : ℕ) → kept_at hs i ≡ true → length hs ≤ rank hs i + count_of (kept_at hs) (length hs)
  unfolding rank
  kept_rank i e =
      omega (arith, split (length hs), count_mono (λ k. not (kept_at hs k)) (smaller hs i) (λ k f. unkept_smaller i k e f) (length hs))

  -- thinned to most, a kept hint stays where at most so many are kept
  pub thin_stays : (most i : ℕ) → kept_at hs i ≡ true → count_of (kept_at hs) (length hs) ≤ most → leb (length hs - most) (rank hs i) ≡ true
  thin_stays most i e l = le-leb (length hs - most) (rank hs i) (omega (arith, kept_rank i e, l))

-- ---- the LSNs of kept hints
pub kept_lsns_append : (xs ys : List Hint) → kept_lsns (xs ++ ys) ≡ kept_lsns xs ++ kept_lsns ys
unfolding kept_lsns
kept_lsns_append [] ys = refl
kept_lsns_append (x ∷ xs) ys =
    test (is_kept x) (λ e. rw e (ap (λ (l : List ℕ). x.lsn ∷ l) (kept_lsns_append xs ys))) (λ e. rw e (kept_lsns_append xs ys))

pub kept_lsns_count : (hs : List Hint) → kept_count hs ≡ length (kept_lsns hs)
unfolding kept_lsns kept_count
kept_lsns_count [] = refl
kept_lsns_count (h ∷ hs) = test (is_kept h) (λ e. rw e (omega (arith, kept_lsns_count hs))) (λ e. rw e (omega (arith, kept_lsns_count hs)))

one_lsn : (hs : List Hint) (n : ℕ) → kept_at hs n ≡ true → kept_lsns (get_or hs n no_hint ∷ []) ≡ (get_or hs n no_hint).lsn ∷ []
unfolding kept_lsns kept_at
one_lsn hs n e = rw e

none_lsn : (hs : List Hint) (n : ℕ) → kept_at hs n ≡ false → kept_lsns (get_or hs n no_hint ∷ []) ≡ []
unfolding kept_lsns kept_at
none_lsn hs n e = rw e

pub count_kept : (hs : List Hint) (n : ℕ) → n ≤ length hs → count_of (kept_at hs) n ≡ length (kept_lsns (take n hs))
unfolding count_of kept_lsns
count_kept hs zero l = refl
count_kept hs (suc n) l =
    let c = count_kept hs n (omega arith) in let h = get_or hs n no_hint in
    rw (count_next (kept_at hs) n, c, take-suc hs n no_hint l, kept_lsns_append (take n hs) (h ∷ []), length-append)
    (test (kept_at hs n) (λ e. rw (e, one_lsn hs n e)) (λ e. rw (e, none_lsn hs n e)))

-- where each kept hint's place is kept, so are the LSNs
module _ (p : ℕ → Bool) (hs : List Hint) (stays : (i : ℕ) → kept_at hs i ≡ true → p i ≡ true) where
  kept_marks : (n : ℕ) → n ≤ length hs → kept_lsns (kept p hs n) ≡ kept_lsns (take n hs)
  unfolding kept_lsns
  kept_marks zero l = ap kept_lsns (kept_none p hs)
  kept_marks (suc n) l =
      let c = kept_marks n (omega arith) in let h = get_or hs n no_hint in let xs = take n hs in
      rw (take-suc hs n no_hint l, kept_lsns_append xs (h ∷ []))
      (test (p n) (λ e. rw (kept_yes p hs n e, kept_lsns_append (kept p hs n) (h ∷ []), c))
      (λ e. rw (kept_no p hs n e, c) (test (kept_at hs n) (λ k. never (stays n k) e) (λ k. rw (none_lsn hs n k) (sym (append-nil (kept_lsns xs)))))))

-- thinning leaves them, where at most so many are kept as are to be left
pub thin_marks : (most : ℕ) (hs : List Hint) → Numbers hs → kept_count hs ≤ most → kept_lsns (thin most hs) ≡ kept_lsns hs
unfolding thin
thin_marks most hs small l =
    let c : count_of (kept_at hs) (length hs) ≡ kept_count hs = count_kept hs (length hs) (omega arith) ∙ rw (take-length hs, kept_lsns_count hs) in
    kept_marks (λ i. leb (length hs - most) (rank hs i)) hs (λ i e. thin_stays hs small most i e (omega (arith, c, l))) (length hs) (omega arith)
    ∙ ap kept_lsns (take-length hs)

-- ---- joining
-- no mark
abbrev pub Unmarked : Hint → Type 0
Unmarked h = h.mark ≡ 0

unmarked_not : (h : Hint) → Unmarked h → is_kept h ≡ false
unfolding is_kept
unmarked_not h e = rw e

insert_marks : (x : Hint) (hs : List Hint) → Unmarked x → kept_lsns (insert hint_lsn arrived_hint x hs) ≡ kept_lsns hs
unfolding kept_lsns is_kept
insert_marks x [] e = rw (insert_none hint_lsn arrived_hint x, e)
insert_marks x (y ∷ ys) e =
    insert_cases hint_lsn arrived_hint x y ys (λ l. kept_lsns l ≡ kept_lsns (y ∷ ys)) (λ h. rw e)
    (λ h. ap (λ (l : List ℕ). cond (eqb y.mark 1) (y.lsn ∷ l) l) (insert_marks x ys e)) (λ h. rw h)

pub insert_all_marks : (a : Area) (hs list : List Hint) → All Unmarked list → kept_lsns (insert_all a hs list) ≡ kept_lsns hs
unfolding insert_all
insert_all_marks a hs list u = insert_all_keeps a (λ l. kept_lsns l ≡ kept_lsns hs) Unmarked (λ x l i e q. insert_marks x l e ∙ q) hs list refl u

numbers_of_lemma : (a : Area) (hs : List Hint) → hints_ok a hs ≡ true → Numbers hs
unfolding hints_ok
numbers_of_lemma a hs e k =
    let r = rising_each hint_lsn hint_ok a.start a.end hs e in
    test (ltb k (length hs)) (λ l. ltb-true _ lim (all_at _ hs k no_hint (ltb-true k (length hs) l) r).1.1)
    (λ l. rw (get_or-eq_default hs no_hint (ltb-false k (length hs) l)) (omega arith))

limited_marks : (a : Area) (most : ℕ) (hs : List Hint) → hints_ok a hs ≡ true → kept_count hs ≤ most / 4 → kept_lsns (limited_to most hs) ≡ kept_lsns hs
unfolding limited_to
limited_marks a most hs o l =
    test (leb (length hs) most) (λ e. rw e) (λ e. rw e (thin_marks (most - most / 4) hs (numbers_of_lemma a hs o) (omega arith)))

-- the kept LSNs are those of before
pub joined_marks : (a : Area) (most : ℕ) (hs list : List Hint) → hints_ok a hs ≡ true → Passes hint_ok list → All Unmarked list → kept_count hs ≤ most / 4
    → kept_lsns (joined_hints a most hs list) ≡ kept_lsns hs
joined_marks a most hs list o p u l =
    let e = insert_all_marks a hs list u in
    let n : kept_count (insert_all a hs list) ≡ kept_count hs = kept_lsns_count (insert_all a hs list) ∙ ap length e ∙ sym (kept_lsns_count hs) in
    joined_cases a (λ h. kept_lsns h ≡ kept_lsns hs) most hs list refl
    (limited_marks a most (insert_all a hs list) (insert_all_keeps a (λ h. hints_ok a h ≡ true) (λ x. hint_ok x ≡ true) (hints_insert a) hs list o p) (omega (arith, n, l)) ∙ e)

joined_each : (a : Area) (most : ℕ) (hs list : List Hint) → All Unmarked list → Passes mark_ok hs → Passes mark_ok (joined_hints a most hs list)
joined_each a most hs list u m =
    joined_cases a (Passes mark_ok) most hs list m
    (limited_to_keeps a (Passes mark_ok) (λ n l h. all_sub _ (thin_sub n l) h) most (insert_all a hs list)
    (insert_all_keeps a (Passes mark_ok) Unmarked
    (λ x l i e h. all_insert hint_lsn arrived_hint x (λ y. mark_ok y ≡ true) (rw e refl) (λ y k q. q) l h) hs list m u))

marks→ : (most : ℕ) (hs : List Hint) → marks_ok most hs ≡ true → Passes mark_ok hs × (kept_count hs ≤ most / 4)
unfolding marks_ok
marks→ most hs e = let t = all→ _ e in (each→ mark_ok hs t.0, leb-true _ _ t.1.0)

→marks : (most : ℕ) (hs : List Hint) → Passes mark_ok hs → kept_count hs ≤ most / 4 → marks_ok most hs ≡ true
unfolding marks_ok
→marks most hs p l = →all _ (→each mark_ok hs p, (le-leb _ _ l, tt))

pub joined_marks_ok : (a : Area) (most : ℕ) (hs list : List Hint) → hints_ok a hs ≡ true → Passes hint_ok list → All Unmarked list → marks_ok most hs ≡ true
    → marks_ok most (joined_hints a most hs list) ≡ true
joined_marks_ok a most hs list o p u m =
    let t = marks→ most hs m in let j = joined_hints a most hs list in
    let n : kept_count j ≡ kept_count hs = kept_lsns_count j ∙ ap length (joined_marks a most hs list o p u t.1) ∙ sym (kept_lsns_count hs) in
    let l = t.1 in
    →marks most j (joined_each a most hs list u t.0) (omega (arith, n, l))

-- ---- a list without marks
unmarked_count : (hs : List Hint) → All Unmarked hs → kept_count hs ≡ 0
unfolding kept_count
unmarked_count [] u = refl
unmarked_count (h ∷ hs) u = rw (unmarked_not h u.0) (omega (arith, unmarked_count hs u.1))

pub unmarked_marks : (most : ℕ) (hs : List Hint) → All Unmarked hs → marks_ok most hs ≡ true
unmarked_marks most hs u =
    let n = unmarked_count hs u in →marks most hs (all_map Unmarked (λ h. mark_ok h ≡ true) (λ h e. rw e refl) hs u) (omega (arith, n))

pub unkept_unmarked : (hs : List Hint) → All Unmarked (unkept hs)
unfolding unkept
unkept_unmarked [] = tt
unkept_unmarked (h ∷ hs) = (refl, unkept_unmarked hs)

-- ---- keep_hint: the mark set at place i
abbrev pub marked_at : List Hint → ℕ → List Hint
marked_at hs i = set hs i (kept_hint (get_or hs i no_hint))

marked_count : (hs : List Hint) (i : ℕ) → i < length hs → kept_count (marked_at hs i) ≡ cond (is_kept (get_or hs i no_hint)) 0 1 + kept_count hs
unfolding kept_count is_kept
marked_count [] i l = let z : ⊥ = omega arith in absurd z
marked_count (h ∷ hs) zero l = test (eqb h.mark 1) (λ e. rw e (omega arith)) (λ e. rw e (omega arith))
marked_count (h ∷ hs) (suc i) l = rw (marked_count hs i (omega arith)) (omega arith)

-- LSNs and numbers stay
pub marked_unkept : (hs : List Hint) (i : ℕ) → unkept (marked_at hs i) ≡ unkept hs
unfolding unkept
marked_unkept [] i = refl
marked_unkept (h ∷ hs) zero = refl
marked_unkept (h ∷ hs) (suc i) = ap (λ (l : List Hint). unkept_hint h ∷ l) (marked_unkept hs i)

marked_each : (hs : List Hint) (i : ℕ) → Passes mark_ok hs → Passes mark_ok (marked_at hs i)
marked_each [] i p = tt
marked_each (h ∷ hs) zero p = (refl, p.1)
marked_each (h ∷ hs) (suc i) p = (p.0, marked_each hs i p.1)

-- marking a kept hint again changes nothing
pub marked_again : (hs : List Hint) (i : ℕ) → is_kept (get_or hs i no_hint) ≡ true → marked_at hs i ≡ hs
unfolding is_kept
marked_again [] i e = refl
marked_again (h ∷ hs) zero e = let m = eqb-true h.mark 1 e in λ j. record { lsn = h.lsn; number = h.number; mark = sym m j } ∷ hs
marked_again (h ∷ hs) (suc i) e = ap (λ (l : List Hint). h ∷ l) (marked_again hs i e)

pub marked_ok : (r : Hinting) (lsn : ℕ) → question53 r lsn ≡ true → marks_ok r.most r.hints ≡ true → marks_ok r.most (with_mark r lsn).hints ≡ true
unfolding question53 with_mark
marked_ok r lsn q m =
    let hs = r.hints in let i = place_of lsn hs in let t = marks→ r.most hs m in
    let l = ltb-true i (length hs) (and_left (ltb i (length hs)) _ q) in
    let c = marked_count hs i l in
    test (is_kept (get_or hs i no_hint)) (λ e. rw (marked_again hs i e) m)
    (λ e. let k : ltb (kept_count hs) (r.most / 4) ≡ true = rw e at (and_right (ltb i (length hs)) (is_kept (get_or hs i no_hint) || ltb (kept_count hs) (r.most / 4)) q) in let w = ltb-true (kept_count hs) (r.most / 4) k in
    →marks r.most (marked_at hs i) (marked_each hs i t.0) (let d : kept_count (marked_at hs i) ≡ 1 + kept_count hs = rw e at c in omega (arith, d, w)))
