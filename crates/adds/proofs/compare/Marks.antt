-- The marked list: its held ones are the held list, and with none replaced all are the merged list. Assumes nothing.
use mathlib.Core.Path.{◌≡◌, refl, sym, ap, ◌∙◌}
use mathlib.Core.Bool.{Bool, true, false, ◌||◌, not, cond}
use mathlib.Core.List.{List, [], ◌∷◌, ◌++◌, append-nil}
use Prim.Native.Nat.{ℕ, zero, suc, ◌<◌, ◌≤◌}
use native.Mathlib.Omega.{arith}
use lib.ListN.{length, get_or, take, drop}
use lib.Seq.{take-suc, take-length}
use lib.Dec.{eqb}
use borrow.Author.Tests.{eqb-true, lt-ltb, le-ltb, not-false}
use Rattle.rules.specs.declared.Hint.{Hint}
use Rattle.rules.specs.Values.{no_hint}
use Rattle.rules.specs.Sections.{hint_lsn, is_kept}
use Rattle.rules.specs.Hints.{kept, arrived_hint, unkept_hint, unkept}
use Rattle.rules.proofs.Tests.{test, never, order, or_none}
use Rattle.laws.proofs.hint_lists.Lists.{All}
use Rattle.laws.specs.Merging.{merged_with}
use Rattle.laws.proofs.hint_lists.Merging.{nil_with, with_nil, with_left, with_right, with_both}
use Rattle.laws.proofs.hint_lists.Thinning.{kept_none, kept_yes, kept_no}
use Rattle.adds.specs.Marks.{Marked, mark, mark_both, marks_of, marked, lsn_from}

-- ---- one step of the merge
pub nil_marked : (ys : List Hint) → marked [] ys ≡ marks_of true ys
unfolding marked
nil_marked ys = refl

pub marked_nil : (xs : List Hint) → marked xs [] ≡ marks_of false xs
unfolding marked marks_of
marked_nil [] = refl
marked_nil (x ∷ xs) = refl

module _ (x y : Hint) (xs ys : List Hint) where
  pub marked_left : x.lsn < y.lsn → marked (x ∷ xs) (y ∷ ys) ≡ mark false x ∷ marked xs (y ∷ ys)
  unfolding marked
  marked_left h = rw (lt-ltb x.lsn y.lsn h)

  pub marked_right : y.lsn < x.lsn → marked (x ∷ xs) (y ∷ ys) ≡ mark true y ∷ marked (x ∷ xs) ys
  unfolding marked
  marked_right h = rw (le-ltb x.lsn y.lsn (omega arith), lt-ltb y.lsn x.lsn h)

  pub marked_both : x.lsn ≡ y.lsn → marked (x ∷ xs) (y ∷ ys) ≡ mark_both x y ∷ marked xs ys
  unfolding marked
  marked_both h = rw (le-ltb x.lsn y.lsn (omega arith), le-ltb y.lsn x.lsn (omega arith))

-- the next of the merge by the first LSNs, which are no more than 32 bits
pub next_new : (xs : List Hint) (y : Hint) (ys : List Hint) → lsn_from (y ∷ ys) < lsn_from xs
    → marked xs (y ∷ ys) ≡ mark true y ∷ marked xs ys
unfolding lsn_from marked marks_of
next_new [] y ys h = refl
next_new (x ∷ xs) y ys h = marked_right x y xs ys h

pub next_held : (x : Hint) (xs ys : List Hint) → lsn_from (x ∷ xs) < lsn_from ys
    → marked (x ∷ xs) ys ≡ mark false x ∷ marked xs ys
unfolding lsn_from marked marks_of
next_held x xs [] h = rw (marked_nil xs)
next_held x xs (y ∷ ys) h = marked_left x y xs ys h

pub next_both : (x y : Hint) (xs ys : List Hint) → lsn_from (x ∷ xs) ≡ lsn_from (y ∷ ys)
    → marked (x ∷ xs) (y ∷ ys) ≡ mark_both x y ∷ marked xs ys
unfolding lsn_from
next_both x y xs ys h = marked_both x y xs ys h

-- ---- the hints of marked ones
abbrev pub hints_of : List Marked → List Hint
hints_of [] = []
hints_of (m ∷ ms) = m.hint ∷ hints_of ms

-- those that are held
abbrev pub held_of : List Marked → List Hint
held_of [] = []
held_of (m ∷ ms) = cond m.new (held_of ms) (m.hint ∷ held_of ms)

abbrev pub no_mark : Marked
no_mark = mark false no_hint

-- is the one at place i new? Is its number replaced?
abbrev pub new_at : List Marked → ℕ → Bool
new_at ms i = (get_or ms i no_mark).new

abbrev pub replaced_at : List Marked → ℕ → Bool
replaced_at ms i = (get_or ms i no_mark).replaced

-- is a number replaced?
abbrev pub some_replaced : List Marked → Bool
some_replaced [] = false
some_replaced (m ∷ ms) = m.replaced || some_replaced ms

pub hints_length : (ms : List Marked) → length (hints_of ms) ≡ length ms
hints_length [] = refl
hints_length (m ∷ ms) = ap suc (hints_length ms)

pub hints_at : (ms : List Marked) (i : ℕ) → get_or (hints_of ms) i no_hint ≡ (get_or ms i no_mark).hint
hints_at [] i = refl
hints_at (m ∷ ms) zero = refl
hints_at (m ∷ ms) (suc i) = hints_at ms i

marks_hints : (b : Bool) (hs : List Hint) → hints_of (marks_of b hs) ≡ hs
unfolding marks_of
marks_hints b [] = refl
marks_hints b (h ∷ hs) = rw (marks_hints b hs)

-- where no number is replaced: the merged list, since one of the same LSN and number leaves the held hint as it is
same_hint : (x y : Hint) → x.lsn ≡ y.lsn → x.number ≡ y.number → x ≡ arrived_hint x y
same_hint x y e d = λ i. record { lsn = e i; number = d i; mark = x.mark }

pub marked_hints : (xs ys : List Hint) → some_replaced (marked xs ys) ≡ false
    → hints_of (marked xs ys) ≡ merged_with hint_lsn arrived_hint xs ys
marked_hints [] ys f = rw (nil_marked ys, marks_hints true ys, nil_with hint_lsn arrived_hint ys)
marked_hints (x ∷ xs) [] f = rw (marked_nil (x ∷ xs), marks_hints false (x ∷ xs), with_nil hint_lsn arrived_hint (x ∷ xs))
marked_hints (x ∷ xs) (y ∷ ys) f =
    order x.lsn y.lsn
    (λ l. let g : some_replaced (marked xs (y ∷ ys)) ≡ false = rw (marked_left x y xs ys l) at f in
    rw (marked_left x y xs ys l, with_left hint_lsn arrived_hint x y xs ys l)
    (ap (λ (z : List Hint). x ∷ z) (marked_hints xs (y ∷ ys) g)))
    (λ l. let g : some_replaced (marked (x ∷ xs) ys) ≡ false = rw (marked_right x y xs ys l) at f in
    rw (marked_right x y xs ys l, with_right hint_lsn arrived_hint x y xs ys l)
    (ap (λ (z : List Hint). y ∷ z) (marked_hints (x ∷ xs) ys g)))
    (λ e. let g : (not (eqb x.number y.number) || some_replaced (marked xs ys)) ≡ false = rw
    (marked_both x y xs ys e) at f in
    let o = or_none (not (eqb x.number y.number)) (some_replaced (marked xs ys)) g in
    let s = same_hint x y e (eqb-true x.number y.number (not-false (eqb x.number y.number) o.0)) in
    let r = marked_hints xs ys o.1 in
    rw (marked_both x y xs ys e, with_both hint_lsn arrived_hint x y xs ys e) (λ i. s i ∷ r i))

-- the held list
none_held : (ys : List Hint) → held_of (marks_of true ys) ≡ []
unfolding marks_of
none_held [] = refl
none_held (y ∷ ys) = none_held ys

all_held : (xs : List Hint) → held_of (marks_of false xs) ≡ xs
unfolding marks_of
all_held [] = refl
all_held (x ∷ xs) = rw (all_held xs)

pub marked_held : (xs ys : List Hint) → held_of (marked xs ys) ≡ xs
marked_held [] ys = rw (nil_marked ys) (none_held ys)
marked_held (x ∷ xs) [] = rw (marked_nil (x ∷ xs)) (all_held (x ∷ xs))
marked_held (x ∷ xs) (y ∷ ys) =
    order x.lsn y.lsn
    (λ l. rw (marked_left x y xs ys l) (ap (λ (z : List Hint). x ∷ z) (marked_held xs (y ∷ ys))))
    (λ l. rw (marked_right x y xs ys l) (marked_held (x ∷ xs) ys))
    (λ e. rw (marked_both x y xs ys e) (ap (λ (z : List Hint). x ∷ z) (marked_held xs ys)))

-- keeping the places of the held ones leaves them
held_append : (ms ns : List Marked) → held_of (ms ++ ns) ≡ held_of ms ++ held_of ns
held_append [] ns = refl
held_append (m ∷ ms) ns =
    test m.new (λ e. rw e (held_append ms ns)) (λ e. rw e (ap (λ (z : List Hint). m.hint ∷ z) (held_append ms ns)))

pub kept_held : (ms : List Marked) (n : ℕ) → n ≤ length ms
    → kept (λ i. not (new_at ms i)) (hints_of ms) n ≡ held_of (take n ms)
kept_held ms zero l = kept_none (λ i. not (new_at ms i)) (hints_of ms)
kept_held ms (suc n) l =
    let p : ℕ → Bool = λ i. not (new_at ms i) in
    let r = kept_held ms n (omega arith) in
    let s : held_of (take (suc n) ms) ≡ held_of (take n ms) ++ cond (new_at ms n) [] ((get_or ms n no_mark).hint ∷ []) =
    rw (take-suc ms n no_mark l) (held_append (take n ms) (get_or ms n no_mark ∷ [])) in
    test (new_at ms n) (λ e. kept_no p (hints_of ms) n (rw e) ∙ r ∙ sym (s ∙ rw e (append-nil (held_of (take n ms)))))
    (λ e. kept_yes p (hints_of ms) n (rw e) ∙ rw (r, hints_at ms n) (sym (s ∙ rw e)))

pub kept_all_held : (xs ys : List Hint)
    → kept (λ i. not (new_at (marked xs ys) i)) (hints_of (marked xs ys)) (length (marked xs ys)) ≡ xs
kept_all_held xs ys =
    let ms = marked xs ys in kept_held ms (length ms) (omega arith) ∙ rw (take-length ms) (marked_held xs ys)

-- ---- a new one is not kept, where the other list has no marks
abbrev Plain : Marked → Type 0
Plain m = m.new ≡ true → is_kept m.hint ≡ false

plain_held : (h : Hint) (r : Bool) → Plain (record { hint = h; new = false; replaced = r })
plain_held h r e = never e refl

plain_new : (h : Hint) → Plain (mark true (unkept_hint h))
unfolding is_kept
plain_new h e = refl

plain_others : (ys : List Hint) → All Plain (marks_of true (unkept ys))
unfolding marks_of unkept
plain_others [] = tt
plain_others (y ∷ ys) = (plain_new y, plain_others ys)

plain_own : (xs : List Hint) → All Plain (marks_of false xs)
unfolding marks_of
plain_own [] = tt
plain_own (x ∷ xs) = (plain_held x false, plain_own xs)

plain_all : (xs ys : List Hint) → All Plain (marked xs (unkept ys))
unfolding unkept
plain_all [] ys = rw (nil_marked (unkept ys)) (plain_others ys)
plain_all (x ∷ xs) [] = rw (marked_nil (x ∷ xs)) (plain_own (x ∷ xs))
plain_all (x ∷ xs) (y ∷ ys) =
    order x.lsn y.lsn
    (λ l. rw (marked_left x (unkept_hint y) xs (unkept ys) l) (plain_held x false, plain_all xs (y ∷ ys)))
    (λ l. rw (marked_right x (unkept_hint y) xs (unkept ys) l) (plain_new y, plain_all (x ∷ xs) ys))
    (λ e. rw (marked_both x (unkept_hint y) xs (unkept ys) e)
    (plain_held x (not (eqb x.number y.number)), plain_all xs ys))

plain_at : (ms : List Marked) → All Plain ms → (i : ℕ) → Plain (get_or ms i no_mark)
plain_at [] a i = plain_held no_hint false
plain_at (m ∷ ms) a zero = a.0
plain_at (m ∷ ms) a (suc i) = plain_at ms a.1 i

pub new_unkept : (xs ys : List Hint) (i : ℕ) → new_at (marked xs (unkept ys)) i ≡ true
    → is_kept (get_or (marked xs (unkept ys)) i no_mark).hint ≡ false
new_unkept xs ys i = plain_at (marked xs (unkept ys)) (plain_all xs ys) i

-- ---- the LSNs are those of the list with its marks
pub lsn_unkept : (i : ℕ) (hs : List Hint) → lsn_from (drop i (unkept hs)) ≡ lsn_from (drop i hs)
unfolding unkept lsn_from
lsn_unkept i [] = refl
lsn_unkept zero (h ∷ hs) = refl
lsn_unkept (suc i) (h ∷ hs) = lsn_unkept i hs
