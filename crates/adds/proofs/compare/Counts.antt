-- Counting below a bound, and the places of a rising list that are kept. Assumes nothing.
use mathlib.Core.Path.{◌≡◌, refl, sym, ap, ◌∙◌}
use mathlib.Core.Bool.{Bool, true, false}
use mathlib.Core.List.{List, [], ◌∷◌, ◌++◌}
use Prim.Native.Nat.{ℕ, zero, suc, ◌+◌, ◌<◌, ◌≤◌}
use native.Mathlib.Omega.{arith}
use lib.ListN.{length, get_or, take, drop, take-append-drop, length-append}
use lib.Seq.{drop-cons}
use borrow.Author.Tests.{eqb-true, eqb-false}
use lib.Dec.{eqb}
use Rattle.rules.specs.declared.Hint.{Hint}
use Rattle.rules.specs.Values.{no_hint}
use Rattle.rules.specs.Sections.{hint_lsn}
use Rattle.rules.specs.Hints.{count_of, kept}
use Rattle.rules.proofs.Tests.{test}
use Rattle.laws.proofs.hint_lists.Lists.{All, all_sub}
use Rattle.laws.specs.Order.{Rises}
use Rattle.laws.proofs.hint_lists.Rising.{rises_split}
use Rattle.laws.proofs.hint_lists.Ranks.{one, count_next, count_none, count_le}
use Rattle.laws.proofs.hint_lists.Thinning.{kept_yes, kept_no, kept_sub}

module _ (p q : ℕ → Bool) where
  one_under : (n : ℕ) → (p n ≡ true → q n ≡ true) → one (p n) ≤ one (q n)
  one_under n h = test (p n) (λ e. rw (e, h e) (omega arith)) (λ e. rw e (omega arith))

  pub count_under : (n : ℕ) → ((k : ℕ) → k < n → p k ≡ true → q k ≡ true) → count_of p n ≤ count_of q n
  count_under zero h = rw (count_none p, count_none q) (omega arith)
  count_under (suc n) h =
      rw (count_next p n, count_next q n)
      (omega (arith, count_under n (λ k l. h k (omega arith)), one_under n (h n (omega arith))))

  -- one that passes q alone
  pub count_strict : (n i : ℕ) → i < n → ((k : ℕ) → k < n → p k ≡ true → q k ≡ true) → p i ≡ false → q i ≡ true
      → count_of p n < count_of q n
  count_strict zero i l h e f = let z : ⊥ = omega arith in absurd z
  count_strict (suc n) i l h e f =
      test (eqb i n)
      (λ t. let z = eqb-true i n t in
      let e' : p n ≡ false = rw z at e in let f' : q n ≡ true = rw z at f in
      rw (count_next p n, count_next q n, e', f') (omega (arith, count_under n (λ k m. h k (omega arith)))))
      (λ t. let z = eqb-false i n t in
      let m : i < n = omega (arith, z) in
      rw (count_next p n, count_next q n)
      (omega (arith, count_strict n i m (λ k w. h k (omega arith)) e f, one_under n (h n (omega arith)))))

-- a place below n that passes p
pub record Passing (p : ℕ → Bool) (n : ℕ) : Type 0 where
  pub place : ℕ
  pub inside : place < n
  pub passes : p place ≡ true

pub count_some : (p : ℕ → Bool) (n : ℕ) → 0 < count_of p n → Passing p n
count_some p zero l = let c = count_none p in let z : ⊥ = omega arith in absurd z
count_some p (suc n) l =
    test (p n) (λ e. record { place = n; inside = omega arith; passes = e })
    (λ e. let c : count_of p (suc n) ≡ count_of p n + 0 = rw e at (count_next p n) in
    let r = count_some p n (omega arith) in let w = r.inside in
    record { place = r.place; inside = omega arith; passes = r.passes })

-- where all are counted, each passes
pub count_full : (p : ℕ → Bool) (n : ℕ) → count_of p n ≡ n → (k : ℕ) → k < n → p k ≡ true
count_full p zero e k l = let z : ⊥ = omega arith in absurd z
count_full p (suc n) e k l =
    let c = count_next p n in let u = count_le p n in
    test (p n)
    (λ t. let e' : count_of p n ≡ n = let w : count_of p (suc n) ≡ count_of p n + 1 = rw t at c in omega arith in
    test (eqb k n) (λ y. rw (eqb-true k n y) t)
    (λ y. let z = eqb-false k n y in count_full p n e' k (omega (arith, z))))
    (λ t. let w : count_of p (suc n) ≡ count_of p n + 0 = rw t at c in let z : ⊥ = omega arith in absurd z)

none_snoc : (xs : List Hint) (h : Hint) → [] ≡ xs ++ (h ∷ []) → ⊥
none_snoc xs h e = let l : 0 ≡ length (xs ++ (h ∷ [])) = ap length e in omega (arith, length-append xs (h ∷ []))

snoc_eq : (xs ys : List Hint) (h : Hint) → xs ++ (h ∷ []) ≡ ys ++ (h ∷ []) → xs ≡ ys
snoc_eq [] [] h e = refl
snoc_eq [] (y ∷ ys) h e = absurd (none_snoc ys h (cc))
snoc_eq (x ∷ xs) [] h e = absurd (none_snoc xs h (cc))
snoc_eq (x ∷ xs) (y ∷ ys) h e = let p : x ≡ y = cc in let q = snoc_eq xs ys h (cc) in λ i. p i ∷ q i

-- those before place n of a rising list lie below it
module _ (b : ℕ) (hs : List Hint) (r : Rises hint_lsn b hs) where
  before_below : (n : ℕ) → n < length hs → All (λ h. h.lsn < (get_or hs n no_hint).lsn) (take n hs)
  before_below n l =
      let s : take n hs ++ (get_or hs n no_hint ∷ drop (suc n) hs) ≡ hs =
      ap (λ (x : List Hint). take n hs ++ x) (sym (drop-cons hs n no_hint l)) ∙ take-append-drop n hs in
      (rises_split hint_lsn b (take n hs) (get_or hs n no_hint) (drop (suc n) hs) (rw s r)).2

  kept_below : (p : ℕ → Bool) (n : ℕ) → n < length hs → All (λ h. h.lsn < (get_or hs n no_hint).lsn) (kept p hs n)
  kept_below p n l = all_sub _ (kept_sub p hs n (omega arith)) (before_below n l)

  last_all : (P : Hint → Type 0) (xs : List Hint) (h : Hint) → All P (xs ++ (h ∷ [])) → P h
  last_all P [] h a = a.0
  last_all P (x ∷ xs) h a = last_all P xs h a.1

  -- place n is not among those kept before it
  not_before : (p q : ℕ → Bool) (n : ℕ) → n < length hs → kept p hs n ++ (get_or hs n no_hint ∷ []) ≡ kept q hs n → ⊥
  not_before p q n l e =
      let P : Hint → Type 0 = λ h. h.lsn < (get_or hs n no_hint).lsn in
      let z = last_all P (kept p hs n) (get_or hs n no_hint) (rw e (kept_below q n l)) in
      omega arith

  -- two ways to keep places that leave the same list are the same
  pub kept_places : (p q : ℕ → Bool) (n : ℕ) → n ≤ length hs → kept p hs n ≡ kept q hs n → (k : ℕ) → k < n → p k ≡ q k
  kept_places p q zero l e k m = let z : ⊥ = omega arith in absurd z
  kept_places p q (suc n) l e k m =
      let last : (p n ≡ q n) × (kept p hs n ≡ kept q hs n) =
      test (p n)
      (λ a. test (q n)
      (λ b. (
        a ∙ sym b,
        snoc_eq (kept p hs n) (kept q hs n) (get_or hs n no_hint)
            (sym (kept_yes p hs n a) ∙ e ∙ kept_yes q hs n b),
      ))
      (λ b. absurd (not_before p q n l (sym (kept_yes p hs n a) ∙ e ∙ kept_no q hs n b))))
      (λ a. test (q n)
      (λ b. absurd (not_before q p n l (sym (kept_yes q hs n b) ∙ sym e ∙ kept_no p hs n a)))
      (λ b. (a ∙ sym b, sym (kept_no p hs n a) ∙ e ∙ kept_no q hs n b))) in
      test (eqb k n) (λ y. rw (eqb-true k n y) last.0)
      (λ y. let z = eqb-false k n y in kept_places p q n (omega arith) last.1 k (omega (arith, z)))
