-- Two lists merged hold what both hold, and no more; lists whose keys all lie among n numbers have at most n. Assumes nothing.
use mathlib.Core.Path.{◌≡◌, refl, sym, ap, subst, ◌∙◌}
use mathlib.Core.Logic.{⊎_elim, ◌⊎◌, inl, inr}
use mathlib.Core.List.Memᴰ
use mathlib.Core.List.{List, [], ◌∷◌, Memᴰ}
use Prim.Native.Nat.{ℕ, suc, ◌<◌, ◌≤◌}
use native.Mathlib.Omega.{arith}
use lib.ListN.{length}
use Rattle.laws.specs.Merging.{merged_with}
use Rattle.laws.specs.Order.{Rises}
use Rattle.laws.proofs.hint_lists.Lists.{All, all_map, all_both}
use Rattle.laws.proofs.hint_lists.Rising.{rises_all}
use Rattle.laws.proofs.hint_lists.Merging.{nil_with, with_nil, with_cases}
use Rattle.theorems.proofs.Hints.{Any}

-- ---- P holds of one
pub any_map : {A : Type 0} (P Q : A → Type 0) → ((x : A) → P x → Q x) → (xs : List A) → Any P xs → Any Q xs
any_map P Q f [] h = h
any_map P Q f (x ∷ xs) h = ⊎_elim (λ p. inl (f x p)) (λ r. inr (any_map P Q f xs r)) h

-- x is one of xs, by cases
abbrev pub Has : {A : Type 0} → List A → A → Type 0
Has xs x = Any (λ y. y ≡ x) xs

pub has→ : {A : Type 0} (xs : List A) (x : A) → Has xs x → Memᴰ x xs
has→ [] x h = absurd h
has→ (y ∷ ys) x h = ⊎_elim (λ e. Memᴰ.head (sym e)) (λ r. Memᴰ.tail (has→ ys x r)) h

pub →has : {A : Type 0} (xs : List A) (x : A) → Memᴰ x xs → Has xs x
→has [] x m = absurd (Memᴰ.not-nil m)
→has (y ∷ ys) x m = ⊎_elim (λ e. inl (sym e)) (λ n. inr (→has ys x n)) (Memᴰ.cases_cons m)

-- what holds of each that is there holds of all
pub all_there : {A : Type 0} (P : A → Type 0) (xs : List A) → ((x : A) → Memᴰ x xs → P x) → All P xs
all_there P [] f = tt
all_there P (x ∷ xs) f = (f x (Memᴰ.head refl), all_there P xs (λ y m. f y (Memᴰ.tail m)))

-- and what holds of all, of each that is there
pub all_member : {A : Type 0} (P : A → Type 0) (xs : List A) (x : A) → All P xs → Memᴰ x xs → P x
all_member P [] x a m = absurd (Memᴰ.not-nil m)
all_member P (y ∷ ys) x a m = ⊎_elim (λ e. subst P (sym e) a.0) (λ n. all_member P ys x a.1 n)
    (Memᴰ.cases_cons m)

-- of one of which P holds
pub one_there : {A : Type 0} {P : A → Type 0} (G : Type 0) (xs : List A) → ((x : A) → Memᴰ x xs → P x → G)
    → Any P xs → G
one_there G [] f h = absurd h
one_there G (x ∷ xs) f h = ⊎_elim (λ p. f x (Memᴰ.head refl) p)
    (λ r. one_there G xs (λ y m. f y (Memᴰ.tail m)) r) h

-- ---- a number among others, and the others without it
without : (n : ℕ) (ls : List ℕ) → Has ls n → List ℕ
without n [] h = []
without n (l ∷ ls) (inl e) = ls
without n (l ∷ ls) (inr r) = l ∷ without n ls r

without_length : (n : ℕ) (ls : List ℕ) (h : Has ls n) → suc (length (without n ls h)) ≡ length ls
unfolding without
without_length n [] h = absurd h
without_length n (l ∷ ls) (inl e) = refl
without_length n (l ∷ ls) (inr r) = ap suc (without_length n ls r)

without_in : (n : ℕ) (ls : List ℕ) (h : Has ls n) (m : ℕ) → n < m → Has ls m → Has (without n ls h) m
unfolding without
without_in n [] h m d i = i
without_in n (l ∷ ls) (inl e) m d (inl f) = let z : ⊥ = omega (arith, e, f) in absurd z
without_in n (l ∷ ls) (inl e) m d (inr i) = i
without_in n (l ∷ ls) (inr r) m d (inl f) = inl f
without_in n (l ∷ ls) (inr r) m d (inr i) = inr (without_in n ls r m d i)

-- keys that rise, each among ls, are at most as many
pub fewer : {A : Type 0} (key : A → ℕ) (ls : List ℕ) (b : ℕ) (xs : List A) → Rises key b xs
    → All (λ x. Has ls (key x)) xs → length xs ≤ length ls
fewer key ls b [] r a = omega arith
fewer key ls b (x ∷ xs) r a =
    let up = rises_all key (suc (key x)) xs r.1 in
    let rest = all_map (λ z. (suc (key x) ≤ key z) × Has ls (key z)) (λ z. Has (without (key x) ls a.0) (key z))
    (λ z h. let l = h.0 in without_in (key x) ls a.0 (key z) (omega arith) h.1) xs
    (all_both (λ z. suc (key x) ≤ key z) (λ z. Has ls (key z)) xs up a.1) in
    omega (arith, fewer key (without (key x) ls a.0) (suc (key x)) xs r.1 rest, without_length (key x) ls a.0)

-- ---- two lists merged: where two that meet, each Ok, give one of them, which covers both
pub record Meets {A : Type 0} (key : A → ℕ) (meet : A → A → A) (Ok : A → Type 0) (Covers : A → A → Type 0) : Type 0
  where
    pub one : (x y : A) → key x ≡ key y → Ok x → Ok y → (meet x y ≡ x) ⊎ (meet x y ≡ y)
    pub own : (x y : A) → key x ≡ key y → Ok x → Ok y → Covers (meet x y) x
    pub other : (x y : A) → key x ≡ key y → Ok x → Ok y → Covers (meet x y) y
    pub through : (x y z : A) → Covers x y → Covers y z → Covers x z

module _ {A : Type 0} (key : A → ℕ) (meet : A → A → A) (Ok : A → Type 0) (Covers : A → A → Type 0)
    (m : Meets key meet Ok Covers) where
  -- what holds of the two holds of what they give
  met : (P : A → Type 0) (x y : A) → key x ≡ key y → Ok x → Ok y → P x → P y → P (meet x y)
  met P x y e o k p q = ⊎_elim (λ h. rw h p) (λ h. rw h q) (m.one x y e o k)

  -- P of each
  pub with_all : (P : A → Type 0) (xs ys : List A) → All Ok xs → All Ok ys → All P xs → All P ys
      → All P (merged_with key meet xs ys)
  with_all P [] ys a b p q = rw (nil_with key meet ys) q
  with_all P (x ∷ xs) [] a b p q = rw (with_nil key meet (x ∷ xs)) p
  with_all P (x ∷ xs) (y ∷ ys) a b p q =
      with_cases key meet (All P) x y xs ys (λ l. (p.0, with_all P xs (y ∷ ys) a.1 b p.1 q))
      (λ l. (q.0, with_all P (x ∷ xs) ys a b.1 p q.1))
      (λ e. (met P x y e a.0 b.0 p.0 q.0, with_all P xs ys a.1 b.1 p.1 q.1))

  -- each comes from one of both
  pub with_from : (P : A → Type 0) (xs ys : List A) → All Ok xs → All Ok ys → Any P (merged_with key meet xs ys)
      → Any P xs ⊎ Any P ys
  with_from P [] ys a b h = inr (rw (nil_with key meet ys) at h)
  with_from P (x ∷ xs) [] a b h = inl (rw (with_nil key meet (x ∷ xs)) at h)
  with_from P (x ∷ xs) (y ∷ ys) a b h =
      with_cases key meet (λ l. Any P l → Any P (x ∷ xs) ⊎ Any P (y ∷ ys)) x y xs ys
      (λ l. ⊎_elim (λ p. inl (inl p)) (λ r. ⊎_elim (λ s. inl (inr s)) (λ s. inr s)
      (with_from P xs (y ∷ ys) a.1 b r)))
      (λ l. ⊎_elim (λ p. inr (inl p)) (λ r. ⊎_elim (λ s. inl s) (λ s. inr (inr s))
      (with_from P (x ∷ xs) ys a b.1 r)))
      (λ e. ⊎_elim (λ p. ⊎_elim (λ k. inl (inl (rw k at p))) (λ k. inr (inl (rw k at p))) (m.one x y e a.0 b.0))
      (λ r. ⊎_elim (λ s. inl (inr s)) (λ s. inr (inr s)) (with_from P xs ys a.1 b.1 r))) h

  -- what covers d in one of both, something covers afterwards
  pub with_own : (d : A) (xs ys : List A) → All Ok xs → All Ok ys → Any (λ c. Covers c d) xs
      → Any (λ c. Covers c d) (merged_with key meet xs ys)
  with_own d [] ys a b h = absurd h
  with_own d (x ∷ xs) [] a b h = rw (with_nil key meet (x ∷ xs)) h
  with_own d (x ∷ xs) (y ∷ ys) a b h =
      with_cases key meet (Any (λ c. Covers c d)) x y xs ys
      (λ l. ⊎_elim (λ p. inl p) (λ r. inr (with_own d xs (y ∷ ys) a.1 b r)) h)
      (λ l. inr (with_own d (x ∷ xs) ys a b.1 h))
      (λ e. ⊎_elim (λ p. inl (m.through (meet x y) x d (m.own x y e a.0 b.0) p))
      (λ r. inr (with_own d xs ys a.1 b.1 r)) h)

  pub with_other : (d : A) (xs ys : List A) → All Ok xs → All Ok ys → Any (λ c. Covers c d) ys
      → Any (λ c. Covers c d) (merged_with key meet xs ys)
  with_other d [] ys a b h = rw (nil_with key meet ys) h
  with_other d (x ∷ xs) [] a b h = absurd h
  with_other d (x ∷ xs) (y ∷ ys) a b h =
      with_cases key meet (Any (λ c. Covers c d)) x y xs ys (λ l. inr (with_other d xs (y ∷ ys) a.1 b h))
      (λ l. ⊎_elim (λ p. inl p) (λ r. inr (with_other d (x ∷ xs) ys a b.1 r)) h)
      (λ e. ⊎_elim (λ p. inl (m.through (meet x y) y d (m.other x y e a.0 b.0) p))
      (λ r. inr (with_other d xs ys a.1 b.1 r)) h)

-- ---- lists that rise
-- one that is among them has a key of b or more
has_from : {A : Type 0} (key : A → ℕ) (b : ℕ) (xs : List A) (x : A) → Rises key b xs → Has xs x → b ≤ key x
has_from key b [] x r h = absurd h
has_from key b (y ∷ ys) x r (inl e) = rw (← ap key e) r.0
has_from key b (y ∷ ys) x r (inr h) = let l = r.0 in omega (arith, has_from key (suc (key y)) ys x r.1 h)

-- at one key there is one
has_one : {A : Type 0} (key : A → ℕ) (b : ℕ) (xs : List A) (x y : A) → Rises key b xs → Has xs x → Has xs y → key x
    ≡ key y → x ≡ y
has_one key b [] x y r h g e = absurd h
has_one key b (z ∷ zs) x y r (inl h) (inl g) e = sym h ∙ g
has_one key b (z ∷ zs) x y r (inl h) (inr g) e =
    let n = ap key h in let l = has_from key (suc (key z)) zs y r.1 g in let w : ⊥ = omega (arith, n, l, e)
    in absurd w
has_one key b (z ∷ zs) x y r (inr h) (inl g) e =
    let n = ap key g in let l = has_from key (suc (key z)) zs x r.1 h in let w : ⊥ = omega (arith, n, l, e)
    in absurd w
has_one key b (z ∷ zs) x y r (inr h) (inr g) e = has_one key (suc (key z)) zs x y r.1 h g e

-- two of them with the same members are the same
has_same : {A : Type 0} (key : A → ℕ) (b : ℕ) (xs ys : List A) → Rises key b xs → Rises key b ys
    → ((x : A) → Has xs x → Has ys x)
    → ((x : A) → Has ys x → Has xs x) → xs ≡ ys
has_same key b [] [] r s f g = refl
has_same key b [] (y ∷ ys) r s f g = absurd (g y (inl refl))
has_same key b (x ∷ xs) [] r s f g = absurd (f x (inl refl))
has_same {A = A} key b (x ∷ xs) (y ∷ ys) r s f g =
    same (f x (inl refl)) (g y (inl refl))
    (λ (e : x ≡ y).
    let k = ap key e in
    has_same key (suc (key x)) xs ys r.1 (rw e s.1)
    (λ z m. ⊎_elim (λ (h : y ≡ z). let n = ap key h in let l = has_from key (suc (key x)) xs z r.1 m
    in let w : ⊥ = omega (arith, n, k, l) in absurd w) (λ h. h) (f z (inr m)))
    (λ z m. ⊎_elim (λ (h : x ≡ z). let n = ap key h in let l = has_from key (suc (key y)) ys z s.1 m
    in let w : ⊥ = omega (arith, n, k, l) in absurd w) (λ h. h) (g z (inr m))))
  where
    same : Has (y ∷ ys) x → Has (x ∷ xs) y → (x ≡ y → xs ≡ ys) → ◌≡◌ {A = List A} (x ∷ xs) (y ∷ ys)
    same (inl e) m tails = λ i. sym e i ∷ tails (sym e) i
    same (inr h) (inl e) tails = λ i. e i ∷ tails e i
    same (inr h) (inr m) tails =
        let l = has_from key (suc (key y)) ys x s.1 h in let n = has_from key (suc (key x)) xs y r.1 m
        in let w : ⊥ = omega (arith, l, n) in absurd w

-- the same of members
pub one_at : {A : Type 0} (key : A → ℕ) (b : ℕ) (xs : List A) (x y : A) → Rises key b xs → Memᴰ x xs
    → Memᴰ y xs → key x ≡ key y → x ≡ y
one_at key b xs x y r h g e = has_one key b xs x y r (→has xs x h) (→has xs y g) e

pub same_members : {A : Type 0} (key : A → ℕ) (b : ℕ) (xs ys : List A) → Rises key b xs → Rises key b ys
    → ((x : A) → Memᴰ x xs → Memᴰ x ys)
    → ((x : A) → Memᴰ x ys → Memᴰ x xs) → xs ≡ ys
same_members key b xs ys r s f g = has_same key b xs ys r s (λ x m. →has ys x (f x (has→ xs x m)))
    (λ x m. →has xs x (g x (has→ ys x m)))
