-- Laws of tests, questions and answers. Assumes nothing.
use Rattle.std.specs.Prelude.{Option, None, Some}
use mathlib.Core.Path.{◌≡◌, refl, sym}
use mathlib.Core.Bool.{Bool, true, false, ◌&&◌, ◌||◌, not, cond}
use mathlib.Core.Logic.{◌⊎◌, inl, inr, ◌≢◌}
use mathlib.Core.List.{List, [], ◌∷◌, ◌++◌}
use Prim.Native.Nat.{ℕ, zero, suc, ◌<◌, ◌≤◌}
use native.Mathlib.Omega.{arith}
use lib.Dec.{eqb, leb, ltb}
use lib.ListN.{length, take, drop, get_or, set}
use borrow.Author.Tests.{eqb-true, eqb-false, leb-true, ltb-true, ltb-false, lt-ltb}
use Rattle.field.proofs.Format.{Each, none as nothing, one}
use Rattle.rules.specs.Tests.{all, each, agree, agrees, Ask, ask, first_no, Answer, Refused, Accepted, after, bind, number_of}

-- ---- cases
-- by cases on a test
pub test : {P : Type 0} (b : Bool) → (b ≡ true → P) → (b ≡ false → P) → P
test true f g = f refl
test false f g = g refl

pub never : {A : Type 0} {b : Bool} → b ≡ true → b ≡ false → A
never p q = let z : ◌≡◌ {A = ℕ} 0 1 = cc in let f : ⊥ = omega arith in absurd f

-- by cases on the order of two numbers
pub order : {P : Type 0} (a b : ℕ) → (a < b → P) → (b < a → P) → (a ≡ b → P) → P
order a b f g h =
    test (ltb a b) (λ e. f (ltb-true a b e)) (λ e. test (ltb b a) (λ d. g (ltb-true b a d)) (λ d. h (omega (arith, ltb-false a b e, ltb-false b a d))))

-- what holds of both choices holds of the choice
pub choose : {A : Type 0} (P : A → Type 0) (b : Bool) (x y : A) → (b ≡ true → P x) → (b ≡ false → P y) → P (cond b x y)
choose P true x y f g = f refl
choose P false x y f g = g refl

-- what is given, where nothing might have been
pub given : {A : Type 0} (b : Bool) (x y : A) → cond b None (Some x) ≡ Some y → x ≡ y
given true x y e = let z : ◌≡◌ {A = ℕ} 0 1 = cc in let f : ⊥ = omega arith in absurd f
given false x y e = cc

-- two values that are there are one, and one that is there is not missing
pub some_eq : {A : Type 0} {a b : A} → Some a ≡ Some b → a ≡ b
some_eq e = cc

pub none_some : {A P : Type 0} {a : A} → None ≡ Some a → P
none_some e = let z : ◌≡◌ {A = ℕ} 0 1 = cc in let f : ⊥ = omega arith in absurd f

-- two tests of which each says the other are one
pub same_test : (a b : Bool) → (a ≡ true → b ≡ true) → (b ≡ true → a ≡ true) → a ≡ b
same_test true b f g = sym (f refl)
same_test false true f g = g refl
same_test false false f g = refl

-- ---- and, or
pub and_left : (a b : Bool) → (a && b) ≡ true → a ≡ true
and_left true b e = refl
and_left false b e = e

pub and_right : (a b : Bool) → (a && b) ≡ true → b ≡ true
and_right true b e = e
and_right false b e = never e refl

pub both : {a b : Bool} → a ≡ true → b ≡ true → (a && b) ≡ true
both p q = cc

pub or_cases : (a b : Bool) → (a || b) ≡ true → (a ≡ true) ⊎ (b ≡ true)
or_cases true b e = inl refl
or_cases false b e = inr e

pub or_left : {a : Bool} (b : Bool) → a ≡ true → (a || b) ≡ true
or_left b p = rw p

pub or_right : (a : Bool) {b : Bool} → b ≡ true → (a || b) ≡ true
or_right true p = refl
or_right false p = p

pub and_assoc : (a b c : Bool) → (a && (b && c)) ≡ ((a && b) && c)
and_assoc true b c = refl
and_assoc false b c = refl

pub implied : (a b : Bool) → (not a || b) ≡ true → a ≡ true → b ≡ true
implied true b e t = e
implied false b e t = never {b = false} t refl

-- neither, where an or fails
pub or_none : (a b : Bool) → (a || b) ≡ false → (a ≡ false) × (b ≡ false)
or_none true b e = never {b = true} refl e
or_none false b e = (refl, e)

-- the last of four tests, first
pub or_move : (p q r s : Bool) → (s || (p || (q || r))) ≡ (p || (q || (r || s)))
or_move true q r true = refl
or_move true q r false = refl
or_move false true r true = refl
or_move false true r false = refl
or_move false false true true = refl
or_move false false true false = refl
or_move false false false true = refl
or_move false false false false = refl

-- above 0 is other than 0
pub some_or : (n : ℕ) → ltb 0 n ≡ not (eqb n 0)
some_or n =
    test (eqb n 0) (λ q. rw (eqb-true n 0 q)) (λ q. rw q (lt-ltb 0 n (let g : n ≢ 0 = eqb-false n 0 q in omega arith)))

pub nil_of : {A : Type 0} (xs : List A) → length xs ≡ 0 → xs ≡ []
nil_of [] h = refl
nil_of (x ∷ xs) h = let f : ⊥ = omega arith in absurd f

-- ---- all: each of the tests holds
abbrev pub Holds : List Bool → Type 0
Holds [] = Unit {0}
Holds (b ∷ bs) = (b ≡ true) × Holds bs

pub all→ : (bs : List Bool) → all bs ≡ true → Holds bs
unfolding all
all→ [] e = tt
all→ (b ∷ bs) e = (and_left b (all bs) e, all→ bs (and_right b (all bs) e))

pub →all : (bs : List Bool) → Holds bs → all bs ≡ true
unfolding all
→all [] h = refl
→all (b ∷ bs) h = both h.0 (→all bs h.1)

-- ---- each
module _ {A : Type 0} (p : A → Bool) where
  pub each_none : each p [] ≡ true
  unfolding each
  each_none = refl

  pub each_cons : (x : A) (xs : List A) → p x ≡ true → each p xs ≡ true → each p (x ∷ xs) ≡ true
  unfolding each
  each_cons x xs h t = both h t

  pub each_head : (x : A) (xs : List A) → each p (x ∷ xs) ≡ true → p x ≡ true
  unfolding each
  each_head x xs h = and_left (p x) (each p xs) h

  pub each_tail : (x : A) (xs : List A) → each p (x ∷ xs) ≡ true → each p xs ≡ true
  unfolding each
  each_tail x xs h = and_right (p x) (each p xs) h

  pub each_append : (xs ys : List A) → each p xs ≡ true → each p ys ≡ true → each p (xs ++ ys) ≡ true
  each_append [] ys h k = k
  each_append (x ∷ xs) ys h k = each_cons x (xs ++ ys) (each_head x xs h) (each_append xs ys (each_tail x xs h) k)

  pub each_take : (n : ℕ) (xs : List A) → each p xs ≡ true → each p (take n xs) ≡ true
  each_take zero xs h = each_none
  each_take (suc n) [] h = each_none
  each_take (suc n) (x ∷ xs) h = each_cons x (take n xs) (each_head x xs h) (each_take n xs (each_tail x xs h))

  pub each_drop : (n : ℕ) (xs : List A) → each p xs ≡ true → each p (drop n xs) ≡ true
  each_drop zero xs h = h
  each_drop (suc n) [] h = each_none
  each_drop (suc n) (x ∷ xs) h = each_drop n xs (each_tail x xs h)

  pub each_set : (xs : List A) (i : ℕ) (a : A) → p a ≡ true → each p xs ≡ true → each p (set xs i a) ≡ true
  each_set [] i a q h = each_none
  each_set (x ∷ xs) zero a q h = each_cons a xs q (each_tail x xs h)
  each_set (x ∷ xs) (suc i) a q h = each_cons x (set xs i a) (each_head x xs h) (each_set xs i a q (each_tail x xs h))

  -- at a place, where the value past the end passes too
  pub each_or : (xs : List A) (i : ℕ) (d : A) → p d ≡ true → each p xs ≡ true → p (get_or xs i d) ≡ true
  each_or [] i d q h = q
  each_or (x ∷ xs) zero d q h = each_head x xs h
  each_or (x ∷ xs) (suc i) d q h = each_or xs i d q (each_tail x xs h)

  pub each_at : (d : A) (xs : List A) (i : ℕ) → each p xs ≡ true → i < length xs → p (get_or xs i d) ≡ true
  each_at d [] i h l = let z : ⊥ = omega arith in absurd z
  each_at d (x ∷ xs) zero h l = each_head x xs h
  each_at d (x ∷ xs) (suc i) h l = each_at d xs i (each_tail x xs h) (omega arith)

  pub each_of : (d : A) (xs : List A) → ((i : ℕ) → i < length xs → p (get_or xs i d) ≡ true) → each p xs ≡ true
  each_of d [] h = each_none
  each_of d (x ∷ xs) h = each_cons x xs (h zero (omega arith)) (each_of d xs (λ i l. h (suc i) (omega arith)))

  -- and as a fact of each
  pub each→ : (xs : List A) → each p xs ≡ true → Each (λ x. p x ≡ true) xs
  each→ [] h = nothing
  each→ (x ∷ xs) h = one (each_head x xs h) (each→ xs (each_tail x xs h))

  pub →each : {xs : List A} → Each (λ x. p x ≡ true) xs → each p xs ≡ true
  →each nothing = each_none
  →each (one {x = x} {xs = xs} h hs) = each_cons x xs h (→each hs)

-- facts of each, made of others
pub each_map : {A : Type 0} {P Q : A → Type 0} → ((x : A) → P x → Q x) → {xs : List A} → Each P xs → Each Q xs
each_map f nothing = nothing
each_map f (one {x = x} p ps) = one (f x p) (each_map f ps)

pub each_both : {A : Type 0} {P Q R : A → Type 0} → ((x : A) → P x → Q x → R x) → {xs : List A} → Each P xs → Each Q xs → Each R xs
each_both f nothing nothing = nothing
each_both f (one {x = x} p ps) (one q qs) = one (f x p q) (each_both f ps qs)

-- ---- agree, agrees, or_else
pub agree_none : {A : Type 0} (same : A → A → Bool) (o : Option A) → agree same o None ≡ true
unfolding agree
agree_none same None = refl
agree_none same (Some a) = refl

module _ {A : Type 0} (same : A → A → Bool) (self : (a : A) → same a a ≡ true) where
  -- two first parts of one list agree
  pub agrees_take : (n m : ℕ) (l : List A) → agrees same (take n l) (take m l) ≡ true
  unfolding agrees
  agrees_take zero m l = refl
  agrees_take (suc n) zero [] = refl
  agrees_take (suc n) zero (x ∷ xs) = refl
  agrees_take (suc n) (suc m) [] = refl
  agrees_take (suc n) (suc m) (x ∷ xs) = both (self x) (agrees_take n m xs)

module _ {A : Type 0} (same : A → A → Bool) (eq : (a b : A) → same a b ≡ true → a ≡ b) where
  -- two known values that agree are equal
  pub agree_eq : (a b : A) → agree same (Some a) (Some b) ≡ true → a ≡ b
  unfolding agree
  agree_eq a b e = eq a b e

  -- a list that agrees with a longer one is its first part
  pub agrees_prefix : (xs ys : List A) → agrees same xs ys ≡ true → length xs ≤ length ys → xs ≡ take (length xs) ys
  unfolding agrees
  agrees_prefix [] ys e l = refl
  agrees_prefix (x ∷ xs) [] e l = let z : ⊥ = omega arith in absurd z
  agrees_prefix (x ∷ xs) (y ∷ ys) e l =
      let p = eq x y (and_left (same x y) (agrees same xs ys) e) in
      let q = agrees_prefix xs ys (and_right (same x y) (agrees same xs ys) e) (omega arith) in λ i. p i ∷ q i

-- ---- questions
-- each question is answered yes
abbrev pub Asked : List Ask → Type 0
Asked [] = Unit {0}
Asked (q ∷ qs) = (q.ok ≡ true) × Asked qs

-- has each question a number other than 0?
abbrev pub numbered : List Ask → Bool
numbered [] = true
numbered (q ∷ qs) = leb 1 q.number && numbered qs

-- a question of another number than the one that refuses was answered yes
pub later : (b : Bool) (n m : ℕ) (qs : List Ask) → n ≢ m → first_no (ask b n ∷ qs) ≡ m → (b ≡ true) × (first_no qs ≡ m)
unfolding first_no
later true n m qs h e = (refl, e)
later false n m qs h e = absurd (h e)

pub asked : (qs : List Ask) → numbered qs ≡ true → first_no qs ≡ 0 → Asked qs
asked [] n e = tt
asked (q ∷ qs) n e =
    let l = leb-true 1 q.number (and_left (leb 1 q.number) (numbered qs) n) in
    let r = later q.ok q.number 0 qs (λ z. omega arith) e in
    (r.0, asked qs (and_right (leb 1 q.number) (numbered qs) n) r.1)

pub asks : (qs : List Ask) → Asked qs → first_no qs ≡ 0
unfolding first_no
asks [] h = refl
asks (q ∷ qs) h = rw h.0 (asks qs h.1)

-- ---- answers
module _ {A : Type 0} where
  -- an answer that is accepted had no refusal before it
  pub after→ : (n : ℕ) (r : Answer A) (x : A) → after n r ≡ Accepted x → (n ≡ 0) × (r ≡ Accepted x)
  unfolding after
  after→ n r x e =
      test (eqb n 0) (λ t. (eqb-true n 0 t, rw t at e))
      (λ t. let w : Refused n ≡ Accepted x = rw t at e in let z : ◌≡◌ {A = ℕ} 0 1 = cc in let f : ⊥ = omega arith in absurd f)

  pub →after : {n : ℕ} {r s : Answer A} → n ≡ 0 → r ≡ s → after n r ≡ s
  unfolding after
  →after h e = rw h e

  pub refused_after : (n : ℕ) (r : Answer A) → n ≢ 0 → after n r ≡ Refused n
  unfolding after
  refused_after n r h = test (eqb n 0) (λ t. absurd (h (eqb-true n 0 t))) (λ t. rw t)

  pub accepted_eq : (x y : A) → ◌≡◌ {A = Answer A} (Accepted x) (Accepted y) → x ≡ y
  accepted_eq x y e = cc

  -- the value that an answer after questions accepts
  pub accepted→ : (n : ℕ) (x y : A) → after n (Accepted x) ≡ Accepted y → (n ≡ 0) × (x ≡ y)
  accepted→ n x y e = let r = after→ n (Accepted x) y e in (r.0, accepted_eq x y r.1)

  -- an answer after questions
  pub asked→ : (qs : List Ask) (r : Answer A) (x : A) → numbered qs ≡ true → after (first_no qs) r ≡ Accepted x → Asked qs × (r ≡ Accepted x)
  asked→ qs r x n e = let t = after→ (first_no qs) r x e in (asked qs n t.0, t.1)

  pub →asked : (qs : List Ask) {r s : Answer A} → Asked qs → r ≡ s → after (first_no qs) r ≡ s
  →asked qs h e = →after (asks qs h) e

  pub number_of_accepted : (r : Answer A) (x : A) → r ≡ Accepted x → number_of r ≡ 0
  unfolding number_of
  number_of_accepted r x e = rw e

-- what a bound answer accepts comes from an accepted one
pub record Bound {A B : Type 0} (r : Answer A) (f : A → Answer B) (y : B) : Type 0 where
  pub value : A
  pub first : r ≡ Accepted value
  pub second : f value ≡ Accepted y

pub bind→ : {A B : Type 0} (r : Answer A) (f : A → Answer B) (y : B) → bind r f ≡ Accepted y → Bound r f y
unfolding bind
bind→ (Refused n) f y e = let z : ◌≡◌ {A = ℕ} 0 1 = cc in let w : ⊥ = omega arith in absurd w
bind→ (Accepted a) f y e = record { value = a; first = refl; second = e }

pub →bind : {A B : Type 0} {r : Answer A} {a : A} (f : A → Answer B) {s : Answer B} → r ≡ Accepted a → f a ≡ s → bind r f ≡ s
unfolding bind
→bind f h e = rw h e

-- and refuses where the first answer does
pub refused_bind : {A B : Type 0} {r : Answer A} (f : A → Answer B) (n : ℕ) → r ≡ Refused n → bind r f ≡ Refused n
unfolding bind
refused_bind f n e = rw e
