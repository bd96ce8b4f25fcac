-- Tests, questions and answers, which the definitions are made of.
use Rattle.std.specs.Prelude.{ℕ, ◌-◌, Bool, true, false, ◌&&◌, cond, List, [], ◌∷◌, eqb, length, get_or, Option, None, Some}

-- does each hold?
unfoldable pub all : List Bool → Bool
all [] = true
all (b ∷ bs) = b && all bs

-- does p hold of each of xs?
unfoldable pub each : {A : Type 0} → (A → Bool) → List A → Bool
each p [] = true
each p (x ∷ xs) = p x && each p xs

-- does ok hold of each of xs, in a state that is s at first and goes on by next?
unfoldable pub walk : {S A : Type 0} → (S → A → Bool) → (S → A → S) → S → List A → Bool
walk ok next s [] = true
walk ok next s (x ∷ xs) = ok s x && walk ok next (next s x) xs

-- the last of xs, or z where there is none
unfoldable pub last_or : {A : Type 0} → A → List A → A
last_or z xs = get_or xs (length xs - 1) z

-- ---- things that may be unknown
unfoldable pub is_some : {A : Type 0} → Option A → Bool
is_some None = false
is_some (Some a) = true

-- the first, or the second where the first is unknown
unfoldable pub or_else : {A : Type 0} → Option A → Option A → Option A
or_else None o = o
or_else (Some a) o = Some a

module _ {A : Type 0} (same : A → A → Bool) where
  -- are two values the same, where both are known?
  unfoldable pub agree : Option A → Option A → Bool
  agree None o = true
  agree (Some a) None = true
  agree (Some a) (Some b) = same a b

  -- are two lists the same over the shorter length?
  unfoldable pub agrees : List A → List A → Bool
  agrees [] ys = true
  agrees (x ∷ xs) [] = true
  agrees (x ∷ xs) (y ∷ ys) = same x y && agrees xs ys

-- ---- questions
-- a question, and the number that refuses where the answer is no
pub record Ask : Type 0 where
  pub ok : Bool
  pub number : ℕ

abbrev pub ask : Bool → ℕ → Ask
ask b n = record { ok = b; number = n }

-- the number of the first question answered no, or 0
unfoldable pub first_no : List Ask → ℕ
first_no [] = 0
first_no (q ∷ qs) = cond q.ok (first_no qs) q.number

-- ---- answers
pub data Answer (A : Type 0) : Type 0 where
  Refused : ℕ → Answer A
  Accepted : A → Answer A

-- a refusal by a number other than 0, else what follows
unfoldable pub after : {A : Type 0} → ℕ → Answer A → Answer A
after n r = cond (eqb n 0) r (Refused n)

unfoldable pub bind : {A B : Type 0} → Answer A → (A → Answer B) → Answer B
bind (Refused n) f = Refused n
bind (Accepted a) f = f a

-- the refusal number of an answer, 0 where it is accepted
unfoldable pub number_of : {A : Type 0} → Answer A → ℕ
number_of (Refused n) = n
number_of (Accepted a) = 0
