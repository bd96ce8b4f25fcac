-- Words, names and numbers of a line, from a place on, and what a line of so many words says. Assumes nothing.
use Rattle.std.specs.Prelude.{None, Some}
use Prim.Native.Nat.{ℕ, suc, ◌+◌, ◌-◌, ◌*◌, ◌^◌, ◌≤◌, ◌<◌}
use mathlib.Core.Path.{◌≡◌, refl, sym, ap, ◌∙◌}
use mathlib.Core.Bool.{Bool, true, false, ◌&&◌, not, cond}
use mathlib.Core.List.{List, [], ◌∷◌}
use native.Mathlib.Nat.{pow-suc}
use native.Mathlib.Numerals.{add-one}
use native.Mathlib.Omega.{arith}
use borrow.Author.Tests.{eq-eqb, ne_eqb, leb-true, lt-leb}
use lib.Dec.{eqb, leb}
use lib.ListN.{length, get_or, take, drop, length-drop, drop_of_length-le}
use lib.Seq.{drop-cons, drop-drop, take_all, length-take-le}
use Rattle.std.specs.List.{list_any}
use Rattle.rules.specs.Tests.{all, each}
use Rattle.rules.proofs.Tests.{test, and_left, and_right}
use Rattle.rules_coverage.specs.Lines.{not_zero, on_first, words_of, is_name, is_number, is_digit, between, value_from, line_from, line_of}
use Rattle.sheet.specs.declared.line.Parsed.{Parsed}
use Rattle.sheet.specs.declared.line.Parsed.TheVariants as parsed
use Rattle.sheet.specs.declared.line.Number.TheVariants.{Nothing, Value}
use Rattle.sheet.specs.Lines.{word_length, number_of, parsed_from, line_in, name_length}

-- ---- one more byte
module _ (i : ℕ) (s : List ℕ) where
  module _ (k : i < length s) where
    pub word_stop : get_or s i 0 ≡ 32 → word_length (drop i s) ≡ 0
    unfolding word_length
    word_stop e = ap word_length (drop-cons s i 0 k) ∙ rw (eq-eqb (get_or s i 0) 32 e)

    pub word_more : (get_or s i 0 ≡ 32 → ⊥) → word_length (drop i s) ≡ 1 + word_length (drop (i + 1) s)
    unfolding word_length
    word_more e = ap word_length (drop-cons s i 0 k) ∙ rw (ne_eqb (get_or s i 0) 32 e, add-one) (omega arith)

    pub each_more : (p : ℕ → Bool) → each p (drop i s) ≡ (p (get_or s i 0) && each p (drop (i + 1) s))
    unfolding each
    each_more p = ap (each p) (drop-cons s i 0 k) ∙ rw add-one

    pub value_more : (v : ℕ) → value_from v (drop i s) ≡ value_from (v * 10 + (get_or s i 0 - 48)) (drop (i + 1) s)
    unfolding value_from
    value_more v = ap (value_from v) (drop-cons s i 0 k) ∙ rw add-one

  module _ (k : length s ≤ i) where
    pub word_done : word_length (drop i s) ≡ 0
    unfolding word_length
    word_done = ap word_length (drop_of_length-le s k)

    pub each_done : (p : ℕ → Bool) → each p (drop i s) ≡ true
    unfolding each
    each_done p = ap (each p) (drop_of_length-le s k)

    pub value_done : (v : ℕ) → value_from v (drop i s) ≡ v
    unfolding value_from
    value_done v = ap (value_from v) (drop_of_length-le s k)

-- ---- names and numbers
pub no_zero_is : (s : List ℕ) → not (list_any (λ y. eqb y 0) s) ≡ each not_zero s
unfolding each
no_zero_is [] = refl
no_zero_is (b ∷ s) = test (eqb b 0) (λ e. rw e) (λ e. rw e (no_zero_is s))

pub digit→ : (b : ℕ) → is_digit b ≡ true → (48 ≤ b) × (b ≤ 57)
unfolding between
digit→ b e = (leb-true 48 b (and_left (leb 48 b) (leb b 57) e), leb-true b 57 (and_right (leb 48 b) (leb b 57) e))

-- has a number one to ten bytes?
abbrev pub ten_at_most : ℕ → Bool
ten_at_most n = leb 1 n && leb n 10

and_false : (a : Bool) → (a && false) ≡ false
and_false true = refl
and_false false = refl

module _ (s : List ℕ) where
  pub no_length : length s ≡ 0 → Nothing ≡ number_of s
  unfolding number_of is_number between
  no_length e = rw e

  pub long_length : 10 < length s → Nothing ≡ number_of s
  unfolding number_of is_number between
  long_length l = rw (lt-leb (length s) 10 l, and_false (leb 1 (length s)))

  pub no_digits : each is_digit s ≡ false → Nothing ≡ number_of s
  unfolding number_of is_number
  no_digits e = rw (e, and_false (between 1 10 (length s)))

  pub number_is : {v : ℕ} → ten_at_most (length s) ≡ true → each is_digit s ≡ true → v ≡ value_from 0 s → Value v ≡ number_of s
  unfolding number_of is_number between
  number_is n e q = rw (n, e, q)

  pub no_number : Nothing ≡ number_of s → is_number s ≡ false
  unfolding number_of
  no_number e =
      test (is_number s) (λ t. let f : Nothing ≡ Value (value_from 0 s) = rw t at e in let z : ◌≡◌ {A = ℕ} 0 1 = cc in let g : ⊥ = omega arith in absurd g) (λ t. t)

  pub a_number : {v : ℕ} → Value v ≡ number_of s → (is_number s ≡ true) × (v ≡ value_from 0 s)
  unfolding number_of
  a_number {v} e =
      test (is_number s) (λ t. let f : Value v ≡ Value (value_from 0 s) = rw t at e in (t, cc))
      (λ t. let f : Value v ≡ Nothing = rw t at e in let z : ◌≡◌ {A = ℕ} 0 1 = cc in let g : ⊥ = omega arith in absurd g)

-- a number of i digits and one digit more
pub digits_more : (v i d : ℕ) → v < 10 ^ i → d ≤ 9 → v * 10 + d < 10 ^ (i + 1)
digits_more v i d h k = rw (add-one, pow-suc) (omega arith)

-- ---- words
-- a list without a space is one word
pub words_one : (s : List ℕ) → word_length s ≡ length s → words_of s ≡ s ∷ []
unfolding word_length words_of on_first
words_one [] h = refl
words_one (b ∷ s) h =
    test (eqb b 32) (λ e. let g : 0 ≡ suc (length s) = rw e at h in let f : ⊥ = omega arith in absurd f)
    (λ e. let g : suc (word_length s) ≡ suc (length s) = rw e at h in rw (e, words_one s (omega arith)))

-- else the first word ends before a space
pub words_more : (s : List ℕ) → word_length s < length s → words_of s ≡ take (word_length s) s ∷ words_of (drop (suc (word_length s)) s)
unfolding word_length words_of on_first
words_more [] h = let f : ⊥ = omega arith in absurd f
words_more (b ∷ s) h =
    test (eqb b 32) (λ e. rw e)
    (λ e. let g : suc (word_length s) < suc (length s) = rw e at h in rw (e, words_more s (omega arith)))

pub words_some : (s : List ℕ) → (w : List ℕ) × ((ws : List (List ℕ)) × (words_of s ≡ w ∷ ws))
unfolding words_of on_first
words_some [] = ([], ([], refl))
words_some (b ∷ s) =
    let r = words_some s in
    test (eqb b 32) (λ e. ([], (words_of s, rw e))) (λ e. (b ∷ r.0, (r.1.0, rw (e, r.1.1))))

-- the word at i ends at w, before a space
words_at : (s : List ℕ) (i w : ℕ) → w ≡ i + word_length (drop i s) → w < length s → words_of (drop i s) ≡ take (w - i) (drop i s) ∷ words_of (drop (w + 1) s)
words_at s i w e h =
    let n : word_length (drop i s) ≡ w - i = omega arith in
    let d : i + suc (w - i) ≡ w + 1 = omega arith in
    let m = words_more (drop i s) (simp (length-drop) (omega arith)) in
    rw (n, drop-drop, d) at m

-- it is the last one
words_last : (s : List ℕ) (i w : ℕ) → w ≡ i + word_length (drop i s) → w ≡ length s → words_of (drop i s) ≡ take (w - i) (drop i s) ∷ []
words_last s i w e h =
    let k = length-drop i s in
    rw (take_all (w - i) (drop i s) (omega arith)) (words_one (drop i s) (omega arith))

-- ---- what is said
by_tests : (p q r : Bool) (s n : List ℕ) (k a e : ℕ) → take k s ≡ n
    → line_in s (cond (p && (q && r)) (parsed.Line k a e) parsed.Broken) ≡ cond (all (true ∷ p ∷ q ∷ r ∷ [])) (Some (record { name = n; start = a; end = e })) None
unfolding line_in all
by_tests true true true s n k a e t = rw t
by_tests true true false s n k a e t = refl
by_tests true false r s n k a e t = refl
by_tests false q r s n k a e t = refl

name_by : (b : Bool) (k a e n : ℕ) → k ≤ n → name_length (cond b (parsed.Line k a e) parsed.Broken) ≤ n
unfolding name_length
name_by true k a e n h = h
name_by false k a e n h = omega arith

name_inside : (s n x y : List ℕ) → length n ≤ length s → name_length (parsed_from n x y) ≤ length s
unfolding parsed_from
name_inside s n x y h = name_by (is_name n && (is_number x && is_number y)) (length n) (value_from 0 x) (value_from 0 y) (length s) h

no_name : (n : ℕ) → name_length parsed.Broken ≤ n
unfolding name_length
no_name n = omega arith

-- what parsing s is to answer
abbrev Says : List ℕ → Parsed → Type 0
Says s r = (line_in s r ≡ line_of s) × (name_length r ≤ length s)

-- a line of so many words, whose first three end at a, b and c
module _ (s : List ℕ) (a : ℕ) (ea : a ≡ 0 + word_length (drop 0 s)) where
  pub one_word : a ≡ length s → Says s parsed.Broken
  unfolding line_in line_of line_from all
  one_word h = (rw (words_last s 0 a ea h), no_name (length s))

  module _ (ha : a < length s) (b : ℕ) (eb : b ≡ a + 1 + word_length (drop (a + 1) s)) where
    pub two_words : b ≡ length s → Says s parsed.Broken
    unfolding line_in line_of line_from all
    two_words h = (rw (words_at s 0 a ea ha, words_last s (a + 1) b eb h), no_name (length s))

    module _ (hb : b < length s) (c : ℕ) (ec : c ≡ b + 1 + word_length (drop (b + 1) s)) where
      pub more_words : c < length s → Says s parsed.Broken
      unfolding line_in line_of line_from all
      more_words h =
          let r = words_some (drop (c + 1) s) in
          (rw (words_at s 0 a ea ha, words_at s (a + 1) b eb hb, words_at s (b + 1) c ec h, r.1.1, ne_eqb (suc (suc (suc (suc (length r.1.0))))) 3 (omega arith)), no_name (length s))

      module _ (h : c ≡ length s) where
        words : line_of s ≡ line_from (take a s ∷ take (b - (a + 1)) (drop (a + 1) s) ∷ take (c - (b + 1)) (drop (b + 1) s) ∷ [])
        unfolding line_of
        words = rw (words_at s 0 a ea ha, words_at s (a + 1) b eb hb, words_last s (b + 1) c ec h, (let z : a - 0 ≡ a = omega arith in z))

        pub three_words : {r : Parsed} → r ≡ parsed_from (take a s) (take (b - (a + 1)) (drop (a + 1) s)) (take (c - (b + 1)) (drop (b + 1) s)) → Says s r
        unfolding parsed_from line_from
        three_words q =
            let n = take a s in
            let x = take (b - (a + 1)) (drop (a + 1) s) in
            let y = take (c - (b + 1)) (drop (b + 1) s) in
            let k : length n ≡ a = length-take-le a s (omega arith) in
            rw q (
              by_tests (is_name n) (is_number x) (is_number y) s n (length n) (value_from 0 x) (value_from 0 y) (rw k) ∙ sym words,
              name_inside s n x y (omega arith),
            )
