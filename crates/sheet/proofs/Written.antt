-- Bytes put behind each other, and the digits of a number. Assumes nothing.
use Prim.Native.Nat.{ℕ, zero, suc, ◌+◌, ◌-◌, ◌*◌, ◌/◌, ◌%◌, ◌^◌, ◌≤◌, ◌<◌}
use mathlib.Core.Path.{◌≡◌, refl, sym, ap, ◌∙◌}
use mathlib.Core.List.{List, [], ◌∷◌, ◌++◌}
use native.Mathlib.Nat.{pow-suc}
use native.Mathlib.Numerals.{add-one}
use native.Mathlib.Omega.{arith}
use borrow.Author.Tests.{lt-ltb, le-ltb, ltb-true, ltb-false}
use lib.Dec.{ltb}
use lib.ListN.{length, get_or, take, drop, set, length-set, length-take, length-drop, drop_of_length-le}
use lib.Seq.{drop-cons, drop-set-lt, get_or-set_same, append_snoc, take_all, sets, sets-eq}
use Rattle.rules.proofs.Tests.{test}
use Rattle.rules.specs.Tests.{Answer, Refused, Accepted}
use Rattle.rules_coverage.specs.declared.Row.{Row}
use Rattle.rules_coverage.specs.Lines.{line_of}
use Rattle.rules_coverage.specs.Coverage.{coverage, digits, number_text, refused_text, newline, answer_text, row_text, name_of, total_name, total_text}
use Rattle.sheet.specs.declared.line.Parsed.{Parsed}
use Rattle.sheet.specs.declared.line.Parsed.TheVariants as parsed
use Rattle.sheet.specs.Lines.{line_in, name_length}
use Rattle.sheet.specs.Text.{Written, Output, output, put, puts}

-- ---- bytes behind each other
pub puts_append : (o : Output) (a b : List ℕ) → puts o (a ++ b) ≡ puts (puts o a) b
unfolding puts
puts_append o [] b = refl
puts_append o (x ∷ a) b = puts_append (put o x) a b

pub puts_five : (o : Output) (a b c d e : List ℕ) → puts o (a ++ (b ++ (c ++ (d ++ e)))) ≡ puts (puts (puts (puts (puts o a) b) c) d) e
puts_five o a b c d e = rw (puts_append, puts_append, puts_append, puts_append)

pub puts_three : (o : Output) (a b c : List ℕ) → puts o (a ++ (b ++ c)) ≡ puts (puts (puts o a) b) c
puts_three o a b c = rw (puts_append, puts_append)

pub puts_one : (o : Output) (b : ℕ) → puts o (b ∷ []) ≡ put o b
unfolding puts
puts_one o b = refl

pub puts_turn : (o : Output) (i : ℕ) (s : List ℕ) → i < length s → puts o (drop i s) ≡ puts (put o (get_or s i 0)) (drop (i + 1) s)
unfolding puts
puts_turn o i s k = ap (puts o) (drop-cons s i 0 k) ∙ rw add-one

pub puts_done : (o : Output) (i : ℕ) (s : List ℕ) → length s ≤ i → puts o (drop i s) ≡ o
unfolding puts
puts_done o i s k = ap (puts o) (drop_of_length-le s k)

-- all behind a place
pub cut_all : (t : List ℕ) (k : ℕ) {n : ℕ} → n ≡ length t → take (n - k) (drop k t) ≡ drop k t
cut_all t k {n} e = take_all (n - k) (drop k t) (let l = length-drop k t in omega arith)

-- as many as there is room for are stored
Stores : List ℕ → List ℕ → ℕ → Type 0
Stores text o at = puts (output o at) text ≡ output (sets o at (take (length o - at) text)) (at + length (take (length o - at) text))

take_none : (n : ℕ) → ◌≡◌ {A = List ℕ} (take n []) []
take_none zero = refl
take_none (suc n) = refl

stored : (text o : List ℕ) (at : ℕ) → Stores text o at
unfolding Stores puts put
stored [] o at = rw (take_none (length o - at), (let z : at + 0 ≡ at = omega arith in z))
stored (b ∷ text) o at =
    test (ltb at (length o))
    (λ t.
    let l = ltb-true at (length o) t in
    let h = stored text (set o at b) (at + 1) in
    let k : length o - at ≡ suc (length o - (at + 1)) = omega arith in
    let m : at + suc (length (take (length o - (at + 1)) text)) ≡ at + 1 + length (take (length o - (at + 1)) text) = omega arith in
    rw (t, k, m) (h ∙ rw (length-set, add-one)))
    (λ t.
    let k : length o - at ≡ 0 = omega (arith, ltb-false at (length o) t) in
    rw (t, k) (rw k at (stored text o at)))

pub is_written : (o text after : List ℕ) (n : ℕ) → output after n ≡ puts (output o 0) text → Written o after n text
unfolding Stores
is_written o text after n e =
    let w = e ∙ stored text o 0 in
    let z : length o - 0 ≡ length o = omega arith in
    let l = length-take (length o) text in
    let y : 0 + length (take (length o) text) ≡ length (take (length o) text) = omega arith in
    record {
      bytes = rw z at (ap (λ (x : Output). x.bytes) w) ∙ (sets-eq (take (length o) text) o 0 (omega arith) ∙ rw y);
      count = rw z at (ap (λ (x : Output). x.at) w) ∙ y;
    }

-- ---- digits
drop_set : (k g : ℕ) (t : List ℕ) → k < length t → drop k (set t k g) ≡ g ∷ drop (k + 1) t
drop_set k g t h =
    drop-cons (set t k g) k 0 (simp length-set h) ∙ rw (get_or-set_same t k g 0 h, drop-set-lt (suc k) t k g (omega arith), add-one)

pub spell_more : (k rest : ℕ) (t : List ℕ) → k < length t → 10 ≤ rest
    → digits k (rest / 10) ++ drop k (set t k (48 + rest % 10)) ≡ digits (k + 1) rest ++ drop (k + 1) t
unfolding digits
spell_more k rest t h r = rw (drop_set k (48 + rest % 10) t h, add-one, le-ltb rest 10 r) (sym (append_snoc (digits k (rest / 10)) (48 + rest % 10) (drop (suc k) t)))

pub spell_last : (k rest : ℕ) (t : List ℕ) → k < length t → rest < 10 → drop k (set t k (48 + rest)) ≡ digits (k + 1) rest ++ drop (k + 1) t
unfolding digits
spell_last k rest t h r = rw (drop_set k (48 + rest) t h, add-one, lt-ltb rest 10 r)

-- a number of two digits or more
pub two_digits : (n v : ℕ) → 10 ≤ v → v < 10 ^ n → 2 ≤ n
two_digits zero v l h = let f : ⊥ = omega arith in absurd f
two_digits (suc zero) v l h = let f : ⊥ = omega arith in absurd f
two_digits (suc (suc n)) v l h = omega arith

pub one_digit_less : (n v : ℕ) → v < 10 ^ (n + 1) → v / 10 < 10 ^ n
one_digit_less n v h = let g : v < 10 ^ n * 10 = rw (add-one, pow-suc) at h in omega arith

-- ---- the parts of a line of the sheet, one behind the other
module _ (o : List ℕ) (at : ℕ) where
  pub dash_put : (x : Output) (line : List ℕ) → x ≡ put (output o at) 45 → x ≡ puts (output o at) (name_of (line_in line parsed.Broken))
  unfolding line_in name_of puts
  dash_put x line e = e

pub name_told : (said : Parsed) (k a e n : ℕ) → said ≡ parsed.Line k a e → name_length said ≤ n → k ≤ n
unfolding name_length
name_told said k a e n q h = rw q at h

pub name_put : (o : List ℕ) (at : ℕ) (line : List ℕ) (k a e : ℕ) (x : Output) → x ≡ puts (output o at) (take k line)
    → x ≡ puts (output o at) (name_of (line_in line (parsed.Line k a e)))
unfolding line_in name_of
name_put o at line k a e x q = q

module _ (x0 x1 x2 x3 : Output) where
  pub numbers_put : (x4 x5 : Output) (r : Row) (c : ℕ) → x1 ≡ puts x0 (number_text r.checkpoints) → x2 ≡ puts x1 (number_text r.boundaries) → x3 ≡ puts x2 (number_text r.held)
      → c ≡ coverage r → x4 ≡ puts x3 (number_text c) → x5 ≡ put x4 10 → x5 ≡ puts x0 (answer_text (Accepted r))
  unfolding answer_text
  numbers_put x4 x5 r c e1 e2 e3 q e4 e5 =
      e5
      ∙ rw (← puts_one x4 10, e4, q, e3, e2, e1)
      (sym (puts_five x0 (number_text r.checkpoints) (number_text r.boundaries) (number_text r.held) (number_text (coverage r)) newline))

  pub refused_put : (n : ℕ) → x1 ≡ puts x0 refused_text → x2 ≡ puts x1 (number_text n) → x3 ≡ put x2 10 → x3 ≡ puts x0 (answer_text (Refused n))
  unfolding answer_text
  refused_put n e1 e2 e3 = e3 ∙ rw (← puts_one x2 10, e2, e1) (sym (puts_three x0 refused_text (number_text n) newline))

-- a row's line
pub line_written : (o line after : List ℕ) (n : ℕ) (said : Parsed) (a : Answer Row) (x : Output) → line_in line said ≡ line_of line
    → x ≡ puts (output o 0) (name_of (line_in line said)) → output after n ≡ puts x (answer_text a) → Written o after n (row_text (name_of (line_of line)) a)
unfolding row_text
line_written o line after n said a x q e1 e2 =
    is_written o (name_of (line_of line) ++ answer_text a) after n (e2 ∙ rw (e1, q) (sym (puts_append (output o 0) (name_of (line_of line)) (answer_text a))))

-- the last line
pub total_written : (o after : List ℕ) (n : ℕ) (r t : Row) (x : Output) → x ≡ puts (output o 0) total_name → output after n ≡ puts x (answer_text (Accepted r)) → r ≡ t
    → Written o after n (total_text t)
unfolding total_text row_text
total_written o after n r t x e1 e2 q =
    is_written o (total_name ++ answer_text (Accepted t)) after n (e2 ∙ rw (e1, q) (sym (puts_append (output o 0) total_name (answer_text (Accepted t)))))
