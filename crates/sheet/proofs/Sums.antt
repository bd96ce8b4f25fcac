-- Rows in a table, and the sums over them. Assumes nothing.
use Prim.Native.Nat.{ℕ, zero, suc, ◌+◌, ◌-◌, ◌*◌, ◌≤◌, ◌<◌, min}
use mathlib.Core.Path.{◌≡◌, refl, sym, ap, ◌∙◌}
use mathlib.Core.List.{List, [], ◌∷◌, ◌++◌, append_assoc}
use native.Mathlib.Omega.{arith}
use borrow.Author.Tests.{eq-eqb, ne_eqb}
use borrow.Rule.Slice.PartMut.{put_mid}
use lib.ListN.{length, get_or, take, drop, set, length-append}
use lib.Seq.{take_all, take_at, drop_at, drop-drop, take-set-le, drop-set-add, get_or-take, get_or-drop, sets, sets-eq, length-take-le}
use Rattle.field.specs.Records.{records, record_at}
use Rattle.field.proofs.Records.{records_length, records_more}
use Rattle.rules.specs.Tests.{Answer, Refused, Accepted}
use Rattle.rules_coverage.specs.declared.Row.{Row}
use Rattle.rules_coverage.specs.Lines.{most_lines}
use Rattle.rules_coverage.specs.Coverage.{row, plus, totals}
use Rattle.sheet.specs.declared.row.RowAnswer.{RowAnswer}
use Rattle.sheet.specs.declared.row.RowAnswer.TheVariants as answer
use Rattle.sheet.specs.Rows.{answer_in, words_row, rows_in}
use Rattle.sheet.specs.Steps.{row_words, added_to, added, Small}

-- ---- a row into the table
-- a store behind the first n records leaves them
records_set : (n : ℕ) (t : List ℕ) (i v : ℕ) → n * 4 ≤ i → records 4 words_row n (set t i v) ≡ records 4 words_row n t
unfolding records
records_set zero t i v h = refl
records_set (suc n) t i v h =
    let e : i ≡ 4 + (i - 4) = omega arith in
    let d : drop 4 (set t i v) ≡ set (drop 4 t) (i - 4) v = rw e (drop-set-add 4 t (i - 4) v ∙ rw (let z : 4 + (i - 4) - 4 ≡ i - 4 = omega arith in z)) in
    rw (take-set-le 4 t i v (omega arith), d, records_set n (drop 4 t) (i - 4) v (omega arith))

four_stores : (n : ℕ) (t : List ℕ) (a b c d : ℕ) → records 4 words_row n (sets t (n * 4) (a ∷ b ∷ c ∷ d ∷ [])) ≡ records 4 words_row n t
four_stores n t a b c d =
    records_set n _ (suc (suc (suc (n * 4)))) d (omega arith) ∙ records_set n _ (suc (suc (n * 4))) c (omega arith) ∙ records_set n _ (suc (n * 4)) b (omega arith)
    ∙ records_set n t (n * 4) a (omega arith)

-- four words written over a part of the table
four_written : (n : ℕ) (t ws : List ℕ) → n * 4 + 4 ≤ length t → length ws ≡ 4 → put_mid (n * 4) (n * 4 + 4 - n * 4) t ws ≡ sets t (n * 4) ws
four_written n t ws h l =
    let k : n * 4 + 4 - n * 4 ≡ 4 = omega arith in
    rw (k, drop-drop) (sym (sets-eq ws t (n * 4) (omega arith) ∙ rw (l, append_assoc)))

pub row_written : (n : ℕ) (t : List ℕ) (r : RowAnswer) → n * 4 + 4 ≤ length t
    → put_mid (n * 4) (n * 4 + 4 - n * 4) t (row_words r) ≡ sets t (n * 4) (row_words r)
unfolding row_words
row_written n t (answer.Refused k) h = four_written n t (row_words (answer.Refused k)) h refl
row_written n t (answer.Accepted k b e) h = four_written n t (row_words (answer.Accepted k b e)) h refl

-- the record that four stores make
four_words : (n : ℕ) (t : List ℕ) (a b c d : ℕ) → n * 4 + 4 ≤ length t → take 4 (drop (n * 4) (sets t (n * 4) (a ∷ b ∷ c ∷ d ∷ []))) ≡ a ∷ b ∷ c ∷ d ∷ []
four_words n t a b c d h = rw (sets-eq (a ∷ b ∷ c ∷ d ∷ []) t (n * 4) h, append_assoc, drop_at (take (n * 4) t) ((a ∷ b ∷ c ∷ d ∷ []) ++ drop (n * 4 + 4) t) (n * 4) (length-take-le (n * 4) t (omega arith)))

put_words : (n : ℕ) (t : List ℕ) (a b c d : ℕ) → n * 4 + 4 ≤ length t
    → records 4 words_row (n + 1) (sets t (n * 4) (a ∷ b ∷ c ∷ d ∷ [])) ≡ records 4 words_row n t ++ (words_row (a ∷ b ∷ c ∷ d ∷ []) ∷ [])
put_words n t a b c d h =
    records_more 4 words_row n (sets t (n * 4) (a ∷ b ∷ c ∷ d ∷ [])) ∙ rw (four_stores n t a b c d, four_words n t a b c d h)

put_answer : (n : ℕ) (t : List ℕ) (r : RowAnswer) → n * 4 + 4 ≤ length t → records 4 words_row (n + 1) (sets t (n * 4) (row_words r)) ≡ records 4 words_row n t ++ (answer_in r ∷ [])
unfolding row_words answer_in words_row
put_answer n t (answer.Refused k) h = put_words n t 0 k 0 0 h
put_answer n t (answer.Accepted k b e) h = put_words n t 1 k b e h

module _ (t : List ℕ) (n : ℕ) (r : RowAnswer) where
  pub row_put : n < 1000 → length t ≡ 4000 → rows_in (n + 1) (sets t (n * 4) (row_words r)) ≡ take most_lines (rows_in n t ++ (answer_in r ∷ []))
  unfolding rows_in
  row_put h l =
      let m : min (n + 1) 1000 ≡ n + 1 = omega arith in
      let k : min n 1000 ≡ n = omega arith in
      let z = length-append (records 4 words_row n t) (answer_in r ∷ []) in
      let y = records_length 4 words_row n t in
      rw (m, k) (put_answer n t r (omega arith) ∙ sym (take_all 1000 (records 4 words_row n t ++ (answer_in r ∷ [])) (omega arith)))

  pub row_full : 1000 ≤ n → rows_in (n + 1) t ≡ take most_lines (rows_in n t ++ (answer_in r ∷ []))
  unfolding rows_in
  row_full h =
      let m : min (n + 1) 1000 ≡ 1000 = omega arith in
      let k : min n 1000 ≡ 1000 = omega arith in
      rw (m, k) (sym (take_at (records 4 words_row 1000 t) (answer_in r ∷ []) 1000 (records_length 4 words_row 1000 t)))

-- ---- the sums
plus_assoc : (r s t : Row) → plus r (plus s t) ≡ plus (plus r s) t
unfolding plus
plus_assoc r s t =
    let a : r.checkpoints + (s.checkpoints + t.checkpoints) ≡ r.checkpoints + s.checkpoints + t.checkpoints = omega arith in
    let b : r.boundaries + (s.boundaries + t.boundaries) ≡ r.boundaries + s.boundaries + t.boundaries = omega arith in
    let c : r.held + (s.held + t.held) ≡ r.held + s.held + t.held = omega arith in
    rw (a, b, c)

plus_none : (r : Row) → plus r (row 0 0 0) ≡ plus (row 0 0 0) r
unfolding plus
plus_none r =
    let a : r.checkpoints + 0 ≡ 0 + r.checkpoints = omega arith in
    let b : r.boundaries + 0 ≡ 0 + r.boundaries = omega arith in
    let c : r.held + 0 ≡ 0 + r.held = omega arith in
    rw (a, b, c)

totals_one : (a : Answer Row) → totals (a ∷ []) ≡ added_to (row 0 0 0) a
unfolding totals added_to
totals_one (Refused n) = refl
totals_one (Accepted r) = plus_none r

added_behind : (r t : Row) (a : Answer Row) → plus r (added_to t a) ≡ added_to (plus r t) a
unfolding added_to
added_behind r t (Refused n) = refl
added_behind r t (Accepted q) = plus_assoc r t q

pub totals_more : (rs : List (Answer Row)) (a : Answer Row) → totals (rs ++ (a ∷ [])) ≡ added_to (totals rs) a
unfolding totals
totals_more [] a = totals_one a
totals_more (Refused n ∷ rs) a = totals_more rs a
totals_more (Accepted r ∷ rs) a = rw (totals_more rs a) (added_behind r (totals rs) a)

-- of one more row
pub totals_rows : (t : List ℕ) (i : ℕ) → i < 1000 → totals (rows_in (i + 1) t) ≡ added (totals (rows_in i t)) t i
unfolding rows_in added
totals_rows t i h =
    let m : min (i + 1) 1000 ≡ i + 1 = omega arith in
    let k : min i 1000 ≡ i = omega arith in
    rw (m, k) (ap totals (records_more 4 words_row i t) ∙ totals_more (records 4 words_row i t) (record_at 4 words_row t i))

pub no_rows : (t : List ℕ) → row 0 0 0 ≡ totals (rows_in 0 t)
unfolding rows_in records totals
no_rows t = refl

pub min_rows : (t : List ℕ) (n : ℕ) → rows_in (min n 1000) t ≡ rows_in n t
unfolding rows_in
min_rows t n = let k : min (min n 1000) 1000 ≡ min n 1000 = omega arith in rw k

-- the words of record number i
word_at : (t : List ℕ) (k j : ℕ) → j < 4 → get_or (take 4 (drop k t)) j 0 ≡ get_or t (k + j) 0
word_at t k j h = get_or-take 4 (drop k t) j 0 h ∙ get_or-drop k t j 0

module _ (s : Row) (t : List ℕ) (i : ℕ) where
  first_word : get_or (take 4 (drop (i * 4) t)) 0 0 ≡ get_or t (i * 4) 0
  first_word = word_at t (i * 4) 0 (omega arith) ∙ rw (let z : i * 4 + 0 ≡ i * 4 = omega arith in z)

  pub not_added : (get_or t (i * 4) 0 ≡ 1 → ⊥) → s ≡ added s t i
  unfolding added words_row added_to
  not_added h = rw (first_word, ne_eqb (get_or t (i * 4) 0) 1 h)

  pub row_added : get_or t (i * 4) 0 ≡ 1
      → row (s.checkpoints + get_or t (i * 4 + 1) 0) (s.boundaries + get_or t (i * 4 + 2) 0) (s.held + get_or t (i * 4 + 3) 0) ≡ added s t i
  unfolding added words_row added_to plus
  row_added h =
      rw (first_word, eq-eqb (get_or t (i * 4) 0) 1 h, word_at t (i * 4) 1 (omega arith), word_at t (i * 4) 2 (omega arith), word_at t (i * 4) 3 (omega arith))

pub small_by : (n m : ℕ) (t : Row) → n ≤ m → Small n t → Small m t
small_by n m t h s = record { checkpoints = omega arith; boundaries = omega arith; held = omega arith }
