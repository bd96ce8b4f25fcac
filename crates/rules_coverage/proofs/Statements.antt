-- Totals are sums, and lines are what they say. Assumes nothing.
use Rattle.std.specs.Prelude.{Option, None, Some}
use Prim.Native.Nat.{ℕ, suc, ◌+◌, ◌*◌, ◌≤◌, ◌<◌}
use mathlib.Core.Path.{◌≡◌, refl, sym, ap, ◌∙◌}
use mathlib.Core.Bool.{true, ◌&&◌}
use mathlib.Core.List.{List, [], ◌∷◌, ◌++◌}
use native.Mathlib.Nat.{div-mul-le_self, lt-div-mul-add, add-mul, one-mul}
use native.Mathlib.Omega.{arith}
use borrow.Author.Tests.{eqb-true, eq-eqb, ne_eqb, leb-true, leb-false}
use lib.Dec.{eqb, leb}
use lib.ListN.{length, take, length-append, length-take}
use lib.Seq.{take_all}
use Rattle.rules.specs.Tests.{all, Answer, Refused, Accepted}
use Rattle.rules.proofs.Tests.{test, all→, and_left, and_right}
use Rattle.rules_coverage.specs.declared.Row.{Row}
use Rattle.rules_coverage.specs.Lines.{Line, on_first, words_of, between, is_name, is_number, value_from, line_from, line_of}
use Rattle.rules_coverage.specs.Coverage.{row, plus, coverage, totals}
use Rattle.rules_coverage.specs.Statements.{accepted_rows, sum_of, TotalsAreSums, TotalCoverage, Written, NameBack, LongLines}

-- ---- totals
module _ (f : Row → ℕ) (none_yet : f (row 0 0 0) ≡ 0) (adds : (r s : Row) → f (plus r s) ≡ f r + f s) where
  sum_of_lemma : (rs : List (Answer Row)) → f (totals rs) ≡ sum_of f (accepted_rows rs)
  unfolding totals accepted_rows sum_of
  sum_of_lemma [] = none_yet
  sum_of_lemma (Refused n ∷ rs) = sum_of_lemma rs
  sum_of_lemma (Accepted r ∷ rs) = adds r (totals rs) ∙ ap (λ n. f r + n) (sum_of_lemma rs)

pub totals_are_sums : TotalsAreSums
unfolding plus
totals_are_sums =
    record {
      checkpoints = sum_of_lemma (λ r. r.checkpoints) refl (λ r s. refl);
      boundaries = sum_of_lemma (λ r. r.boundaries) refl (λ r s. refl);
      held = sum_of_lemma (λ r. r.held) refl (λ r s. refl);
    }

covered_low : (r : Row) → 0 < r.boundaries → coverage r * r.boundaries ≤ r.checkpoints * 10000
unfolding coverage
covered_low r h = rw (ne_eqb r.boundaries 0 (omega arith)) (div-mul-le_self (r.checkpoints * 10000) r.boundaries)

covered_high : (r : Row) → 0 < r.boundaries → r.checkpoints * 10000 < (coverage r + 1) * r.boundaries
unfolding coverage
covered_high r h = rw (ne_eqb r.boundaries 0 (omega arith), add-mul, one-mul) (lt-div-mul-add h)

covered_none : (r : Row) → r.boundaries ≡ 0 → coverage r ≡ 10000
unfolding coverage
covered_none r h = rw (eq-eqb r.boundaries 0 h)

pub total_coverage : TotalCoverage
total_coverage =
    record {
      without = λ rs h. covered_none (totals rs) (totals_are_sums.boundaries rs ∙ h);
      low = λ rs h. rw (← totals_are_sums.boundaries rs, ← totals_are_sums.checkpoints rs) (covered_low (totals rs) (rw (totals_are_sums.boundaries rs) h));
      high = λ rs h. rw (← totals_are_sums.boundaries rs, ← totals_are_sums.checkpoints rs) (covered_high (totals rs) (rw (totals_are_sums.boundaries rs) h));
    }

-- ---- words joined by spaces
abbrev join_from : List ℕ → List (List ℕ) → List ℕ
join_from w [] = w
join_from w (v ∷ vs) = w ++ (32 ∷ join_from v vs)

join_more : (b : ℕ) (w : List ℕ) (ws : List (List ℕ)) → join_from (b ∷ w) ws ≡ b ∷ join_from w ws
join_more b w [] = refl
join_more b w (v ∷ vs) = refl

record Joined (s : List ℕ) : Type 0 where
  first : List ℕ
  rest : List (List ℕ)
  words : words_of s ≡ first ∷ rest
  back : join_from first rest ≡ s

joined : (s : List ℕ) → Joined s
unfolding words_of on_first
joined [] = record { first = []; rest = []; words = refl; back = refl }
joined (b ∷ s) =
    let j = joined s in
    test (eqb b 32) (λ e. record { first = []; rest = j.first ∷ j.rest; words = rw (e, j.words); back = rw (j.back, eqb-true b 32 e) })
    (λ e. record { first = b ∷ j.first; rest = j.rest; words = rw (e, j.words); back = join_more b j.first j.rest ∙ ap (◌∷◌ b) j.back })

no_line : {A : Type 0} {l : Line} → None ≡ Some l → A
no_line e = let z : ◌≡◌ {A = ℕ} 0 1 = cc in let f : ⊥ = omega arith in absurd f

back_from : (w : List ℕ) (ws : List (List ℕ)) (l : Line) → line_from (w ∷ ws) ≡ Some l → Written (join_from w ws) l
unfolding line_from all
back_from w [] l e = no_line e
back_from w (x ∷ []) l e = no_line e
back_from w (x ∷ y ∷ z ∷ zs) l e = no_line (rw (ne_eqb (suc (suc (suc (suc (length zs))))) 3 (omega arith)) at e)
back_from w (x ∷ y ∷ []) l e =
    test (all (true ∷ is_name w ∷ is_number x ∷ is_number y ∷ []))
    (λ t.
    let q : ◌≡◌ {A = Option Line} (Some (record { name = w; start = value_from 0 x; end = value_from 0 y })) (Some l) = rw t at e in
    let g = all→ (true ∷ is_name w ∷ is_number x ∷ is_number y ∷ []) t in
    let n : w ≡ l.name = cc in
    record { first = x; last = y; is = rw n; name = rw n at g.1.0; start = (g.1.1.0, cc); end = (g.1.1.1.0, cc) })
    (λ t. no_line (rw t at e))

pub name_back : NameBack
unfolding line_of
name_back s l e = let j = joined s in rw j.back at (back_from j.first j.rest l (rw j.words at e))

-- ---- long lines
name_short : (w : List ℕ) → is_name w ≡ true → length w ≤ 255
unfolding is_name between
name_short w e = leb-true (length w) 255 (and_right (leb 1 (length w)) (leb (length w) 255) (and_left (leb 1 (length w) && leb (length w) 255) _ e))

number_short : (w : List ℕ) → is_number w ≡ true → length w ≤ 10
unfolding is_number between
number_short w e = leb-true (length w) 10 (and_right (leb 1 (length w)) (leb (length w) 10) (and_left (leb 1 (length w) && leb (length w) 10) _ e))

right_short : (s : List ℕ) (l : Line) → line_of s ≡ Some l → length s ≤ 277
right_short s l e =
    let w = name_back s l e in
    let n = name_short l.name w.name in
    let a = number_short w.first w.start.0 in
    let b = number_short w.last w.end.0 in
    let i = ap length w.is in
    let j = length-append l.name (32 ∷ (w.first ++ (32 ∷ w.last))) in
    let k = length-append w.first (32 ∷ w.last) in
    omega arith

long_none : (s : List ℕ) → 277 < length s → (o : Option Line) → line_of s ≡ o → o ≡ None
long_none s h None e = refl
long_none s h (Some l) e = let f : ⊥ = omega (arith, right_short s l e) in absurd f

long_broken : (s : List ℕ) → 277 < length s → line_of s ≡ None
long_broken s h = long_none s h (line_of s) refl

cut_same : (s : List ℕ) → line_of (take 278 s) ≡ line_of s
cut_same s =
    test (leb (length s) 277) (λ t. ap line_of (take_all 278 s (omega (arith, leb-true (length s) 277 t))))
    (λ t.
    let h = leb-false (length s) 277 t in
    let l = length-take 278 s in
    long_broken (take 278 s) (omega arith) ∙ sym (long_broken s h))

pub long_lines : LongLines
long_lines = record { broken = long_broken; cut = cut_same }
