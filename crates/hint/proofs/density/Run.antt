-- The last hint of a run, one hint after another. Assumes nothing.
use Rattle.std.proofs.Common.{◌≡◌, ℕ, ◌<◌, ◌≤◌, cond, ◌&&◌, ltb, List, [], ◌∷◌, refl, le-ltb, lt-ltb, Option, None, Some}
use Rattle.rules.specs.declared.Hint.{Hint}
use Rattle.rules.specs.Hints.{run_from, or_hint}
use Rattle.rules.proofs.Tests.{test}

-- the last of the run of hs numbered above t and below end; last where there is none
unfoldable pub run_last : ℕ → ℕ → Hint → List Hint → Hint
run_last t end last [] = last
run_last t end last (h ∷ hs) = cond (ltb t h.number && ltb h.number end) (run_last t end h hs) last

-- it is that of the rules
last_from : (t end : ℕ) (h : Hint) (o : Option Hint) (hs : List Hint)
    → run_last t end (or_hint h o) hs ≡ or_hint h (run_from t end o hs)
unfolding run_last run_from or_hint
last_from t end h o [] = refl
last_from t end h o (x ∷ hs) =
    test (ltb t x.number && ltb x.number end) (λ e. rw e (last_from t end h (Some x) hs)) (λ e. rw e)

pub last_is : (t end : ℕ) (h : Hint) (hs : List Hint) → run_last t end h hs ≡ or_hint h (run_from t end None hs)
unfolding or_hint
last_is t end h hs = last_from t end h None hs

-- ---- a turn
module _ (t end : ℕ) (last s : Hint) (hs : List Hint) where
  pub run_low : s.number ≤ t → run_last t end last (s ∷ hs) ≡ last
  unfolding run_last
  run_low l = rw (le-ltb t s.number l)

  pub run_high : end ≤ s.number → run_last t end last (s ∷ hs) ≡ last
  unfolding run_last
  run_high l = test (ltb t s.number) (λ e. rw (e, le-ltb s.number end l)) (λ e. rw e)

  pub run_on : t < s.number → s.number < end → run_last t end last (s ∷ hs) ≡ run_last t end s hs
  unfolding run_last
  run_on l m = rw (lt-ltb t s.number l, lt-ltb s.number end m)

pub run_end : (t end : ℕ) (last : Hint) → last ≡ run_last t end last []
unfolding run_last
run_end t end last = refl
