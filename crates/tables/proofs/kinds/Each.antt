-- A test of each record, as a walk with no state. Assumes nothing.
use mathlib.Core.Path.{◌≡◌, refl}
use mathlib.Core.Bool.{Bool, true, false}
use mathlib.Core.List.{List, [], ◌∷◌}
use Prim.Native.Nat.{ℕ, ◌+◌, ◌*◌, ◌<◌, ◌≤◌}
use borrow.Author.Tests.{le-leb, lt-leb}
use lib.Dec.{leb}
use Rattle.field.specs.Number.{number_at}
use Rattle.field.specs.Records.{records, record_at}
use Rattle.field.proofs.Number.{number_part}
use Rattle.rules.specs.Tests.{each, walk}
use Rattle.tables.specs.Index.{kinds_ok}

-- with no state
abbrev pub still : {A : Type 0} → (A → Bool) → ℕ → A → Bool
still p s x = p x

abbrev pub same : {A : Type 0} → ℕ → A → ℕ
same s x = s

pub each_walk : {A : Type 0} (p : A → Bool) (s : ℕ) (xs : List A) → walk (still p) same s xs ≡ each p xs
unfolding each walk
each_walk p s [] = refl
each_walk p s (x ∷ xs) = rw (each_walk p s xs)

-- the kind of a part is 0 or 1
abbrev pub kind_ok : List ℕ → Bool
kind_ok b = leb (number_at 4 b 20) 1

abbrev pub itself : List ℕ → List ℕ
itself b = b

pub kinds_are : (h : ℕ) (t : List ℕ) → walk (still kind_ok) same 0 (records 24 itself h t) ≡ kinds_ok h t
unfolding kinds_ok
kinds_are h t = each_walk kind_ok 0 (records 24 itself h t)

pub kind_no : {v : ℕ} (t : List ℕ) (j : ℕ) → v ≡ number_at 4 t (j * 24 + 20) → 1 < v → kind_ok (record_at 24 itself t j) ≡ false
kind_no t j e h = rw (number_part 4 24 (j * 24) 20 t refl, ← e) (lt-leb _ _ h)

pub kind_yes : {v : ℕ} (t : List ℕ) (j : ℕ) → v ≡ number_at 4 t (j * 24 + 20) → v ≤ 1 → kind_ok (record_at 24 itself t j) ≡ true
kind_yes t j e h = rw (number_part 4 24 (j * 24) 20 t refl, ← e) (le-leb _ _ h)
