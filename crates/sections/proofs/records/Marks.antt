-- The hints of a table with their kept marks, asked one after another. Assumes nothing.
use mathlib.Core.Path.{◌≡◌, refl, sym, ◌∙◌}
use mathlib.Core.Bool.{Bool, true, false, ◌&&◌, and-true}
use mathlib.Core.List.{List, [], ◌∷◌}
use Prim.Native.Nat.{ℕ, zero, suc, ◌+◌, ◌*◌, ◌/◌, ◌<◌, ◌≤◌}
use native.Mathlib.Nat.{add-zero, zero-add, add_assoc}
use native.Mathlib.Numerals.{add-one}
use native.Mathlib.Omega.{arith}
use borrow.Author.Tests.{lt-ltb, le-ltb, eqb-true, lt-leb}
use lib.Dec.{eqb, leb, ltb}
use Rattle.field.specs.Records.{record_at}
use Rattle.field.proofs.Number.{number_join}
use Rattle.rules.specs.declared.Area.{Area}
use Rattle.rules.specs.declared.Hint.{Hint}
use Rattle.rules.specs.Tests.{all, each, walk}
use Rattle.rules.specs.Values.{lim}
use Rattle.rules.specs.Sections.{rising_ok, risen, rising, hint_lsn, hint_ok, hints_ok, is_kept, kept_count, mark_ok, marks_ok}
use Rattle.rules.specs.File.{decode_hint}
use Rattle.rules.proofs.Tests.{never, and_left, and_right}
use Rattle.tables.specs.Tables.{decode_kept, kept_in}
use Rattle.tables.proofs.Tests.{rising_is}
use Rattle.tables.proofs.Rest.{Rest, rest_start, rest_on, rest_stop, rest_end}

-- the hints that follow the LSN floor, where some are kept already
unfoldable pub held_from : ℕ → ℕ → ℕ → ℕ → List Hint → Bool
held_from end most floor kept hs =
    walk (rising_ok hint_lsn hint_ok end) (risen hint_lsn) floor hs && (each mark_ok hs && leb (kept + kept_count hs) (most / 4))

held_start : (a : Area) (most : ℕ) (hs : List Hint) → held_from a.end most a.start 0 hs ≡ (hints_ok a hs && marks_ok most hs)
unfolding held_from hints_ok rising marks_ok all
held_start a most hs = simp (and-true, zero-add)

held_end : (end most floor kept : ℕ) → held_from end most floor kept [] ≡ leb kept (most / 4)
unfolding held_from walk each kept_count
held_end end most floor kept = rw add-zero

-- a hint of a table, as a hint of a list: the number and the mark behind it
record Beside (h g : Hint) : Type 0 where
  lsn : g.lsn ≡ h.lsn
  number : g.number ≡ h.number + 16777216 * h.mark

beside : {h g : Hint} (t : List ℕ) (j : ℕ) → h ≡ record_at 8 decode_kept t j → g ≡ record_at 8 decode_hint t j → Beside h g
unfolding decode_kept decode_hint
beside t j e f = rw (e, f) (record { lsn = refl; number = number_join 3 1 _ 4 })

-- an LSN that does not rise or is past the end
no_lsn : (x y z : Bool) → (x && y) ≡ false → (x && (y && z)) ≡ false
no_lsn true true z e = never {b = true} refl e
no_lsn true false z e = refl
no_lsn false y z e = refl

-- a number or a mark that is refused
no_either : (x y n m w e l : Bool) → (n && m) ≡ false → (((x && (y && n)) && w) && ((m && e) && l)) ≡ false
no_either false y n m w e l q = refl
no_either true false n m w e l q = refl
no_either true true false m w e l q = refl
no_either true true true false false e l q = refl
no_either true true true false true e l q = refl
no_either true true true true w e l q = never {b = true} refl q

and_no : (b : Bool) → (b && false) ≡ false
and_no true = refl
and_no false = refl

by_mark : (m n g : ℕ) → g ≡ n + 16777216 * m → lim ≤ g → (eqb m 1 && ltb n lim) ≡ false → (ltb n lim && leb m 1) ≡ false
by_mark zero n g e l q = rw (le-ltb n lim (omega arith))
by_mark (suc zero) n g e l q = let z : ltb n lim ≡ false = q in rw z
by_mark (suc (suc m)) n g e l q = rw (lt-leb (suc (suc m)) 1 (omega arith)) (and_no (ltb n lim))

module _ (end most floor kept : ℕ) {h g : Hint} (b : Beside h g) (hs : List Hint) where
  lsn_no : (leb floor g.lsn && ltb g.lsn end) ≡ false → held_from end most floor kept (h ∷ hs) ≡ false
  unfolding held_from walk
  lsn_no q =
      let z : rising_ok hint_lsn hint_ok end floor h ≡ false =
      rising_is hint_lsn hint_ok end floor h ∙ no_lsn (leb floor h.lsn) (ltb h.lsn end) (hint_ok h) (rw b.lsn at q) in
      rw z

  mark_no : lim ≤ g.number → (eqb h.mark 1 && ltb h.number lim) ≡ false → held_from end most floor kept (h ∷ hs) ≡ false
  unfolding held_from walk each
  mark_no l q =
      rw (rising_is hint_lsn hint_ok end floor h)
      (no_either (leb floor h.lsn) (ltb h.lsn end) (ltb h.number lim) (leb h.mark 1) _ _ _ (by_mark h.mark h.number g.number b.number l q))

  module _ (r : (leb floor g.lsn && ltb g.lsn end) ≡ true) where
    rises : hint_ok h ≡ true → rising_ok hint_lsn hint_ok end floor h ≡ true
    rises n = rising_is hint_lsn hint_ok end floor h ∙ rw (n, and-true) (rw b.lsn at r)

    -- not kept
    held_on : g.number < lim → held_from end most floor kept (h ∷ hs) ≡ held_from end most (g.lsn + 1) kept hs
    unfolding held_from walk each kept_count is_kept
    held_on l =
        let n : g.number ≡ h.number + 16777216 * h.mark = b.number in
        let z : h.mark ≡ 0 = omega arith in
        let small : h.number < lim = omega arith in
        rw (rises (lt-ltb h.number lim small), z, b.lsn, add-one, zero-add)

    -- kept
    kept_on : (eqb h.mark 1 && ltb h.number lim) ≡ true → held_from end most floor kept (h ∷ hs) ≡ held_from end most (g.lsn + 1) (kept + 1) hs
    unfolding held_from walk each kept_count is_kept
    kept_on q =
        let z : h.mark ≡ 1 = eqb-true h.mark 1 (and_left (eqb h.mark 1) _ q) in
        rw (rises (and_right (eqb h.mark 1) (ltb h.number lim) q), z, b.lsn, add-one h.lsn, ← add_assoc kept 1 (kept_count hs))

-- ---- the loop: j hints are passed, so many of them kept, and the answer is to be x
pub record Asking (end most n : ℕ) (t : List ℕ) (x : Bool) (floor kept j : ℕ) : Type 0 where
  pub few : kept ≤ j
  pub rest : Rest 8 decode_kept n t (held_from end most floor kept) x j

pub asking_start : (a : Area) (most n : ℕ) (t : List ℕ) → Asking a.end most n t (hints_ok a (kept_in n t) && marks_ok most (kept_in n t)) a.start 0 0
asking_start a most n t =
    record { few = omega arith; rest = rw (← held_start a most (kept_in n t)) (rest_start 8 decode_kept n t (held_from a.end most a.start 0) 0 (omega arith)) }

module _ {end most n : ℕ} {t : List ℕ} {x : Bool} {floor kept j : ℕ} (k : Asking end most n t x floor kept j) where
  pub asking_end : n ≤ j → leb kept (most / 4) ≡ x
  asking_end l = sym (held_end end most floor kept) ∙ rest_end k.rest l

  module _ (l : j < n) {g : Hint} (f : g ≡ record_at 8 decode_hint t j) where
    pub stop_lsn : (leb floor g.lsn && ltb g.lsn end) ≡ false → false ≡ x
    stop_lsn q = rest_stop k.rest l refl (λ hs. lsn_no end most floor kept (beside t j refl f) hs q)

    pub on_plain : (leb floor g.lsn && ltb g.lsn end) ≡ true → g.number < lim → Asking end most n t x (g.lsn + 1) kept (j + 1)
    on_plain r m =
        record { few = let p = k.few in omega arith; rest = rest_on k.rest _ l refl (λ hs. held_on end most floor kept (beside t j refl f) hs r m) }

    module _ {h : Hint} (e : h ≡ record_at 8 decode_kept t j) where
      pub stop_mark : lim ≤ g.number → (eqb h.mark 1 && ltb h.number lim) ≡ false → false ≡ x
      stop_mark m q = rest_stop k.rest l e (λ hs. mark_no end most floor kept (beside t j e f) hs m q)

      pub on_kept : (leb floor g.lsn && ltb g.lsn end) ≡ true → (eqb h.mark 1 && ltb h.number lim) ≡ true
          → Asking end most n t x (g.lsn + 1) (kept + 1) (j + 1)
      on_kept r q =
          record { few = let p = k.few in omega arith; rest = rest_on k.rest _ l e (λ hs. kept_on end most floor kept (beside t j e f) hs r q) }
