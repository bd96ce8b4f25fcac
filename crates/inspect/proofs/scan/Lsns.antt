-- Records of a section of which not all need be there. Assumes nothing.
use mathlib.Core.Path.{◌≡◌, ◌∙◌}
use mathlib.Core.Bool.{Bool, true, false, not}
use mathlib.Core.List.{List}
use Prim.Native.Nat.{ℕ, ◌+◌, ◌*◌, ◌-◌, ◌<◌, ◌≤◌}
use native.Mathlib.Omega.{arith}
use borrow.Author.Tests.{not-true, not-false}
use lib.Dec.{eqb}
use lib.ListN.{length, drop, length-drop}
use Rattle.field.specs.Records.{records}
use Rattle.rules.specs.Tests.{walk}
use Rattle.rules.specs.Load.{read_each, read_record}
use Rattle.tables.proofs.Reading.{read_all, read_short}
use Rattle.inspect.specs.declared.cursor.Cursor.{Cursor}
use Rattle.inspect.specs.declared.scan.Taken.TheVariants as taken
use Rattle.inspect.specs.Cursors.{to}
use Rattle.inspect.specs.Behind.{behind}
use Rattle.inspect.specs.Steps.{taken_of}
use Rattle.inspect.proofs.Left.{behind_is}
use native.Mathlib.Nat.{eq-or-lt_of_le}
use mathlib.Core.Logic.{⊎_elim}

-- m of n records of w bytes are there in b, the body s from at on; t is the answer of the walk over those
module _ {S A : Type 0} (w : ℕ) (f : List ℕ → A) (ok : S → A → Bool) (next : S → A → S) (k : ℕ) (other : eqb k 0 ≡ false) (m n : ℕ) (i : S) (s : List ℕ) (at : ℕ) (z : at ≤ length s)
    {b : List ℕ} (c : b ≡ drop at s) (h : m ≤ n) (l : m * w ≤ length b) (g : m < n → length b < m * w + w) {t : Bool} (e : t ≡ walk ok next i (records w f m b)) where
  pub taken_no : not t ≡ true → taken.Refused k ≡ taken_of s (read_each (read_record w f ok k) next n i (drop at s))
  unfolding taken_of
  taken_no y =
      ⊎_elim
      (λ (q : m ≡ n). rw (← c, ← q, read_all w f ok next k other m i b l, ← e, not-true t y))
      (λ (q : m < n). rw (← c, read_short w f ok next k other m n i b q l (g q), ← e, not-true t y))
      (eq-or-lt_of_le h)

  pub taken_short : not t ≡ false → m < n → taken.Refused 20 ≡ taken_of s (read_each (read_record w f ok k) next n i (drop at s))
  unfolding taken_of
  taken_short y q = rw (← c, read_short w f ok next k other m n i b q l (g q), ← e, not-false t y)

  -- where all are there
  pub taken_room : n ≤ m → at + n * w ≤ length s
  taken_room q = let j : m ≡ n = omega arith in let r : m * w ≤ length s - at = rw (c, length-drop) at l in rw (← j) (omega arith)

  pub taken_all : not t ≡ false → n ≤ m → {d : Cursor} → d ≡ to (at + n * w) → taken.Behind d ≡ taken_of s (read_each (read_record w f ok k) next n i (drop at s))
  unfolding taken_of
  taken_all y q p =
      let j : m ≡ n = omega arith in
      let r : taken.Behind (to (at + n * w)) ≡ taken.Behind (behind s (drop (n * w) (drop at s))) = rw (← behind_is s at (n * w) (taken_room q)) in
      rw p (r ∙ rw (← c, ← j, read_all w f ok next k other m i b l, ← e, not-false t y))
