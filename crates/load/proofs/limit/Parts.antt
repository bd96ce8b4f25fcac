-- The parts of a file that stay. Assumes nothing.
use mathlib.Core.Path.{◌≡◌, sym, ◌∙◌}
use Prim.Native.Nat.{ℕ, suc, ◌+◌, ◌*◌, ◌<◌, ◌≤◌}
use mathlib.Core.List.{List}
use native.Mathlib.Nat.{add-zero}
use native.Mathlib.Omega.{arith}
use borrow.Author.Tests.{lt-ltb, le-ltb}
use lib.ListN.{length, drop, length-drop, drop_of_length-le}
use Rattle.field.specs.Records.{record_at}
use Rattle.field.proofs.Records.{records_length}
use Rattle.rules.specs.declared.Held.{Held}
use Rattle.rules.specs.File.{decode_held}
use Rattle.rules.specs.Load.{within}
use Rattle.tables.specs.Tables.{parts_in}
use Rattle.tables.proofs.Walk.{records_turn}

-- the first j of h parts stay, and r are to
pub record Staying (t : List ℕ) (h n r j : ℕ) : Type 0 where
  pub upto : j ≤ h
  pub rest : j + length (within n (drop j (parts_in h t))) ≡ r

module _ {t : List ℕ} {h n r j : ℕ} (k : Staying t h n r j) where
  pub stay_on : {p : Held} → j < h → p ≡ record_at 24 decode_held t j → p.frame < n → Staying t h n r (j + 1)
  unfolding within
  stay_on {p} l e g =
      let q : j + suc (length (within n (drop (j + 1) (parts_in h t)))) ≡ r =
      rw (records_turn 24 decode_held h t j l, ← e, lt-ltb p.frame n g) at k.rest in
      record { upto = omega arith; rest = omega arith }

  pub stay_stop : {p : Held} → j < h → p ≡ record_at 24 decode_held t j → n ≤ p.frame → j ≡ r
  unfolding within
  stay_stop {p} l e g = sym (add-zero j) ∙ (rw (records_turn 24 decode_held h t j l, ← e, le-ltb p.frame n g) at k.rest)

  pub stay_end : h ≤ j → h ≡ r
  unfolding within
  stay_end g =
      let l : length (parts_in h t) ≤ j = rw records_length g in
      let q : h ≡ j = omega (arith, k.upto) in
      q ∙ sym (add-zero j) ∙ (rw (drop_of_length-le (parts_in h t) l) at k.rest)

-- the bytes behind at have the h parts
pub part_room : {t : List ℕ} (b : List ℕ) (at h j : ℕ) → t ≡ drop at b → at + h * 24 ≤ length b → j < h → j * 24 + 24 ≤ length t
part_room b at h j e l g = rw (e, length-drop) (omega arith)
