-- Laws of records that are read: signed numbers, a held part. Assumes nothing.
use mathlib.Core.Path.{◌≡◌, refl}
use mathlib.Core.List.{List}
use Prim.Native.Nat.{ℕ, zero, suc, ◌+◌, ◌-◌, ◌<◌, ◌≤◌}
use native.Mathlib.Nat.{add-zero}
use native.Mathlib.Numerals.{add-one}
use native.Mathlib.Omega.{arith}
use borrow.Author.Tests.{eq-eqb, ne_eqb}
use lib.IntN.{ℤ}
use lib.ListN.{take, drop}
use Rattle.field.specs.Number.{number_at}
use Rattle.field.specs.Records.{records, record_at}
use Rattle.field.proofs.Number.{number_part, number_take}
use Rattle.field.proofs.Records.{records_length, records_at}
use Rattle.rules.specs.declared.Area.{Area}
use Rattle.rules.specs.declared.FrameKind.{FrameKind}
use Rattle.rules.specs.declared.Held.{Held}
use Rattle.rules.specs.Tests.{walk, last_or}
use Rattle.rules.specs.Values.{no_held}
use Rattle.rules.specs.Sections.{reached, rising_ok, risen, rising, hint_lsn, hint_ok, hints_ok, confirmed_lsn, confirmation_ok, confirmations_ok}
use Rattle.rules.specs.File.{kind_of, signed32, decode_held, decode_hint, decode_confirmation}
use Rattle.tables.specs.Tables.{parts_in, confirmations_in}

-- ---- a held part
pub held_made : {at frame len number v u : ℕ} {kind : FrameKind} {remaining : ℤ} (t : List ℕ) (i : ℕ)
    → at ≡ number_at 4 t i → frame ≡ number_at 4 t (i + 4) → len ≡ number_at 4 t (i + 8) → number ≡ number_at 4 t (i + 12)
    → v ≡ number_at 4 t (i + 20) → kind ≡ kind_of v → u ≡ number_at 4 t (i + 16) → remaining ≡ signed32 u
    → record { at = at; frame = frame; len = len; number = number; kind = kind; remaining = remaining } ≡ decode_held (take 24 (drop i t))
unfolding decode_held
held_made t i a b c d e f g h = simp (number_part, add-zero) (rw (a, b, c, d, f, e, h, g))

-- ---- how far parts reach
pub reached_none : (h : ℕ) (t : List ℕ) → h ≡ 0 → 0 ≡ reached (parts_in h t)
unfolding reached
reached_none h t e = rw (records_length 24 decode_held h t, eq-eqb h 0 e)

pub reached_some : {p : Held} (h : ℕ) (t : List ℕ) → (h ≡ 0 → ⊥) → p ≡ record_at 24 decode_held t (h - 1) → p.frame + 1 ≡ reached (parts_in h t)
unfolding reached last_or
reached_some h t n e =
    let l : h - 1 < h = omega arith in
    rw (records_length 24 decode_held h t, ne_eqb h 0 n, records_at 24 decode_held h t (h - 1) no_held l, e, add-one)

-- ---- hints, and confirmations as hints
pub hint_take : (w : ℕ) (b : List ℕ) → 8 ≤ w → decode_hint b ≡ decode_hint (take w b)
unfolding decode_hint
hint_take w b h = rw (number_take 4 w b 0 (omega arith), number_take 4 w b 4 (omega arith))

rising_as : (n s end : ℕ) (t : List ℕ)
    → walk (rising_ok hint_lsn hint_ok end) (risen hint_lsn) s (records 16 decode_hint n t) ≡ walk (rising_ok confirmed_lsn confirmation_ok end) (risen confirmed_lsn) s (records 16 decode_confirmation n t)
unfolding walk records decode_hint decode_confirmation rising_ok
rising_as zero s end t = refl
rising_as (suc n) s end t = rw (rising_as n (suc (number_at 4 (take 16 t) 0)) end (drop 16 t))

pub confirmations_as : (a : Area) (n : ℕ) (t : List ℕ) → hints_ok a (records 16 decode_hint n t) ≡ confirmations_ok a (confirmations_in n t)
unfolding hints_ok confirmations_ok rising
confirmations_as a n t = rising_as n a.start a.end t
