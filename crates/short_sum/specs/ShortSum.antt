-- Change request 8: short sums and folded sums.
use Rattle.std.specs.Prelude.{ℕ, ◌+◌, ◌/◌, ◌%◌, ◌^◌, List, Bool, ◌&&◌, cond, leb, ltb}
use Rattle.std.specs.Int.Bits.{bit_xor}
use Rattle.fnv.specs.Fnv.{fnv_from}
use Rattle.short_sum.specs.declared.Folded.{Folded}
use Rattle.short_sum.specs.declared.Folded.TheVariants.{Refused, Sum}

-- the 32-bit prime and offset basis
abbrev pub prime32 : ℕ
prime32 = 0x01000193

abbrev pub basis32 : ℕ
basis32 = 0x811c9dc5

-- the short sum of bytes
abbrev pub fnv32 : List ℕ → ℕ
fnv32 s = fnv_from 32 prime32 basis32 s

-- the sum shifted right by k, xored with the sum modulo 2 ^ k
abbrev pub folded : ℕ → ℕ → ℕ
folded k s = bit_xor (s / 2 ^ k) (s % 2 ^ k)

-- 49: is k at least half the width, w ≤ 2 × k, and at most the width less one?
unfoldable pub question49 : ℕ → ℕ → Bool
question49 w k = leb w (k + k) && ltb k w

-- a sum of w bits folded down to k bits, or 49
unfoldable pub fold : ℕ → ℕ → ℕ → Folded
fold w k s = cond (question49 w k) (Sum (folded k s)) (Refused 49)
