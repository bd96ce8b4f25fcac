-- FNV-1a at a width of w bits with the prime p: document 01, "Sum".
use Rattle.std.specs.Prelude.{ℕ, ◌*◌, ◌%◌, ◌^◌, List, [], ◌∷◌, bit_xor}

-- one byte: it is xored into the hash, and the result is multiplied by the prime, modulo 2 ^ w; bit_xor goes through
-- the digits of its first number, of which a byte has eight
abbrev pub fnv_step : ℕ → ℕ → ℕ → ℕ → ℕ
fnv_step w p h b = bit_xor b h * p % 2 ^ w

-- the hash of the bytes, from h
unfoldable pub fnv_from : ℕ → ℕ → ℕ → List ℕ → ℕ
fnv_from w p h [] = h
fnv_from w p h (b ∷ bs) = fnv_from w p (fnv_step w p h b) bs

-- the 64-bit prime and offset basis
abbrev pub prime64 : ℕ
prime64 = 0x0100000001b3

abbrev pub basis64 : ℕ
basis64 = 0xcbf29ce484222325

-- 01's sum of bytes: their 64-bit FNV-1a
abbrev pub fnv64 : List ℕ → ℕ
fnv64 s = fnv_from 64 prime64 basis64 s
