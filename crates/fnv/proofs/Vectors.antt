-- The vectors of draft-eastlake-fnv for FNV-1a at 32 and 64 bits, in one table, evaluated.
use Rattle.std.proofs.Common.{◌≡◌, ℕ, Bool, true, ◌&&◌, eqb, List, [], ◌∷◌, refl}
use Rattle.fnv.specs.Fnv.{fnv_from, fnv64}

-- bytes, with their hash at 32 and at 64 bits
record Vector : Type 0 where
  bytes : List ℕ
  at32 : ℕ
  at64 : ℕ

-- the 32-bit prime and offset basis
prime32 : ℕ
prime32 = 0x01000193

basis32 : ℕ
basis32 = 0x811c9dc5

right : Vector → Bool
right v = eqb (fnv_from 32 prime32 basis32 v.bytes) v.at32 && eqb (fnv64 v.bytes) v.at64

all_right : List Vector → Bool
all_right [] = true
all_right (v ∷ vs) = right v && all_right vs

-- nothing, "a", "foobar", and "Hello!" with the bytes 01 FF ED
vectors : List Vector
vectors =
    record { bytes = []; at32 = 0x811c9dc5; at64 = 0xcbf29ce484222325 }
    ∷ record { bytes = 97 ∷ []; at32 = 0xe40c292c; at64 = 0xaf63dc4c8601ec8c }
    ∷ record { bytes = 102 ∷ 111 ∷ 111 ∷ 98 ∷ 97 ∷ 114 ∷ []; at32 = 0xbf9cf968; at64 = 0x85944171f73967e8 }
    ∷ record {
      bytes = 72 ∷ 101 ∷ 108 ∷ 108 ∷ 111 ∷ 33 ∷ 0x01 ∷ 0xff ∷ 0xed ∷ [];
      at32 = 0xfd9d3881;
      at64 = 0xbd51ea7094ee6fa1;
    }
    ∷ []

vectors_right : all_right vectors ≡ true
unfolding fnv_from all_right right vectors prime32 basis32
vectors_right = refl
