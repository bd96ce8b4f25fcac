-- Do the numbers of a list fit the types that its records give them? Only those that questions 1, 2 and 4 leave open.
use Rattle.std.specs.Prelude.{ℕ, Bool, true, [], ◌∷◌, leb, ltb, Option, None, Some}
use Rattle.std.specs.Int.Signed.{mag}
use Rattle.rules.specs.declared.AreaKey.{AreaKey}
use Rattle.rules.specs.Tests.{all, each}
use Rattle.rules.specs.Values.{Frame, Scan, Hinting, Index, max32, max64, stated}

unfoldable pub key_sized : AreaKey → Bool
key_sized k = all (leb k.start max32 ∷ leb k.end max32 ∷ leb k.channels 255 ∷ leb k.sectors max64 ∷ [])

-- bytes
unfoldable pub frame_sized : Frame → Bool
frame_sized f = each (λ b. ltb b 256) f.bytes

-- digests of 64 bits, and a signed remaining of 32
unfoldable pub scan_sized : Scan → Bool
scan_sized x =
    all (key_sized x.area.key ∷ each (λ c. leb c.digest max64) x.checkpoints ∷ each frame_sized x.frames
    ∷ each (λ p. ltb (mag p.remaining) 2147483648) x.parts ∷ [])

unfoldable pub known_sized : Option ℕ → Bool
known_sized None = true
known_sized (Some v) = leb v max64

unfoldable pub hinting_sized : Hinting → Bool
hinting_sized r = all (leb r.spacing max32 ∷ each (λ c. leb c.digest max64) r.confirmed ∷ [])

unfoldable pub sized : Index → Bool
sized x = all (scan_sized x.scan ∷ hinting_sized x.hinting ∷ known_sized (stated x.fingerprint) ∷ [])
