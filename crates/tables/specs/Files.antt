-- Frames as they lie in a file.
use Rattle.std.specs.Prelude.{List, [], ◌∷◌, ℕ, zero, suc, ◌+◌, length, take, drop}
use Rattle.field.specs.Number.{number_at}
use Rattle.rules.specs.Values.{Frame}
use Rattle.rules.specs.Sections.{Filled, filled}

-- what a frame that was read adds
abbrev pub frame_next : Filled → Frame → Filled
frame_next s f = filled s f.start (length f.bytes)

-- where frame number i begins in b, if the first begins at at
unfoldable pub place_at : List ℕ → ℕ → ℕ → ℕ
place_at b at zero = at
place_at b at (suc i) = place_at b at i + 8 + number_at 4 b (place_at b at i + 4)

-- n things in bytes: v reads each, and follows is what it leaves
unfoldable pub each_read : {A : Type 0} → (List ℕ → A) → (List ℕ → List ℕ) → ℕ → List ℕ → List A
each_read v follows zero b = []
each_read v follows (suc n) b = v b ∷ each_read v follows n (follows b)

-- the bytes behind them
unfoldable pub behind_each : (List ℕ → List ℕ) → ℕ → List ℕ → List ℕ
behind_each follows zero b = b
behind_each follows (suc n) b = behind_each follows n (follows b)

-- a frame in bytes: start, length and as many bytes
abbrev pub frame_here : List ℕ → Frame
frame_here b = record { start = number_at 4 b 0; bytes = take (number_at 4 b 4) (drop 8 b) }

abbrev pub frame_follows : List ℕ → List ℕ
frame_follows b = drop (number_at 4 b 4) (drop 8 b)

abbrev pub frames_read : ℕ → List ℕ → List Frame
frames_read f b = each_read frame_here frame_follows f b
