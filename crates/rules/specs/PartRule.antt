-- Document 01, "Held part": which parts are stored, and how.
use Rattle.std.specs.Prelude.{ℕ, ◌+◌, ◌-◌, ℤ, Bool, ◌||◌, cond, List, [], ◌∷◌, ◌++◌, eqb, leb, ltb, length, drop, set}
use Rattle.rules.specs.declared.FrameKind.{FrameKind}
use Rattle.rules.specs.declared.Held.{Held}
use Rattle.rules.specs.Tests.{all, agrees, last_or}
use Rattle.rules.specs.Values.{Frame, max_frame, no_frame, no_held, frame_at, part_bytes, used, same_kind}

-- frames and parts together (Stored)
pub record Stored : Type 0 where
  pub frames : List Frame
  pub parts : List Held

-- a part as it is handed over: for checkpoint number at, of a frame that started in sector start
pub record Piece : Type 0 where
  pub at : ℕ
  pub start : ℕ
  pub bytes : List ℕ
  pub number : ℕ
  pub kind : FrameKind
  pub remaining : ℤ

-- question 4 makes the last frame that of the last part
abbrev pub last_frame : Stored → Frame
last_frame h = last_or no_frame h.frames

abbrev pub last_part : Stored → Held
last_part h = last_or no_held h.parts

-- the last stored part, if any, starts earlier
unfoldable pub opens : Stored → Piece → Bool
opens h p = eqb (length h.parts) 0 || ltb (last_frame h).start p.start

-- or starts at the same sector with the same number and kind, no more bytes, and the new bytes agree with the frame's held bytes
unfoldable pub joins : Stored → Piece → Bool
joins h p =
    all (eqb (last_frame h).start p.start ∷ eqb (last_part h).number p.number ∷ same_kind (last_part h).kind p.kind
    ∷ leb (last_part h).len (length p.bytes) ∷ agrees eqb (last_frame h).bytes p.bytes ∷ [])

-- the bytes that the part adds, shared bytes counted once: none where the frame holds no fewer
unfoldable pub growth : Stored → Piece → ℕ
growth h p = cond (opens h p) (length p.bytes) (length p.bytes - length (last_frame h).bytes)

-- is the part stored?
unfoldable pub stores : ℕ → Stored → Piece → Bool
stores budget h p = all (leb (length p.bytes) max_frame ∷ leb (used h.frames + growth h p) budget ∷ (opens h p || joins h p) ∷ [])

abbrev pub part_of : Piece → ℕ → Held
part_of p f = record { at = p.at; frame = f; len = length p.bytes; number = p.number; kind = p.kind; remaining = p.remaining }

-- with a frame of its own
abbrev pub opened : Stored → Piece → Stored
opened h p =
    record {
      frames = h.frames ++ (record { start = p.start; bytes = p.bytes } ∷ []);
      parts = h.parts ++ (part_of p (length h.frames) ∷ []);
    }

-- in the last frame, which holds the longer of the two; by question 4 there is one where there is a part
abbrev pub grown : Stored → Piece → Stored
grown h p =
    record {
      frames =
          set h.frames (length h.frames - 1)
          (record { start = (last_frame h).start; bytes = (last_frame h).bytes ++ drop (length (last_frame h).bytes) p.bytes });
      parts = h.parts ++ (part_of p (length h.frames - 1) ∷ []);
    }

-- stored, or passed over
unfoldable pub add_part : ℕ → Stored → Piece → Stored
add_part budget h p = cond (stores budget h p) (cond (opens h p) (opened h p) (grown h p)) h

-- a part of frames fs, as it is handed over; by question 4 its frame is there and has its bytes
abbrev pub piece : List Frame → Held → Piece
piece fs p =
    record {
      at = p.at;
      start = (frame_at fs p.frame).start;
      bytes = part_bytes fs p;
      number = p.number;
      kind = p.kind;
      remaining = p.remaining;
    }

-- h with those of the parts ps, of frames fs, that belong to checkpoint number n or later, in their order
unfoldable pub add_parts : ℕ → List Frame → ℕ → List Held → Stored → Stored
add_parts budget fs n [] h = h
add_parts budget fs n (p ∷ ps) h = add_parts budget fs n ps (cond (ltb p.at n) h (add_part budget h (piece fs p)))
