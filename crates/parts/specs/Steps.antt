-- What the functions of parts need of each other.
use Rattle.std.specs.Prelude.{◌≡◌, Bool, true, cond, ◌&&◌, List, [], ◌∷◌, ◌++◌, ℕ, suc, ◌+◌, ◌-◌, ◌*◌, ◌≤◌, ◌<◌, min, eqb, leb, ltb, length, take, drop}
use Rattle.std.proofs.lemmas.List.Edits.{sets}
use Rattle.field.specs.Number.{encode}
use Rattle.rules.specs.declared.Held as declared
use Rattle.rules.specs.Tests.{agrees}
use Rattle.rules.specs.Values.{Frame, max_frame, frame_at, used, same_kind}
use Rattle.rules.specs.PartRule.{Piece, part_of, add_part}
use Rattle.rules.specs.File.{encode_held}
use Rattle.tables.specs.declared.FrameHeader.{FrameHeader}
use Rattle.tables.specs.Tables.{headers_in, frames_of, frames_in, parts_in}
use Rattle.tables.specs.Index.{kinds_ok}
use Rattle.parts.specs.declared.Counts.{Counts}
use Rattle.parts.specs.declared.Placed.{Placed}
use Rattle.parts.specs.Parts.{PartTables, part_tables, stored_in, Held, held, held_from}

-- the tables have the records that are counted, the store the budget; a held part has a frame
pub record CountsReady (budget : ℕ) (c : Counts) (t : PartTables) : Type 0 where
  pub frames : c.frames * 8 ≤ length t.frames
  pub parts : c.parts * 24 ≤ length t.parts
  pub store : budget ≤ length t.store
  pub bytes : c.used ≡ used (frames_in c.frames t.frames t.store)
  pub fits : c.used ≤ budget
  pub some : 1 ≤ c.parts → 1 ≤ c.frames

-- and have space for n more; kinds are 0 or 1
pub record Room (n budget : ℕ) (c : Counts) (t : PartTables) : Type 0 where
  pub ready : CountsReady budget c t
  pub kinds : kinds_ok c.parts t.parts ≡ true
  pub frames : (c.frames + n) * 8 ≤ length t.frames
  pub parts : (c.parts + n) * 24 ≤ length t.parts
  pub few : (c.frames + n < 4294967296) × (c.parts + n < 4294967296)

-- joins of the part rule, by the last frame's header and the last part; the last frame's bytes end where the store is
-- used up
unfoldable pub joins_in : Counts → FrameHeader → declared.Held → List ℕ → Piece → Bool
joins_in c last q store p =
    eqb last.start p.start
    && ((eqb q.number p.number && (same_kind q.kind p.kind && leb q.len (length p.bytes)))
    && agrees eqb (take last.len (drop (c.used - last.len) store)) p.bytes)

-- where a part of n bytes goes, if the last of f frames has l: into a frame of its own, or into the last
unfoldable pub placed_in : ℕ → Bool → ℕ → ℕ → Placed
placed_in f new l n =
    cond new (record { frame = f; from = 0; len = n; frames = f + 1 })
    (record { frame = f - 1; from = min l n; len = l + (n - l); frames = f })

-- what is written for a part that goes to a place
unfoldable pub put_in : Counts → Placed → Piece → PartTables → Held
put_in c to p t =
    let more = drop to.from p.bytes in
    held (record { frames = to.frames; parts = c.parts + 1; used = c.used + length more })
    (part_tables (sets t.frames (to.frame * 8) (encode 4 p.start ++ encode 4 to.len))
    (sets t.store c.used more)
    (sets t.parts (c.parts * 24) (encode_held (part_of p to.frame))))

-- and what that needs of the tables, for n bytes
pub record Puts (c : Counts) (to : Placed) (n : ℕ) (t : PartTables) : Type 0 where
  pub from : to.from ≤ n
  pub short : n ≤ max_frame
  pub few : c.parts < 4294967295
  pub frames : to.frame * 8 + 8 ≤ length t.frames
  pub store : c.used + (n - to.from) ≤ length t.store
  pub parts : c.parts * 24 + 24 ≤ length t.parts

-- ---- parts of another list
-- how many of the parts are for checkpoint number n or later
unfoldable pub wanted : ℕ → List declared.Held → ℕ
wanted n [] = 0
wanted n (p ∷ ps) = cond (ltb p.at n) (wanted n ps) (suc (wanted n ps))

-- parts in the order of their frames fs, behind one of frame g, each within its frame
abbrev pub InOrder : ℕ → List Frame → List declared.Held → Type 0
InOrder g fs [] = Unit {0}
InOrder g fs (p ∷ ps) =
    (g ≤ p.frame) × (p.frame ≤ g + 1) × (p.frame < length fs) × (p.len ≤ length (frame_at fs p.frame).bytes)
    × InOrder p.frame fs ps

-- the tables of the other list have f frames and h parts, in order
pub record Lent (f h : ℕ) (t : PartTables) : Type 0 where
  pub frames : f * 8 ≤ length t.frames
  pub parts : h * 24 ≤ length t.parts
  pub store : used (frames_in f t.frames t.store) ≤ length t.store
  pub order : InOrder 0 (frames_in f t.frames t.store) (parts_in h t.parts)

-- the bytes of the frames before number g, by their headers
abbrev pub offset_to : ℕ → List ℕ → ℕ → ℕ
offset_to f headers g = used (frames_of (take g (headers_in f headers)) [])

-- a part of another list, for checkpoint number at, with its frame's start and its bytes
abbrev pub held_piece : declared.Held → ℕ → ℕ → List ℕ → Piece
held_piece p at start b =
    record { at = at; start = start; bytes = b; number = p.number; kind = p.kind; remaining = p.remaining }

-- a part is added where go holds
unfoldable pub added_by : ℕ → Bool → Counts → Piece → PartTables → Held
added_by budget go c p t = cond go (held_from (add_part budget (stored_in c.frames c.parts t) p) t) (held c t)
