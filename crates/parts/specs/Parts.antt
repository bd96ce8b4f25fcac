-- Frames and held parts in three lent tables, and how what the part rule stores is put back into them.
use Rattle.std.specs.Prelude.{ℕ, List, length}
use Rattle.field.specs.Records.{bytes_of}
use Rattle.rules.specs.Values.{used}
use Rattle.rules.specs.PartRule.{Stored}
use Rattle.rules.specs.PartRule as rule
use Rattle.rules.specs.File.{encode_frame_header, encode_held, over}
use Rattle.tables.specs.Tables.{frames_in, parts_in}
use Rattle.tables.specs.Index.{store_of}
use Rattle.parts.specs.declared.Counts.{Counts}
use Rattle.parts.specs.declared.Piece.{Piece}

-- the bytes of the three tables
pub record PartTables : Type 0 where
  pub frames : List ℕ
  pub store : List ℕ
  pub parts : List ℕ

abbrev pub part_tables : List ℕ → List ℕ → List ℕ → PartTables
part_tables a b c = record { frames = a; store = b; parts = c }

-- the frames and parts that so many frames and parts of the tables stand for
abbrev pub stored_in : ℕ → ℕ → PartTables → Stored
stored_in f h t = record { frames = frames_in f t.frames t.store; parts = parts_in h t.parts }

-- a part as it is handed over, with its bytes
abbrev pub piece_in : Piece → List ℕ → rule.Piece
piece_in p b =
    record { at = p.at; start = p.start; bytes = b; number = p.number; kind = p.kind; remaining = p.remaining }

-- ---- put back
abbrev pub counts_of : Stored → Counts
counts_of s = record { frames = length s.frames; parts = length s.parts; used = used s.frames }

-- past what is stored the tables stay
abbrev pub stored_over : Stored → PartTables → PartTables
stored_over s t =
    record {
      frames = over (bytes_of encode_frame_header s.frames) t.frames;
      store = over (store_of s.frames) t.store;
      parts = over (bytes_of encode_held s.parts) t.parts;
    }

-- the counts and the tables afterwards
pub record Held : Type 0 where
  pub counts : Counts
  pub tables : PartTables

abbrev pub held : Counts → PartTables → Held
held c t = record { counts = c; tables = t }

abbrev pub held_from : Stored → PartTables → Held
held_from s t = held (counts_of s) (stored_over s t)
