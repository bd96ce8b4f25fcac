-- The steps of saving: what each writes, and what it needs of 1 to 4.
use Rattle.std.specs.Prelude.{◌≡◌, ℕ, ◌+◌, ◌*◌, ◌≤◌, true, cond, List, [], ◌++◌, leb, length}
use Rattle.field.specs.Number.{encode}
use Rattle.field.specs.Records.{bytes_of}
use Rattle.rules.specs.declared.AreaIndex.{AreaIndex}
use Rattle.rules.specs.declared.HintHeader.{HintHeader}
use Rattle.rules.specs.Values.{Index, used}
use Rattle.rules.specs.File.{encode_checkpoint, encode_frame, encode_held, encode_lsn, encode_hint, encode_confirmation, version_of}
use Rattle.tables.specs.Tables.{checkpoints_in, parts_in, lsns_in, kept_in, confirmations_in, frames_in}
use Rattle.tables.specs.Index.{Tables, index_in, kinds_ok, tables}
use Rattle.index.specs.Steps.{Long}
use Rattle.save.specs.Layout.{Framed}
use Rattle.save.specs.Output.{hint_header}

-- the hint section with the first hints of a table
abbrev pub hint_bytes : HintHeader → List ℕ → List ℕ
hint_bytes h t = hint_header h ++ bytes_of encode_hint (kept_in h.count t)

-- the section of the first n confirmations of a table
abbrev pub confirmed_bytes : ℕ → List ℕ → List ℕ
confirmed_bytes n t = encode 4 n ++ (encode 4 0 ++ bytes_of encode_confirmation (confirmations_in n t))

-- the bytes of a scan's sections, and how many they are where the frames hold u
abbrev pub scan_bytes : AreaIndex → Tables → List ℕ
scan_bytes x t =
    bytes_of encode_checkpoint (checkpoints_in x.checkpoints t.checkpoints)
    ++ (bytes_of encode_frame (frames_in x.frames t.frames t.store)
    ++ (bytes_of encode_held (parts_in x.parts t.parts) ++ bytes_of encode_lsn (lsns_in x.malformed t.malformed)))

abbrev pub scan_size : AreaIndex → ℕ → ℕ
scan_size x u = x.checkpoints * 24 + ((x.frames * 8 + u) + (x.parts * 24 + x.malformed * 4))

-- the index as far as its hints and confirmations go
abbrev pub hint_index : AreaIndex → List ℕ → List ℕ → Index
hint_index x hints confirmed = index_in x (tables [] [] [] [] [] hints confirmed)

abbrev pub hinting_size : AreaIndex → ℕ
hinting_size x =
    cond (leb 2 (version_of (hint_index x [] []))) (24 + 8 * x.hints) 0 + cond (leb 3 (version_of (hint_index x [] []))) (8 + 16 * x.confirmed) 0

-- ---- what 1 to 4 say that is needed
-- of a scan's tables
pub record Scanned (x : AreaIndex) (t : Tables) : Type 0 where
  pub long : Long x t.checkpoints t.frames t.parts t.malformed
  pub framed : Framed x t.frames
  pub store : used (frames_in x.frames t.frames t.store) ≤ length t.store
  pub kinds : kinds_ok x.parts t.parts ≡ true

-- of hints and confirmations
pub record Hinted (x : AreaIndex) (hs cs : List ℕ) : Type 0 where
  pub hints : x.hints * 8 ≤ length hs
  pub confirmed : x.confirmed * 16 ≤ length cs
