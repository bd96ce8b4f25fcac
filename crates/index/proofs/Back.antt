-- Frames written into a header table and a store are read back; and so are the numbers of a list. Assumes nothing.
use Rattle.rules.specs.declared.EndState.{EndState}
use Rattle.std.specs.Prelude.{Option, None, Some, ℕ}
use mathlib.Core.Path.{◌≡◌, refl, ◌∙◌}
use mathlib.Core.List.{List, [], ◌∷◌, ◌++◌, append-nil, append_assoc}
use Prim.Native.Nat.{ℕ, ◌*◌}
use native.Mathlib.Omega.{arith}
use lib.ListN.{length, get_or, length-append}
use lib.Seq.{take_at, drop_at}
use Rattle.field.specs.Number.{encode}
use Rattle.field.specs.Records.{records, bytes_of}
use Rattle.field.specs.Fields.{FieldsFit}
use Rattle.field.proofs.Format.{Layout, Each}
use Rattle.field.proofs.Format as each
use Rattle.field.proofs.Fields.{of_fields}
use Rattle.field.proofs.Records.{records_length}
use Rattle.rules.specs.declared.AreaIndex.{AreaIndex}
use Rattle.rules.specs.declared.Fingerprint.{Fingerprint}
use Rattle.rules.specs.Values.{Frame}
use Rattle.rules.specs.File.{encode_frame_header, decode_checkpoint, decode_held, decode_lsn, decode_confirmation}
use Rattle.laws.proofs.Length.{length_each}
use Rattle.tables.specs.declared.FrameHeader.{FrameHeader}
use Rattle.tables.specs.Tables.{decode_kept, decode_header, headers_in, frames_of, stretch}
use Rattle.tables.proofs.Frames.{stretch_within, frames_length}
use Rattle.tables.specs.Index.{Tables, index_in, numbers_from, store_of}

-- ---- frames: start and length of one
abbrev pub header_of : Frame → FrameHeader
header_of f = record { start = f.start; len = length f.bytes }

abbrev pub encode_header : FrameHeader → List ℕ
encode_header h = encode 4 h.start ++ encode 4 h.len

abbrev pub HeaderFits : FrameHeader → Type 0
HeaderFits h = FieldsFit (4 ∷ 4 ∷ []) (h.start ∷ h.len ∷ [])

abbrev pub FrameFits : Frame → Type 0
FrameFits f = HeaderFits (header_of f)

pub header_layout : Layout 8 decode_header encode_header HeaderFits
unfolding decode_header
header_layout =
    of_fields (4 ∷ 4 ∷ []) (λ h. h.start ∷ h.len ∷ []) (λ v. record { start = get_or v 0 0; len = get_or v 1 0 }) (λ b. refl) (λ h. simp append-nil) (λ h. refl)

pub header_length : (f : Frame) → length (encode_frame_header f) ≡ 8
unfolding encode_frame_header
header_length f = header_layout.size (header_of f)

pub headers_length : (fs : List Frame) → length (bytes_of encode_frame_header fs) ≡ 8 * length fs
headers_length fs = length_each encode_frame_header 8 header_length fs

-- the bytes at the start of a store
bytes_front : (b s : List ℕ) → stretch (length b) (b ++ s) ≡ b
bytes_front b s = stretch_within (length b) (b ++ s) (simp length-append (omega arith)) ∙ take_at b s (length b) refl

pub frames_back : {fs : List Frame} (r s : List ℕ) → Each FrameFits fs
    → frames_of (records 8 decode_header (length fs) (bytes_of encode_frame_header fs ++ r)) (store_of fs ++ s) ≡ fs
unfolding frames_of records bytes_of store_of encode_frame_header
frames_back r s each.none = refl
frames_back r s (each.one {x = f} {xs = fs} p ps) =
    let h = encode_header (header_of f) in
    let hs = bytes_of encode_frame_header fs ++ r in
    let n = header_layout.size (header_of f) in
    let a : h ++ bytes_of encode_frame_header fs ++ r ≡ h ++ hs = append_assoc h (bytes_of encode_frame_header fs) r in
    let b : f.bytes ++ store_of fs ++ s ≡ f.bytes ++ (store_of fs ++ s) = append_assoc f.bytes (store_of fs) s in
    rw (
      a,
      b,
      take_at h hs 8 n,
      drop_at h hs 8 n,
      header_layout.back (header_of f) p,
      bytes_front f.bytes (store_of fs ++ s),
      drop_at f.bytes (store_of fs ++ s) (length f.bytes) refl,
      frames_back r s ps,
    )

-- ---- the numbers of what numbers and tables stand for
abbrev pub with_print : AreaIndex → Fingerprint → AreaIndex
with_print x f =
    record {
      area = x.area;
      interval = x.interval;
      budget = x.budget;
      spacing = x.spacing;
      most = x.most;
      checkpoints = x.checkpoints;
      frames = x.frames;
      parts = x.parts;
      malformed = x.malformed;
      hints = x.hints;
      confirmed = x.confirmed;
      ending = x.ending;
      fingerprint = f;
      image = x.image;
    }

end_back : (e : Option EndState) → e ≡ e
end_back None = refl
end_back (Some e) = refl

id_back : (i : Option ℕ) → i ≡ i
id_back None = refl
id_back (Some v) = refl

-- the numbers of a value that numbers and tables stand for, with another fingerprint
pub numbers_with : (x : AreaIndex) (t : Tables) (f : Fingerprint)
    → numbers_from (record { scan = (index_in x t).scan; hinting = (index_in x t).hinting; fingerprint = f; image = (index_in x t).image }) ≡ with_print x f
numbers_with x t f =
    rw (
      records_length 24 decode_checkpoint x.checkpoints t.checkpoints,
      frames_length (headers_in x.frames t.frames) t.store,
      records_length 8 decode_header x.frames t.frames,
      records_length 24 decode_held x.parts t.parts,
      records_length 4 decode_lsn x.malformed t.malformed,
      records_length 8 decode_kept x.hints t.hints,
      records_length 16 decode_confirmation x.confirmed t.confirmed,
      end_back x.ending,
      id_back x.image,
    )

pub numbers_back : (x : AreaIndex) (t : Tables) → numbers_from (index_in x t) ≡ x
numbers_back x t = numbers_with x t x.fingerprint
