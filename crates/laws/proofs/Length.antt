-- The length of a saved list. Assumes nothing.
use mathlib.Core.Path.{◌≡◌, refl, sym}
use mathlib.Core.Bool.{Bool, true, false, cond}
use mathlib.Core.List.{List, [], ◌∷◌}
use Prim.Native.Nat.{ℕ, ◌+◌, ◌*◌, ◌≤◌}
use native.Mathlib.Omega.{arith}
use lib.Dec.{leb}
use lib.ListN.{length, length-append}
use Rattle.field.specs.Records.{bytes_of}
use Rattle.field.proofs.Number.{encode_length}
use Rattle.rules.specs.Values.{Frame, Index, used}
use Rattle.rules.specs.File.{encode_checkpoint, encode_frame, encode_held, encode_lsn, encode_hint, encode_confirmation, version_of, hint_section, confirmed_section, body_of, saved, saved_length}
use Rattle.laws.proofs.Layouts.{checkpoint_layout, lsn_layout, hint_layout, confirmation_layout, header_length, held_length}
use Rattle.laws.proofs.Readers.{frame_length}

-- records of one size
pub length_each : {A : Type 0} (e : A → List ℕ) (w : ℕ) → ((x : A) → length (e x) ≡ w) → (xs : List A) → length (bytes_of e xs) ≡ w * length xs
unfolding bytes_of
length_each e w h [] = omega arith
length_each e w h (x ∷ xs) = rw (length-append, h x, length_each e w h xs) (omega arith)

pub length_frames : (fs : List Frame) → length (bytes_of encode_frame fs) ≡ 8 * length fs + used fs
unfolding bytes_of used
length_frames [] = refl
length_frames (f ∷ fs) = rw (length-append, frame_length, length_frames fs) (omega arith)

length_cond : (p : Bool) (s : List ℕ) {n : ℕ} → length s ≡ n → length (cond p s []) ≡ cond p n 0
length_cond true s h = h
length_cond false s h = refl

module _ (x : Index) where
  length_checkpoints : length (bytes_of encode_checkpoint x.scan.checkpoints) ≡ 24 * length x.scan.checkpoints
  length_checkpoints = length_each encode_checkpoint 24 checkpoint_layout.size x.scan.checkpoints

  length_parts : length (bytes_of encode_held x.scan.parts) ≡ 24 * length x.scan.parts
  length_parts = length_each encode_held 24 held_length x.scan.parts

  length_malformed : length (bytes_of encode_lsn x.scan.malformed) ≡ 4 * length x.scan.malformed
  length_malformed = length_each encode_lsn 4 lsn_layout.size x.scan.malformed

  length_hints : length (hint_section x) ≡ cond (leb 2 (version_of x)) (24 + 8 * length x.hinting.hints) 0
  unfolding hint_section
  length_hints =
      length_cond (leb 2 (version_of x)) _ (simp (length-append, encode_length, length_each encode_hint 8 hint_layout.size x.hinting.hints) (omega arith))

  length_confirmed : length (confirmed_section x) ≡ cond (leb 3 (version_of x)) (8 + 16 * length x.hinting.confirmed) 0
  unfolding confirmed_section
  length_confirmed =
      length_cond (leb 3 (version_of x)) _ (simp (length-append, encode_length, length_each encode_confirmation 16 confirmation_layout.size x.hinting.confirmed) (omega arith))

  -- behind the header
  pub length_body : length (body_of x) + 8 ≡ saved_length x
  unfolding body_of saved_length
  length_body =
      rw (length-append, header_length, length-append, length_checkpoints, length-append, length_frames, length-append, length_parts, length-append, length_malformed, length-append, length_hints, length_confirmed)
      (omega arith)

pub saved_length_is : (x : Index) → (saved_length x ≡ length (saved x)) × (88 ≤ saved_length x)
unfolding saved saved_length
saved_length_is x = (sym (rw (length-append, encode_length) (length_body x)), omega arith)
