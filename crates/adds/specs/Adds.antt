-- What a merge would bring: in what the list afterwards differs from the own one.
use Rattle.std.specs.Prelude.{Bool, true, false, ◌&&◌, not, List, [], ◌∷◌, eqb, Option, None, Some}
use Rattle.rules.specs.declared.Confirmation.{Confirmation}
use Rattle.field.specs.Number.{same_bytes}
use Rattle.rules.specs.declared.AreaIndex.{AreaIndex}
use Rattle.rules.specs.declared.Fingerprint.{Fingerprint}
use Rattle.rules.specs.declared.Fingerprint.TheVariants.{Unknown, Checked}
use Rattle.rules.specs.declared.Fingerprint.TheVariants as fingerprint
use Rattle.rules.specs.declared.Held.{Held}
use Rattle.rules.specs.declared.Brings.{Brings}
use Rattle.rules.specs.Tests.{all, Answer, Refused, Accepted, after}
use Rattle.rules.specs.Values.{Frame, Index, Lengths, same_kind, same_checkpoint, same_end}
use Rattle.rules.specs.Merge.{merged, merge_number}
use Rattle.rules_lacks.specs.Lacks.{same_signed, equal_hint}
use Rattle.tables.specs.Index.{Tables, room_of, index_in, kinds_in, kinded}

-- are two lists the same?
unfoldable pub same_list : {A : Type 0} → (A → A → Bool) → List A → List A → Bool
same_list same [] [] = true
same_list same [] (y ∷ ys) = false
same_list same (x ∷ xs) [] = false
same_list same (x ∷ xs) (y ∷ ys) = same x y && same_list same xs ys

unfoldable pub same_confirmation : Confirmation → Confirmation → Bool
same_confirmation c d =
    all (eqb c.lsn d.lsn ∷ eqb c.threshold d.threshold ∷ eqb c.digest d.digest ∷ [])

-- ---- sameness
-- of things that may be unknown
unfoldable pub same_known : {A : Type 0} → (A → A → Bool) → Option A → Option A → Bool
same_known same None None = true
same_known same None (Some b) = false
same_known same (Some a) None = false
same_known same (Some a) (Some b) = same a b

unfoldable pub same_frame : Frame → Frame → Bool
same_frame f g = all (eqb f.start g.start ∷ same_bytes f.bytes g.bytes ∷ [])

unfoldable pub same_held : Held → Held → Bool
same_held p q =
    all (eqb p.at q.at ∷ eqb p.frame q.frame ∷ eqb p.len q.len ∷ eqb p.number q.number
    ∷ same_kind p.kind q.kind
    ∷ same_signed p.remaining q.remaining ∷ [])

unfoldable pub same_fingerprint : Fingerprint → Fingerprint → Bool
same_fingerprint Unknown Unknown = true
same_fingerprint Unknown (fingerprint.Held w) = false
same_fingerprint Unknown (Checked w) = false
same_fingerprint (fingerprint.Held v) Unknown = false
same_fingerprint (fingerprint.Held v) (fingerprint.Held w) = eqb v w
same_fingerprint (fingerprint.Held v) (Checked w) = false
same_fingerprint (Checked v) Unknown = false
same_fingerprint (Checked v) (fingerprint.Held w) = false
same_fingerprint (Checked v) (Checked w) = eqb v w

-- ---- in what a list x differs from the own one
unfoldable pub brings_of : Index → Index → Brings
brings_of own x =
    record {
      checkpoints = not (same_list same_checkpoint own.scan.checkpoints x.scan.checkpoints);
      ending = not (same_known same_end own.scan.ending x.scan.ending);
      parts =
          not (same_list same_frame own.scan.frames x.scan.frames
          && same_list same_held own.scan.parts x.scan.parts);
      malformed = not (same_list eqb own.scan.malformed x.scan.malformed);
      hints = not (same_list equal_hint own.hinting.hints x.hinting.hints);
      confirmed = not (same_list same_confirmation own.hinting.confirmed x.hinting.confirmed);
      fingerprint = not (same_fingerprint own.fingerprint x.fingerprint);
      image = not (same_known eqb own.image x.image);
    }

-- the refusal of the merge, or what it would bring
unfoldable pub brings : Lengths → Index → Lengths → Index → Answer Brings
brings l own m other = after (merge_number l own m other) (Accepted (brings_of own (merged own other)))

-- ---- in the tables
-- adds
abbrev pub adds_in : AreaIndex → Tables → AreaIndex → Tables → Answer Brings
adds_in x t y u = kinded (kinds_in x t && kinds_in y u) (brings (room_of t) (index_in x t) (room_of u) (index_in y u))
