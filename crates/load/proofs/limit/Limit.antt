-- What a limit leaves of an accepted file. Assumes nothing.
use Rattle.std.specs.Prelude.{None}
use mathlib.Core.Path.{◌≡◌, refl, subst}
use mathlib.Core.Bool.{Bool, true, false, cond}
use mathlib.Core.List.{List}
use Prim.Native.Nat.{ℕ, ◌+◌, ◌-◌, ◌*◌, ◌/◌, ◌≤◌, min}
use native.Mathlib.Omega.{arith}
use lib.ListN.{length, drop}
use Rattle.field.specs.Records.{Bytes}
use Rattle.field.proofs.Bytes.{bytes_drop, bytes_take}
use Rattle.rules.specs.declared.Area.{Area}
use Rattle.rules.specs.declared.AreaIndex.{AreaIndex}
use Rattle.rules.specs.declared.Checkpoint.{Checkpoint}
use Rattle.rules.specs.declared.Confirmation.{Confirmation}
use Rattle.rules.specs.declared.Header.{Header}
use Rattle.rules.specs.declared.Held.{Held}
use Rattle.rules.specs.declared.Fingerprint.TheVariants.{Unknown}
use Rattle.rules.specs.declared.Fingerprint.TheVariants as fingerprint
use Rattle.rules.specs.Tests.{Accepted}
use Rattle.rules.specs.Values.{Frame, Index}
use Rattle.rules.specs.Hints.{unkept}
use Rattle.rules.specs.File.{read_header}
use Rattle.rules.specs.Load.{HintSection, has_fingerprint, index_from, body_in, from_bytes, fitting, within, unmarked, limited}
use Rattle.rules.proofs.Tests.{after→}
use Rattle.laws.proofs.Parsed.{sections_forth}
use Rattle.laws.proofs.Marks.{unkept_length}
use Rattle.laws.proofs.hint_lists.Thinning.{thin_length}
use Rattle.laws.proofs.hint_lists.Lists.{last_length}
use Rattle.tables.specs.Tables.{parts_in}
use Rattle.tables.specs.Files.{place_at, frames_read}
use Rattle.tables.specs.Index.{numbers_from}
use Rattle.inspect.specs.declared.Found.{Found}
use Rattle.load.specs.Limit.{list_in, limited_in, Accepts, frames_at, parts_at}
use Rattle.load.proofs.limit.Sections.{Laid, laid}

-- a file has no checked mark and no image id
pub record Plain (x : Index) : Type 0 where
  pub mark : unmarked x.fingerprint ≡ x.fingerprint
  pub image : x.image ≡ None

held_plain : (p : Bool) (v : ℕ) → unmarked (cond p (fingerprint.Held v) Unknown) ≡ cond p (fingerprint.Held v) Unknown
unfolding unmarked
held_plain true v = refl
held_plain false v = refl

from_plain : (a : Area) (h : Header) (cs : List Checkpoint) (fs : List Frame) (ps : List Held) (ms : List ℕ) (hs : HintSection) (qs : List Confirmation)
    → Plain (index_from a h cs fs ps ms hs qs)
from_plain a h cs fs ps ms hs qs = record { mark = held_plain (has_fingerprint h) hs.header.fingerprint; image = refl }

pub plain : (a : Area) (b : List ℕ) (x : Index) → Bytes b → from_bytes a b ≡ Accepted x → Plain x
unfolding from_bytes
plain a b x y q =
    let w = after→ _ _ _ (after→ _ _ _ q).1 in
    let p = sections_forth a (read_header (body_in b)) (drop 80 (body_in b)) x (bytes_drop (body_in b) 80 (bytes_take b (length b - 8) y)) w.1 in
    subst Plain p.is (from_plain a (read_header (body_in b)) p.cs.value p.fs.value p.ps.value p.ms.value p.hs.value p.qs.value)

module _ {a : Area} {b : List ℕ} {found : Found} (y : Bytes b) (k : Accepts a b found) where
  pub accepted : Laid b (list_in a b)
  accepted = laid a b (list_in a b) y k.area k.file

  pub places_inside : place_at b (80 + found.index.checkpoints * 24) found.index.frames ≤ length b
  places_inside = rw k.is accepted.places

  pub parts_inside : 80 + found.index.checkpoints * 24 + found.index.frames * 8 + found.used + found.index.parts * 24 ≤ length b
  parts_inside = rw k.is (let r = accepted.malformed_room in omega arith)

-- ---- the kept numbers
abbrev kept_with : AreaIndex → (budget frames parts most hints confirmed : ℕ) → AreaIndex
kept_with i budget frames parts most hints confirmed =
    record {
      area = i.area;
      interval = i.interval;
      budget = budget;
      spacing = i.spacing;
      most = most;
      checkpoints = i.checkpoints;
      frames = frames;
      parts = parts;
      malformed = i.malformed;
      hints = hints;
      confirmed = confirmed;
      ending = i.ending;
      fingerprint = i.fingerprint;
      image = i.image;
    }

module _ {b : List ℕ} {x : Index} (l : Laid b x) (p : Plain x) (limit : ℕ) where
  numbers_of_lemma : {budget frames parts most hints confirmed : ℕ} → budget ≡ min x.scan.budget limit
      → frames ≡ length (fitting budget (frames_read (length x.scan.frames) (drop (frames_at x) b)))
      → parts ≡ length (within frames (parts_in (length x.scan.parts) (drop (parts_at x) b)))
      → most ≡ min x.hinting.most (limit / 8) → hints ≡ min (length x.hinting.hints) most
      → confirmed ≡ min (length x.hinting.confirmed) (min most (limit / 16))
      → kept_with (numbers_from x) budget frames parts most hints confirmed ≡ numbers_from (limited limit x)
  unfolding limited
  numbers_of_lemma eb ef ep em eh ec =
      rw (ep, eh, ec, em, ef, eb, l.frames, l.parts, p.mark, p.image, thin_length (min x.hinting.most (limit / 8)) (unkept x.hinting.hints), unkept_length x.hinting.hints, last_length (min (min x.hinting.most (limit / 8)) (limit / 16)) x.hinting.confirmed)

pub kept_is : {a : Area} {b : List ℕ} {found : Found} {budget at frames parts-at parts most hints confirmed : ℕ} (limit : ℕ) → Bytes b → Accepts a b found
    → budget ≡ min found.index.budget limit → at ≡ 80 + found.index.checkpoints * 24
    → frames ≡ length (fitting budget (frames_read found.index.frames (drop at b)))
    → parts-at ≡ 80 + found.index.checkpoints * 24 + found.index.frames * 8 + found.used
    → parts ≡ length (within frames (parts_in found.index.parts (drop parts-at b)))
    → most ≡ min found.index.most (limit / 8) → hints ≡ min found.index.hints most
    → confirmed ≡ min found.index.confirmed (min most (limit / 16))
    → kept_with found.index budget frames parts most hints confirmed ≡ numbers_from (limited_in a b limit)
kept_is {a} {b} limit y k eb ea ef eq ep em eh ec =
    rw k.is (numbers_of_lemma (accepted y k) (plain a b (list_in a b) y k.file) limit (rw k.is at eb) (rw (ea, k.is) at ef) (rw (eq, k.is) at ep) (rw k.is at em) (rw k.is at eh) (rw k.is at ec))
