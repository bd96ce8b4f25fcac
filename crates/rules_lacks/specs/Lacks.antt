-- What another list holds and the own one does not. (adds says what a merge would bring, which can be less.)
use Rattle.std.specs.Prelude.{ℕ, ◌+◌, ◌-◌, Bool, false, ◌&&◌, ◌||◌, not, cond, List, [], ◌∷◌, eqb, leb, ltb, ℤ, pos, negsuc}
use Rattle.field.specs.Number.{same_bytes}
use Rattle.rules.specs.declared.Confirmation.{Confirmation}
use Rattle.rules.specs.declared.Held.{Held}
use Rattle.rules.specs.declared.Hint.{Hint}
use Rattle.rules.specs.Tests.{all, each, is_some, Answer, Accepted, after}
use Rattle.rules.specs.Values.{Frame, Index, Lengths, part_bytes, count, complete, stated, same_kind}
use Rattle.rules.specs.Merge.{merge_number}
use Rattle.rules_lacks.specs.declared.Lacks.{Lacks}

-- ---- of two lists
-- does p hold of one of xs?
unfoldable pub any_of : {A : Type 0} → (A → Bool) → List A → Bool
any_of p [] = false
any_of p (x ∷ xs) = p x || any_of p xs

-- is there for each of ys one of xs that stands for it?
unfoldable pub covers : {A : Type 0} → (A → A → Bool) → List A → List A → Bool
covers stands xs ys = each (λ y. any_of (λ x. stands x y) xs) ys

-- for how many of ys is there none?
unfoldable pub missing : {A : Type 0} → (A → A → Bool) → List A → List A → ℕ
missing stands xs [] = 0
missing stands xs (y ∷ ys) = cond (any_of (λ x. stands x y) xs) 0 1 + missing stands xs ys

-- ---- what stands for what
unfoldable pub same_signed : ℤ → ℤ → Bool
same_signed (pos a) (pos b) = eqb a b
same_signed (pos a) (negsuc b) = false
same_signed (negsuc a) (pos b) = false
same_signed (negsuc a) (negsuc b) = eqb a b

-- parts p of frames fs and q of frames gs: the same checkpoint, number, kind, remaining and bytes
unfoldable pub same_part : List Frame → List Frame → Held → Held → Bool
same_part fs gs p q =
    all (eqb p.at q.at ∷ eqb p.number q.number ∷ same_kind p.kind q.kind
    ∷ same_signed p.remaining q.remaining ∷ same_bytes (part_bytes fs p) (part_bytes gs q) ∷ [])

-- hints: the same LSN and number, kept or not, since no file holds the mark
unfoldable pub same_hint : Hint → Hint → Bool
same_hint h k = all (eqb h.lsn k.lsn ∷ eqb h.number k.number ∷ [])

-- hints: the same LSN, number and mark (for adds)
unfoldable pub equal_hint : Hint → Hint → Bool
equal_hint h k = all (eqb h.lsn k.lsn ∷ eqb h.number k.number ∷ eqb h.mark k.mark ∷ [])

-- confirmations: the same LSN and digest, and a threshold not above
unfoldable pub confirms_also : Confirmation → Confirmation → Bool
confirms_also c d = all (eqb c.lsn d.lsn ∷ eqb c.digest d.digest ∷ leb c.threshold d.threshold ∷ [])

-- ---- what the own list lacks of the other
-- behind 41 to 43: checkpoints, end states, fingerprints and image ids that both have are equal
unfoldable pub lacking : Index → Index → Lacks
lacking own other =
    record {
      checkpoints = count other.scan - count own.scan;
      ending = complete other.scan && not (complete own.scan);
      parts = missing (same_part own.scan.frames other.scan.frames) own.scan.parts other.scan.parts;
      malformed = missing eqb own.scan.malformed other.scan.malformed;
      hints = missing same_hint own.hinting.hints other.hinting.hints;
      confirmed = missing confirms_also own.hinting.confirmed other.hinting.confirmed;
      fingerprint = is_some (stated other.fingerprint) && not (is_some (stated own.fingerprint));
      image = is_some other.image && not (is_some own.image);
      budget = ltb own.scan.budget other.scan.budget;
      most = ltb own.hinting.most other.hinting.most;
    }

-- is nothing lacking but, at most, the image id and room (budget, M)? Then the own list holds all that the other holds.
unfoldable pub holds_all : Lacks → Bool
holds_all l =
    all (eqb l.checkpoints 0 ∷ not l.ending ∷ eqb l.parts 0 ∷ eqb l.malformed 0 ∷ eqb l.hints 0
    ∷ eqb l.confirmed 0 ∷ not l.fingerprint ∷ [])

-- the call: refused as a merge would be
unfoldable pub lacks : Lengths → Index → Lengths → Index → Answer Lacks
lacks l own m other = after (merge_number l own m other) (Accepted (lacking own other))
