-- A section put into an output with its sum, and the header of the hint section.
use Rattle.std.specs.Prelude.{◌≡◌, ℕ, ◌+◌, ◌≤◌, List, ◌++◌, length, take}
use Rattle.std.proofs.lemmas.List.Edits.{sets}
use Rattle.field.specs.Number.{encode}
use Rattle.fnv.specs.Fnv.{fnv_from, fnv64, basis64, prime64}
use Rattle.rules.specs.declared.HintHeader.{HintHeader}
use Rattle.rules.specs.File.{over}
use Rattle.save.specs.declared.output.Written.{Written}

-- the k bytes s, put into old from at on, end at next and give new
pub record Put (s : List ℕ) (k : ℕ) (old : List ℕ) (at next : ℕ) (new : List ℕ) : Type 0 where
  pub size : length s ≡ k
  pub ends : next ≡ at + k
  pub bytes : new ≡ sets old at s

-- s over the start of old gives new, and its hash from u is v
pub record Filled (s : List ℕ) (old : List ℕ) (u v : ℕ) (new : List ℕ) : Type 0 where
  pub bytes : new ≡ over s old
  pub sum : v ≡ fnv_from 64 prime64 u s

-- the k bytes s, put into old from w on, end at r and give new; the sum at r is the hash of s from the sum at w
pub record Summed (s : List ℕ) (k : ℕ) (old : List ℕ) (w r : Written) (new : List ℕ) : Type 0 where
  pub put : Put s k old w.next r.next new
  pub sum : r.sum ≡ fnv_from 64 prime64 w.sum s

-- written up to n, with the sum v
abbrev pub up_to : ℕ → ℕ → Written
up_to n v = record { next = n; sum = v }

-- nothing is written: the sum begins at the offset basis
abbrev pub nothing_written : Written
nothing_written = up_to 0 basis64

-- change request 3: from the sum of all bytes before it, a section's writer answers the sum of all bytes up to its end
abbrev pub SumSoFar : Type 0
SumSoFar =
    (s : List ℕ) (k : ℕ) (old : List ℕ) (w r : Written) (new : List ℕ) → w.next + k ≤ length old → Summed s k old w r new
    → w.sum ≡ fnv64 (take w.next old) → r.sum ≡ fnv64 (take r.next new)

-- the header of the hint section
abbrev pub hint_header : HintHeader → List ℕ
hint_header h = encode 8 h.fingerprint ++ (encode 4 h.spacing ++ (encode 4 h.most ++ (encode 4 h.count ++ encode 4 h.zero20)))
