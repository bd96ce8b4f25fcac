-- Document 01, "Held part": what the part rule keeps, for one part and for the parts of another list.
use Rattle.std.specs.Prelude.{ℕ, ◌+◌, ◌-◌, ◌*◌, ◌<◌, ◌≤◌, ◌≡◌, ◌≢◌, true, false, List, [], ◌∷◌, ◌++◌, length, drop, get_or}
use Rattle.rules.specs.declared.Area.{Area}
use Rattle.rules.specs.declared.Checkpoint.{Checkpoint}
use Rattle.rules.specs.declared.Held.{Held}
use Rattle.rules.specs.Values.{Frame, lim, no_held, lsn_of}
use Rattle.rules.specs.Questions.{held_ok}
use Rattle.rules.specs.PartRule.{Stored, Piece, stores, add_part, piece, add_parts}
use Rattle.rules.specs.Run.{content_of}
use Rattle.theorems.specs.Terms.{Stays, Holds}

-- ---- one part
-- a part for the next checkpoint c, stored or passed over, keeps the rules of frames and parts over the longer list
abbrev pub PartClosed : Type 0
PartClosed =
    (a : Area) (k budget first : ℕ) (cs : List Checkpoint) (h : Stored) (c : Checkpoint) (p : Piece)
    → held_ok a k budget first cs h.frames h.parts ≡ true
    → p.at ≡ first + length cs → 0 < c.back → c.back ≤ (first + length cs) * k
    → lsn_of a k (first + length cs) < a.end → p.start ≡ lsn_of a k (first + length cs) - c.back
    → p.number < lim → held_ok a k budget first (cs ++ (c ∷ [])) (add_part budget h p).frames
    (add_part budget h p).parts ≡ true

-- h' is h with one part more, which has the content of p
pub record OneMore (h h' : Stored) (p : Piece) : Type 0 where
  pub count : length h'.parts ≡ length h.parts + 1
  pub older : (i : ℕ) → i < length h.parts → Stays h h' i
  pub checkpoint : (get_or h'.parts (length h.parts) no_held).at ≡ p.at
  pub content :
      content_of h'.frames (get_or h'.parts (length h.parts) no_held)
      ≡ record { bytes = p.bytes; number = p.number; kind = p.kind; remaining = p.remaining }

-- a stored part has exactly its bytes, and older parts stay
abbrev pub PartStored : Type 0
PartStored =
    (a : Area) (k budget first : ℕ) (cs : List Checkpoint) (h : Stored) (p : Piece)
    → held_ok a k budget first cs h.frames h.parts ≡ true
    → stores budget h p ≡ true → OneMore h (add_part budget h p) p

-- a part that is passed over changes nothing
abbrev pub PartPassedOver : Type 0
PartPassedOver = (budget : ℕ) (h : Stored) (p : Piece) → stores budget h p ≡ false → add_part budget h p ≡ h

-- ---- the parts qs of frames gs, handed over one by one for the checkpoints from number n on
-- h' is h with those that the part rule admits
pub record Admits (budget : ℕ) (gs : List Frame) (n : ℕ) (qs : List Held) (h h' : Stored) : Type 0 where
  -- every part that h holds stays
  pub older : (i : ℕ) → i < length h.parts → Stays h h' i
  -- each part from n on is one of qs, with its content
  pub given :
      (i : ℕ) → i < length h'.parts → n ≤ (get_or h'.parts i no_held).at
      → Holds (record { frames = gs; parts = qs }) (get_or h'.parts i no_held).at
      (content_of h'.frames (get_or h'.parts i no_held))
  -- a part q that the rule stores in its turn, which comes after xs, is held with its content
  pub admitted :
      (xs ys : List Held) (q : Held) → qs ≡ xs ++ (q ∷ ys) → n ≤ q.at
      → stores budget (add_parts budget gs n xs h) (piece gs q) ≡ true
      → Holds h' q.at (content_of gs q)
  -- and for one that it passes over no part is held
  pub passed :
      (xs ys : List Held) (q : Held) → qs ≡ xs ++ (q ∷ ys) → n ≤ q.at
      → stores budget (add_parts budget gs n xs h) (piece gs q) ≡ false
      → (i : ℕ) → i < length h'.parts → (get_or h'.parts i no_held).at ≢ q.at

-- so it is when the parts of a list over checkpoints ds from number first' on come to those over cs from number first on; the rules hold of the joined list
abbrev pub PartsAdmitted : Type 0
PartsAdmitted =
    (a : Area) (k budget budget' first first' : ℕ) (cs ds : List Checkpoint) (gs : List Frame) (qs : List Held)
    (h : Stored)
    → held_ok a k budget first cs h.frames h.parts ≡ true → held_ok a k budget' first' ds gs qs ≡ true
    → first' ≤ first + length cs
    → let n = first + length cs in let h' = add_parts budget gs n qs h in
    Admits budget gs n qs h h' × (held_ok a k budget first (cs ++ drop (n - first') ds) h'.frames h'.parts ≡ true)
