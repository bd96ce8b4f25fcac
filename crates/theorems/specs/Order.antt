-- Change request 13: hints and confirmations do not depend on the order of merging.
use Rattle.std.specs.Prelude.{ℕ, ◌≤◌, ◌≡◌, ◌⊎◌, ◌↔◌, true, false, eqb, length}
use mathlib.Core.List.{List, [], ◌∷◌, Memᴰ}
use Rattle.rules.specs.declared.Area.{Area}
use Rattle.rules.specs.declared.Confirmation.{Confirmation}
use Rattle.rules.specs.declared.Fingerprint.TheVariants.{Unknown, Checked}
use Rattle.rules.specs.declared.Hint.{Hint}
use Rattle.rules.specs.Tests.{agree}
use Rattle.rules.specs.Sections.{is_kept}
use Rattle.rules.specs.Merge.{question43}
use Rattle.rules.specs.Run.{Place, Call, merge_call, State, begin, merge_refusal, run}
use Rattle.theorems.specs.Terms.{Valid}

-- hints and confirmations of the list of a place
abbrev pub hints_at : Place → List Hint
hints_at p = p.list.hinting.hints

abbrev pub confirmed_at : Place → List Confirmation
confirmed_at p = p.list.hinting.confirmed

-- ---- what is asked of the lists that the places hold at first, of the area a, the interval k and the hint limit most
pub record Together (p : ℕ → Place) (a : Area) (k most : ℕ) : Type 0 where
  -- they pass questions 1, 2 and 4, and their tables are long enough
  pub valid : (i : ℕ) → Valid (p i).room (p i).list
  pub area : (i : ℕ) → (p i).list.scan.area ≡ a
  pub interval : (i : ℕ) → (p i).list.scan.interval ≡ k
  pub limit : (i : ℕ) → (p i).list.hinting.most ≡ most
  pub above : 1 ≤ most
  -- without kept marks
  pub unmarked : (i : ℕ) (h : Hint) → Memᴰ h (hints_at (p i)) → is_kept h ≡ false
  -- checkpoints and end states agree
  pub agreeing : (i j : ℕ) → question43 (p i).list (p j).list ≡ true
  -- all without a fingerprint, or all with the same one, checked
  pub fingerprint : ((i : ℕ) → (p i).list.fingerprint ≡ Unknown) ⊎
      ((v : ℕ) × ((i : ℕ) → (p i).list.fingerprint ≡ Checked v))
  -- no differing image ids
  pub images : (i j : ℕ) → agree eqb (p i).list.image (p j).list.image ≡ true
  -- no LSN under two frame numbers or two digests
  pub numbers :
      (i j : ℕ) (h g : Hint) → Memᴰ h (hints_at (p i)) → Memᴰ g (hints_at (p j)) → h.lsn ≡ g.lsn
      → h.number ≡ g.number
  pub digests :
      (i j : ℕ) (c d : Confirmation) → Memᴰ c (confirmed_at (p i)) → Memᴰ d (confirmed_at (p j)) → c.lsn
      ≡ d.lsn → c.digest ≡ d.digest
  -- all hints together, and all confirmed LSNs together, are within the limit: a list of at most so many numbers has their LSNs
  pub hint_lsns : List ℕ
  pub hints_fit : length hint_lsns ≤ most
  pub hints_in : (i : ℕ) (h : Hint) → Memᴰ h (hints_at (p i)) → Memᴰ h.lsn hint_lsns
  pub confirmed_lsns : List ℕ
  pub confirmed_fit : length confirmed_lsns ≤ most
  pub confirmed_in : (i : ℕ) (c : Confirmation) → Memᴰ c (confirmed_at (p i)) → Memᴰ c.lsn confirmed_lsns

-- ---- merges in any order and bracketing: each into a place from another, of what those before it left
pub record Merge : Type 0 where
  pub into : ℕ
  pub from : ℕ

unfoldable pub merge_calls : List Merge → List Call
merge_calls [] = []
merge_calls (m ∷ ms) = merge_call m.into m.from ∷ merge_calls ms

abbrev pub after_merges : Area → (ℕ → Place) → List Merge → State
after_merges a p ms = run a (merge_calls ms) (begin p)

-- c is a confirmation of one of the lists ws, and no confirmation of theirs at its LSN has a lower threshold
pub record Lowest (p : ℕ → Place) (ws : List ℕ) (c : Confirmation) : Type 0 where
  pub list : ℕ
  pub went : Memᴰ list ws
  pub is : Memᴰ c (confirmed_at (p list))
  pub lowest : (w : ℕ) (d : Confirmation) → Memᴰ w ws → Memᴰ d (confirmed_at (p w)) → d.lsn ≡ c.lsn
      → c.threshold ≤ d.threshold

-- what place i holds in a state s
pub record Gathered (p : ℕ → Place) (s : State) (i : ℕ) : Type 0 where
  -- no merge into it is refused
  pub accepted : (j : ℕ) → merge_refusal (s.now i) (s.now j) ≡ 0
  -- exactly the hints of all lists that went into it
  pub hints : (h : Hint) → Memᴰ h (hints_at (s.now i)) ↔
      ((w : ℕ) × Memᴰ w (s.went i) × Memᴰ h (hints_at (p w)))
  -- exactly their confirmed LSNs, each with its digest and lowest threshold
  pub confirmed : (c : Confirmation) → Memᴰ c (confirmed_at (s.now i)) ↔ Lowest p (s.went i) c

abbrev pub HintsGathered : Type 0
HintsGathered =
    (p : ℕ → Place) (a : Area) (k most : ℕ) → Together p a k most → (ms : List Merge) (i : ℕ)
    → Gathered p (after_merges a p ms) i

-- two places into which the same lists went, in any two sequences of merges, hold the same hints and confirmations
abbrev pub SameLists : List ℕ → List ℕ → Type 0
SameLists vs ws = (w : ℕ) → Memᴰ w vs ↔ Memᴰ w ws

abbrev pub OrderFree : Type 0
OrderFree =
    (p : ℕ → Place) (a : Area) (k most : ℕ) → Together p a k most → (ms ns : List Merge) (i j : ℕ)
    → SameLists ((after_merges a p ms).went i) ((after_merges a p ns).went j)
    → (hints_at ((after_merges a p ms).now i) ≡ hints_at ((after_merges a p ns).now j))
    × (confirmed_at ((after_merges a p ms).now i) ≡ confirmed_at ((after_merges a p ns).now j))
