-- Document 01, "Hint", with change requests 5 and 11: what add_hints holds before thinning, what thinning keeps, and that kept marks stay.
use Rattle.std.specs.Prelude.{ℕ, min, ◌<◌, ◌≤◌, ◌≡◌, ◌⊎◌, ◌↔◌, true, List, length, get_or}
use Rattle.rules.specs.declared.Hint.{Hint}
use Rattle.rules.specs.Tests.{each, Accepted}
use Rattle.rules.specs.Values.{Index, Lengths, no_hint}
use Rattle.rules.specs.Sections.{hint_ok, hints_ok, is_kept, kept_count}
use Rattle.rules.specs.Hints.{in_area, insert_all, joined_hints, thin, unkept_hint, unkept, add_hints, keep_hint}
use Rattle.rules.specs.Merge.{merge}
use Rattle.laws.specs.Marks.{kept_lsns}

-- P holds of one of the hints hs
pub record One (P : Hint → Type 0) (hs : List Hint) : Type 0 where
  pub place : ℕ
  pub inside : place < length hs
  pub holds : P (get_or hs place no_hint)

-- one of them has the LSN n; one of them is h; one of them has the LSN and number of h, kept or not
abbrev pub AtLsn : List Hint → ℕ → Type 0
AtLsn hs n = One (λ x. x.lsn ≡ n) hs

abbrev pub Among : List Hint → Hint → Type 0
Among hs h = One (λ x. x ≡ h) hs

abbrev pub Stands : List Hint → Hint → Type 0
Stands hs h = One (λ x. unkept_hint x ≡ unkept_hint h) hs

-- h, kept or not, is the last of a list at its LSN
pub record LastAt (list : List Hint) (h : Hint) : Type 0 where
  pub place : ℕ
  pub inside : place < length list
  pub is : unkept_hint (get_or list place no_hint) ≡ unkept_hint h
  pub last : (i : ℕ) → place < i → i < length list → (get_or list i no_hint).lsn ≡ h.lsn → ⊥

-- what an accepted add_hints thins, all, for the index x and a list
pub record Joined (x : Index) (list all : List Hint) : Type 0 where
  -- it rises, inside the area
  pub rises : hints_ok x.scan.area all ≡ true
  -- its LSNs are those held and those of the list that lie in the area
  pub lsns : (n : ℕ) → AtLsn all n ↔ (AtLsn x.hinting.hints n ⊎ ((in_area x.scan.area n ≡ true) × AtLsn list n))
  -- a held hint stays whose LSN the list does not have
  pub held : (h : Hint) → Among x.hinting.hints h → (AtLsn list h.lsn → ⊥) → Among all h
  -- the last of the list at an LSN of the area is there
  pub given : (h : Hint) → LastAt list h → in_area x.scan.area h.lsn ≡ true → Stands all h
  -- every hint is one of these
  pub origin : (h : Hint) → Among all h → LastAt list h ⊎ (Among x.hinting.hints h × (AtLsn list h.lsn → ⊥))
  -- kept are those at the LSNs that were kept
  pub marks : kept_lsns all ≡ kept_lsns x.hinting.hints

-- a delivered list has no marks
abbrev pub HintsJoined : Type 0
HintsJoined =
    (l : Lengths) (x y : Index) (list : List Hint) → unkept list ≡ list → add_hints l x list ≡ Accepted y
    → Joined x list (insert_all x.scan.area x.hinting.hints list)
    × (y.hinting.hints ≡ joined_hints x.scan.area x.hinting.most x.hinting.hints list)

-- thinning keeps as many as it is asked to, of those that there are
abbrev pub ThinLength : Type 0
ThinLength = (most : ℕ) (hs : List Hint) → length (thin most hs) ≡ min (length hs) most

abbrev pub ThinAmong : Type 0
ThinAmong = (most : ℕ) (hs : List Hint) (h : Hint) → Among (thin most hs) h → Among hs h

-- thinning passes over kept hints, where at most as many are kept as are to be left
abbrev pub ThinPasses : Type 0
ThinPasses =
    (most : ℕ) (hs : List Hint) (h : Hint) → each hint_ok hs ≡ true → kept_count hs ≤ most → is_kept h ≡ true
    → Among hs h → Among (thin most hs) h

-- after an accepted add_hints or merge the kept LSNs are those of before, and after keep_hint the given one too
pub record MarksStay : Type 0 where
  pub added : (l : Lengths) (x y : Index) (list : List Hint) → unkept list ≡ list → add_hints l x list ≡ Accepted y
      → kept_lsns y.hinting.hints ≡ kept_lsns x.hinting.hints
  pub merged : (l m : Lengths) (own other y : Index) → merge l own m other ≡ Accepted y
      → kept_lsns y.hinting.hints ≡ kept_lsns own.hinting.hints
  -- keep_hint marks the hint of that LSN, and no other; LSNs and numbers stay
  pub marked : (l : Lengths) (x y : Index) (lsn : ℕ) → keep_hint l x lsn ≡ Accepted y
      → One (λ h. (h.lsn ≡ lsn) × (is_kept h ≡ true)) y.hinting.hints
  pub others : (l : Lengths) (x y : Index) (lsn i : ℕ) → keep_hint l x lsn ≡ Accepted y
      → ((get_or x.hinting.hints i no_hint).lsn ≡ lsn → ⊥) → get_or y.hinting.hints i no_hint
      ≡ get_or x.hinting.hints i no_hint
  pub same : (l : Lengths) (x y : Index) (lsn : ℕ) → keep_hint l x lsn ≡ Accepted y → unkept y.hinting.hints
      ≡ unkept x.hinting.hints
  -- marking a kept hint again changes nothing
  pub again : (l : Lengths) (x y : Index) (lsn : ℕ) → keep_hint l x lsn ≡ Accepted y
      → One (λ h. (h.lsn ≡ lsn) × (is_kept h ≡ true)) x.hinting.hints → y ≡ x
