-- The place of an LSN, and how many hints are kept, over the rest of a list. Assumes nothing.
use mathlib.Core.Path.{◌≡◌, sym, ◌∙◌}
use mathlib.Core.Bool.{true, false}
use mathlib.Core.List.{List, [], ◌∷◌}
use lib.ListN.{length, get_or}
use Prim.Native.Nat.{ℕ, ◌+◌, ◌<◌}
use native.Mathlib.Nat.{zero-add, add_assoc}
use native.Mathlib.Omega.{arith}
use borrow.Author.Tests.{eq-eqb, ne_eqb}
use Rattle.field.specs.Records.{record_at}
use Rattle.field.proofs.Records.{records_length, records_at}
use Rattle.rules.specs.declared.Hint.{Hint}
use Rattle.rules.specs.Values.{no_hint}
use Rattle.rules.specs.Sections.{is_kept, kept_count}
use Rattle.rules.specs.Hints.{place_of}
use Rattle.tables.specs.Tables.{decode_kept, kept_in}

-- ---- the place
abbrev pub place_from : ℕ → ℕ → List Hint → ℕ
place_from lsn j hs = j + place_of lsn hs

pub place_start : (lsn : ℕ) (hs : List Hint) → place_from lsn 0 hs ≡ place_of lsn hs
place_start lsn hs = zero-add (place_of lsn hs)

pub place_here : (lsn j : ℕ) (h : Hint) (hs : List Hint) → h.lsn ≡ lsn → place_from lsn j (h ∷ hs) ≡ j
unfolding place_of
place_here lsn j h hs e = rw (eq-eqb h.lsn lsn e) (omega arith)

pub place_on : (lsn j : ℕ) (h : Hint) (hs : List Hint) → (h.lsn ≡ lsn → ⊥)
    → place_from lsn j (h ∷ hs) ≡ place_from lsn (j + 1) hs
unfolding place_of
place_on lsn j h hs e = rw (ne_eqb h.lsn lsn e) (omega arith)

pub place_end : {n : ℕ} (lsn j : ℕ) → n ≡ j → n ≡ place_from lsn j []
unfolding place_of
place_end lsn j e = omega arith

-- ---- how many
abbrev pub count_from : ℕ → List Hint → ℕ
count_from kept hs = kept + kept_count hs

pub count_start : (hs : List Hint) → count_from 0 hs ≡ kept_count hs
count_start hs = zero-add (kept_count hs)

module _ (kept : ℕ) (h : Hint) (hs : List Hint) where
  pub count_kept : true ≡ is_kept h → count_from kept (h ∷ hs) ≡ count_from (kept + 1) hs
  unfolding kept_count
  count_kept e = rw (← e) (sym (add_assoc kept 1 (kept_count hs)))

  pub count_other : false ≡ is_kept h → count_from kept (h ∷ hs) ≡ count_from kept hs
  unfolding kept_count
  count_other e = rw (← e, zero-add)

pub count_end : (kept : ℕ) → kept ≡ count_from kept []
unfolding kept_count
count_end kept = omega arith

-- ---- a hint of a table, and how many there are
pub hint_at : {h : Hint} (n : ℕ) (t : List ℕ) (i : ℕ) → i < n → h ≡ record_at 8 decode_kept t i → get_or (kept_in n t) i no_hint ≡ h
hint_at n t i l e = records_at 8 decode_kept n t i no_hint l ∙ sym e

pub hint_count : (n : ℕ) (t : List ℕ) → length (kept_in n t) ≡ n
hint_count n t = records_length 8 decode_kept n t
