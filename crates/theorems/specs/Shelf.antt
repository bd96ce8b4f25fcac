-- Change request 9: what entering a list and jumping in it leave of a shelf. A table of records is the list that it stands for.
use Rattle.std.specs.Prelude.{◌≡◌, true, ◌⊎◌, ◌≢◌, ℕ, ◌+◌, ◌<◌, ◌≤◌, length, get_or, set, None, Some}
use mathlib.Core.List.{List, [], ◌∷◌, ◌++◌, Memᴰ}
use Rattle.rules.specs.declared.Area.{Area}
use Rattle.rules.specs.Questions.{area_ok}
use Rattle.rules.specs.Tests.{Accepted}
use Rattle.rules.specs.Values.{max64}
use Rattle.rules_shelf.specs.declared.Shelf.{Shelf}
use Rattle.rules_shelf.specs.declared.ShelfRecord.{ShelfRecord}
use Rattle.rules_shelf.specs.Shelf.{no_record, area_of, record_of, present_records, sum, drop_at, shelf_ok, After, enter, jump}

-- ---- records that stay, and records that go
-- rs are those that stay and those that go, both in their order
pub data Parted : List ShelfRecord → List ShelfRecord → List ShelfRecord → Type 0 where
  nothing : Parted [] [] []
  stays : {r : ShelfRecord} {ks gs rs : List ShelfRecord} → Parted ks gs rs → Parted (r ∷ ks) gs (r ∷ rs)
  goes : {r : ShelfRecord} {ks gs rs : List ShelfRecord} → Parted ks gs rs → Parted ks (r ∷ gs) (r ∷ rs)

-- r stands before s
pub data Before (r s : ShelfRecord) : List ShelfRecord → Type 0 where
  first : {rs : List ShelfRecord} → Memᴰ s rs → Before r s (r ∷ rs)
  later : {q : ShelfRecord} {rs : List ShelfRecord} → Before r s rs → Before r s (q ∷ rs)

-- r has the older stamp, or an equal one and stands before s
abbrev pub Older : List ShelfRecord → ShelfRecord → ShelfRecord → Type 0
Older rs r s = (r.stamp < s.stamp) ⊎ ((r.stamp ≡ s.stamp) × Before r s rs)

-- ---- the questions are answered yes
pub record Asked (x : Shelf) (t : List ShelfRecord) (a : Area) : Type 0 where
  pub area : area_ok a ≡ true
  pub room : 64 ≤ length t
  pub shelf : shelf_ok x (present_records x t) ≡ true
  pub count : x.count < max64

-- ---- 4 holds after an accepted call, and the table is as long as before
abbrev pub ValidAfter : List ShelfRecord → After → Type 0
ValidAfter t y = (shelf_ok y.shelf (present_records y.shelf y.table) ≡ true) × (length y.table ≡ length t)

pub record ShelfValid : Type 0 where
  pub entered : (x : Shelf) (t : List ShelfRecord) (a : Area) (len : ℕ) (y : After) → enter x t a len ≡ Accepted y
      → ValidAfter t y
  pub jumped : (x : Shelf) (t : List ShelfRecord) (a : Area) (y : After) → jump x t a ≡ Accepted (Some y)
      → ValidAfter t y

-- ---- entering a list
-- with the last dropped record r back, 64 are present or the sum exceeds the limit
pub record LastBack (x : Shelf) (a : Area) (len : ℕ) (rs stay gone : List ShelfRecord) : Type 0 where
  pub back : List ShelfRecord
  pub at : ℕ
  pub inside : at < length back
  pub dropped : drop_at at back ≡ stay
  pub among : Memᴰ (get_or back at no_record) gone
  pub other : area_of (get_or back at no_record) ≢ a
  -- it is the last: the others that were dropped are older
  pub last : (g : ShelfRecord) → Memᴰ g gone → area_of g ≢ a
      → (g ≡ get_or back at no_record) ⊎ Older rs g (get_or back at no_record)
  pub too_many : (64 ≤ length back) ⊎ (x.limit < sum back + len)

pub record Entering (x : Shelf) (t : List ShelfRecord) (a : Area) (len : ℕ) (y : After) : Type 0 where
  pub stay : List ShelfRecord
  pub gone : List ShelfRecord
  -- OthersStay: those that stay are unchanged and in their order, and none has the area of the list
  pub others : Parted stay gone (present_records x t)
  pub own : (r : ShelfRecord) → Memᴰ r stay → area_of r ≢ a
  -- Stamped: the list stands behind them, with the number that the count now has
  pub stamped : present_records y.shelf y.table ≡ stay ++ record_of a len (x.count + 1) ∷ []
  pub counted : y.shelf.count ≡ x.count + 1
  -- OldestGo: of other areas, those that go are older than those that stay
  pub oldest : (g k : ShelfRecord) → Memᴰ g gone → area_of g ≢ a → Memᴰ k stay → Older (present_records x t) g k
  -- NoneTooMany: all that goes is of the list's area, or room was needed
  pub needed : ((g : ShelfRecord) → Memᴰ g gone → area_of g ≡ a) ⊎ LastBack x a len (present_records x t) stay gone

abbrev pub Entered : Type 0
Entered = (x : Shelf) (t : List ShelfRecord) (a : Area) (len : ℕ) (y : After) → enter x t a len ≡ Accepted y
    → Entering x t a len y

-- ---- a jump: the record of the area has the number that the count now has, in its place; the others stay
pub record Jumping (x : Shelf) (t : List ShelfRecord) (a : Area) (y : After) : Type 0 where
  pub at : ℕ
  pub inside : at < x.present
  pub own : area_of (get_or t at no_record) ≡ a
  pub stamped : y.table ≡ set t at (record_of a (get_or t at no_record).len (x.count + 1))
  pub counted : y.shelf.count ≡ x.count + 1
  pub same : y.shelf.present ≡ x.present

abbrev pub Jumped : Type 0
Jumped = (x : Shelf) (t : List ShelfRecord) (a : Area) (y : After) → jump x t a ≡ Accepted (Some y) → Jumping x t a y

-- ---- what is accepted
pub record ShelfAccepts : Type 0 where
  pub enters : (x : Shelf) (t : List ShelfRecord) (a : Area) (len : ℕ) → Asked x t a → len ≤ x.limit → (y : After)
      × (enter x t a len ≡ Accepted y)
  pub jumps : (x : Shelf) (t : List ShelfRecord) (a : Area) → Asked x t a → (i : ℕ) → i < x.present
      → area_of (get_or t i no_record) ≡ a
      → (y : After) × (jump x t a ≡ Accepted (Some y))
  pub absent : (x : Shelf) (t : List ShelfRecord) (a : Area) → Asked x t a
      → ((i : ℕ) → i < x.present → area_of (get_or t i no_record) ≢ a)
      → jump x t a ≡ Accepted None
