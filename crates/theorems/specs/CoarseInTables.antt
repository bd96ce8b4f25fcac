-- Change request 6 over the tables that players hold.
use Rattle.std.specs.Prelude.{ℕ, ◌≡◌, true}
use Rattle.rules.specs.declared.AreaIndex.{AreaIndex}
use Rattle.rules.specs.Questions.{question3}
use Rattle.rules.specs.Sections.{rising, own_lsn, any_lsn}
use Rattle.rules.specs.Run.{Reading, Cut}
use Rattle.rules_coarsen.specs.Coarse.{coarser, question47}
use Rattle.rules.specs.declared.Made.TheVariants as made
use Rattle.tables.specs.Index.{Tables, room_of, index_in, kinds_in, numbers_from, tables_from, made_out}
use Rattle.coarsen.specs.Coarsen.{coarse_in}
use Rattle.theorems.specs.Terms.{ValidIn}
use Rattle.theorems.specs.TableRun.{LentIn}

-- numbers y and tables u' hold the coarser list of the one in x and t; u are the tables that were lent for it
pub record CoarseLeft (x : AreaIndex) (t : Tables) (k : ℕ) (u : Tables) (y : AreaIndex) (u' : Tables) : Type 0 where
  pub finer : ValidIn x t
  pub stands : index_in y u' ≡ coarser k (index_in x t)
  pub valid : ValidIn y u'
  pub room : room_of u' ≡ room_of u

-- so it is after every accepted call
abbrev pub CoarseLeaves : Type 0
CoarseLeaves =
    (x : AreaIndex) (t : Tables) (k : ℕ) (u : Tables) (y : AreaIndex) (u' : Tables) → LentIn x t → coarse_in x t k u
    ≡ made_out (made.Index y) u'
    → CoarseLeft x t k u y u'

-- and a list cut from one reading, whose malformed list rises, is accepted in tables that are long enough, for every multiple of its interval
abbrev pub CoarseAccepts : Type 0
CoarseAccepts =
    (R : Reading) (end : ℕ) → rising own_lsn any_lsn 0 end R.malformed ≡ true
    → (x : AreaIndex) (t : Tables) (k : ℕ) (u : Tables) → Cut R (index_in x t)
    → kinds_in x t ≡ true → question3 (room_of t) (index_in x t) ≡ true → question47 k (index_in x t) ≡ true
    → question3 (room_of u) (coarser k (index_in x t)) ≡ true
    → coarse_in x t k u ≡ made_out (made.Index (numbers_from (coarser k (index_in x t))))
    (tables_from (coarser k (index_in x t)) u)
