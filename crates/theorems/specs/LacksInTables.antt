-- The statements over lent tables.
use Rattle.std.specs.Prelude.{ℕ, ◌≤◌, ◌≡◌, true, eqb, Some}
use Rattle.rules.specs.declared.AreaIndex.{AreaIndex}
use Rattle.rules.specs.declared.HeldPart.{HeldPart}
use Rattle.rules.specs.declared.Plan.{Plan}
use Rattle.rules.specs.declared.Plan.TheVariants.{At}
use Rattle.rules.specs.declared.Resume.{Resume}
use Rattle.rules.specs.Tests.{Accepted, agree}
use Rattle.rules.specs.Values.{is_checked}
use Rattle.rules.specs.Plan.{start_of, bytes_at}
use Rattle.rules.specs.Run.{Reading, Cut}
use Rattle.rules.specs.Sections.{own_lsn}
use Rattle.laws.specs.Order.{Rises}
use Rattle.rules.specs.declared.Made.TheVariants as made
use Rattle.tables.specs.Index.{Tables, index_in, made_out}
use Rattle.plan.specs.Plan.{plan_in}
use Rattle.hint.specs.Hint.{hint_in}
use Rattle.merge.specs.Merge.{merge_in}
use Rattle.rules_jump.specs.Names.{NamedHint}
use Rattle.rules_lacks.specs.declared.Lacks.{Lacks}
use Rattle.rules_lacks.specs.Lacks.{lacking, holds_all}
use Rattle.lacks.specs.Lacks.{lacks_in}
use Rattle.theorems.specs.Adds.{SameAnswersInTables}
use Rattle.theorems.specs.TableRun.{LentIn}
use Rattle.theorems.specs.Lacks.{Serves, HintServes, MergedHolds, MergeLeaves}

-- k says what h says, and its bytes in the store of t are those of h in that of u
pub record SamePartIn (t : Tables) (k : HeldPart) (u : Tables) (h : HeldPart) : Type 0 where
  pub kind : k.kind ≡ h.kind
  pub number : k.number ≡ h.number
  pub remaining : k.remaining ≡ h.remaining
  pub bytes : bytes_at t.store k.offset k.len ≡ bytes_at u.store h.offset h.len

-- the own tables x, t do all that y, u do
pub record ServesIn (x : AreaIndex) (t : Tables) (y : AreaIndex) (u : Tables) : Type 0 where
  pub lists : Serves (index_in x t) (index_in y u)
  pub starts : (f : ℕ) (p q : Plan) → plan_in x t f ≡ Accepted p → plan_in y u f ≡ Accepted q
      → start_of x.area q ≤ start_of x.area p
  pub plans : (f : ℕ) (r s : Resume) (h : HeldPart) → plan_in y u f ≡ Accepted (At r) → plan_in x t f ≡ Accepted (At s)
      → s.number ≡ r.number → r.assembly ≡ Some h
      → (k : HeldPart) × (s.assembly ≡ Some k) × SamePartIn t k u h

abbrev pub NothingLackingInTables : Type 0
NothingLackingInTables =
    (x : AreaIndex) (t : Tables) (y : AreaIndex) (u : Tables) (b : Lacks) → lacks_in x t y u ≡ Accepted b → holds_all b
    ≡ true → ServesIn x t y u

-- the hint to begin at, where the own fingerprint is checked if the other's is
abbrev pub LacksHintInTables : Type 0
LacksHintInTables =
    (x : AreaIndex) (t : Tables) (y : AreaIndex) (u : Tables) (b : Lacks) → lacks_in x t y u ≡ Accepted b → holds_all b
    ≡ true
    → (is_checked y.fingerprint ≡ true → is_checked x.fingerprint ≡ true)
    → (first end playtime : ℕ) (q : NamedHint) → hint_in y u first end playtime ≡ Accepted (Some q)
    → (p : NamedHint) × (hint_in x t first end playtime ≡ Accepted (Some p))
    × HintServes (index_in x t) (index_in y u) first p.hinted q.hinted

-- all lists below a kept one may go at once
abbrev pub LacksTransInTables : Type 0
LacksTransInTables =
    (x : AreaIndex) (t : Tables) (y : AreaIndex) (u : Tables) (z : AreaIndex) (v : Tables) (b c : Lacks)
    → lacks_in x t y u ≡ Accepted b → holds_all b ≡ true
    → lacks_in y u z v ≡ Accepted c → holds_all c ≡ true → agree eqb (index_in x t).image (index_in z v).image ≡ true
    → (d : Lacks) × (lacks_in x t z v ≡ Accepted d) × (holds_all d ≡ true)

-- after a merge, which leaves the numbers z and the tables t', every answer and the file are those of the own list
abbrev pub LacksAddsInTables : Type 0
LacksAddsInTables =
    (x : AreaIndex) (t : Tables) (y : AreaIndex) (u : Tables) (b : Lacks) (z : AreaIndex) (t' : Tables) → LentIn x t
    → LentIn y u → lacks_in x t y u ≡ Accepted b
    → holds_all b ≡ true → merge_in x t y u ≡ made_out (made.Index z) t' → SameAnswersInTables x t z t'

-- what the merged tables can lack of the two lists, and which hints, confirmations and parts
pub record MergedIn (x : AreaIndex) (t : Tables) (y : AreaIndex) (u : Tables) (z : AreaIndex) (t' : Tables) : Type 0
  where
    pub holds : MergedHolds (index_in x t) (index_in y u) (index_in z t')
    pub leaves : MergeLeaves (index_in x t) (index_in y u) (index_in z t')

abbrev pub MergeLacksInTables : Type 0
MergeLacksInTables =
    (x : AreaIndex) (t : Tables) (y : AreaIndex) (u : Tables) (z : AreaIndex) (t' : Tables) → LentIn x t → LentIn y u
    → merge_in x t y u ≡ made_out (made.Index z) t' → MergedIn x t y u z t'

-- of two lists cut from one reading, whose malformed LSNs rise, the merged tables lack no malformed LSN
abbrev pub MergeMalformedInTables : Type 0
MergeMalformedInTables =
    (R : Reading) (x : AreaIndex) (t : Tables) (y : AreaIndex) (u : Tables) (z : AreaIndex) (t' : Tables)
    → LentIn x t → LentIn y u
    → Rises own_lsn 0 R.malformed → Cut R (index_in x t) → Cut R (index_in y u) → merge_in x t y u
    ≡ made_out (made.Index z) t'
    → ((lacking (index_in z t') (index_in x t)).malformed ≡ 0) × ((lacking (index_in z t') (index_in y u)).malformed ≡ 0)
