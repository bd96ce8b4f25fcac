-- Demand 3 about the tables that players hold, as merge, to_bytes, from_bytes and plan leave and answer them.
use Rattle.std.specs.Prelude.{ℕ, ◌+◌, ◌≤◌, ◌≡◌, true, List, length, Some}
use Rattle.rules.specs.declared.AreaIndex.{AreaIndex}
use Rattle.rules.specs.declared.HeldPart.{HeldPart}
use Rattle.rules.specs.declared.Plan.{Plan}
use Rattle.rules.specs.declared.Plan.TheVariants.{At}
use Rattle.rules.specs.declared.Resume.{Resume}
use Rattle.rules.specs.Tests.{Accepted}
use Rattle.rules.specs.Questions.{question3}
use Rattle.rules.specs.Merge.{question42}
use Rattle.rules.specs.Plan.{assembly_of, start_of, bytes_at}
use Rattle.rules.specs.Run.{Reading}
use Rattle.rules.specs.declared.Made.TheVariants as made
use Rattle.tables.specs.Index.{Tables, made_out}
use Rattle.plan.specs.Plan.{plan_in}
use Rattle.merge.specs.Merge.{merge_in}
use Rattle.theorems.specs.Demand3.{Outcome, PartsLeft}
use Rattle.theorems.specs.TableRun.{TablePlace, TableCall, table_step, LentIn, AllCutIn, after_table_calls, place_in, call_of, state_in, merging, is_accepted}

-- every place, after any calls, read through index_in
abbrev pub OutcomesInTables : Type 0
OutcomesInTables =
    (R : Reading) (p : ℕ → TablePlace) → AllCutIn R p → (calls : List TableCall) (i : ℕ)
    → Outcome R (λ k. place_in (p k)) (state_in (after_table_calls R p calls)) i

-- ---- held parts
-- those that merge, the part rule and loading leave, after any calls, whichever call comes next
abbrev pub PartsByRuleInTables : Type 0
PartsByRuleInTables =
    (R : Reading) (p : ℕ → TablePlace) → AllCutIn R p → (calls : List TableCall) (c : TableCall)
    → PartsLeft (state_in (after_table_calls R p calls)) (call_of c)
    (state_in (table_step R.area c (after_table_calls R p calls)))

-- a place, in whose store its bytes lie, holds the part h for checkpoint number j
pub record HoldsPart (p : TablePlace) (j : ℕ) (h : HeldPart) : Type 0 where
  pub inside : h.offset + h.len ≤ length p.tables.store
  pub part : assembly_of (place_in p).list.scan.frames (place_in p).list.scan.parts j ≡ Some h

-- its bytes, as the second call returns them
abbrev pub part_in : TablePlace → HeldPart → List ℕ
part_in p h = bytes_at p.tables.store h.offset h.len

-- two held parts, each in its place, say the same
pub record SamePart (p q : TablePlace) (h k : HeldPart) : Type 0 where
  pub bytes : part_in p h ≡ part_in q k
  pub number : h.number ≡ k.number
  pub kind : h.kind ≡ k.kind
  pub remaining : h.remaining ≡ k.remaining

-- parts that are held for one checkpoint in the results of two runs over one reading agree byte for byte
abbrev pub PartsAgreeInTables : Type 0
PartsAgreeInTables =
    (R : Reading) (p q : ℕ → TablePlace) → AllCutIn R p → AllCutIn R q
    → (cs ds : List TableCall) (i j at : ℕ) (h k : HeldPart)
    → HoldsPart ((after_table_calls R p cs).now i) at h → HoldsPart ((after_table_calls R q ds).now j) at k
    → SamePart ((after_table_calls R p cs).now i) ((after_table_calls R q ds).now j) h k

-- a part that plan answers with a checkpoint, in any place, is the one held for it
abbrev pub PlansHeldPart : Type 0
PlansHeldPart =
    (p : TablePlace) (t : ℕ) (r : Resume) (h : HeldPart) → plan_in p.numbers p.tables t ≡ Accepted (At r)
    → r.assembly ≡ Some h
    → HoldsPart p r.number h

-- ---- merges that are accepted
-- after any calls: where, as they are now, the tables of both places are long enough and no image ids or fingerprints differ, the merge is accepted
abbrev pub MergeAcceptedInTables : Type 0
MergeAcceptedInTables =
    (R : Reading) (p : ℕ → TablePlace) → AllCutIn R p → (calls : List TableCall) (i j : ℕ)
    → let own = (after_table_calls R p calls).now i in let other = (after_table_calls R p calls).now j in
    question3 (place_in own).room (place_in own).list ≡ true → question3 (place_in other).room (place_in other).list
    ≡ true
    → question42 (place_in own).list (place_in other).list ≡ true → is_accepted (merging own other).answer ≡ true

-- where the tables of all places were long enough at first, and no two image ids or fingerprints differed, no merge is ever refused
abbrev pub NoneRefusedInTables : Type 0
NoneRefusedInTables =
    (R : Reading) (p : ℕ → TablePlace) → AllCutIn R p
    → ((i : ℕ) → question3 (place_in (p i)).room (place_in (p i)).list ≡ true)
    → ((i j : ℕ) → question42 (place_in (p i)).list (place_in (p j)).list ≡ true) → (calls : List TableCall) (i j : ℕ)
    → is_accepted (merging ((after_table_calls R p calls).now i) ((after_table_calls R p calls).now j)).answer ≡ true

-- ---- any two lists, in any tables
-- plan accepts before and after, and the jump's start does not move backwards
pub record NotBack (x : AreaIndex) (t : Tables) (z : AreaIndex) (t' : Tables) (f : ℕ) : Type 0 where
  pub before : Plan
  pub after : Plan
  pub planned : plan_in x t f ≡ Accepted before
  pub replanned : plan_in z t' f ≡ Accepted after
  pub forward : start_of x.area before ≤ start_of z.area after

-- no accepted merge moves a jump's start backwards, whichever frame f is sought
abbrev pub JumpNotBackInTables : Type 0
JumpNotBackInTables =
    (x : AreaIndex) (t : Tables) (y : AreaIndex) (u : Tables) (z : AreaIndex) (t' : Tables) (f : ℕ) → LentIn x t
    → LentIn y u
    → merge_in x t y u ≡ made_out (made.Index z) t' → NotBack x t z t' f

-- ---- demand 3
pub record Demand3InTables : Type 0 where
  pub outcomes : OutcomesInTables
  pub parts_by_rule : PartsByRuleInTables
  pub parts_agree : PartsAgreeInTables
  -- the parts that plan answers are held ones
  pub planned : PlansHeldPart
  pub accepted : MergeAcceptedInTables
  pub none_refused : NoneRefusedInTables
  pub jump : JumpNotBackInTables
