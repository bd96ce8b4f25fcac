-- What the functions of plan need of each other.
use Rattle.rules.specs.declared.HeldPart.{HeldPart}
use Rattle.std.specs.Prelude.{ℕ, ◌*◌, ◌≤◌, List, length, Option, Some}
use Rattle.rules.specs.declared.AreaIndex.{AreaIndex}
use Rattle.rules.specs.declared.Held.{Held}
use Rattle.rules.specs.declared.Plan.{Plan}
use Rattle.rules.specs.Values.{Frame}
use Rattle.rules.specs.Plan.{offset_of, last_not_above, resume, plan_from, planned}
use Rattle.tables.specs.Index.{Tables, index_in}
use Rattle.plan.specs.Search.{Rising}

-- what a plan reads of the tables
pub record PlanReads (x : AreaIndex) (t : Tables) : Type 0 where
  pub start : x.area.start ≤ 4294967295
  pub checkpoints : x.checkpoints * 24 ≤ length t.checkpoints
  pub frames : x.frames * 8 ≤ length t.frames
  pub parts : x.parts * 24 ≤ length t.parts
  pub rising : Rising x.checkpoints t.checkpoints

-- a part as a plan names it
abbrev pub stored_of : List Frame → Held → Option HeldPart
stored_of fs p =
    Some (record {
      kind = p.kind;
      number = p.number;
      remaining = p.remaining;
      offset = offset_of fs p.frame;
      len
          = p.len;
    })

-- ---- a plan in the tables
unfoldable pub resume_in : AreaIndex → Tables → ℕ → Plan
resume_in x t j = resume (index_in x t).scan j

-- the end state apart
unfoldable pub within_of : AreaIndex → Tables → ℕ → Plan
within_of x t first = plan_from (index_in x t).scan (last_not_above first (index_in x t).scan.checkpoints x.checkpoints)

unfoldable pub plan_of : AreaIndex → Tables → ℕ → Plan
plan_of x t first = planned (index_in x t).scan first
