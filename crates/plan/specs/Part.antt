-- The bytes of the part that a plan names.
use Rattle.std.specs.Prelude.{◌≡◌, ℕ, ◌<◌, get_or, Some}
use Rattle.rules.specs.declared.AreaIndex.{AreaIndex}
use Rattle.rules.specs.declared.Held.{Held}
use Rattle.rules.specs.declared.HeldPart.{HeldPart}
use Rattle.rules.specs.declared.Plan.TheVariants.{At}
use Rattle.rules.specs.declared.Resume.{Resume}
use Rattle.rules.specs.Tests.{Accepted}
use Rattle.rules.specs.Values.{no_held, part_bytes}
use Rattle.rules.specs.Plan.{bytes_at}
use Rattle.tables.specs.Index.{Tables, index_in}
use Rattle.plan.specs.Plan.{plan_in}

-- part number i of an index in its tables
abbrev pub part_at : AreaIndex → Tables → ℕ → Held
part_at x t i = get_or (index_in x t).scan.parts i no_held

-- h is a held part of checkpoint number j, and its offset and length give that part's bytes
pub record Names (x : AreaIndex) (t : Tables) (j : ℕ) (h : HeldPart) : Type 0 where
  pub place : ℕ
  pub within : place < x.parts
  pub at : (part_at x t place).at ≡ j
  pub bytes : bytes_at t.store h.offset h.len ≡ part_bytes (index_in x t).scan.frames (part_at x t place)

-- an accepted plan names a part of its checkpoint
abbrev pub PlanNames : Type 0
PlanNames =
    (x : AreaIndex) (t : Tables) (f : ℕ) (r : Resume) (h : HeldPart) → plan_in x t f ≡ Accepted (At r)
    → r.assembly ≡ Some h → Names x t r.number h
