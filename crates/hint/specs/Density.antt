-- What the functions of hintdensity need of each other.
use Rattle.std.specs.Prelude.{ℕ, ◌-◌, cond, List, get_or, nat_le, slice_index_or, Option, Some}
use Rattle.rules.specs.declared.Hint.{Hint}
use Rattle.rules_jump.specs.declared.HintEnd.{HintEnd}
use Rattle.rules_jump.specs.declared.HintEnd.TheVariants.{Average}
use Rattle.rules.specs.Values.{no_hint}
use Rattle.rules.specs.Hints.{density_before, denser}
use Rattle.rules.specs.Hints as rules
use Rattle.rules_jump.specs.Names.{density_rule}
use Rattle.hint.specs.declared.density.Density.{Density}
use Rattle.hint.specs.declared.density.Named.{Named}

-- the value that a density's numbers stand for
abbrev pub density_of : Density → rules.Density
density_of d = record { sectors = d.sectors; frames = d.frames }

-- between a hint and a later one
abbrev pub between : Hint → Hint → rules.Density
between a b = record { sectors = b.lsn - a.lsn; frames = b.number - a.number }

-- between the hint at i and the run's last, the hint itself where there is no run
unfoldable pub local_to : List Hint → ℕ → Hint → Option rules.Density
local_to hs i last =
    cond (nat_le 3 (last.number - (get_or hs i no_hint).number)) (Some (between (slice_index_or hs i no_hint) last)) (density_before hs i)

-- a density, and the name of the rule that gave it
pub record Chosen : Type 0 where
  pub density : rules.Density
  pub rule : HintEnd

abbrev pub named_of : Named → Chosen
named_of r = record { density = density_of r.density; rule = r.rule }

abbrev pub average_alone : rules.Density → Chosen
average_alone whole = record { density = whole; rule = Average }

-- the larger density, and the one that is named
unfoldable pub named_denser : rules.Density → Option rules.Density → Chosen
named_denser whole o = record { density = denser whole o; rule = density_rule whole o }
