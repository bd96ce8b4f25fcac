-- What the numbers of an index say of its file.
use Rattle.std.specs.Prelude.{◌≡◌, ℕ, ◌*◌, ◌≤◌, true, List, [], length}
use Rattle.rules.specs.declared.AreaIndex.{AreaIndex}
use Rattle.rules.specs.declared.HintHeader.{HintHeader}
use Rattle.rules.specs.Values.{stated, max32}
use Rattle.rules.specs.Sections.{frames_ok}
use Rattle.rules.specs.File.{or_zero}
use Rattle.tables.specs.Tables.{frames_in}

-- the numbers before the hints
abbrev pub hint_header_of : AreaIndex → HintHeader
hint_header_of x =
    record { fingerprint = or_zero (stated x.fingerprint); spacing = x.spacing; most = x.most; count = x.hints; zero20 = 0 }

-- what 1 to 4 say of the frames' headers
pub record Framed (x : AreaIndex) (frames : List ℕ) : Type 0 where
  pub long : x.frames * 8 ≤ length frames
  pub rule : frames_ok x.area x.budget (frames_in x.frames frames []) ≡ true
  pub budgeted : x.budget ≤ max32
