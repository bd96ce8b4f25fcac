-- What the functions of lacks need of each other.
use Rattle.std.specs.Prelude.{◌&&◌, not, ltb}
use Rattle.rules.specs.declared.AreaIndex.{AreaIndex}
use Rattle.rules_lacks.specs.declared.Lacks.{Lacks}
use Rattle.rules.specs.Tests.{is_some}
use Rattle.rules.specs.Values.{stated}
use Rattle.rules_lacks.specs.Lacks.{lacking}
use Rattle.tables.specs.Index.{Tables, index_in}
use Rattle.lacks.specs.declared.Missing.{Missing}

-- what is lacking, by the counts and the numbers
unfoldable pub lacks_by : AreaIndex → AreaIndex → Missing → Lacks
lacks_by x y c =
    record {
      checkpoints = c.checkpoints;
      ending = is_some y.ending && not (is_some x.ending);
      parts = c.parts;
      malformed = c.malformed;
      hints = c.hints;
      confirmed = c.confirmed;
      fingerprint = is_some (stated y.fingerprint) && not (is_some (stated x.fingerprint));
      image = is_some y.image && not (is_some x.image);
      budget = ltb x.budget y.budget;
      most = ltb x.most y.most;
    }

-- the counts alone
unfoldable pub counts_in : AreaIndex → Tables → AreaIndex → Tables → Missing
counts_in x t y u =
    let l = lacking (index_in x t) (index_in y u) in
    record {
      checkpoints = l.checkpoints;
      parts = l.parts;
      malformed = l.malformed;
      hints = l.hints;
      confirmed = l.confirmed;
    }
