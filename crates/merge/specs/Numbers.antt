-- The numbers of a merged list.
use Rattle.std.specs.Prelude.{ℕ, Bool, cond}
use Rattle.rules.specs.declared.AreaIndex.{AreaIndex}
use Rattle.rules.specs.Tests.{or_else}
use Rattle.rules.specs.Merge.{merged_fingerprint}
use Rattle.parts.specs.declared.Counts.{Counts}

-- by the numbers x and y of both, whether the other goes further, and the counts
unfoldable pub numbers_by : AreaIndex → AreaIndex → Bool → ℕ → Counts → ℕ → ℕ → ℕ → AreaIndex
numbers_by x y go n c m s d =
    record {
      area = x.area;
      interval = x.interval;
      budget = x.budget;
      spacing = x.spacing;
      most = x.most;
      checkpoints = n;
      frames = c.frames;
      parts = c.parts;
      malformed = m;
      hints = s;
      confirmed = d;
      ending = cond go y.ending x.ending;
      fingerprint = merged_fingerprint x.fingerprint y.fingerprint;
      image = (or_else x.image y.image);
    }
