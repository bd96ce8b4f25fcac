-- 8 to 12, one after the other. Assumes nothing.
use mathlib.Core.Path.{◌≡◌}
use mathlib.Core.Bool.{true}
use mathlib.Core.List.{List}
use Prim.Native.Nat.{ℕ, ◌≤◌}
use native.Mathlib.Omega.{arith}
use borrow.Author.Tests.{leb-true}
use lib.Dec.{leb}
use Rattle.rules.specs.declared.Area.{Area}
use Rattle.rules.specs.declared.AreaIndex.{AreaIndex}
use Rattle.rules.specs.declared.Recorder.{Recorder}
use Rattle.rules.specs.Values.{frontier_of}
use Rattle.rules.specs.Questions.{area_ok}
use Rattle.rules.proofs.Tests.{and_right}
use Rattle.index.proofs.Questions.{range}
use Rattle.absorb.specs.Steps.{Joinable, ten_in, Readable}

-- the start of an area that passes 1
pub started : (a : Area) → area_ok a ≡ true → a.start ≤ 4294967295
started a e = let r = range a e in let o = r.order in let h = r.end in omega arith

pub joinable : {x : AreaIndex} {cs held : List ℕ} {r : Recorder} {ds : List ℕ} → Readable x cs held r ds
    → r.first ≤ x.checkpoints → Joinable x cs held r ds
joinable p j =
    record {
      area = p.area;
      checkpoints = p.checkpoints;
      malformed = p.malformed;
      theirs = p.theirs;
      joins = j;
      few = p.few;
    }

-- the recorder's first checkpoint is one that the index has, or its next
pub joins_by : (x : AreaIndex) (r : Recorder) → ten_in x r ≡ true → r.first ≤ x.checkpoints
unfolding ten_in
joins_by x r e = leb-true r.first x.checkpoints (and_right (leb r.from (frontier_of x.area x.interval x.checkpoints x.ending)) (leb r.first x.checkpoints) e)
