use mathlib.Core.Path.{◌≡◌}
use lib.ListN.{drop}
use Rattle.drawer.specs.Ask.{entries_in, join_list}
use Rattle.drawer.proofs.ask.join_each.Given as goal

abbrev pub invariant-loop-k : goal.invariant-loop-k
invariant-loop-k l = join_list l.x l.checkpoints (drop l.k (entries_in l.asked)) l.files ≡ join_list l.x l.checkpoints (drop l.first (entries_in l.asked)) l.files
