use mathlib.Core.Path.{◌≡◌}
use lib.ListN.{drop}
use Rattle.drawer.specs.Ask.{entries_in, join_lists}
use Rattle.drawer.proofs.ask.join_pairs.Given as goal

abbrev pub invariant-loop-i : goal.invariant-loop-i
invariant-loop-i l = join_lists (drop l.i (entries_in l.asked)) l.files ≡ join_lists (entries_in l.asked) l.files
