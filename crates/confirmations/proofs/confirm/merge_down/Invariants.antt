use Prim.Native.Nat.{◌+◌, ◌-◌}
use mathlib.Core.Path.{◌≡◌}
use lib.ListN.{length}
use Rattle.rules.specs.Sections.{confirmed_lsn}
use Rattle.rules.specs.File.{decode_confirmation, encode_confirmation}
use Rattle.rules.specs.Hints.{held_confirmation}
use Rattle.laws.proofs.hint_lists.Steps.{Merging}
use Rattle.confirmations.proofs.confirm.merge_down.Given as goal

abbrev pub invariant-loop-p : goal.invariant-loop-p
invariant-loop-p l = (length l.t ≡ length l.initial.t) × Merging confirmed_lsn held_confirmation 16 decode_confirmation decode_confirmation
    encode_confirmation l.initial.t l.o l.a l.e l.b l.n l.t l.p l.q l.k

abbrev pub decreases-loop-p : goal.decreases-loop-p
decreases-loop-p l = l.e + l.n - (l.p + l.q)
