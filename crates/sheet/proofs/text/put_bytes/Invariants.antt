use Rattle.sheet.specs.Text.{output, puts}
use mathlib.Core.Path.{◌≡◌}
use lib.ListN.{length, drop}
use Rattle.sheet.proofs.text.put_bytes.Given as goal

abbrev pub invariant-loop-b : goal.invariant-loop-b
invariant-loop-b l = (puts (output l.out l.q) (drop l.b-index l.fn.s) ≡ puts (output l.initial.out l.at) l.fn.s) × (length l.out ≡ length l.initial.out)
