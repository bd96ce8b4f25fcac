use mathlib.Core.Path.{sym, ap, ◌∙◌}
use mathlib.Core.List.{List, []}
use Prim.Native.Nat.{ℕ}
use Rattle.rules.specs.Values.{used}
use Rattle.tables.specs.Tables.{frames_in}
use Rattle.save.proofs.layout.Numbers.{length_is}
use Rattle.save.proofs.layout.saved_length.Goals as goal

pub scan_length-scan-requires : goal.scan_length-scan-requires
scan_length-scan-requires c = (c.frame_bytes-bytes.ensures []).1

pub returns : goal.returns
returns c = λ t e. length_is c.args.x t ((c.frame_bytes-bytes.ensures t.store).0 ∙ ap (λ (s : List ℕ). used (frames_in c.args.x.frames s t.store)) (sym e)) (c.version_of-version.ensures t) c.scan_length-scan.ensures.0 c.hint_size-hints.ensures.0 c.confirmed_size-confirmed.ensures.0
