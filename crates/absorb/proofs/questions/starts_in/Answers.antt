use Rattle.absorb.proofs.questions.Lists.{some_taken}
use Rattle.field.proofs.Records.{records_at}
use Rattle.rules.specs.File.{decode_lsn}
use Rattle.tables.specs.Tables.{lsns_in}
use mathlib.Core.Path.{sym, refl, ◌∙◌}
use native.Mathlib.Omega.{arith}
use Prim.Native.Nat.{◌<◌}
use Rattle.absorb.proofs.questions.starts_in.Goals as goal

pub returns-else-c-eq0 : goal.returns-else-c-eq0
returns-else-c-eq0 c =
    let l : 0 < c.args.k = omega (arith, c.requires.1, c.if-c-eq0.false) in
    some_taken c.args.c c.args.start (lsns_in c.args.k c.args.given.now) c.if-c-eq0.false
    (c.read_lsn.ensures ∙ sym (records_at 4 decode_lsn c.args.k c.args.given.now 0 c.args.start l)) refl
