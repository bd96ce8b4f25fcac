use native.Mathlib.Omega.{arith}
use borrow.Author.Rules.{rules}
use Rattle.hint_recorder.proofs.Recorder.{seen_nothing, seen_past, seen_number}
use Rattle.hint_recorder.proofs.Step.seen.Goals as goal

pub returns-in_default : goal.returns-in_default
returns-in_default c =
    seen_nothing c.args.self.recorder c.args.list.now c.requires
    (λ i. (c.type_inv.list i).fits) c.args.lsn c.in_default.is

pub returns-then-lsn-gt-MAX_U32 : goal.returns-then-lsn-gt-MAX_U32
returns-then-lsn-gt-MAX_U32 c =
    seen_past c.args.self.recorder c.args.list.now c.requires (λ i. (c.type_inv.list i).fits)
    c.args.lsn c.in-Number.is (omega arith)

pub returns : goal.returns
returns c =
    seen_number c.args.self.recorder c.args.list.now c.requires (λ i. search rules)
    c.args.lsn c.in-Number.is (omega arith) c.list_or_keep.ensures
