use Prim.Native.Nat.{ℕ}
use mathlib.Core.List.{List}
use Rattle.tables.specs.Index.{Tables, tables}
use Rattle.absorb.proofs.questions.Twelve.{end_is}
use Rattle.absorb.proofs.committed.Ready.{appends, parts_ready}
use Rattle.absorb.proofs.committed.Steps.{takes_below, committed}
use Rattle.absorb.proofs.committed.commit.Goals as goal

pub append_checkpoints-n-requires : goal.append_checkpoints-n-requires
append_checkpoints-n-requires c = appends c.requires

pub take_parts-c-requires : goal.take_parts-c-requires
take_parts-c-requires c = parts_ready c.requires

pub take_below-m-requires : goal.take_below-m-requires
take_below-m-requires c = takes_below _ ((let got : List ℕ → List ℕ → Tables = λ hints confirmed. tables c.args.checkpoints.now c.args.frames.now c.args.store.now c.args.parts.now c.args.malformed.now hints confirmed in got) c.requires.hints c.requires.confirmed) _ _ c.args.image _ c.append_checkpoints-n.ensures.count (end_is _ c.end_of.ensures c.or-end.ensures) c.requires

pub returns : goal.returns
returns c =
    λ hints confirmed kept.
    committed c.args.x ((let got : List ℕ → List ℕ → Tables = λ hints confirmed. tables c.args.checkpoints.now c.args.frames.now c.args.store.now c.args.parts.now c.args.malformed.now hints confirmed in got) hints confirmed) c.args.r _ c.args.image c.args.given.now _
    (end_is _ c.end_of.ensures c.or-end.ensures) c.append_checkpoints-n.ensures c.take_parts-c.ensures c.take_below-m.ensures c.numbers.ensures kept
