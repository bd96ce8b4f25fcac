use mathlib.Core.Path.{◌∙◌}
use Prim.Native.Nat.{◌+◌}
use native.Mathlib.Omega.{arith}
use mir.Syntax.{w32}
use mir.ValLaws.{to_z-of_z}
use Rattle.inspect.proofs.cursor.Words.{GotPair, pair_got, pair_short, held_none, held_kind, held_read}
use Rattle.inspect.proofs.cursor.Cursor.held.Goals as goal

pub returns-in_default : goal.returns-in_default
returns-in_default c = let l = pair_short c.args.body.now c.args.self.at c.pair.ensures c.in_default.is in held_none _ _ (omega arith)

pub returns-in_default-pair : goal.returns-in_default-pair
returns-in_default-pair c = let l = pair_short c.args.body.now (c.args.self.at + 8) (rw ((let got : GotPair c.args.body.now c.args.self.at c.in-Numbers.at c.in-Numbers.frame c.in-Numbers.c = pair_got _ _ c.pair.ensures c.in-Numbers.is in got)).moved at c.pair-2.ensures) c.in_default-pair.is in held_none _ _ (omega arith)

pub returns-in_default-pair-2 : goal.returns-in_default-pair-2
returns-in_default-pair-2 c = let l = pair_short c.args.body.now (c.args.self.at + 8 + 8) (rw ((let got : GotPair c.args.body.now (c.args.self.at + 8) c.in-Numbers-pair.len c.in-Numbers-pair.number c.in-Numbers-pair.d = pair_got _ _ (rw ((let got : GotPair c.args.body.now c.args.self.at c.in-Numbers.at c.in-Numbers.frame c.in-Numbers.c = pair_got _ _ c.pair.ensures c.in-Numbers.is in got)).moved at c.pair-2.ensures) c.in-Numbers-pair.is in got)).moved at c.pair-3.ensures) c.in_default-pair-2.is in held_none _ _ (omega arith)

pub returns-then-kind-gt1 : goal.returns-then-kind-gt1
returns-then-kind-gt1 c =
    held_kind _ _ ((let got : GotPair c.args.body.now (c.args.self.at + 8 + 8) c.in-Numbers-pair-2.remaining c.in-Numbers-pair-2.kind
    c.in-Numbers-pair-2.e = pair_got _ _ (rw ((let got : GotPair c.args.body.now (c.args.self.at + 8) c.in-Numbers-pair.len c.in-Numbers-pair.number c.in-Numbers-pair.d = pair_got _ _ (rw ((let got : GotPair c.args.body.now c.args.self.at c.in-Numbers.at c.in-Numbers.frame c.in-Numbers.c = pair_got _ _ c.pair.ensures c.in-Numbers.is in got)).moved at c.pair-2.ensures) c.in-Numbers-pair.is in got)).moved at c.pair-3.ensures) c.in-Numbers-pair-2.is in got)) c.if-kind-gt1.true

pub returns : goal.returns
returns c =
    held_read _ _ ((let got : GotPair c.args.body.now (c.args.self.at + 8 + 8) c.in-Numbers-pair-2.remaining c.in-Numbers-pair-2.kind
    c.in-Numbers-pair-2.e = pair_got _ _ (rw ((let got : GotPair c.args.body.now (c.args.self.at + 8) c.in-Numbers-pair.len c.in-Numbers-pair.number c.in-Numbers-pair.d = pair_got _ _ (rw ((let got : GotPair c.args.body.now c.args.self.at c.in-Numbers.at c.in-Numbers.frame c.in-Numbers.c = pair_got _ _ c.pair.ensures c.in-Numbers.is in got)).moved at c.pair-2.ensures) c.in-Numbers-pair.is in got)).moved at c.pair-3.ensures) c.in-Numbers-pair-2.is in got)) ((let got : GotPair c.args.body.now c.args.self.at c.in-Numbers.at c.in-Numbers.frame c.in-Numbers.c = pair_got _ _ c.pair.ensures c.in-Numbers.is in got)) ((let got : GotPair c.args.body.now (c.args.self.at + 8) c.in-Numbers-pair.len c.in-Numbers-pair.number c.in-Numbers-pair.d = pair_got _ _ (rw ((let got : GotPair c.args.body.now c.args.self.at c.in-Numbers.at c.in-Numbers.frame c.in-Numbers.c = pair_got _ _ c.pair.ensures c.in-Numbers.is in got)).moved at c.pair-2.ensures) c.in-Numbers-pair.is in got)) c.if-kind-gt1.false c.kind_of.ensures
    (to_z-of_z w32 _ (record { sfits = c.signed.type_inv }) ∙ c.signed.ensures)
