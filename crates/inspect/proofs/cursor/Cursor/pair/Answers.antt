use Prim.Native.Nat.{◌+◌}
use native.Mathlib.Omega.{arith}
use Rattle.inspect.proofs.cursor.Words.{Got, word_got, word_short, pair_none, pair_made}
use Rattle.inspect.proofs.cursor.Cursor.pair.Goals as goal

pub returns-in_default : goal.returns-in_default
returns-in_default c = let l = word_short c.args.body.now c.args.self.at c.u32.ensures c.in_default.is in pair_none _ _ (omega arith)

pub returns-in_default-u32 : goal.returns-in_default-u32
returns-in_default-u32 c = let l = word_short c.args.body.now (c.args.self.at + 4) (rw ((let got : Got c.args.body.now 4 c.args.self.at c.in-Number.first c.in-Number.c = word_got _ _ c.u32.ensures c.in-Number.is in got)).moved at c.u32-2.ensures) c.in_default-u32.is in pair_none _ _ (omega arith)

pub returns : goal.returns
returns c = pair_made _ _ ((let got : Got c.args.body.now 4 c.args.self.at c.in-Number.first c.in-Number.c = word_got _ _ c.u32.ensures c.in-Number.is in got)) ((let got : Got c.args.body.now 4 (c.args.self.at + 4) c.in-Number-u32.second c.in-Number-u32.d = word_got _ _ (rw ((let got : Got c.args.body.now 4 c.args.self.at c.in-Number.first c.in-Number.c = word_got _ _ c.u32.ensures c.in-Number.is in got)).moved at c.u32-2.ensures) c.in-Number-u32.is in got))
