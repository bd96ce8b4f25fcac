use Prim.Native.Nat.{◌+◌}
use native.Mathlib.Omega.{arith}
use Rattle.inspect.proofs.cursor.Words.{Got, GotPair, long_got, long_short, pair_got, pair_short, headed_none, headed_made}
use Rattle.inspect.proofs.cursor.Cursor.hint_header.Goals as goal

pub returns-in_default : goal.returns-in_default
returns-in_default c = headed_none _ _ (let l = long_short c.args.body.now c.args.self.at c.u64.ensures c.in_default.is in omega arith)

pub returns-in_default-pair : goal.returns-in_default-pair
returns-in_default-pair c = headed_none _ _ (let l = pair_short c.args.body.now (c.args.self.at + 8) (rw ((let got : Got c.args.body.now 8 c.args.self.at c.in-Number.fingerprint c.in-Number.c = long_got _ _ c.u64.ensures c.in-Number.is in got)).moved at c.pair.ensures) c.in_default-pair.is in omega arith)

pub returns-in_default-pair-2 : goal.returns-in_default-pair-2
returns-in_default-pair-2 c = headed_none _ _ (let l = pair_short c.args.body.now (c.args.self.at + 8 + 8) (rw ((let got : GotPair c.args.body.now (c.args.self.at + 8) c.in-Numbers.spacing c.in-Numbers.most c.in-Numbers.d = pair_got _ _ (rw ((let got : Got c.args.body.now 8 c.args.self.at c.in-Number.fingerprint c.in-Number.c = long_got _ _ c.u64.ensures c.in-Number.is in got)).moved at c.pair.ensures) c.in-Numbers.is in got)).moved at c.pair-2.ensures) c.in_default-pair-2.is in omega arith)

pub returns : goal.returns
returns c =
    headed_made _ _ ((let got : Got c.args.body.now 8 c.args.self.at c.in-Number.fingerprint c.in-Number.c = long_got _ _ c.u64.ensures c.in-Number.is in got)) ((let got : GotPair c.args.body.now (c.args.self.at + 8) c.in-Numbers.spacing c.in-Numbers.most c.in-Numbers.d = pair_got _ _ (rw ((let got : Got c.args.body.now 8 c.args.self.at c.in-Number.fingerprint c.in-Number.c = long_got _ _ c.u64.ensures c.in-Number.is in got)).moved at c.pair.ensures) c.in-Numbers.is in got)) ((let got : GotPair c.args.body.now (c.args.self.at + 8 + 8) c.in-Numbers-pair.count c.in-Numbers-pair.zero20
    c.in-Numbers-pair.e = pair_got _ _ (rw ((let got : GotPair c.args.body.now (c.args.self.at + 8) c.in-Numbers.spacing c.in-Numbers.most c.in-Numbers.d = pair_got _ _ (rw ((let got : Got c.args.body.now 8 c.args.self.at c.in-Number.fingerprint c.in-Number.c = long_got _ _ c.u64.ensures c.in-Number.is in got)).moved at c.pair.ensures) c.in-Numbers.is in got)).moved at c.pair-2.ensures) c.in-Numbers-pair.is in got))
