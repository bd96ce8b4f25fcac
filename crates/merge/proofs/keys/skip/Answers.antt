use Rattle.merge.proofs.keys.Laws.{read_turn, key_at, skip_end, skip_stop, skip_on}
use Rattle.merge.specs.Keys.{key_of}
use Rattle.field.proofs.Records.{records_length}
use Rattle.merge.proofs.keys.skip.Goals as goal

pub returns-then-low-read_u32 : goal.returns-then-low-read_u32
returns-then-low-read_u32 c =
    skip_stop c.loop-k.invariant
    (read_turn c.args.w key_of _ _ _ c.loop-k-test.true
    (key_at c.args.w _ _ c.requires.0 c.read_u32.ensures))
    c.if-low-read_u32.true

pub loop-k-preserved : goal.loop-k-preserved
loop-k-preserved c =
    skip_on c.loop-k.invariant
    (read_turn c.args.w key_of _ _ _ c.loop-k-test.true
    (key_at c.args.w _ _ c.requires.0 c.read_u32.ensures))
    c.loop-k-test.true c.if-low-read_u32.false

pub returns : goal.returns
returns c = skip_end c.loop-k.invariant (records_length _ key_of _ _) c.loop-k-test.false
