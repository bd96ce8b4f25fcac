use Rattle.adds.proofs.compare.Passing.{unkept_at, other_inside, own_inside, both_inside}
use Rattle.adds.proofs.compare.Passing.{turn_new, turn_held, turn_both}
use Rattle.merge.proofs.keys.Laws.{read_turn}
use Rattle.tables.specs.Tables.{decode_kept, decode_unkept}
use native.Mathlib.Omega.{arith}
use Rattle.adds.proofs.compare.next_hint.Goals as goal

pub read_arriving-hint-requires : goal.read_arriving-hint-requires
read_arriving-hint-requires c =
    let l =
    other_inside c.lsn_at-a.ensures (unkept_at _ _ c.lsn_at-b.ensures) c.requires.2
    c.if-b-a.true in omega (arith, l)

pub returns-then-b-a : goal.returns-then-b-a
returns-then-b-a c =
    turn_new c.lsn_at-a.ensures (unkept_at _ _ c.lsn_at-b.ensures) c.requires.2
    c.requires.3 c.if-b-a.true
    (read_turn 8 decode_unkept _ _ _
    (other_inside c.lsn_at-a.ensures (unkept_at _ _ c.lsn_at-b.ensures) c.requires.2
    c.if-b-a.true)
    c.read_arriving-hint.ensures)

pub read_hint-x-requires : goal.read_hint-x-requires
read_hint-x-requires c =
    let l =
    own_inside c.lsn_at-a.ensures (unkept_at _ _ c.lsn_at-b.ensures) c.requires.3
    c.requires.4 c.if-b-a.false in
    omega (arith, l)

pub returns-then-a-b : goal.returns-then-a-b
returns-then-a-b c =
    let l =
    own_inside c.lsn_at-a.ensures (unkept_at _ _ c.lsn_at-b.ensures) c.requires.3
    c.requires.4 c.if-b-a.false in
    turn_held c.lsn_at-a.ensures (unkept_at _ _ c.lsn_at-b.ensures) c.requires.2
    c.requires.3 l
    (read_turn 8 decode_kept _ _ _ l c.read_hint-x.ensures) c.if-a-b.true

pub read_arriving-y-requires : goal.read_arriving-y-requires
read_arriving-y-requires c =
    let l =
    own_inside c.lsn_at-a.ensures (unkept_at _ _ c.lsn_at-b.ensures) c.requires.3
    c.requires.4 c.if-b-a.false in
    let g =
    both_inside c.lsn_at-a.ensures (unkept_at _ _ c.lsn_at-b.ensures) l c.if-a-b.false
    c.if-b-a.false in
    omega (arith, g)

pub returns : goal.returns
returns c =
    let l =
    own_inside c.lsn_at-a.ensures (unkept_at _ _ c.lsn_at-b.ensures) c.requires.3
    c.requires.4 c.if-b-a.false in
    let g =
    both_inside c.lsn_at-a.ensures (unkept_at _ _ c.lsn_at-b.ensures) l c.if-a-b.false
    c.if-b-a.false in
    turn_both c.lsn_at-a.ensures (unkept_at _ _ c.lsn_at-b.ensures) c.requires.2
    c.requires.3 l
    (read_turn 8 decode_kept _ _ _ l c.read_hint-x.ensures)
    (read_turn 8 decode_unkept _ _ _ g c.read_arriving-y.ensures) c.if-a-b.false
    c.if-b-a.false
