use Rattle.adds.proofs.Seeking.{PartAsked, seek_start, seek_end, source_ready, part_inside, seek_turn}
use Rattle.adds.specs.Steps.{some_stored}
use Rattle.parts.specs.Parts.{part_tables, stored_in}
use Rattle.tables.specs.Tables.{frames_in, parts_in}
use native.Mathlib.Omega.{arith}
use Rattle.adds.proofs.stores_some.Goals as goal

pub loop-j-init : goal.loop-j-init
loop-j-init c = seek_start _ _ _ _ _ _ c.requires.0

pub source_at-at-requires : goal.source_at-at-requires
source_at-at-requires c =
    let s =
    source_ready _ _ _ _ _ _ c.requires.0 c.loop-j.invariant c.loop-j-test.true c.read_held-p.ensures in
    (s.0, s.1, s.2, s.3, s.4, (let z = s.5 in omega arith))

pub read_header-header-requires : goal.read_header-header-requires
read_header-header-requires c =
    let s =
    source_ready _ _ _ _ _ _ c.requires.0 c.loop-j.invariant c.loop-j-test.true
    c.read_held-p.ensures in
    let a = s.3 in let b = s.4 in omega arith

pub stores_one-requires : goal.stores_one-requires
stores_one-requires c = (
  c.requires.1,
  part_inside _ _ _ _ _ _ c.requires.0 c.loop-j.invariant c.loop-j-test.true
      c.read_held-p.ensures
      c.source_at-at.ensures,
)

pub returns-then-stores_one : goal.returns-then-stores_one
returns-then-stores_one c =
    ((let got : let own = stored_in c.args.c.frames c.args.c.parts (part_tables c.args.frames.now c.args.store.now c.args.parts.now) in
    PartAsked c.args.budget c.args.n c.args.f c.args.h (part_tables c.args.headers.now c.args.other.now c.args.theirs.now) own
    (some_stored c.args.budget (frames_in c.args.f c.args.headers.now c.args.other.now) c.args.n
    (parts_in c.args.h c.args.theirs.now) own)
    c.loop-j.j c.source_at-at.result c.stores_one.result = seek_turn _ _ _ _ _ _ c.requires.0 c.loop-j.invariant c.loop-j-test.true
    c.read_held-p.ensures c.source_at-at.ensures
    c.read_header-header.ensures c.stores_one.ensures in got)).found c.if-stores_one.true

pub loop-j-preserved : goal.loop-j-preserved
loop-j-preserved c =
    ((let got : let own = stored_in c.args.c.frames c.args.c.parts (part_tables c.args.frames.now c.args.store.now c.args.parts.now) in
    PartAsked c.args.budget c.args.n c.args.f c.args.h (part_tables c.args.headers.now c.args.other.now c.args.theirs.now) own
    (some_stored c.args.budget (frames_in c.args.f c.args.headers.now c.args.other.now) c.args.n
    (parts_in c.args.h c.args.theirs.now) own)
    c.loop-j.j c.source_at-at.result c.stores_one.result = seek_turn _ _ _ _ _ _ c.requires.0 c.loop-j.invariant c.loop-j-test.true
    c.read_held-p.ensures c.source_at-at.ensures
    c.read_header-header.ensures c.stores_one.ensures in got)).on c.if-stores_one.false

pub returns : goal.returns
returns c = seek_end _ _ _ _ _ _ c.requires.0 c.loop-j.invariant c.loop-j-test.false
