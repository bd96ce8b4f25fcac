use mathlib.Core.Bool.{not}
use mathlib.Core.Path.{ap}
use mathlib.Core.Path.{refl}
use Rattle.rules.specs.Sections.{rising_ok, risen, rising, own_lsn, any_lsn}
use Rattle.rules.specs.File.{decode_lsn}
use Rattle.inspect.proofs.scan.Lsns.{taken_no, taken_short, taken_room, taken_all}
use borrow.Author.Rules.{rules}
use Rattle.inspect.proofs.scan.inspect_lsns.Goals as goal

pub returns-then-not-check_lsns : goal.returns-then-not-check_lsns
unfolding rising
returns-then-not-check_lsns c =
    taken_no 4 decode_lsn (rising_ok own_lsn any_lsn c.args.front) (risen own_lsn) 35 refl _ _ _ _ _ c.requires c.behind-b.ensures c.there-some.ensures.0
    c.there-some.ensures.1 c.there-some.ensures.2 c.check_lsns.ensures (ap not c.if-not-check_lsns.true)

pub returns-then-some-m : goal.returns-then-some-m
unfolding rising
returns-then-some-m c =
    taken_short 4 decode_lsn (rising_ok own_lsn any_lsn c.args.front) (risen own_lsn) 35 refl _ _ _ _ _ c.requires c.behind-b.ensures c.there-some.ensures.0
    c.there-some.ensures.1 c.there-some.ensures.2 c.check_lsns.ensures (ap not c.if-not-check_lsns.false) c.if-some-m.true

pub past-requires : goal.past-requires
unfolding rising
past-requires c =
    let l = taken_room 4 decode_lsn (rising_ok own_lsn any_lsn c.args.front) (risen own_lsn) 35 refl _ _ _ _ _ c.requires c.behind-b.ensures c.there-some.ensures.0
    c.there-some.ensures.1 c.there-some.ensures.2 c.check_lsns.ensures c.if-some-m.false in search rules

pub returns : goal.returns
unfolding rising
returns c =
    taken_all 4 decode_lsn (rising_ok own_lsn any_lsn c.args.front) (risen own_lsn) 35 refl _ _ _ _ _ c.requires c.behind-b.ensures c.there-some.ensures.0
    c.there-some.ensures.1 c.there-some.ensures.2 c.check_lsns.ensures (ap not c.if-not-check_lsns.false) c.if-some-m.false c.past.ensures
