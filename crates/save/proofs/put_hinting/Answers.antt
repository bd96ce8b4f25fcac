use Rattle.save.proofs.Numbers.{hinting_none, hinting_first, hinting_both, hint_room, both_room}
use native.Mathlib.Omega.{arith}
use Rattle.save.proofs.put_hinting.Goals as goal

pub returns-then-version-lt-VERSION_HINTS : goal.returns-then-version-lt-VERSION_HINTS
returns-then-version-lt-VERSION_HINTS c = hinting_none c.args.x _ _ c.version_of-version.ensures _ _ c.if-version-lt-VERSION_HINTS.true

pub put_hint_section-behind-requires : goal.put_hint_section-behind-requires
put_hint_section-behind-requires c =
    let r = hint_room c.args.x c.args.hints.now c.args.confirmed.now c.version_of-version.ensures c.if-version-lt-VERSION_HINTS.false in
    rw c.hint_header_of.ensures (c.requires.0.hints, omega (arith, r, c.requires.1))

pub returns-then-version-lt-VERSION_CONFIRMED : goal.returns-then-version-lt-VERSION_CONFIRMED
returns-then-version-lt-VERSION_CONFIRMED c = hinting_first c.args.x _ _ c.version_of-version.ensures c.if-version-lt-VERSION_HINTS.false c.if-version-lt-VERSION_CONFIRMED.true (rw c.hint_header_of.ensures at c.put_hint_section-behind.ensures)

pub put_confirmed_section-requires : goal.put_confirmed_section-requires
put_confirmed_section-requires c =
    let r = both_room c.args.x c.args.hints.now c.args.confirmed.now c.version_of-version.ensures c.if-version-lt-VERSION_CONFIRMED.false in
    let e = (rw c.hint_header_of.ensures at c.put_hint_section-behind.ensures).put.ends in
    (c.requires.0.confirmed, omega (arith, r, e, c.requires.1, c.put_hint_section-behind.auto.out))

pub returns : goal.returns
returns c =
    hinting_both c.args.x _ _ c.version_of-version.ensures c.if-version-lt-VERSION_CONFIRMED.false (rw c.hint_header_of.ensures at c.put_hint_section-behind.ensures)
    c.put_confirmed_section.ensures
