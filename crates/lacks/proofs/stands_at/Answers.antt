use borrow.Author.Tests.{le-ltb}
use Rattle.lacks.proofs.Passing.{first_none, first_is}
use Rattle.lacks.specs.Sections.{width_of, decode_item, stands_for}
use Rattle.merge.proofs.keys.Laws.{row_fits}
use mathlib.Core.Path.{refl}
use Rattle.lacks.proofs.stands_at.Goals as goal

pub stands_for-requires : goal.stands_for-requires
stands_for-requires c = (row_fits (width_of c.args.s) c.args.i c.args.n c.args.own.now c.if-i-n.true c.requires.0, c.requires.1)

pub returns-then-i-n : goal.returns-then-i-n
returns-then-i-n c =
    let s = c.args.s in
    first_is (stands_for s) (width_of s) (decode_item s) _ _ c.if-i-n.true refl c.stands_for.ensures

pub returns-else-i-n : goal.returns-else-i-n
returns-else-i-n c =
    let s = c.args.s in
    rw (le-ltb c.args.i c.args.n c.if-i-n.false) (first_none (stands_for s) (width_of s) (decode_item s) _ _ c.if-i-n.false)
