use Rattle.absorb.proofs.questions.Twelve.{moved_is, started}
use native.Mathlib.Omega.{arith}
use borrow.Author.Rules.{rules}
use Rattle.absorb.proofs.questions.moved_ok.Goals as goal

pub overflow_cast-h : goal.overflow_cast-h
overflow_cast-h c = search (rules, c.struct_known-3-1.given)

pub joined_last-last-requires : goal.joined_last-last-requires
joined_last-last-requires c = (c.requires.checkpoints, c.requires.theirs)

pub continues-goes-requires : goal.continues-goes-requires
continues-goes-requires c = (c.requires.checkpoints, c.requires.theirs)

pub ending_ok-ends-requires : goal.ending_ok-ends-requires
ending_ok-ends-requires c = (started _ c.requires.area).0

pub list_ok-lists-requires : goal.list_ok-lists-requires
list_ok-lists-requires c = (omega arith, c.requires.malformed)

pub returns-then-goes : goal.returns-then-goes
returns-then-goes c =
    grind (
      arith,
      moved_is c.args.x c.args.checkpoints.now c.args.malformed.now c.args.r c.args.theirs.now c.args.given.now c.args.i c.args.front c.args.end
          c.joined_last-last.ensures c.counted-count.ensures c.ending_ok-ends.ensures c.continues-goes.ensures c.list_ok-lists.ensures,
    )

pub returns-else-goes : goal.returns-else-goes
returns-else-goes c =
    grind (
      arith,
      moved_is c.args.x c.args.checkpoints.now c.args.malformed.now c.args.r c.args.theirs.now c.args.given.now c.args.i c.args.front c.args.end
          c.joined_last-last.ensures c.counted-count.ensures c.ending_ok-ends.ensures c.continues-goes.ensures c.list_ok-lists.ensures,
    )
