use mathlib.Core.Path.{refl, sym, ◌∙◌}
use borrow.Author.Tests.{ltb-true, ltb-false}
use Rattle.tables.specs.Index.{index_in}
use Rattle.tables.specs.Loans.{tables_in}
use Rattle.disc_save.proofs.Answers.{first_by_slot, second_by_slot}
use Rattle.disc_save.proofs.write_by_slot.Goals as goal

pub write_lists-requires : goal.write_lists-requires
write_lists-requires c = c.requires

pub returns-then-stands_first : goal.returns-then-stands_first
returns-then-stands_first c = first_by_slot (index_in c.args.x (tables_in c.args.t.now)) (index_in c.args.y (tables_in c.args.other.now)) c.args.out.now refl refl (ltb-true _ _ (sym c.stands_first.ensures ∙ c.if-stands_first.true)) c.write_lists.ensures

pub write_lists-requires-else-stands_first : goal.write_lists-requires-else-stands_first
write_lists-requires-else-stands_first c = (c.requires.1, c.requires.0)

pub returns-else-stands_first : goal.returns-else-stands_first
returns-else-stands_first c = second_by_slot (index_in c.args.x (tables_in c.args.t.now)) (index_in c.args.y (tables_in c.args.other.now)) c.args.out.now refl refl (ltb-false _ _ (sym c.stands_first.ensures ∙ c.if-stands_first.false)) c.write_lists-else-stands_first.ensures
