use Rattle.coarsen.proofs.Ready.{wider, keeps, copies, holds, takes, hints_there, confirmed_there}
use Rattle.coarsen.proofs.Done.{committed}
use borrow.Author.Rules.{rules}
use Rattle.coarsen.proofs.commit.Goals as goal

pub nonzero_div-r : goal.nonzero_div-r
nonzero_div-r c = search (rules, (wider c.requires).old)

pub kept-n-requires : goal.kept-n-requires
kept-n-requires c = (wider c.requires).ratio

pub count_of-count-requires : goal.count_of-count-requires
count_of-count-requires c = keeps c.requires c.kept-n.ensures

pub copy_kept-requires : goal.copy_kept-requires
copy_kept-requires c = copies c.requires c.kept-n.ensures

pub keep_parts-c-requires : goal.keep_parts-c-requires
keep_parts-c-requires c = holds c.requires

pub copy_first-requires : goal.copy_first-requires
copy_first-requires c = takes c.requires c.count_of-count.ensures c.min-m.ensures

pub copy_first-requires-2 : goal.copy_first-requires-2
copy_first-requires-2 c = hints_there c.requires

pub copy_first-requires-3 : goal.copy_first-requires-3
copy_first-requires-3 c = confirmed_there c.requires

pub returns : goal.returns
returns c =
    committed _ _ _ _ c.requires (λ i. (c.type_inv.malformed i).fits) (λ i. (c.type_inv.hints i).fits)
    (λ i. (c.type_inv.confirmed i).fits) c.kept-n.ensures c.count_of-count.ensures c.min-m.ensures
    (takes c.requires c.count_of-count.ensures c.min-m.ensures).0 (hints_there c.requires).0 (confirmed_there c.requires).0 c.copy_kept.ensures
    c.keep_parts-c.ensures c.copy_first.ensures c.copy_first-2.ensures c.copy_first-3.ensures c.numbers.ensures
