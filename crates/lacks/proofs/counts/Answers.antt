use Rattle.lacks.proofs.Call.{lsns_room, hints_room, confirmed_room, both_lent, counts_are}
use Rattle.lacks.proofs.counts.Goals as goal

pub missing_parts-requires : goal.missing_parts-requires
missing_parts-requires c = both_lent c.requires

pub missing_records-requires : goal.missing_records-requires
missing_records-requires c = lsns_room c.requires

pub missing_records-requires-2 : goal.missing_records-requires-2
missing_records-requires-2 c = hints_room c.requires

pub missing_records-requires-3 : goal.missing_records-requires-3
missing_records-requires-3 c = confirmed_room c.requires

pub returns : goal.returns
returns c =
    counts_are c.requires c.saturating_sub.ensures c.missing_parts.ensures
    c.missing_records.ensures
    c.missing_records-2.ensures c.missing_records-3.ensures
