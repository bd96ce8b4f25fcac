use Rattle.lacks.proofs.Passing.{lsn_stands, hint_stands, confirmed_stands}
use Rattle.lacks.proofs.stands_for.Goals as goal

pub read_lsn-requires : goal.read_lsn-requires
read_lsn-requires c = rw c.in-Malformed.is at c.requires.0

pub read_lsn-requires-in-Malformed : goal.read_lsn-requires-in-Malformed
read_lsn-requires-in-Malformed c = rw c.in-Malformed.is at c.requires.1

pub read_hint-requires : goal.read_hint-requires
read_hint-requires c = rw c.in-Hints.is at c.requires.0

pub read_hint-requires-in-Hints : goal.read_hint-requires-in-Hints
read_hint-requires-in-Hints c = rw c.in-Hints.is at c.requires.1

pub read_confirmation-requires : goal.read_confirmation-requires
read_confirmation-requires c = rw c.in-Confirmed.is at c.requires.0

pub read_confirmation-requires-in-Confirmed : goal.read_confirmation-requires-in-Confirmed
read_confirmation-requires-in-Confirmed c = rw c.in-Confirmed.is at c.requires.1

pub returns-in-Malformed : goal.returns-in-Malformed
returns-in-Malformed c = lsn_stands _ _ _ _ c.in-Malformed.is c.read_lsn.ensures c.read_lsn-in-Malformed.ensures

pub returns-in-Hints : goal.returns-in-Hints
returns-in-Hints c =
    hint_stands _ _ _ _ c.in-Hints.is c.read_hint.ensures
    c.read_hint-in-Hints.ensures
    c.same_hint.ensures

pub returns-in-Confirmed : goal.returns-in-Confirmed
returns-in-Confirmed c =
    confirmed_stands _ _ _ _ c.in-Confirmed.is
    c.read_confirmation.ensures
    c.read_confirmation-in-Confirmed.ensures c.confirms_also.ensures
