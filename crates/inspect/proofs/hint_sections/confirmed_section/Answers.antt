use Rattle.inspect.proofs.cursor.Words.{pair_got, pair_short}
use Rattle.inspect.proofs.hint_sections.Sections.{confirmed_none, confirmed_short, confirmed_read}
use Rattle.inspect.proofs.hint_sections.confirmed_section.Goals as goal

pub returns-then-h-lt-VERSION_CONFIRMED : goal.returns-then-h-lt-VERSION_CONFIRMED
returns-then-h-lt-VERSION_CONFIRMED c = confirmed_none _ _ _ _ _ c.requires c.if-h-lt-VERSION_CONFIRMED.true

pub returns-in_default : goal.returns-in_default
returns-in_default c = confirmed_short _ _ _ _ _ c.if-h-lt-VERSION_CONFIRMED.false (pair_short _ _ c.pair.ensures c.in_default.is)

pub returns : goal.returns
returns c = confirmed_read _ _ _ _ _ c.if-h-lt-VERSION_CONFIRMED.false (pair_got _ _ c.pair.ensures c.in-Numbers.is) c.confirmed_list.ensures
