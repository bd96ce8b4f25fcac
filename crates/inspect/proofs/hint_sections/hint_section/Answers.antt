use Rattle.inspect.proofs.cursor.Words.{headed_got, headed_short}
use Rattle.inspect.proofs.hint_sections.Sections.{hints_none, hints_short, hints_read}
use Rattle.inspect.proofs.hint_sections.hint_section.Goals as goal

pub returns-then-h-lt-VERSION_HINTS : goal.returns-then-h-lt-VERSION_HINTS
returns-then-h-lt-VERSION_HINTS c = hints_none _ _ _ _ c.requires c.if-h-lt-VERSION_HINTS.true c.no_hint_header.ensures

pub returns-in_default : goal.returns-in_default
returns-in_default c = hints_short _ _ _ _ c.if-h-lt-VERSION_HINTS.false (headed_short _ _ c.hint_header.ensures c.in_default.is)

pub returns : goal.returns
returns c = hints_read _ _ _ _ c.if-h-lt-VERSION_HINTS.false (headed_got _ _ c.hint_header.ensures c.in-Header.is) c.hint_list.ensures
