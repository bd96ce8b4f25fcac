use mathlib.Core.Path.{refl}
use Rattle.drawer.proofs.Asking.{goes_past, file_refused, file_loads}
use Rattle.drawer.proofs.ask.ask_file.Goals as goal

pub returns-then-left-len : goal.returns-then-left-len
returns-then-left-len c = goes_past _ _ _ _ _ _ c.if-left-len.true

pub returns-in-Refused : goal.returns-in-Refused
returns-in-Refused c = file_refused _ _ _ _ _ _ c.if-left-len.false refl c.decide.ensures c.in-Refused.is

pub returns-in-Ready : goal.returns-in-Ready
returns-in-Ready c = file_loads _ _ _ _ _ _ c.if-left-len.false refl c.decide.ensures c.requires c.in-Ready.is
