use mathlib.Core.Path.{refl}
use Rattle.disc_load.proofs.ask.Asking.{inside_at, absent, present_refused, present_ready}
use Rattle.disc_load.proofs.ask.ask_body.Goals as goal

pub slice_bounds-decide-end : goal.slice_bounds-decide-end
slice_bounds-decide-end c = inside_at c.args.bytes.now c.in-At.is c.requires

pub returns-in-Absent : goal.returns-in-Absent
returns-in-Absent c = absent c.args.area c.args.bytes.now _ _ c.in-Absent.is

pub returns-in-Refused : goal.returns-in-Refused
returns-in-Refused c = present_refused c.args.area c.args.bytes.now _ _ c.in-At.is refl c.decide.ensures c.in-Refused.is

pub returns-in-Ready : goal.returns-in-Ready
returns-in-Ready c = present_ready c.args.area c.args.bytes.now _ _ c.in-At.is refl c.decide.ensures c.in-Ready.is c.requires
