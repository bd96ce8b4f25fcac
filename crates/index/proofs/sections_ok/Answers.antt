use native.Mathlib.Omega.{arith}
use Rattle.index.proofs.Questions.{range, sections_is}
use Rattle.index.proofs.sections_ok.Goals as goal

pub held_ok-requires : goal.held_ok-requires
held_ok-requires c =
    let l = c.requires.0 in
    let r = range _ c.requires.1 in
    (l.parts, l.checkpoints, l.frames, omega arith, omega arith)

pub ends_ok-requires : goal.ends_ok-requires
ends_ok-requires c = let l = c.requires.0 in let r = range _ c.requires.1 in (r.order, r.end, l.checkpoints, l.malformed)

pub returns-then-held_ok : goal.returns-then-held_ok
returns-then-held_ok c = grind (arith, sections_is)

pub returns-else-held_ok : goal.returns-else-held_ok
returns-else-held_ok c = grind (arith, sections_is)
