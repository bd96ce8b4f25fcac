use native.Mathlib.Omega.{arith}
use Rattle.rules.specs.Questions.{held_ok}
use Rattle.rules.specs.Tests.{all}
use Rattle.sections.proofs.held_ok.Goals as goal

pub returns-then-check_frames : goal.returns-then-check_frames
unfolding held_ok all
returns-then-check_frames c = λ store. let q = (c.check_frames.ensures store).answer in grind (arith, q)

pub returns-else-check_frames : goal.returns-else-check_frames
unfolding held_ok all
returns-else-check_frames c = λ store. let q = (c.check_frames.ensures store).answer in grind (arith, q)
