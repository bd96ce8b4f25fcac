-- What the functions of player need of each other.
use Rattle.std.specs.Prelude.{List, ℕ}
use Rattle.rules.specs.declared.Resume.{Resume}
use Rattle.rules.specs.declared.Plan.TheVariants as plan
use Rattle.player.specs.Block.{plan_words}

abbrev pub resume_words : Resume → List ℕ
resume_words r = plan_words (plan.At r)
