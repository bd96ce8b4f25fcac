-- The definitions give what the examples should be. Assumes nothing.
use mathlib.Core.Path.{refl}
use Rattle.rules.specs.examples.Starred.{Hold}
use Rattle.rules.proofs.Examples.{evaluated}
use Rattle.rules_lacks.specs.Lacks.{any_of, missing, same_signed, same_part, same_hint, confirms_also, lacking, holds_all, lacks}
use Rattle.rules_lacks.specs.LacksExamples.{lacks_numbers, held_numbers, lists}

pub lists_hold : Hold lists
unfolding evaluated any_of missing same_signed same_part same_hint confirms_also lacking holds_all lacks lacks_numbers held_numbers lists
lists_hold = refl
