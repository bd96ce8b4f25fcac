use Rattle.sizes.proofs.Files.{no_length, no_body, no_magic, area_there}
use Rattle.rules.specs.Refusals.{answer_in, refusal_number}
use borrow.Author.Rules.{rules}
use Rattle.sizes.proofs.file_area.Goals as goal

pub returns-then-len-lt8 : goal.returns-then-len-lt8
unfolding answer_in refusal_number
returns-then-len-lt8 c = no_length _ c.if-len-lt8.true

pub returns-then-end-lt80 : goal.returns-then-end-lt80
unfolding answer_in refusal_number
returns-then-end-lt80 c = no_body _ (search rules) c.if-end-lt80.true

pub returns-then-h-ne-MAGIC : goal.returns-then-h-ne-MAGIC
unfolding answer_in refusal_number
returns-then-h-ne-MAGIC c = no_magic _ (search rules) (search rules) c.read_header-h.ensures c.if-h-ne-MAGIC.true

pub returns : goal.returns
unfolding answer_in refusal_number
returns c = area_there _ (search rules) (search rules) c.read_header-h.ensures c.if-h-ne-MAGIC.false c.area_of.ensures
