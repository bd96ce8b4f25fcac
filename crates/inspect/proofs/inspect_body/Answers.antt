use native.Mathlib.Omega.{arith}
use Rattle.inspect.proofs.Tails.{header_room, body_short, body_magic, body_sum, body_header, body_on}
use Rattle.inspect.proofs.inspect_body.Goals as goal

pub returns-then-body-lt-HEADER : goal.returns-then-body-lt-HEADER
returns-then-body-lt-HEADER c = body_short _ _ _ c.if-body-lt-HEADER.true

pub returns-then-h-ne-MAGIC : goal.returns-then-h-ne-MAGIC
returns-then-h-ne-MAGIC c = body_magic _ _ _ c.if-body-lt-HEADER.false c.read_header-h.ensures c.if-h-ne-MAGIC.true

pub returns-then-fnv-sum : goal.returns-then-fnv-sum
returns-then-fnv-sum c = body_sum _ _ _ c.if-body-lt-HEADER.false c.read_header-h.ensures c.if-h-ne-MAGIC.false c.fnv.ensures c.if-fnv-sum.true

pub returns-then-number-ne0 : goal.returns-then-number-ne0
returns-then-number-ne0 c =
    body_header _ _ _ c.if-body-lt-HEADER.false c.read_header-h.ensures c.if-h-ne-MAGIC.false c.fnv.ensures c.if-fnv-sum.false
    c.header_number-number.ensures c.if-number-ne0.true

pub inspect_sections-requires : goal.inspect_sections-requires
inspect_sections-requires c = let q = header_room _ _ _ c.header_number-number.ensures c.if-number-ne0.false in (c.requires, omega arith)

pub returns : goal.returns
returns c =
    body_on _ _ _ c.if-body-lt-HEADER.false c.read_header-h.ensures c.if-h-ne-MAGIC.false c.fnv.ensures c.if-fnv-sum.false
    c.header_number-number.ensures c.if-number-ne0.false c.inspect_sections.ensures
