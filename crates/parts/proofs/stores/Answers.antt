use mathlib.Core.Path.{refl, ◌∙◌}
use Rattle.parts.proofs.Rule.{long_out, opens_in, full_out, last_inside, joins_in_lemma}
use native.Mathlib.Omega.{arith}
use borrow.Author.Rules.{rules}
use borrow.Author.Tests.{lt-leb}
use Rattle.parts.proofs.stores.Goals as goal

pub returns-then-n : goal.returns-then-n
returns-then-n c = long_out c.requires c.last_header-last.ensures _ refl c.if-n.true

pub returns-then-opens : goal.returns-then-opens
returns-then-opens c =
    opens_in c.requires c.last_header-last.ensures _ c.opens.ensures c.if-n.false
    c.if-opens.true (omega arith)

pub joins-requires : goal.joins-requires
joins-requires c =
    let l = last_inside c.requires c.last_header-last.ensures _ c.opens.ensures
    c.if-opens.false in
    (l.0, search rules, l.1, search rules)

pub returns-then-n-free : goal.returns-then-n-free
returns-then-n-free c =
    c.joins.ensures
    ∙ joins_in_lemma c.requires c.last_header-last.ensures _ c.opens.ensures c.if-n.false
    c.if-opens.false
    c.if-n-free.true

pub returns-else-n-free : goal.returns-else-n-free
returns-else-n-free c =
    lt-leb _ _ c.if-n-free.false
    ∙ full_out c.requires c.last_header-last.ensures _ c.opens.ensures c.if-n.false
    c.if-opens.false
    c.if-n-free.false
