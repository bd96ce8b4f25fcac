use mathlib.Core.Path.{sym, ◌∙◌}
use Rattle.rules.specs.File.{decode_hint}
use Rattle.laws.proofs.hint_lists.Passes.{between_all}
use Rattle.add_hints.proofs.Added.{number_no, number_yes, numbers_end}
use Rattle.add_hints.proofs.numbers_ok.Goals as goal

pub loop-i-init : goal.loop-i-init
loop-i-init c = rw (between_all 8 decode_hint c.args.n c.args.list.now)

pub returns-then-h-ge-MAX_NEXT_ACCEPTABLE : goal.returns-then-h-ge-MAX_NEXT_ACCEPTABLE
returns-then-h-ge-MAX_NEXT_ACCEPTABLE c =
    sym (number_no _ c.loop-i-test.true c.read_given-h.ensures
    c.if-h-ge-MAX_NEXT_ACCEPTABLE.true) ∙ c.loop-i.invariant

pub loop-i-preserved : goal.loop-i-preserved
loop-i-preserved c =
    sym (number_yes _ c.loop-i-test.true c.read_given-h.ensures c.if-h-ge-MAX_NEXT_ACCEPTABLE.false) ∙ c.loop-i.invariant

pub returns : goal.returns
returns c =
    numbers_end c.args.list.now c.loop-i-test.false ∙ c.loop-i.invariant
