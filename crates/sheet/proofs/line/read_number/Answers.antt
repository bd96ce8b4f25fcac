use Rattle.rules_coverage.specs.Lines.{is_digit, value_from}
use Rattle.sheet.proofs.Lines.{each_more, each_done, value_more, value_done, digit→, no_length, long_length, no_digits, number_is, digits_more}
use native.Mathlib.Omega.{arith}
use Prim.Native.Nat.{◌+◌, ◌*◌}
use mathlib.Core.Path.{sym, ap, ◌∙◌}
use borrow.Author.Tests.{eqb-true}
use lib.ListN.{length, drop}
use Rattle.sheet.proofs.line.read_number.Goals as goal
use Rattle.sheet.proofs.line.read_number.Goals.{then-is_empty-via-then-is_empty, then-is_empty-via-else-is_empty+then-s-gt10}

pub returns-then-is_empty : goal.returns-then-is_empty
returns-then-is_empty c =
    elim c.then-is_empty.branch [
      | then-is_empty-via-then-is_empty w ↦ no_length _ (eqb-true (length c.args.s.now) 0 (sym c.is_empty.ensures ∙ w.if-is_empty.true))
      | then-is_empty-via-else-is_empty+then-s-gt10 w ↦ long_length _ w.if-s-gt10.true
    ]

pub returns-then-not-is_digit : goal.returns-then-not-is_digit
returns-then-not-is_digit c =
    no_digits c.args.s.now
    (sym c.loop-b.invariant.digits ∙ each_more c.loop-b.b-index c.args.s.now (omega arith) is_digit
    ∙ rw (sym c.is_digit.ensures ∙ c.if-not-is_digit.true))

pub digit-requires : goal.digit-requires
digit-requires c = digit→ _ (sym c.is_digit.ensures ∙ c.if-not-is_digit.false)

pub loop-b-preserved : goal.loop-b-preserved
loop-b-preserved c =
    let s = c.args.s.now in
    let i = c.loop-b.b-index in
    let v = c.loop-b.v in
    let e = each_more i s (omega arith) is_digit in
    record {
      few = c.loop-b.invariant.few;
      most = c.loop-b.invariant.most;
      digits = sym (rw (sym c.is_digit.ensures ∙ c.if-not-is_digit.false) at e) ∙ c.loop-b.invariant.digits;
      value = ap (λ d. value_from (v * 10 + d) (drop (i + 1) s)) c.digit.ensures.0 ∙ sym (value_more i s (omega arith) v) ∙ c.loop-b.invariant.value;
      small = digits_more v i _ c.loop-b.invariant.small c.digit.ensures.1;
    }

pub returns : goal.returns
returns c =
    let s = c.args.s.now in
    let i = c.loop-b.b-index in
    let inv = c.loop-b.invariant in
    number_is s inv.few (sym inv.digits ∙ each_done i s (omega arith) is_digit) (sym (value_done i s (omega arith) c.loop-b.v) ∙ inv.value)
