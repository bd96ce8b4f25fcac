use Rattle.tables.proofs.Frames.{frames_by, header_fits, weight_on, weight_end, checked_no, checked_yes}
use native.Mathlib.Numerals.{add-one}
use native.Mathlib.Nat.{zero-add}
use mathlib.Core.Path.{◌∙◌, sym}
use Rattle.tables.proofs.Walk.{walk_start, walk_on, walk_stop, walk_end}
use borrow.Author.Rules.{rules}
use Rattle.sections.proofs.records.check_frames.Goals as goal

pub loop-j-init : goal.loop-j-init
loop-j-init c = (rw (frames_by _ _ _ _) (walk_start _ _ _ _ _ _ _), search rules, zero-add _)

pub returns-then-not-header_ok : goal.returns-then-not-header_ok
returns-then-not-header_ok c = λ store. checked_no _ _ _ store _ (walk_stop c.loop-j.invariant.0 c.loop-j-test.true c.read_header-h.ensures (sym c.header_ok.ensures ∙ c.if-not-header_ok.true))

pub overflow_add-used : goal.overflow_add-used
overflow_add-used c =
    let fits = header_fits _ _ _ _ _ c.loop-j.invariant.1 (sym c.header_ok.ensures ∙ c.if-not-header_ok.false) in
    search rules

pub loop-j-preserved : goal.loop-j-preserved
loop-j-preserved c =
    let ok = sym c.header_ok.ensures ∙ c.if-not-header_ok.false in
    (walk_on c.loop-j.invariant.0 c.loop-j-test.true c.read_header-h.ensures ok (rw add-one), header_fits _ _ _ _ _ c.loop-j.invariant.1 ok, weight_on _ _ _ _ c.loop-j-test.true c.read_header-h.ensures c.loop-j.invariant.2)

pub returns : goal.returns
returns c = λ store. checked_yes _ _ _ store (walk_end c.loop-j.invariant.0 c.loop-j-test.false) (weight_end _ _ _ _ c.loop-j-test.false c.loop-j.invariant.2)
