use Rattle.rules_coverage.specs.Coverage.{digits, decimal_text}
use Rattle.sheet.proofs.Written.{spell_more, spell_last, two_digits, one_digit_less}
use native.Mathlib.Omega.{arith}
use Prim.Native.Nat.{ℕ, ◌+◌, ◌-◌, ◌%◌}
use mathlib.Core.Path.{◌≡◌, ◌∙◌}
use mathlib.Core.List.{List, ◌++◌, append-nil}
use lib.ListN.{length, drop, length-set, drop_of_length-le}
use borrow.Author.Rules.{rules}
use Rattle.sheet.proofs.text.spell.Goals as goal

begins : (v : ℕ) (t : List ℕ) → length t ≡ 20 → digits 20 v ++ drop 20 t ≡ decimal_text v
unfolding decimal_text
begins v t h = rw (drop_of_length-le t {i = 20} (omega arith)) (append-nil (digits 20 v))

pub loop-rest-init : goal.loop-rest-init
loop-rest-init c = record { room = c.requires; first = search rules; last = search rules; small = search rules; spelt = begins c.args.v c.args.text.now c.requires }

pub loop-rest-preserved : goal.loop-rest-preserved
loop-rest-preserved c =
    let inv = c.loop-rest.invariant in
    let at = c.loop-rest.at in
    let rest = c.loop-rest.rest in
    let t = c.loop-rest.text in
    let two = two_digits at rest c.loop-rest-test.true inv.small in
    let e : at - 1 + 1 ≡ at = omega arith in
    record {
      room = length-set t (at - 1) (48 + rest % 10) ∙ inv.room;
      first = omega arith;
      last = omega arith;
      small = one_digit_less (at - 1) rest (rw e inv.small);
      spelt = spell_more (at - 1) rest t (omega arith) c.loop-rest-test.true ∙ rw e inv.spelt;
    }

pub returns : goal.returns
returns c =
    let inv = c.loop-rest.invariant in
    let at = c.loop-rest.at in
    let rest = c.loop-rest.rest in
    let e : at - 1 + 1 ≡ at = omega arith in
    (spell_last (at - 1) rest c.loop-rest.text (omega arith) (omega arith) ∙ rw e inv.spelt, let l = inv.room in simp length-set (omega arith))

pub shape_of-text : goal.shape_of-text
shape_of-text c =
    let l = c.loop-rest.invariant.room in
    simp length-set (omega arith)
