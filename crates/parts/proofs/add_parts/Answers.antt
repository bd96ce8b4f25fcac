use native.Mathlib.Omega.{arith}
use mathlib.Core.Path.{refl, ap}
use mathlib.Core.Bool.{not}
use Rattle.parts.proofs.Adding.{adding_start, source_ready, one_ready, adding_on}
use Rattle.parts.proofs.Adding.{adding_end}
use borrow.Author.Rules.{rules}
use Rattle.parts.proofs.add_parts.Goals as goal

pub loop-j-init : goal.loop-j-init
loop-j-init c = (
  adding_start _ _ _ _ _ _ c.requires.0 c.requires.1 (λ i. (c.type_inv.frames i).fits)
      (λ i. (c.type_inv.parts i).fits),
  refl,
  refl,
  refl,
)

pub source_at-at-requires : goal.source_at-at-requires
source_at-at-requires c =
    let s = (
    source_ready _ _ _ _ _ _ c.requires.0 c.loop-j.invariant.0 c.loop-j-test.true
    c.read_held-p.ensures) in
    (s.0, s.1, s.2, s.3, s.4, (let z = s.5 in omega arith))

pub read_header-header-requires : goal.read_header-header-requires
read_header-header-requires c =
    let s = source_ready _ _ _ _ _ _ c.requires.0 c.loop-j.invariant.0 c.loop-j-test.true
    c.read_held-p.ensures in
    let a = s.3 in let b = s.4 in omega arith

pub add_one-held-requires : goal.add_one-held-requires
add_one-held-requires c =
    one_ready _ _ _ _ _ _ c.requires.0 c.loop-j.invariant.0 c.loop-j-test.true
    c.read_held-p.ensures
    c.source_at-at.ensures c.read_header-header.ensures
    (ap not c.passed_over.ensures)

pub loop-j-preserved : goal.loop-j-preserved
loop-j-preserved c = (
  adding_on _ _ _ _ _ _ c.requires.0 c.loop-j.invariant.0 c.loop-j-test.true
      c.read_held-p.ensures
      c.source_at-at.ensures c.read_header-header.ensures
      (ap not c.passed_over.ensures) c.add_one-held.ensures
      (λ i. (c.type_inv.headers i).fits)
      (λ i. (c.type_inv.theirs i).fits),
  search rules,
  search rules,
  search rules,
)

pub returns : goal.returns
returns c = adding_end _ _ _ _ _ _ c.requires.0 c.loop-j.invariant.0 c.loop-j-test.false
