use native.Mathlib.Omega.{arith}
use mathlib.Core.Path.{refl, ◌∙◌}
use Rattle.parts.proofs.Adding.{adding_start, source_ready, one_ready, adding_on, adding_end}
use Rattle.coarsen.proofs.Keeping.{kept_from}
use Rattle.coarsen.proofs.keep_parts.Goals as goal

pub loop-j-init : goal.loop-j-init
loop-j-init c = (
  adding_start _ _ _ _ _ _ c.requires.lent c.requires.room (λ i. (c.type_inv.frames i).fits)
      (λ i. (c.type_inv.parts i).fits),
  refl,
  refl,
  refl,
)

pub source_at-at-requires : goal.source_at-at-requires
source_at-at-requires c =
    let s = (
    source_ready _ _ _ _ _ _ c.requires.lent c.loop-j.invariant.0 c.loop-j-test.true c.read_held-p.ensures) in
    (s.0, s.1, s.2, s.3, s.4, (let z = s.5 in omega arith))

pub read_header-header-requires : goal.read_header-header-requires
read_header-header-requires c =
    let s = source_ready _ _ _ _ _ _ c.requires.lent c.loop-j.invariant.0 c.loop-j-test.true c.read_held-p.ensures in
    let a = s.3 in let b = s.4 in omega arith

pub is_kept-requires : goal.is_kept-requires
is_kept-requires c = c.requires.ratio

pub renumbered-requires : goal.renumbered-requires
renumbered-requires c = c.requires.ratio

pub add_one-held-requires : goal.add_one-held-requires
add_one-held-requires c =
    one_ready _ _ _ _ _ _ c.requires.lent c.loop-j.invariant.0 c.loop-j-test.true c.read_held-p.ensures
    c.source_at-at.ensures c.read_header-header.ensures c.is_kept.ensures

pub loop-j-preserved : goal.loop-j-preserved
loop-j-preserved c = (
  adding_on _ _ _ _ _ _ c.requires.lent c.loop-j.invariant.0 c.loop-j-test.true c.read_held-p.ensures
      c.source_at-at.ensures c.read_header-header.ensures c.is_kept.ensures
      (rw c.renumbered.ensures at c.add_one-held.ensures)
      (λ i. (c.type_inv.headers i).fits) (λ i. (c.type_inv.theirs i).fits),
  (c.frames-1.given ∙ c.loop-j.invariant.1),
  (c.store-1.given ∙ c.loop-j.invariant.2),
  (c.parts-1.given ∙ c.loop-j.invariant.3),
)

pub returns : goal.returns
returns c = kept_from _ _ _ _ _ _ (adding_end _ _ _ _ _ _ c.requires.lent c.loop-j.invariant.0 c.loop-j-test.false)
