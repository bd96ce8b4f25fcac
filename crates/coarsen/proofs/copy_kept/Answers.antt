use mathlib.Core.Path.{refl}
use native.Mathlib.Omega.{arith}
use borrow.Author.Rules.{rules}
use Rattle.coarsen.proofs.Copying.{copying_start, reach, copying_on, copying_end}
use Rattle.coarsen.proofs.copy_kept.Goals as goal

pub loop-j-init : goal.loop-j-init
loop-j-init c = (copying_start _ _ _ _ _, refl)

pub overflow_mul-j : goal.overflow_mul-j
overflow_mul-j c = search (rules, reach _ _ _ _ c.requires.keeps c.loop-j-test.true)

pub copy_part-requires : goal.copy_part-requires
copy_part-requires c =
    let i = c.loop-j-test.true in
    let a = reach _ _ _ _ c.requires.keeps i in let b = c.requires.keeps.there in let s = c.requires.space in let l = c.loop-j.invariant.1 in
    (omega arith, omega arith)

pub loop-j-preserved : goal.loop-j-preserved
loop-j-preserved c = (
  copying_on _ _ _ _ _ c.requires.keeps (λ i. (c.type_inv.t i).fits) c.loop-j.invariant.0 c.loop-j-test.true
      c.copy_part.ensures,
  search rules,
)

pub returns : goal.returns
returns c = copying_end _ _ _ _ _ c.requires.keeps c.loop-j.invariant.0 c.loop-j-test.false
