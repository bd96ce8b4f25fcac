use mir.Syntax.{w32}
use mir.Val.{SFits}
use mir.ValLaws.{to_z-of_z}
use native.Mathlib.Omega.{arith}
use Rattle.recorder.proofs.record.Writing.{assembled_none, assembled_near, assembled_far}
use borrow.Author.Rules.{rules}
use Rattle.recorder.proofs.record.assemble.Goals as goal

pub returns-in_default : goal.returns-in_default
returns-in_default c = assembled_none c.requires.0 (λ i. (c.type_inv.frames i).fits) (λ i. (c.type_inv.parts i).fits) _ _ _ (cc)

pub returns-then-saturating_sub-le-REPLAY_SECTORS : goal.returns-then-saturating_sub-le-REPLAY_SECTORS
returns-then-saturating_sub-le-REPLAY_SECTORS c =
    assembled_near c.requires.0 (λ i. (c.type_inv.frames i).fits) (λ i. (c.type_inv.parts i).fits) _ _ _ _ c.in-Some.is (omega arith)

pub returns : goal.returns
returns c =
    assembled_far c.requires.0 (λ i. search rules) (λ i. search rules) _ _ _ _ c.in-Some.is
    (omega arith) (to_z-of_z w32 _ ((let got : SFits w32 c.in-Some.a.remaining = search rules in got))) c.add_part.ensures
