use mathlib.Core.Path.{refl}
use Rattle.rules.specs.Refusals.{number_in}
use Rattle.rules.proofs.Refusals.{number_ne0}
use Rattle.blocks.proofs.Words.{head_long}
use Rattle.player.proofs.view_calls.Answers.{view_length_refused, block_passed, view_length_done}
use Rattle.player.proofs.view_calls.seek_raw_view_length.Goals as goal

pub returns-in-Err : goal.returns-in-Err
unfolding number_in
returns-in-Err c =
    rw c.from.ensures (view_length_refused _ _ (rw c.in-Err.is at c.check_block.ensures) _ (number_ne0 _))

pub returns : goal.returns
unfolding number_in
returns c =
    let passed = block_passed _ _ (rw c.in_default.is at c.check_block.ensures) refl in
    view_length_done _ passed.0 _ passed.1 _ c.index_in-x.ensures _ _ _
    c.view_length-viewed.ensures c.length_number.ensures

pub index_in-x-requires : goal.index_in-x-requires
unfolding number_in
index_in-x-requires c =
    head_long _ _ (block_passed _ _ (rw c.in_default.is at c.check_block.ensures) refl).1
