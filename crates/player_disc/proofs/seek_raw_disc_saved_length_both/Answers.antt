use mathlib.Core.Bool.{not}
use mathlib.Core.Path.{ap}
use Rattle.player_disc.specs.PlayerDisc.{disc_length_both_call}
use Rattle.blocks.proofs.calls.Blocks.{no_head, is_head_lemma, known, known_long}
use Rattle.player_disc.proofs.Answers.{length_both_done}
use Rattle.player_disc.proofs.seek_raw_disc_saved_length_both.Goals as goal

pub returns-then-not-is_index : goal.returns-then-not-is_index
unfolding disc_length_both_call
returns-then-not-is_index c = no_head _ _ _ c.is_index.ensures (ap not c.if-not-is_index.true)

pub returns-then-not-is_index-2 : goal.returns-then-not-is_index-2
unfolding disc_length_both_call
returns-then-not-is_index-2 c = is_head_lemma _ _ _ (known c.is_index.ensures (ap not c.if-not-is_index.false)) (no_head _ _ _ c.is_index-2.ensures (ap not c.if-not-is_index-2.true))

pub returns : goal.returns
returns c = length_both_done _ (known c.is_index.ensures (ap not c.if-not-is_index.false)) _ c.index_in-x.ensures _ _ (known c.is_index-2.ensures (ap not c.if-not-is_index-2.false)) _ c.index_in-y.ensures _ _ _ c.both_length-length.ensures.number c.saved_number.ensures

pub index_in-x-requires : goal.index_in-x-requires
index_in-x-requires c = known_long _ _ c.is_index.ensures (ap not c.if-not-is_index.false)

pub index_in-y-requires : goal.index_in-y-requires
index_in-y-requires c = known_long _ _ c.is_index-2.ensures (ap not c.if-not-is_index-2.false)
