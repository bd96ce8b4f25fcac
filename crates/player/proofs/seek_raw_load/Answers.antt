use mathlib.Core.Bool.{not}
use mathlib.Core.Path.{ap}
use Rattle.player.specs.Player.{load_call, load_call_as}
use Rattle.blocks.proofs.calls.Blocks.{too_short}
use Rattle.view.proofs.Roles.{no_workshop, is_workshop_lemma}
use Rattle.player.proofs.Answers.{load_done}
use Rattle.player.proofs.seek_raw_load.Goals as goal

pub returns-then-not-is_workshop : goal.returns-then-not-is_workshop
unfolding load_call_as
returns-then-not-is_workshop c = no_workshop _ _ _ c.is_workshop.ensures (ap not c.if-not-is_workshop.true)

pub returns-then-head-lt-HEAD_BYTES : goal.returns-then-head-lt-HEAD_BYTES
unfolding load_call load_call_as
returns-then-head-lt-HEAD_BYTES c = is_workshop_lemma _ _ _ c.is_workshop.ensures (ap not c.if-not-is_workshop.false) (too_short _ _ _ c.if-head-lt-HEAD_BYTES.true)

pub returns : goal.returns
unfolding load_call_as
returns c =
    is_workshop_lemma _ _ _ c.is_workshop.ensures (ap not c.if-not-is_workshop.false)
    (load_done _ _ _ c.if-head-lt-HEAD_BYTES.false _ _ _ _ _ _ _ c.put_made.ensures c.from_bytes-made.ensures c.area_from-area.ensures)
