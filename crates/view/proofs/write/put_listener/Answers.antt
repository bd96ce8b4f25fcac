use native.Mathlib.Omega.{arith}
use Rattle.view.proofs.Views.{head_behind}
use Rattle.view.proofs.write.put_listener.Goals as goal

pub write_words-requires : goal.write_words-requires
write_words-requires c = omega (arith, c.requires.2)

pub put_seen-requires : goal.put_seen-requires
put_seen-requires c = (c.requires.0, c.requires.1, omega (arith, c.requires.2, c.write_words.auto.out))

pub returns : goal.returns
returns c = head_behind c.args.role c.args.x c.args.checkpoints.now (rw c.head_words.ensures at c.write_words.ensures) (omega (arith, c.requires.2)) c.put_seen.ensures
