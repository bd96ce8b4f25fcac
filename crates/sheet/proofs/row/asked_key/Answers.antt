use Rattle.sheet.specs.Rows.{asked_key}
use Rattle.sheet.proofs.Rows.{key_is}
use borrow.Author.Tests.{lt-ltb}
use lib.ListN.{length}
use borrow.Author.Rules.{rules}
use Rattle.sheet.proofs.row.asked_key.Goals as goal

pub returns-then-bytes-lt88 : goal.returns-then-bytes-lt88
unfolding asked_key
returns-then-bytes-lt88 c = rw (lt-ltb (length c.args.bytes.now) 88 c.if-bytes-lt88.true)

pub returns : goal.returns
returns c = key_is _ _ (search rules) c.read_header-h.ensures c.asked_slot.ensures
