use Rattle.adds.proofs.compare.Passing.{arriving_all, arriving_low}
use Rattle.merge.proofs.keys.Laws.{read_turn, skipped}
use Rattle.merge.specs.Keys.{key_of}
use Rattle.rules.specs.File.{decode_confirmation}
use Rattle.rules.specs.Sections.{confirmed_lsn}
use Rattle.field.proofs.Records.{records_length}
use native.Mathlib.Omega.{arith}
use mathlib.Core.Path.{◌≡◌, refl}
use mathlib.Core.List.{List}
use Prim.Native.Nat.{ℕ}
use Rattle.adds.proofs.compare.first_arriving.Goals as goal

-- a confirmation begins with its LSN
first : (b : List ℕ) → confirmed_lsn (decode_confirmation b) ≡ key_of b
unfolding decode_confirmation key_of
first b = refl

pub returns-then-n-most : goal.returns-then-n-most
returns-then-n-most c = (omega arith, arriving_all _ _ _ _ (records_length 16 decode_confirmation _ _) c.if-n-most.true)

pub returns : goal.returns
returns c =
    let skip = skipped confirmed_lsn 16 decode_confirmation first _ _ 0 _ (omega arith) c.skip.ensures in (
      skip.0,
      arriving_low _ _ _ _ (records_length 16 decode_confirmation _ _) c.if-n-most.false c.requires.2
          (read_turn 16 decode_confirmation _ _ 0 (omega (arith, c.if-n-most.false, c.requires.2))
          c.read_confirmation.ensures) skip.1,
    )
