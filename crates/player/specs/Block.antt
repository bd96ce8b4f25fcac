-- Words of answers, 24 in a block.
use Rattle.rules.specs.declared.HeldPart.{HeldPart}
use Rattle.std.specs.Prelude.{ℕ, List, [], ◌∷◌, Option, None, Some}
use Rattle.rules.specs.declared.Area.{Area}
use Rattle.rules.specs.declared.First.{First}
use Rattle.rules.specs.declared.Plan.{Plan}
use Rattle.rules.specs.declared.Plan.TheVariants as plan
use Rattle.rules.specs.File.{unsigned32, kind_number, bit}
use Rattle.rules_jump.specs.Names.{plan_rule, plan_rule_number}
use Rattle.rules.specs.declared.Brings.{Brings}
use Rattle.blocks.specs.Blocks.{first_told}
use Rattle.blocks.specs.declared.Told.{Told}
use Rattle.rules.specs.declared.TableSizes.{TableSizes}
use Rattle.player.specs.declared.block.HeldWords.{HeldWords}

-- ---- words of answers
-- whether a part is held, its kind, frame number, remaining (as 32 bits), offset and length
unfoldable pub assembly_words : Option HeldPart → HeldWords
assembly_words None = record { held = 0; kind = 0; number = 0; remaining = 0; offset = 0; len = 0 }
assembly_words (Some p) =
    record {
      held = 1;
      kind = kind_number p.kind;
      number = p.number;
      remaining = unsigned32 p.remaining;
      offset = p.offset;
      len = p.len;
    }

abbrev pub plan_array : ℕ → ℕ → ℕ → ℕ → ℕ → ℕ → ℕ → HeldWords → ℕ → List ℕ
plan_array place number lsn threshold back malformed digest h rule =
    place ∷ number ∷ lsn ∷ threshold ∷ back ∷ malformed ∷ digest ∷ h.held ∷ h.kind ∷ h.number ∷ h.remaining ∷ h.offset ∷ h.len
    ∷ rule ∷ 0 ∷ 0 ∷ 0 ∷ 0 ∷ 0 ∷ 0 ∷ 0 ∷ 0 ∷ 0 ∷ 0 ∷ []

-- the number of a plan's rule
abbrev pub rule_word : Plan → ℕ
rule_word p = plan_rule_number (plan_rule p)

-- 0 the area's start, 1 a checkpoint, 2 the area's end; word 13 is the rule
unfoldable pub plan_words : Plan → List ℕ
plan_words plan.Start = plan_array 0 0 0 0 0 0 0 (assembly_words None) (rule_word plan.Start)
plan_words (plan.At r) =
    plan_array 1 r.number r.lsn r.checkpoint.threshold r.checkpoint.back r.checkpoint.malformed r.checkpoint.digest
    (assembly_words r.assembly) (rule_word (plan.At r))
plan_words (plan.End e) = plan_array 2 0 0 e.threshold 0 e.malformed 0 (assembly_words None) (rule_word (plan.End e))

-- whether there is a first record, its frame number, its offset, and why there is none
abbrev pub told_words : Told → List ℕ
told_words f = f.found ∷ f.number ∷ f.offset ∷ f.why ∷ 0 ∷ 0 ∷ 0 ∷ 0 ∷ 0 ∷ 0 ∷ 0 ∷ 0 ∷ 0 ∷ 0 ∷ 0 ∷ 0 ∷ 0 ∷ 0 ∷ 0 ∷ 0 ∷ 0 ∷ 0 ∷ 0 ∷ 0 ∷ []

unfoldable pub first_words : First → List ℕ
first_words f = told_words (first_told f)

abbrev pub seven : ℕ → ℕ → ℕ → ℕ → ℕ → ℕ → ℕ → List ℕ
seven a b c d e f g = a ∷ b ∷ c ∷ d ∷ e ∷ f ∷ g ∷ 0 ∷ 0 ∷ 0 ∷ 0 ∷ 0 ∷ 0 ∷ 0 ∷ 0 ∷ 0 ∷ 0 ∷ 0 ∷ 0 ∷ 0 ∷ 0 ∷ 0 ∷ 0 ∷ 0 ∷ []

unfoldable pub size_words : TableSizes → List ℕ
size_words s = seven s.checkpoints s.frames s.store s.parts s.malformed s.hints s.confirmed

unfoldable pub area_words : Area → List ℕ
area_words a = seven a.key.slot a.key.channels a.key.start a.key.end a.key.sectors a.start a.end

-- 1 for each thing that a merge would bring
unfoldable pub brings_words : Brings → List ℕ
brings_words b =
    bit b.checkpoints ∷ bit b.ending ∷ bit b.parts ∷ bit b.malformed ∷ bit b.hints ∷ bit b.confirmed ∷ bit b.fingerprint ∷ bit b.image
    ∷ 0 ∷ 0 ∷ 0 ∷ 0 ∷ 0 ∷ 0 ∷ 0 ∷ 0 ∷ 0 ∷ 0 ∷ 0 ∷ 0 ∷ 0 ∷ 0 ∷ 0 ∷ 0 ∷ []
