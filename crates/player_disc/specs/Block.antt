-- Answers of the calls for disc files as a number and blocks of 24 words.
use Rattle.std.specs.Prelude.{ℕ, List, [], ◌∷◌, Option, None, Some}
use Rattle.rules.specs.File.{over}
use Rattle.blocks.specs.Blocks.{block_of, index_words}
use Rattle.blocks.specs.Calls.{Called, called, two}
use Rattle.rules.specs.declared.TableSizes.{TableSizes}
use Rattle.rules_disc.specs.declared.Contents.{Contents}
use Rattle.rules_disc.specs.declared.Contents.TheVariants.{Broken, Lists}
use Rattle.rules_disc.specs.declared.SlotEntry.{SlotEntry}
use Rattle.rules_disc.specs.declared.SlotEntry.TheVariants.{Absent, At}
use Rattle.rules_disc.specs.declared.Listed.{Listed}
use Rattle.rules_disc.specs.declared.Listed.TheVariants as listed
use Rattle.rules_disc.specs.declared.Loaded.{Loaded}
use Rattle.rules_disc.specs.declared.Loaded.TheVariants as loaded
use Rattle.disc_load.specs.DiscLoad.{DiscSizes}
use Rattle.player_disc.specs.declared.block.PlaceWords.{PlaceWords}

-- ---- the contents table
-- 1, offset and length of a list that is there, else 0
unfoldable pub place_words : SlotEntry → PlaceWords
place_words Absent = record { present = 0; offset = 0; len = 0 }
place_words (At e) = record { present = 1; offset = e.offset; len = e.len }

abbrev pub contents_words : PlaceWords → PlaceWords → List ℕ
contents_words p q =
    p.present ∷ p.offset ∷ p.len ∷ q.present ∷ q.offset ∷ q.len
    ∷ 0 ∷ 0 ∷ 0 ∷ 0 ∷ 0 ∷ 0 ∷ 0 ∷ 0 ∷ 0 ∷ 0 ∷ 0 ∷ 0 ∷ 0 ∷ 0 ∷ 0 ∷ 0 ∷ 0 ∷ 0 ∷ []

-- 54, or the words of slot 0 and of slot 1
unfoldable pub contents_into : List ℕ → Contents → Called
contents_into answer Broken = called 54 answer
contents_into answer (Lists p q) = called 0 (over (block_of (contents_words (place_words p) (place_words q))) answer)

-- ---- sizes
unfoldable pub is_present : Option TableSizes → ℕ
is_present None = 0
is_present (Some s) = 1

unfoldable pub sizes_or0 : Option TableSizes → TableSizes
sizes_or0 None = record { checkpoints = 0; frames = 0; store = 0; parts = 0; malformed = 0; hints = 0; confirmed = 0 }
sizes_or0 (Some s) = s

abbrev pub slot_words : TableSizes → ℕ → TableSizes → ℕ → List ℕ
slot_words s p t q =
    s.checkpoints ∷ s.frames ∷ s.store ∷ s.parts ∷ s.malformed ∷ s.hints ∷ s.confirmed ∷ p
    ∷ t.checkpoints ∷ t.frames ∷ t.store ∷ t.parts ∷ t.malformed ∷ t.hints ∷ t.confirmed ∷ q
    ∷ 0 ∷ 0 ∷ 0 ∷ 0 ∷ 0 ∷ 0 ∷ 0 ∷ 0 ∷ []

-- the sizes of slot 0 and whether its list is there, then the same of slot 1
unfoldable pub disc_size_words : DiscSizes → List ℕ
disc_size_words d = slot_words (sizes_or0 d.slot0) (is_present d.slot0) (sizes_or0 d.slot1) (is_present d.slot1)

-- ---- loading: three blocks, the heads of both slots and the answer
pub record CalledLists : Type 0 where
  pub number : ℕ
  pub head : List ℕ
  pub other : List ℕ
  pub answer : List ℕ

abbrev pub called_lists : ℕ → List ℕ → List ℕ → List ℕ → CalledLists
called_lists n h g a = record { number = n; head = h; other = g; answer = a }

-- 1 and the head of a list that is there; 0 and the block as it was
unfoldable pub listed_into : List ℕ → Listed → Called
listed_into head listed.Absent = called 0 head
listed_into head (listed.Index x) = called 1 (over (block_of (index_words x)) head)

-- the answer says which lists are there
unfoldable pub loaded_into : List ℕ → List ℕ → List ℕ → Loaded → CalledLists
loaded_into head other answer (loaded.Refused n) = called_lists n head other answer
loaded_into head other answer (loaded.Lists x y) =
    called_lists 0 (listed_into head x).block (listed_into other y).block
    (over (block_of (two (listed_into head x).number (listed_into other y).number)) answer)
