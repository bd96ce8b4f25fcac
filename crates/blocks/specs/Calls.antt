-- What the calls for C share: an answer as a number and a block of 24 words; numbers from blocks and from arguments.
use Rattle.std.specs.Prelude.{ℕ, Bool, cond, List, [], ◌∷◌}
use Rattle.rules.specs.declared.Area.{Area}
use Rattle.rules.specs.declared.AreaIndex.{AreaIndex}
use Rattle.rules.specs.declared.HintRecorder.{HintRecorder}
use Rattle.rules.specs.declared.Recorder.{Recorder}
use Rattle.rules.specs.File.{over}
use Rattle.rules.specs.Tests.{Answer, Refused, Accepted}
use Rattle.blocks.specs.Blocks.{index_read, recorder_read, hint_recorder_read, words_in, block_of, is_block}

-- ---- what a call answers in C: a number, and the block afterwards
pub record Called : Type 0 where
  pub number : ℕ
  pub block : List ℕ

abbrev pub called : ℕ → List ℕ → Called
called n b = record { number = n; block = b }

-- 0 and the words of what was accepted over the start of the block; a refusal leaves it
unfoldable pub into : {A : Type 0} → (A → List ℕ) → List ℕ → Answer A → Called
into words b (Refused n) = called n b
into words b (Accepted x) = called 0 (over (block_of (words x)) b)

-- 3 where a block is not what the call asks of it, asked before anything else
unfoldable pub in_head : {A : Type 0} → Bool → A → A → A
in_head ok none r = cond ok r none

-- where a block that is only written is too short
unfoldable pub in_block : {A : Type 0} → List ℕ → A → A → A
in_block b short r = in_head (is_block b) short r

-- ---- from blocks
unfoldable pub head_index : List ℕ → AreaIndex
head_index b = index_read (words_in 24 b)

unfoldable pub head_recorder : List ℕ → Recorder
head_recorder b = recorder_read (words_in 24 b)

unfoldable pub head_hint_recorder : List ℕ → HintRecorder
head_hint_recorder b = hint_recorder_read (words_in 24 b)

-- an area's seven numbers
abbrev pub given_area : ℕ → ℕ → ℕ → ℕ → ℕ → ℕ → ℕ → Area
given_area slot channels ks ke sectors s e =
    record {
      key = record { slot = slot; start = ks; end = ke; channels = channels; sectors = sectors };
      start = s;
      end = e;
    }

-- ---- words and numbers of answers
-- one word, and words of 0
abbrev pub one_word : ℕ → List ℕ
one_word v = v ∷ 0 ∷ 0 ∷ 0 ∷ 0 ∷ 0 ∷ 0 ∷ 0 ∷ 0 ∷ 0 ∷ 0 ∷ 0 ∷ 0 ∷ 0 ∷ 0 ∷ 0 ∷ 0 ∷ 0 ∷ 0 ∷ 0 ∷ 0 ∷ 0 ∷ 0 ∷ 0 ∷ []

-- two words, and words of 0
abbrev pub two : ℕ → ℕ → List ℕ
two a b = a ∷ b ∷ 0 ∷ 0 ∷ 0 ∷ 0 ∷ 0 ∷ 0 ∷ 0 ∷ 0 ∷ 0 ∷ 0 ∷ 0 ∷ 0 ∷ 0 ∷ 0 ∷ 0 ∷ 0 ∷ 0 ∷ 0 ∷ 0 ∷ 0 ∷ 0 ∷ 0 ∷ []

-- the length saved, or the refusal number
unfoldable pub saved_number : Answer ℕ → ℕ
saved_number (Refused n) = n
saved_number (Accepted n) = n

-- with the output as block
abbrev pub saved_into : Answer ℕ → List ℕ → Called
saved_into answer out = called (saved_number answer) out
