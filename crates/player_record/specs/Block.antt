-- Answers of recorders, hint recorders, hint and keep_confirmation as a number and blocks of 24 words.
use Rattle.std.specs.Prelude.{ℕ, ℤ, eqb, leb, cond, List, [], ◌∷◌, Option, None, Some}
use Rattle.rules.specs.declared.FrameKind.{FrameKind}
use Rattle.rules.specs.declared.FrameKind.TheVariants.{Dst, Dsd}
use Rattle.rules.specs.declared.HintRecorder.{HintRecorder}
use Rattle.rules.specs.File.{bit, over}
use Rattle.rules.specs.Tests.{Answer, Refused, Accepted}
use Rattle.rules.specs.Values.{lim}
use Rattle.rules_jump.specs.Names.{NamedHint, start_rule_number, end_rule_number}
use Rattle.rules.specs.declared.Absorbed.{Absorbed}
use Rattle.blocks.specs.Blocks.{block_of, index_words, recorder_words, hint_recorder_words, seen_words}
use Rattle.rules.specs.declared.SeenSector.{SeenSector}
use Rattle.rules.specs.declared.Assembling as under
use Rattle.rules.specs.declared.TakenList.{TakenList}
use Rattle.rules.specs.declared.AreaIndex.{AreaIndex}
use Rattle.blocks.specs.Calls.{one_word, two}

-- ---- a frame under assembly
-- 0 Dst, anything else Dsd; number_from says what becomes of a kind that is neither
unfoldable pub kind_from : ℕ → FrameKind
kind_from kind = cond (eqb kind 0) Dst Dsd

-- a frame whose kind is neither 0 nor 1 gets the number LIM, which 7 refuses
unfoldable pub number_from : ℕ → ℕ → ℕ
number_from kind number = cond (leb kind 1) number lim

-- a mark of 0 is no frame, anything else one
unfoldable pub frame_from : ℕ → ℕ → ℕ → ℕ → ℤ → Option under.Assembling
frame_from mark start number kind remaining =
    cond (eqb mark 0) None
    (Some (record { start = start; number = number_from kind number; kind = kind_from kind; remaining = remaining }))

-- ---- words
-- the hint recorder afterwards, and the first record of the sector
abbrev pub sector_words : SeenSector → List ℕ
sector_words s = seen_words s.recorder s.first

-- where there is no hint recorder, the words are 0: its spacing, the first word, is not
unfoldable pub created_words : Option HintRecorder → List ℕ
created_words None = one_word 0
created_words (Some r) = hint_recorder_words r

-- 1, LSN, frame number, upper end of the read, and 1 where a later hint gave it; how the hint was chosen, and where the upper end came from
abbrev pub found_words : NamedHint → List ℕ
found_words h =
    1 ∷ h.hinted.lsn ∷ h.hinted.number ∷ h.hinted.upper ∷ bit h.hinted.later ∷ start_rule_number h.start ∷ end_rule_number h.end
    ∷ 0 ∷ 0 ∷ 0 ∷ 0 ∷ 0 ∷ 0 ∷ 0 ∷ 0 ∷ 0 ∷ 0 ∷ 0 ∷ 0 ∷ 0 ∷ 0 ∷ 0 ∷ 0 ∷ 0 ∷ []

-- where there is no hint, the words are 0
unfoldable pub hint_words : Option NamedHint → List ℕ
hint_words None = one_word 0
hint_words (Some h) = found_words h

-- 1 and the LSN; where there is no such boundary, the words are 0
abbrev pub lsn_words : ℕ → List ℕ
lsn_words l = two 1 l

unfoldable pub boundary_words : Option ℕ → List ℕ
boundary_words None = one_word 0
boundary_words (Some l) = lsn_words l

-- ---- two blocks
pub record CalledBoth : Type 0 where
  pub number : ℕ
  pub block : List ℕ
  pub answer : List ℕ

abbrev pub called_both : ℕ → List ℕ → List ℕ → CalledBoth
called_both n b a = record { number = n; block = b; answer = a }

-- words over the start of a block
abbrev pub words_over : List ℕ → List ℕ → List ℕ
words_over ws b = over (block_of ws) b

-- the answer's first word is how many hints are taken
unfoldable pub taken_into : List ℕ → List ℕ → Answer TakenList → CalledBoth
taken_into b a (Refused n) = called_both n b a
taken_into b a (Accepted k) = called_both 0 (words_over (hint_recorder_words k.recorder) b) (words_over (one_word k.count) a)

-- the answer's first word is 1, or 0 where nothing is kept
unfoldable pub kept_into : List ℕ → List ℕ → Answer (Option AreaIndex) → CalledBoth
kept_into b a (Refused n) = called_both n b a
kept_into b a (Accepted None) = called_both 0 b (words_over (one_word 0) a)
kept_into b a (Accepted (Some x)) = called_both 0 (words_over (index_words x) b) (words_over (one_word 1) a)

-- 0 writes the head and the recorder's block, 8 the recorder's alone
unfoldable pub absorbed_into : List ℕ → List ℕ → Absorbed → CalledBoth
absorbed_into head b a =
    cond (eqb a.number 0) (called_both 0 (words_over (index_words a.index) head) (words_over (recorder_words a.recorder) b))
    (cond (eqb a.number 8) (called_both 8 head (words_over (recorder_words a.recorder) b)) (called_both a.number head b))
