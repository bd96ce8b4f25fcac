-- How many bytes the tables of a list and its file take, and the area that a file is of.
use Rattle.std.specs.Prelude.{ℕ, min, ◌+◌, ◌*◌, max, Bool, cond, List, [], ◌∷◌, eqb, leb, length}
use Rattle.rules.specs.declared.Area.{Area}
use Rattle.rules.specs.declared.AreaIndex.{AreaIndex}
use Rattle.rules.specs.Tests.{all, ask, first_no, Answer, Refused, Accepted, after, bind}
use Rattle.rules.specs.Values.{Index, max_hints, boundaries, max_malformed, merge_room}
use Rattle.rules.specs.Questions.{area_ok, numbers_ok}
use Rattle.rules.specs.File.{read_header, saved_length}
use Rattle.rules.specs.Load.{key_of, body_in, file_number, from_bytes, limited}
use Rattle.tables.specs.Index.{Tables, index_in, refusal}
use Rattle.rules.specs.declared.TableSizes.{TableSizes}
use Rattle.rules.specs.declared.Sized.{Sized}
use Rattle.rules.specs.declared.Sized.TheVariants as sized
use Rattle.rules.specs.declared.AreaKey.{AreaKey}

-- for area, interval, budget and M
unfoldable pub sizes_of : Area → ℕ → ℕ → ℕ → TableSizes
sizes_of a k budget most =
    record {
      checkpoints = boundaries a k * 24;
      frames = boundaries a k * 8;
      store = budget;
      parts = boundaries a k * 24;
      malformed = max_malformed * 4;
      hints = (most + merge_room) * 8;
      confirmed = (most + 1) * 16;
    }

-- ---- sizes
abbrev pub sizes_for : Index → TableSizes
sizes_for x = sizes_of x.scan.area x.scan.interval x.scan.budget x.hinting.most

-- has every table at least these bytes?
unfoldable pub has_sizes : TableSizes → Tables → Bool
has_sizes s t =
    all (leb s.checkpoints (length t.checkpoints) ∷ leb s.frames (length t.frames) ∷ leb s.store (length t.store)
    ∷ leb s.parts (length t.parts) ∷ leb s.malformed (length t.malformed) ∷ leb s.hints (length t.hints)
    ∷ leb s.confirmed (length t.confirmed) ∷ [])

-- for a new list: 1, 2; M above 262,144 is lowered
unfoldable pub new_sizes : Area → ℕ → ℕ → ℕ → Answer TableSizes
new_sizes a k budget most =
    after (first_no (ask (area_ok a) 1 ∷ ask (numbers_ok k budget) 2 ∷ [])) (Accepted (sizes_of a k budget (min most max_hints)))

-- for a file and a load limit: 1, then 20 to 38
unfoldable pub file_sizes : Area → List ℕ → ℕ → Answer TableSizes
file_sizes a b limit = after (first_no (ask (area_ok a) 1 ∷ [])) (bind (from_bytes a b) (λ x. Accepted (sizes_for (limited limit x))))

unfoldable pub sized_of : Sized → Answer TableSizes
sized_of (sized.Refused n) = Refused n
sized_of (sized.Sizes s) = Accepted s

-- ---- the length of a list's file
-- or the number of the first of questions 1 to 4 answered no
unfoldable pub file_length : AreaIndex → Tables → ℕ
file_length x t = cond (eqb (refusal x t) 0) (saved_length (index_in x t)) (refusal x t)

-- the same as an answer
unfoldable pub length_in : AreaIndex → Tables → Answer ℕ
length_in x t = after (refusal x t) (Accepted (saved_length (index_in x t)))

-- ---- the area of a file
-- loading's number where it is that of a question before 22
unfoldable pub before_sum : ℕ → ℕ
before_sum n = cond (eqb n 22) 0 n

-- the range that the source's audio_sector_range gives for a key
unfoldable pub range_of : AreaKey → Area
range_of k = record { key = k; start = k.start; end = max k.start (min (k.end + 1) k.sectors) }

-- 20 and 21
unfoldable pub file_area : List ℕ → Answer Area
file_area b = after (before_sum (file_number b)) (Accepted (range_of (key_of (read_header (body_in b)))))
