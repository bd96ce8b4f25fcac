-- How the numbers of an index and its seven lent tables stand for its value.
use Rattle.std.specs.Prelude.{ℕ, ◌/◌, ◌-◌, ◌*◌, min, Bool, ◌&&◌, cond, List, [], ◌∷◌, ◌++◌, length, replicate, leb, ltb, eqb}
use Rattle.rules.specs.declared.AreaIndex.{AreaIndex}
use Rattle.field.specs.Number.{number_at}
use Rattle.field.specs.Records.{records, bytes_of}
use Rattle.rules.specs.declared.Made.{Made}
use Rattle.rules.specs.declared.Made.TheVariants as made
use Rattle.rules.specs.Values.{Lengths, Index, Frame, frontier_of}
use Rattle.rules.specs.Questions.{hinting_room, area_ok, question1, question2, question3, four}
use Rattle.rules.specs.Tests.{each, Answer, Refused, Accepted, after, number_of, ask, first_no}
use Rattle.rules.specs.File.{encode_checkpoint, encode_frame_header, encode_held, encode_lsn, encode_confirmation, over}
use Rattle.tables.specs.Tables.{checkpoints_in, frames_in, parts_in, lsns_in, encode_kept, kept_in, confirmations_in}

-- the bytes of the seven tables
pub record Tables : Type 0 where
  pub checkpoints : List ℕ
  pub frames : List ℕ
  pub store : List ℕ
  pub parts : List ℕ
  pub malformed : List ℕ
  pub hints : List ℕ
  pub confirmed : List ℕ

abbrev pub tables : List ℕ → List ℕ → List ℕ → List ℕ → List ℕ → List ℕ → List ℕ → Tables
tables a b c d e f g = record { checkpoints = a; frames = b; store = c; parts = d; malformed = e; hints = f; confirmed = g }

-- how many records each has space for
abbrev pub room_of : Tables → Lengths
room_of t =
    record {
      checkpoints = length t.checkpoints / 24;
      frames = length t.frames / 8;
      store = length t.store;
      parts = length t.parts / 24;
      malformed = length t.malformed / 4;
      hints = length t.hints / 8;
      confirmed = length t.confirmed / 16;
    }

-- 3 of some of the tables
unfoldable pub hint_room : ℕ → List ℕ → List ℕ → Bool
hint_room most s c = hinting_room (room_of (tables [] [] [] [] [] s c)) most

-- ---- the numbers of a value
abbrev pub numbers_from : Index → AreaIndex
numbers_from x =
    record {
      area = x.scan.area;
      interval = x.scan.interval;
      budget = x.scan.budget;
      spacing = x.hinting.spacing;
      most = x.hinting.most;
      checkpoints = length x.scan.checkpoints;
      frames = length x.scan.frames;
      parts = length x.scan.parts;
      malformed = length x.scan.malformed;
      hints = length x.hinting.hints;
      confirmed = length x.hinting.confirmed;
      ending = x.scan.ending;
      fingerprint = x.fingerprint;
      image = x.image;
    }

-- is the kind of each of the first h parts 0 or 1, as loading asks?
unfoldable pub kinds_ok : ℕ → List ℕ → Bool
kinds_ok h t = each (λ b. leb (number_at 4 b 20) 1) (records 24 (λ b. b) h t)

-- ---- the value that numbers and tables stand for
abbrev pub index_in : AreaIndex → Tables → Index
index_in x t =
    record {
      scan =
          record {
            area = x.area;
            interval = x.interval;
            budget = x.budget;
            checkpoints = checkpoints_in x.checkpoints t.checkpoints;
            frames = frames_in x.frames t.frames t.store;
            parts = parts_in x.parts t.parts;
            ending = x.ending;
            malformed = lsns_in x.malformed t.malformed;
          };
      hinting =
          record {
            spacing = x.spacing;
            most = x.most;
            hints = kept_in x.hints t.hints;
            confirmed = confirmations_in x.confirmed t.confirmed;
          };
      fingerprint = x.fingerprint;
      image = x.image;
    }

-- ---- kind bytes, which a value cannot hold
abbrev pub kinds_in : AreaIndex → Tables → Bool
kinds_in x t = kinds_ok x.parts t.parts

-- 4 where a kind is neither, after 1 to 3
unfoldable pub or_four : ℕ → ℕ
or_four n = cond (ltb 0 n && leb n 3) n 4

-- over a number, and over an answer of the rules
unfoldable pub kinded_number : Bool → ℕ → ℕ
kinded_number ok n = cond ok n (or_four n)

unfoldable pub kinded : {A : Type 0} → Bool → Answer A → Answer A
kinded ok r = cond ok r (Refused (or_four (number_of r)))

-- ---- questions of an index in its tables
-- 1 to 4: the number of the first answered no, 0 for none
unfoldable pub refusal : AreaIndex → Tables → ℕ
refusal x t = kinded_number (kinds_in x t) (first_no (four (room_of t) (index_in x t) []))

-- 1 to 3
unfoldable pub three : AreaIndex → Tables → ℕ
three x t = first_no (ask (question1 (index_in x t)) 1 ∷ ask (question2 (index_in x t)) 2 ∷ ask (question3 (room_of t) (index_in x t)) 3 ∷ [])

-- 3
unfoldable pub room_in : AreaIndex → Tables → Bool
room_in x t = question3 (room_of t) (index_in x t)

-- ---- the tables of a value
-- the bytes of all frames, end to end
unfoldable pub store_of : List Frame → List ℕ
store_of fs = bytes_of (λ f. f.bytes) fs

abbrev pub tables_from : Index → Tables → Tables
tables_from x t =
    record {
      checkpoints = over (bytes_of encode_checkpoint x.scan.checkpoints) t.checkpoints;
      frames = over (bytes_of encode_frame_header x.scan.frames) t.frames;
      store = over (store_of x.scan.frames) t.store;
      parts = over (bytes_of encode_held x.scan.parts) t.parts;
      malformed = over (bytes_of encode_lsn x.scan.malformed) t.malformed;
      hints = over (bytes_of encode_kept x.hinting.hints) t.hints;
      confirmed = over (bytes_of encode_confirmation x.hinting.confirmed) t.confirmed;
    }

-- with the hint table cleared behind the list, up to record number w
abbrev pub tables_cleared : ℕ → Index → Tables → Tables
tables_cleared w x t =
    record {
      checkpoints = (tables_from x t).checkpoints;
      frames = (tables_from x t).frames;
      store = (tables_from x t).store;
      parts = (tables_from x t).parts;
      malformed = (tables_from x t).malformed;
      hints = over (bytes_of encode_kept x.hinting.hints ++ replicate ((w - length x.hinting.hints) * 8) 0) t.hints;
      confirmed = (tables_from x t).confirmed;
    }

-- ---- the answer of a call that gives an index, and the tables afterwards
pub record MadeOut : Type 0 where
  pub answer : Made
  pub tables : Tables

abbrev pub made_out : Made → Tables → MadeOut
made_out r t = record { answer = r; tables = t }

-- a refusal changes no table; an accepted list is put into them
unfoldable pub made_out_of : (Index → Tables) → Tables → Answer Index → MadeOut
made_out_of put t (Refused n) = made_out (made.Refused n) t
made_out_of put t (Accepted x) = made_out (made.Index (numbers_from x)) (put x)

-- ---- readers
-- the frontier; 1
unfoldable pub frontier_in : AreaIndex → Answer ℕ
frontier_in x =
    after (first_no (ask (area_ok x.area) 1 ∷ [])) (Accepted (frontier_of x.area x.interval x.checkpoints x.ending))

-- the lower of two numbers, where 0 is none
unfoldable pub lowest : ℕ → ℕ → ℕ
lowest m n = cond (eqb m 0) n (cond (eqb n 0) m (min m n))
