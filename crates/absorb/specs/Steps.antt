-- What the steps of an absorb need of the tables, and what they leave.
use Rattle.std.specs.Prelude.{◌≡◌, ℕ, ◌+◌, ◌*◌, ◌≤◌, min, Bool, true, ◌&&◌, false, cond, List, [], ◌∷◌, ◌++◌, eqb, leb, ltb, length, take, drop, get_or, Option}
use Rattle.field.specs.Number.{same_bytes}
use Rattle.rules.specs.declared.AreaIndex.{AreaIndex}
use Rattle.rules.specs.declared.EndState.{EndState}
use Rattle.rules.specs.declared.Recorder.{Recorder}
use Rattle.field.specs.Records.{bytes_of}
use Rattle.rules.specs.Tests.{all, agree, ask, first_no, or_else}
use Rattle.rules.specs.Values.{Scan, Index, max_malformed, max32, counted, frontier_of}
use Rattle.rules.specs.Values as values
use Rattle.rules.specs.Sections.{ending_ok, rising, own_lsn, any_lsn}
use Rattle.rules.specs.Record.{question9, question11, below, absorb_number, is_stopped, absorbed_index, moves, drained}
use Rattle.rules.specs.Questions.{area_ok}
use Rattle.rules.specs.File.{encode_confirmation, over, encode_lsn}
use Rattle.laws.specs.Twelve.{continues, joined_ok}
use Rattle.tables.specs.Tables.{checkpoints_in, lsns_in, given_in, encode_kept, kept_in, confirmations_in}
use Rattle.tables.specs.Index.{tables, index_in, Tables, room_of, kinds_in, kinded_number, numbers_from, tables_from}
use Rattle.tables.specs.Recorder.{recorder_tables, recorder_in, RecorderTables, recorder_room, recorder_kinds, recorder_refusal}
use Rattle.index.specs.Steps.{Passes}
use Rattle.parts.specs.declared.Counts.{Counts}
use Rattle.merge.specs.Steps.{Put}

-- an index as far as its checkpoints and malformed LSNs, and a recorder as far as its checkpoints
abbrev pub scan_up_to : AreaIndex → List ℕ → List ℕ → Scan
scan_up_to x cs ms = (index_in x (tables cs [] [] [] ms [] [])).scan

abbrev pub stretch_up_to : Recorder → List ℕ → values.Recorder
stretch_up_to r ds = recorder_in r (recorder_tables ds [] [] [])

abbrev pub index_up_to : AreaIndex → List ℕ → Index
index_up_to x cs = index_in x (tables cs [] [] [] [] [] [])

-- ---- 9 and 11
unfoldable pub nine_in : AreaIndex → Recorder → Bool
nine_in x r = question9 (index_up_to x []) (stretch_up_to r [])

unfoldable pub eleven_in : AreaIndex → List ℕ → Recorder → List ℕ → Bool
eleven_in x cs r ds = question11 (index_up_to x cs) (stretch_up_to r ds)

-- ---- 12
-- of the LSNs ms, those below front, from start on: do they fit n counted ones and the held ones?
unfoldable pub list_in : ℕ → ℕ → ℕ → List ℕ → List ℕ → Bool
list_in start front n ms held =
    all (rising own_lsn any_lsn 0 (max32 + 1) ms ∷ same_bytes (take (length held) ms) held
    ∷ eqb (length (take max_malformed (below front ms))) (min n max_malformed)
    ∷ leb start (get_or (take max_malformed (below front ms)) 0 start) ∷ [])

-- where the frontier moves to front: from number i on the recorder's checkpoints are further, and e is the end state then
unfoldable pub moved_in : AreaIndex → List ℕ → List ℕ → Recorder → List ℕ → List ℕ → ℕ → Option EndState → ℕ → Bool
moved_in x cs held r ds ms i e front =
    let own = checkpoints_in x.checkpoints cs in
    let theirs = checkpoints_in r.checkpoints ds in
    list_in x.area.start front (counted (own ++ drop i theirs) e) (given_in ms) (lsns_in x.malformed held)
    && (continues own i theirs && ending_ok x.area (own ++ drop i theirs) e)

unfoldable pub twelve_in : AreaIndex → List ℕ → List ℕ → Recorder → List ℕ → List ℕ → Bool
twelve_in x cs held r ds ms = joined_ok (scan_up_to x cs held) (stretch_up_to r ds) (given_in ms)

-- 4 of both and 10 as far as 12 needs them
pub record Joinable (x : AreaIndex) (cs held : List ℕ) (r : Recorder) (ds : List ℕ) : Type 0 where
  pub area : area_ok x.area ≡ true
  pub checkpoints : x.checkpoints * 24 ≤ length cs
  pub malformed : x.malformed * 4 ≤ length held
  pub theirs : r.checkpoints * 24 ≤ length ds
  pub joins : r.first ≤ x.checkpoints
  pub few : r.first + r.checkpoints ≤ max32

-- the number of the rules, with the kind bytes of both; 0 for none. given is the bytes of the malformed LSNs of the reading.
unfoldable pub absorb_refusal : AreaIndex → Tables → Option ℕ → List ℕ → Recorder → RecorderTables → ℕ
absorb_refusal x t image given r u =
    kinded_number (kinds_in x t && recorder_kinds r u)
    (absorb_number (room_of t) (index_in x t) (recorder_room u) (recorder_in r u) image (given_in given))

-- 10 by the numbers
unfoldable pub ten_in : AreaIndex → Recorder → Bool
ten_in x r = leb r.from (frontier_of x.area x.interval x.checkpoints x.ending) && leb r.first x.checkpoints

-- 8 to 12 of a recorder that is not stopped
unfoldable pub later_number : AreaIndex → List ℕ → List ℕ → Recorder → List ℕ → Option ℕ → List ℕ → ℕ
later_number x cs held r ds image given =
    first_no
    (ask (agree eqb x.image image) 8 ∷ ask (nine_in x r) 9 ∷ ask (ten_in x r) 10 ∷ ask (eleven_in x cs r ds) 11
    ∷ ask (twelve_in x cs held r ds given) 12 ∷ [])

-- 4 of both as far as 8 to 12 need it
pub record Readable (x : AreaIndex) (cs held : List ℕ) (r : Recorder) (ds : List ℕ) : Type 0 where
  pub area : area_ok x.area ≡ true
  pub checkpoints : x.checkpoints * 24 ≤ length cs
  pub malformed : x.malformed * 4 ≤ length held
  pub theirs : r.checkpoints * 24 ≤ length ds
  pub few : r.first + r.checkpoints ≤ max32

-- nothing refuses, and the recorder is not stopped
pub record Absorbs (x : AreaIndex) (t : Tables) (image : Option ℕ) (given : List ℕ) (r : Recorder) (u : RecorderTables) : Type 0 where
  pub accepted : absorb_refusal x t image given r u ≡ 0
  pub brings : is_stopped r.mode ≡ false

-- the numbers and the tables of an index
pub record Written : Type 0 where
  pub index : AreaIndex
  pub tables : Tables

abbrev pub written : AreaIndex → Tables → Written
written x t = record { index = x; tables = t }

-- the absorbed index, by the rules
abbrev pub absorbed_list : AreaIndex → Tables → Recorder → RecorderTables → Option ℕ → List ℕ → Index
absorbed_list x t r u image ms = absorbed_index (index_in x t) (recorder_in r u) image (given_in ms)

-- and put into the tables
unfoldable pub absorbed_in : AreaIndex → Tables → Recorder → RecorderTables → Option ℕ → List ℕ → Written
absorbed_in x t r u image ms = written (numbers_from (absorbed_list x t r u image ms)) (tables_from (absorbed_list x t r u image ms) t)

-- hints and confirmations, read and put back, stay
pub record Kept (x : AreaIndex) (s c : List ℕ) : Type 0 where
  pub hints : over (bytes_of encode_kept (kept_in x.hints s)) s ≡ s
  pub confirmed : over (bytes_of encode_confirmation (confirmations_in x.confirmed c)) c ≡ c

-- 1 to 4 of both, the index's with some tables of hints and confirmations, 9, and of 10 and 12 what is used
pub record AbsorbReady (x : AreaIndex) (cs fs st ps ls : List ℕ) (r : Recorder) (u : RecorderTables) (ms : List ℕ) : Type 0 where
  pub hints : List ℕ
  pub confirmed : List ℕ
  pub own : Passes x (tables cs fs st ps ls hints confirmed)
  pub recorder : recorder_refusal r u ≡ 0
  pub same : nine_in x r ≡ true
  pub joins : r.first ≤ x.checkpoints
  pub rises : moves (index_in x (tables cs fs st ps ls hints confirmed)).scan (recorder_in r u) ≡ true → rising own_lsn any_lsn 0 (max32 + 1) (given_in ms) ≡ true

-- ---- malformed LSNs
-- the frontier of the index, and that of n checkpoints with the end state e
abbrev pub front_at : AreaIndex → ℕ → Option EndState → ℕ
front_at x n e = frontier_of x.area x.interval n e

abbrev pub front_of : AreaIndex → ℕ
front_of x = front_at x x.checkpoints x.ending

pub record TakesBelow (x : AreaIndex) (n : ℕ) (e : Option EndState) (t ms : List ℕ) : Type 0 where
  pub area : area_ok x.area ≡ true
  pub own : x.malformed * 4 ≤ length t
  pub room : max_malformed * 4 ≤ length t
  pub rises : ltb (front_of x) (front_at x n e) ≡ true → rising own_lsn any_lsn 0 (max32 + 1) (given_in ms) ≡ true

abbrev pub TakenBelow : AreaIndex → ℕ → Option EndState → List ℕ → List ℕ → ℕ → List ℕ → Type 0
TakenBelow x n e t ms r t' =
    Put encode_lsn (cond (ltb (front_of x) (front_at x n e)) (take max_malformed (below (front_at x n e) (given_in ms))) (lsns_in x.malformed t)) r t t'

-- ---- the numbers
unfoldable pub numbers_by : AreaIndex → Option ℕ → ℕ → Counts → ℕ → Option EndState → AreaIndex
numbers_by x image n c m ending =
    record {
      area = x.area;
      interval = x.interval;
      budget = x.budget;
      spacing = x.spacing;
      most = x.most;
      checkpoints = n;
      frames = c.frames;
      parts = c.parts;
      malformed = m;
      hints = x.hints;
      confirmed = x.confirmed;
      ending = ending;
      fingerprint = x.fingerprint;
      image = (or_else x.image image);
    }

-- emptied: its next checkpoint is its first
unfoldable pub drained_of : Recorder → Recorder
drained_of r =
    record {
      area = r.area;
      interval = r.interval;
      budget = r.budget;
      first = r.first + r.checkpoints;
      from = r.from;
      checkpoints = 0;
      frames = 0;
      parts = 0;
      mode = drained r.mode;
    }
