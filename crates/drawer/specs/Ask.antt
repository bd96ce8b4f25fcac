-- What is asked of a set, and what the answers say.
use Rattle.std.specs.Prelude.{ℕ, ◌+◌, ◌*◌, ◌/◌, ◌<◌, ◌≤◌, ◌≡◌, Bool, true, false, ◌&&◌, cond, List, [], ◌∷◌, map, eqb, leb, length, take, drop, get_or, replicate, None}
use Rattle.rules.specs.declared.Area.{Area}
use Rattle.rules.specs.declared.AreaIndex.{AreaIndex}
use Rattle.rules.specs.declared.Fingerprint.TheVariants.{Unknown}
use Rattle.rules.specs.Tests.{Refused, Accepted, after}
use Rattle.rules.specs.Values.{Index}
use Rattle.rules_drawer.specs.Drawer.{max_files, lengths_in, question44, load_files, first_of, pairs_number, merge_all}
use Rattle.tables.specs.Index.{Tables, room_of, index_in, refusal}
use Rattle.laws.specs.Statements.{Savable}
use Rattle.load.specs.Limit.{limited_in}
use Rattle.load.specs.Steps.{Loadable}
use Rattle.merge.specs.Steps.{join_number}
use Rattle.drawer.specs.declared.ask.Entry.{Entry}
use Rattle.drawer.specs.declared.ask.File.{File}
use Rattle.drawer.specs.declared.ask.File.TheVariants as file
use Rattle.drawer.specs.declared.ask.Asked.{Asked}

-- ---- answers
-- no list, and no file
abbrev pub blank : AreaIndex
blank =
    record {
      area = record { key = record { slot = 0; start = 0; end = 0; channels = 0; sectors = 0 }; start = 0; end = 0 };
      interval = 0;
      budget = 0;
      spacing = 0;
      most = 0;
      checkpoints = 0;
      frames = 0;
      parts = 0;
      malformed = 0;
      hints = 0;
      confirmed = 0;
      ending = None;
      fingerprint = Unknown;
      image = None;
    }

abbrev pub no_file : Entry
no_file = record { from = 0; len = 0; found = record { index = blank; used = 0; version = 0 }; index = blank }

abbrev pub unasked : Asked
unasked = record { ok = true; number = 0; count = 0; entries = replicate 16 no_file }

abbrev pub refused_by : Asked → ℕ → Asked
refused_by s n = record { ok = false; number = n; count = s.count; entries = s.entries }

-- by the number of the first failing pair, 0 for none
unfoldable pub numbered : Asked → ℕ → Asked
numbered s n = cond (eqb n 0) s (refused_by s n)

-- the entries of the files
abbrev pub entries_in : Asked → List Entry
entries_in s = take s.count s.entries

-- ---- 44, of a count
unfoldable pub size_ok : ℕ → Bool
size_ok n = leb 1 n && leb n max_files

abbrev pub Few : List ℕ → Type 0
Few ls = length ls / 8 ≤ max_files

-- ---- files
-- the bytes of a file in the buffer b, and its limited list
abbrev pub bytes_at : List ℕ → Entry → List ℕ
bytes_at b e = take e.len (drop e.from b)

abbrev pub list_at : Area → List ℕ → ℕ → Entry → Index
list_at a b limit e = limited_in a (bytes_at b e) limit

abbrev pub lists_at : Area → List ℕ → ℕ → Asked → List Index
lists_at a b limit s = map (list_at a b limit) (entries_in s)

-- the file lies in the buffer b, was accepted, and the working tables u have room for its limited list
pub record FileLoads (a : Area) (b : List ℕ) (limit : ℕ) (u : Tables) (e : Entry) : Type 0 where
  pub inside : e.from + e.len ≤ length b
  pub ready : Loadable a (bytes_at b e) limit e.found e.index u

-- it is that of n bytes at the place at
pub record HoldsAt (a : Area) (b : List ℕ) (at n limit : ℕ) (u : Tables) (e : Entry) : Type 0 where
  pub from : e.from ≡ at
  pub len : e.len ≡ n
  pub holds : FileLoads a b limit u e

-- what the answer of one file says: a refused one refuses its set, whatever files lie behind it
pub record FileAsked (a : Area) (b : List ℕ) (from len limit : ℕ) (u : Tables) (r : File) : Type 0 where
  pub refused : (n : ℕ) → r ≡ file.Refused n → (ns : List ℕ) → load_files (room_of u) a (len ∷ ns) (drop from b) limit ≡ Refused n
  pub loads : (e : Entry) → r ≡ file.Loads e → HoldsAt a b from len limit u e

-- at most 16 files, each of which loads
pub record Held (a : Area) (b : List ℕ) (limit : ℕ) (u : Tables) (s : Asked) : Type 0 where
  pub few : s.count ≤ max_files
  pub room : length s.entries ≡ max_files
  pub each : (i : ℕ) → i < s.count → FileLoads a b limit u (get_or s.entries i no_file)

-- the files of the lengths ns load
pub record Loads (a : Area) (ns b : List ℕ) (limit : ℕ) (u : Tables) (s : Asked) : Type 0 where
  pub lists : load_files (room_of u) a ns b limit ≡ Accepted (lists_at a b limit s)
  pub held : Held a b limit u s

-- what the answer of all files says
pub record FilesAsked (a : Area) (ns b : List ℕ) (limit : ℕ) (u : Tables) (s : Asked) : Type 0 where
  pub refused : s.ok ≡ false → load_files (room_of u) a ns b limit ≡ Refused s.number
  pub loads : s.ok ≡ true → Loads a ns b limit u s

-- ---- pairs
-- the checkpoints of each list lie in the buffer, behind the header of its file
abbrev pub checkpoints_at : List ℕ → Entry → List ℕ
checkpoints_at b e = drop (e.from + 80) b

pub record Joinable (b : List ℕ) (s : Asked) : Type 0 where
  pub few : s.count ≤ max_files
  pub room : length s.entries ≡ max_files
  pub each : (i : ℕ) → i < s.count
      → ((get_or s.entries i no_file).from + 80 ≤ length b) × ((get_or s.entries i no_file).index.checkpoints * 24 ≤ length (checkpoints_at b (get_or s.entries i no_file)))

-- 41 to 43 of x, whose checkpoints are cs, with each list of the entries es
unfoldable pub join_list : AreaIndex → List ℕ → List Entry → List ℕ → ℕ
join_list x cs [] b = 0
join_list x cs (e ∷ es) b = first_of (join_number x cs e.index (checkpoints_at b e)) (join_list x cs es b)

-- of every two of the entries es, by the earlier one, then by the later
unfoldable pub join_lists : List Entry → List ℕ → ℕ
join_lists [] b = 0
join_lists (e ∷ es) b = first_of (join_list e.index (checkpoints_at b e) es b) (join_lists es b)

abbrev pub join_each : AreaIndex → List ℕ → Asked → List ℕ → ℕ → ℕ
join_each x cs s b i = join_list x cs (drop i (entries_in s)) b

abbrev pub join_pairs : AreaIndex → List ℕ → Asked → List ℕ → ℕ
join_pairs x cs s b = first_of (join_list x cs (entries_in s) b) (join_lists (entries_in s) b)

-- ---- all questions
-- nothing refuses the set
pub record Admitted (x : AreaIndex) (t : Tables) (ls b : List ℕ) (limit : ℕ) (u : Tables) (s : Asked) : Type 0 where
  pub own : refusal x t ≡ 0
  pub savable : Savable (index_in x t)
  pub size : question44 (lengths_in ls) ≡ true
  pub files : Loads x.area (lengths_in ls) b limit u s
  pub pairs : pairs_number (index_in x t ∷ lists_at x.area b limit s) ≡ 0

pub record SetAsked (x : AreaIndex) (t : Tables) (ls b : List ℕ) (limit : ℕ) (u : Tables) (s : Asked) : Type 0 where
  pub refused : s.ok ≡ false → after (refusal x t) (merge_all (room_of t) (index_in x t) (room_of u) (lengths_in ls) b limit) ≡ Refused s.number
  pub admitted : s.ok ≡ true → Admitted x t ls b limit u s
