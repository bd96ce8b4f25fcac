-- Document 01, "Run", over the tables that players hold: each step is what the contracts of merge, to_bytes and from_bytes say.
use Rattle.std.specs.Prelude.{ℕ, ◌≡◌, Bool, true, false, cond, List, [], ◌∷◌, ◌++◌, length, take, Option, None, Some}
use Rattle.rules.specs.declared.Area.{Area}
use Rattle.rules.specs.declared.AreaIndex.{AreaIndex}
use Rattle.rules.specs.Sizes.{sized}
use Rattle.rules.specs.Run.{Reading, Cut, Place, Call, merge_call, save_call, load_call, Saved, State, begin, run, replace}
use Rattle.rules.specs.declared.Made.{Made}
use Rattle.rules.specs.declared.Made.TheVariants as made
use Rattle.tables.specs.Index.{Tables, room_of, index_in, kinds_in, MadeOut}
use Rattle.tables.specs.Lent.{Typed, TableBytes}
use Rattle.rules.specs.Tests.{Accepted, Refused, Answer}
use Rattle.save.specs.Save.{SaveOut, save_in}
use Rattle.load.specs.Load.{load_in}
use Rattle.merge.specs.Merge.{merge_in}

-- an index's numbers with its seven tables
pub record TablePlace : Type 0 where
  pub numbers : AreaIndex
  pub tables : Tables

-- merge into a place from another; save a place into an output; load what the call before it saved, with a limit
pub data TableCall : Type 0 where
  merge_tables : ℕ → ℕ → TableCall
  save_tables : ℕ → List ℕ → TableCall
  load_tables : ℕ → TableCall

-- the places, whose first lists went into each, and what the call before saved
pub record TableState : Type 0 where
  pub now : ℕ → TablePlace
  pub went : ℕ → List ℕ
  pub just : Option Saved

abbrev pub begin_tables : (ℕ → TablePlace) → TableState
begin_tables p = record { now = p; went = λ i. i ∷ []; just = None }

-- the numbers afterwards: the answer's, the old ones where it is a refusal
unfoldable pub numbers_after : AreaIndex → Made → AreaIndex
numbers_after x (made.Refused n) = x
numbers_after x (made.Index y) = y

unfoldable pub is_accepted : Made → Bool
is_accepted (made.Refused n) = false
is_accepted (made.Index y) = true

abbrev pub placed : TablePlace → MadeOut → TablePlace
placed p o = record { numbers = numbers_after p.numbers o.answer; tables = o.tables }

-- the file that an accepted save wrote
unfoldable pub file_of : ℕ → SaveOut → Answer ℕ → Option Saved
file_of i o (Refused n) = None
file_of i o (Accepted n) = Some (record { place = i; bytes = take n o.out })

abbrev pub merging : TablePlace → TablePlace → MadeOut
merging own other = merge_in own.numbers own.tables other.numbers other.tables

abbrev pub saving : TablePlace → List ℕ → SaveOut
saving p out = save_in p.numbers p.tables out

unfoldable pub loading_into : Area → ℕ → TableState → Option Saved → TableState
loading_into a limit s None = s
loading_into a limit s (Some b) =
    record {
      now = replace s.now b.place (placed (s.now b.place)
          (load_in a b.bytes limit (s.now b.place).tables));
      went = s.went;
      just = None;
    }

unfoldable pub table_step : Area → TableCall → TableState → TableState
table_step a (merge_tables i j) s =
    record {
      now = replace s.now i (placed (s.now i) (merging (s.now i) (s.now j)));
      went = replace s.went i (cond (is_accepted (merging (s.now i) (s.now j)).answer) (s.went i ++ s.went j)
          (s.went i));
      just = None;
    }
table_step a (save_tables i out) s =
    record { now = s.now; went = s.went; just = file_of i (saving (s.now i) out) (saving (s.now i) out).answer }
table_step a (load_tables limit) s = loading_into a limit s s.just

unfoldable pub table_run : Area → List TableCall → TableState → TableState
table_run a [] s = s
table_run a (c ∷ cs) s = table_run a cs (table_step a c s)

-- ---- read through index_in
abbrev pub place_in : TablePlace → Place
place_in p = record { list = index_in p.numbers p.tables; room = room_of p.tables }

unfoldable pub call_of : TableCall → Call
call_of (merge_tables i j) = merge_call i j
call_of (save_tables i out) = save_call i (length out)
call_of (load_tables limit) = load_call limit

unfoldable pub calls_of : List TableCall → List Call
calls_of [] = []
calls_of (c ∷ cs) = call_of c ∷ calls_of cs

abbrev pub state_in : TableState → State
state_in s = record { now = λ k. place_in (s.now k); went = s.went; just = s.just }

-- ---- from lists cut from one reading
-- numbers of their types, and bytes
pub record LentIn (x : AreaIndex) (t : Tables) : Type 0 where
  pub typed : Typed x
  pub bytes : TableBytes t

-- at first each place holds, in its tables, a list cut from the reading R: that its numbers fit their types, the lent types say; its parts have kinds, as 4 asks of tables
pub record CutIn (R : Reading) (p : TablePlace) : Type 0 where
  pub lent : LentIn p.numbers p.tables
  pub cut : sized (index_in p.numbers p.tables) ≡ true → Cut R (index_in p.numbers p.tables)
  pub kinds : kinds_in p.numbers p.tables ≡ true

abbrev pub AllCutIn : Reading → (ℕ → TablePlace) → Type 0
AllCutIn R p = (i : ℕ) → CutIn R (p i)

-- what the calls of a run leave in the places
abbrev pub after_table_calls : Reading → (ℕ → TablePlace) → List TableCall → TableState
after_table_calls R p calls = table_run R.area calls (begin_tables p)

-- what any calls leave, read through index_in, is what the run of the rules leaves, from the lists that the tables held at first
abbrev pub RunSame : Type 0
RunSame =
    (R : Reading) (p : ℕ → TablePlace) → AllCutIn R p → (calls : List TableCall)
    → state_in (after_table_calls R p calls) ≡ run R.area (calls_of calls) (begin (λ i. place_in (p i)))
