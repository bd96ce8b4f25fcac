-- Question 12 as it is asked before anything is joined.
use Rattle.std.specs.Prelude.{ℕ, ◌+◌, ◌-◌, min, Bool, ◌||◌, not, List, [], ◌∷◌, eqb, leb, length, take, get_or}
use Rattle.field.specs.Number.{same_bytes}
use Rattle.rules.specs.declared.Checkpoint.{Checkpoint}
use Rattle.rules.specs.Tests.{all}
use Rattle.rules.specs.Values.{Scan, Recorder, max_malformed, max32, checkpoint_at, last_checkpoint, count, frontier, counted}
use Rattle.rules.specs.Sections.{ending_ok, rising, own_lsn, any_lsn}
use Rattle.rules.specs.Record.{below, joined, moves}

-- how many of the recorder's checkpoints the index has; behind 10
abbrev pub common : Scan → Recorder → ℕ
common x r = count x - r.first

-- neither threshold nor malformed count of d falls below those of c
unfoldable pub not_below : Checkpoint → Checkpoint → Bool
not_below c d = all (leb c.threshold d.threshold ∷ leb c.malformed d.malformed ∷ [])

-- may the first further checkpoint, number i of ds, if there is one, come after cs?
unfoldable pub continues : List Checkpoint → ℕ → List Checkpoint → Bool
continues cs i ds = leb (length ds) i || not_below (last_checkpoint cs) (checkpoint_at ds i)

-- the malformed LSNs that are taken where the frontier moves
abbrev pub taken_below : Scan → Recorder → List ℕ → List ℕ
taken_below x r ms = take max_malformed (below (frontier (joined x r [])) ms)

-- of w, the malformed LSNs that are taken of ms: is ms rising, does it open with those held, are as many taken as are counted, from the start on?
unfoldable pub list_ok : Scan → Recorder → List ℕ → List ℕ → Bool
list_ok x r ms w =
    all (rising own_lsn any_lsn 0 (max32 + 1) ms ∷ same_bytes (take (length x.malformed) ms) x.malformed
    ∷ eqb (length w) (min (counted (joined x r []).checkpoints (joined x r []).ending) max_malformed)
    ∷ leb x.area.start (get_or w 0 x.area.start) ∷ [])

-- 12, where questions 4 and 9 to 11 hold
unfoldable pub joined_ok : Scan → Recorder → List ℕ → Bool
joined_ok x r ms =
    not (moves x r)
    || all (list_ok x r ms (taken_below x r ms) ∷ continues x.checkpoints (common x r) r.checkpoints
    ∷ ending_ok x.area (joined x r []).checkpoints (joined x r []).ending ∷ [])
