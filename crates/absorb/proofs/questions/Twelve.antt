-- Question 12 in the tables. Assumes nothing.
use Rattle.std.specs.Prelude.{Option, None, Some}
use Rattle.std.specs.Option.{option_or}
use mathlib.Core.Path.{◌≡◌, refl, sym, ap, ◌∙◌}
use mathlib.Core.Bool.{Bool, true, ◌&&◌, ◌||◌, not, and-true}
use mathlib.Core.List.{List, ◌++◌}
use Prim.Native.Nat.{ℕ, ◌+◌, ◌-◌, ◌≤◌, ◌<◌}
use native.Mathlib.Omega.{arith}
use lib.Dec.{leb, ltb}
use lib.ListN.{length, drop, length-append, length-drop}
use borrow.Author.Tests.{le-leb, le-ltb, lt-ltb, leb-true}
use Rattle.field.proofs.Records.{records_length}
use Rattle.rules.specs.declared.Area.{Area}
use Rattle.rules.specs.declared.AreaIndex.{AreaIndex}
use Rattle.rules.specs.declared.Checkpoint.{Checkpoint}
use Rattle.rules.specs.declared.EndState.{EndState}
use Rattle.rules.specs.declared.Recorder.{Recorder}
use Rattle.rules.specs.Tests.{all, or_else}
use Rattle.rules.specs.Values.{frontier_of, counted, last_checkpoint, max32}
use Rattle.rules.specs.Sections.{ending_ok}
use Rattle.rules.specs.Questions.{area_ok, end_of}
use Rattle.rules.specs.File.{decode_checkpoint}
use Rattle.rules.proofs.Tests.{all→}
use Rattle.tables.specs.Tables.{checkpoints_in, lsns_in, given_in}
use Rattle.laws.specs.Twelve.{continues, list_ok, joined_ok}
use Rattle.absorb.specs.Steps.{list_in, moved_in, twelve_in}

module _ (x : AreaIndex) (cs held : List ℕ) (r : Recorder) (ds ms : List ℕ) where
  abbrev own : List Checkpoint
  own = checkpoints_in x.checkpoints cs

  abbrev theirs : List Checkpoint
  theirs = checkpoints_in r.checkpoints ds

  abbrev joined_list : List Checkpoint
  joined_list = own ++ drop (x.checkpoints - r.first) theirs

  abbrev joined_end : Option EndState
  joined_end = or_else (end_of r.mode) x.ending

  twelve_opens : twelve_in x cs held r ds ms
      ≡ (not (ltb (frontier_of x.area x.interval x.checkpoints x.ending) (frontier_of x.area x.interval (x.checkpoints + (r.checkpoints - (x.checkpoints - r.first))) joined_end))
      || (list_in x.area.start (frontier_of x.area x.interval (x.checkpoints + (r.checkpoints - (x.checkpoints - r.first))) joined_end) (counted joined_list joined_end) (given_in ms) (lsns_in x.malformed held)
      && (continues own (x.checkpoints - r.first) theirs && ending_ok x.area joined_list joined_end)))
  unfolding twelve_in joined_ok list_ok list_in all
  twelve_opens =
      rw (
        length-append (checkpoints_in x.checkpoints cs) (drop (length (checkpoints_in x.checkpoints cs) - r.first) (checkpoints_in r.checkpoints ds)),
        length-drop (length (checkpoints_in x.checkpoints cs) - r.first) (checkpoints_in r.checkpoints ds),
        records_length 24 decode_checkpoint x.checkpoints cs,
        records_length 24 decode_checkpoint r.checkpoints ds,
      ) (simp and-true)

  module _ {i n : ℕ} {e : Option EndState} {before front : ℕ} (hi : i ≡ x.checkpoints - r.first) (he : e ≡ joined_end) (hn : n ≡ x.checkpoints + (r.checkpoints - i))
      (hb : before ≡ frontier_of x.area x.interval x.checkpoints x.ending) (hf : front ≡ frontier_of x.area x.interval n e) where
    is_front : front ≡ frontier_of x.area x.interval (x.checkpoints + (r.checkpoints - (x.checkpoints - r.first))) joined_end
    is_front = hf ∙ rw (hn, hi, he)

    pub stays : front ≤ before → leb front before ≡ twelve_in x cs held r ds ms
    stays h = rw (le-leb front before h) (sym (twelve_opens ∙ rw (← hb, ← is_front, le-ltb before front h)))

    pub moves_on : {q : Bool} → before < front → q ≡ moved_in x cs held r ds ms i e front → q ≡ twelve_in x cs held r ds ms
    unfolding moved_in
    moves_on h q = q ∙ rw (hi, he) (sym (twelve_opens ∙ rw (← hb, ← is_front, lt-ltb before front h)))

-- ---- where the frontier moves
pub moved_is : (x : AreaIndex) (cs held : List ℕ) (r : Recorder) (ds ms : List ℕ) (i front : ℕ) (e : Option EndState) {last : Checkpoint} {n : ℕ} {lists goes ends : Bool}
    → last ≡ last_checkpoint (checkpoints_in x.checkpoints cs ++ drop i (checkpoints_in r.checkpoints ds))
    → ((es : List Checkpoint) → last ≡ last_checkpoint es → n ≡ counted es e) → ((es : List Checkpoint) → last ≡ last_checkpoint es → ends ≡ ending_ok x.area es e)
    → goes ≡ continues (checkpoints_in x.checkpoints cs) i (checkpoints_in r.checkpoints ds)
    → lists ≡ list_in x.area.start front n (given_in ms) (lsns_in x.malformed held) → (lists && (goes && ends)) ≡ moved_in x cs held r ds ms i e front
unfolding moved_in
moved_is x cs held r ds ms i front e l c d g h = rw (h, g, d _ l, c _ l) refl

-- ---- what the questions need
pub started : (a : Area) → area_ok a ≡ true → (a.start ≤ a.end) × (a.start ≤ max32)
unfolding area_ok
started a e = let h = all→ _ e in let p = leb-true a.start a.end h.1.0 in let q = leb-true a.end max32 h.1.1.0 in (p, omega arith)

-- the end state of the joined list
pub end_is : (c : Option EndState) {a b e : Option EndState} → a ≡ b → e ≡ option_or a c → e ≡ or_else b c
unfolding or_else
end_is c {a = None} p q = q ∙ ap (λ b. or_else b c) p
end_is c {a = Some e} p q = q ∙ ap (λ b. or_else b c) p
