-- The parts for checkpoints whose numbers are multiples of r, as a choice of parts. Assumes nothing.
use mathlib.Core.Path.{◌≡◌, ap}
use mathlib.Core.Bool.{true, false}
use mathlib.Core.List.{List, ◌∷◌}
use Prim.Native.Nat.{ℕ, suc, ◌/◌, ◌%◌}
use native.Mathlib.Nat.{div-le_self}
use lib.Dec.{eqb}
use lib.ListN.{length}
use Rattle.field.specs.Records.{records}
use Rattle.rules.specs.declared.Held.{Held}
use Rattle.rules.specs.Values.{Frame}
use Rattle.rules_coarsen.specs.Coarse.{coarse_parts, unstored}
use Rattle.tables.specs.Tables.{frames_of, frames_in, parts_in}
use Rattle.parts.specs.Parts as stored
use Rattle.parts.specs.Parts.{PartTables, stored_in, held_from}
use Rattle.parts.proofs.Adding.{Choice}
use Rattle.coarsen.specs.Laws.{multiples}
use Rattle.coarsen.proofs.Parts.{coarse_none, coarse_add, coarse_skip}
use Rattle.coarsen.proofs.Pieces.{multiples_yes, multiples_no}

module _ (r : ℕ) (p : Held) (ps : List Held) where
  pub one_more : eqb (p.at % r) 0 ≡ true → length (multiples r (p ∷ ps)) ≡ suc (length (multiples r ps))
  one_more e = ap length (multiples_yes r p ps e)

  pub as_many : eqb (p.at % r) 0 ≡ false → length (multiples r (p ∷ ps)) ≡ length (multiples r ps)
  as_many e = ap length (multiples_no r p ps e)

abbrev pub kept_multiples : (budget r : ℕ) (fs : List Frame) → Choice budget fs
kept_multiples budget r fs = record {
  wants = λ p. eqb (p.at % r) 0;
  number = λ a. a / r;
  low = λ a. div-le_self a r;
  many = λ ps. length (multiples r ps);
  many_yes = one_more r;
  many_no = as_many r;
  all = coarse_parts r budget fs;
  none = coarse_none r budget fs;
  yes = coarse_add r budget fs;
  no = coarse_skip r budget fs;
}

-- tables of which nothing is counted hold nothing
pub kept_from : {x : stored.Held} (budget r f h : ℕ) (o t : PartTables)
    → x ≡ held_from (coarse_parts r budget (frames_in f o.frames o.store) (parts_in h o.parts) (stored_in 0 0 t)) t
    → x ≡ held_from (coarse_parts r budget (frames_in f o.frames o.store) (parts_in h o.parts) unstored) t
unfolding records frames_of
kept_from budget r f h o t e = e
