-- What a call over the seven tables leaves where it writes one of them. Assumes nothing.
use mathlib.Core.Path.{◌≡◌, ap}
use mathlib.Core.List.{List}
use Prim.Native.Nat.{ℕ}
use Rattle.rules.specs.declared.AreaIndex.{AreaIndex}
use Rattle.tables.specs.Index.{Tables, tables, index_in, tables_from}
use Rattle.index.specs.Steps.{Passes}
use Rattle.tables.specs.Lent.{TableBytes}
use Rattle.index.proofs.Lent.{put_back}

-- the other tables beside a hint table, and beside a table of confirmations
abbrev pub with_hint_table : Tables → List ℕ → Tables
with_hint_table t hs = tables t.checkpoints t.frames t.store t.parts t.malformed hs t.confirmed

abbrev pub with_confirmed_table : Tables → List ℕ → Tables
with_confirmed_table t cs = tables t.checkpoints t.frames t.store t.parts t.malformed t.hints cs

module _ {x : AreaIndex} {t : Tables} (p : Passes x t) (b : TableBytes t) where
  pub hints_left : (hs : List ℕ) → with_hint_table (tables_from (index_in x t) t) hs ≡ with_hint_table t hs
  hints_left hs = ap (λ (y : Tables). with_hint_table y hs) (put_back p b)

  pub confirmed_left : (cs : List ℕ) → with_confirmed_table (tables_from (index_in x t) t) cs ≡ with_confirmed_table t cs
  confirmed_left cs = ap (λ (y : Tables). with_confirmed_table y cs) (put_back p b)
