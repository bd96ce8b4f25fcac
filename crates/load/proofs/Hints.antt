-- The hints of a file, without marks, and thinned into a table. Assumes nothing.
use mathlib.Core.Path.{◌≡◌, refl, ◌∙◌}
use Prim.Native.Nat.{ℕ}
use mathlib.Core.List.{List, ◌++◌}
use native.Mathlib.Omega.{arith}
use lib.ListN.{length}
use Rattle.field.specs.Records.{bytes_of}
use Rattle.field.proofs.Format.{Each, records_bytes}
use Rattle.rules.specs.declared.Hint.{Hint}
use Rattle.rules.specs.File.{encode_hint}
use Rattle.rules.specs.Hints.{unkept}
use Rattle.laws.proofs.Layouts.{hint_layout}
use Rattle.laws.proofs.Marks.{unkept_length, unkept_bytes, unkept_each}
use Rattle.tables.specs.Tables.{hints_in, kept_in}
use Rattle.tables.proofs.Kept.{KeptFits, kept_given}

-- the hints of a file, read as those of a table: a file holds no mark
pub kept_file : {hs : List Hint} (r : List ℕ) → Each KeptFits hs → kept_in (length hs) (bytes_of encode_hint hs ++ r) ≡ unkept hs
kept_file {hs} r f =
    let g : hints_in (length (unkept hs)) (bytes_of encode_hint (unkept hs) ++ r) ≡ unkept hs =
    records_bytes hint_layout r (unkept_each (λ h p. ((p.0, (let n = p.1.0 in omega arith, tt)), refl)) f) in
    let e : hints_in (length hs) (bytes_of encode_hint hs ++ r) ≡ unkept hs = rw (unkept_length hs, unkept_bytes hs) at g in
    kept_given (length hs) (bytes_of encode_hint hs ++ r) (rw e (unkept_each (λ h p. let n = p.1.0 in omega arith) f)) ∙ e
