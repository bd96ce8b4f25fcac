-- An answer as one number. Assumes nothing.
use mathlib.Core.Path.{◌≡◌, refl}
use Prim.Native.Nat.{ℕ}
use Rattle.std.specs.Prelude.{Result, Ok, Err}
use Rattle.std.specs.Result.{result_unwrap_or}
use Rattle.rules.specs.declared.Refusal.{Refusal}
use Rattle.rules.specs.Refusals.{answer_in, number_in}
use Rattle.blocks.specs.Calls.{saved_number}

-- the length, or the number of the refusal
pub saved_is : (r : Result ℕ Refusal) → saved_number (answer_in r) ≡ result_unwrap_or r (number_in r)
unfolding saved_number answer_in number_in
saved_is (Err e) = refl
saved_is (Ok n) = refl
