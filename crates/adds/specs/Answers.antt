-- What the decisions answer.
use Rattle.std.specs.Prelude.{◌≡◌, Bool, true, not, List, ◌∷◌, ℕ, ◌+◌, ◌<◌, ◌≤◌, drop}
use Rattle.rules.specs.declared.Area.{Area}
use Rattle.rules.specs.declared.Confirmation.{Confirmation}
use Rattle.rules.specs.declared.Hint.{Hint}
use Rattle.rules.specs.Values.{max32}
use Rattle.rules.specs.Sections.{hints_ok, confirmations_ok}
use Rattle.rules.specs.Hints.{joined_hints, unkept, keep_all}
use Rattle.rules_lacks.specs.Lacks.{equal_hint}
use Rattle.adds.specs.declared.compare.Turn.{Turn}
use Rattle.adds.specs.Adds.{same_list, same_confirmation}
use Rattle.adds.specs.Marks.{Marked, marked, lsn_from}

-- r is the LSN of hint i of the n hints xs, above every LSN where there is none
pub record LsnAt (xs : List Hint) (n i r : ℕ) : Type 0 where
  pub is : r ≡ lsn_from (drop i xs)
  pub inside : i < n → r ≤ max32
  pub past : n ≤ i → r ≡ max32 + 1

-- r is the next of n and m hints merged, from numbers i and j on
pub record Turned (xs ys : List Hint) (n m i j : ℕ) (r : Turn) : Type 0 where
  pub first : Marked
  pub next : marked (drop i xs) (drop j ys) ≡ first ∷ marked (drop r.own xs) (drop r.other ys)
  pub new : first.new ≡ r.new
  pub replaced : first.replaced ≡ r.replaced
  pub hint : first.hint ≡ r.hint
  pub own : r.own ≤ n
  pub other : r.other ≤ m
  pub on : i + j < r.own + r.other

-- would hints ys, without their marks, change the held xs? Of lists that pass question 4
abbrev pub HintsAnswered : ℕ → List Hint → List Hint → Bool → Type 0
HintsAnswered most xs ys r =
    (a : Area) → hints_ok a xs ≡ true → hints_ok a ys ≡ true
    → r ≡ not (same_list equal_hint xs (joined_hints a most xs (unkept ys)))

abbrev pub ConfirmedAnswered : Bool → ℕ → List Confirmation → List Confirmation → Bool → Type 0
ConfirmedAnswered checked most cs ds r =
    (a : Area) → confirmations_ok a cs ≡ true → confirmations_ok a ds ≡ true
    → r ≡ not (same_list same_confirmation cs (keep_all checked most cs ds))
