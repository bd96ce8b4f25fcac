-- What a player in C rests on where it asks what another list holds.
use Rattle.std.specs.Prelude.{ℕ, ◌≡◌, Bool, true, List, [], ◌∷◌, eqb, get_or}
use Rattle.rules.specs.Tests.{all, Accepted}
use Rattle.rules_lacks.specs.declared.Lacks.{Lacks}
use Rattle.tables.specs.Index.{Tables}
use Rattle.lacks.specs.Lacks.{lacks_in}
use Rattle.blocks.specs.Blocks.{words_in}
use Rattle.blocks.specs.Calls.{called, head_index}
use Rattle.player.specs.Player.{lacks_words, lacks_call}
use Rattle.theorems.specs.LacksInTables.{ServesIn}

-- the words of a block are those of what lacks accepts over the same tables
pub record Told (head other b : List ℕ) (t u : Tables) : Type 0 where
  pub lacks : Lacks
  pub is : lacks_in (head_index head) t (head_index other) u ≡ Accepted lacks
  pub words : words_in 24 b ≡ lacks_words lacks

-- an answer of 0 is no refusal, and tells what is lacking
abbrev pub LacksTold : Type 0
LacksTold = (head other answer b : List ℕ) (t u : Tables) → lacks_call head other answer t u ≡ called 0 b
    → Told head other b t u

-- seek_lacks_nothing: the first seven words are 0
unfoldable pub lacks_nothing : List ℕ → Bool
lacks_nothing ws =
    all (eqb (get_or ws 0 0) 0 ∷ eqb (get_or ws 1 0) 0 ∷ eqb (get_or ws 2 0) 0 ∷ eqb (get_or ws 3 0) 0 ∷ eqb (get_or ws 4 0) 0
    ∷ eqb (get_or ws 5 0) 0 ∷ eqb (get_or ws 6 0) 0 ∷ [])

-- then the own list does all that the other does
abbrev pub NothingLackingInC : Type 0
NothingLackingInC =
    (head other answer b : List ℕ) (t u : Tables) → lacks_call head other answer t u ≡ called 0 b
    → lacks_nothing (words_in 24 b) ≡ true
    → ServesIn (head_index head) t (head_index other) u
