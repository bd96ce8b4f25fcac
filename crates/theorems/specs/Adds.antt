-- What a merge would bring (adds): when nothing is named, and what the desk stands on where nothing is named but the image id.
use Rattle.std.specs.Prelude.{ℕ, ◌≡◌, ◌↔◌, Bool, true, not, [], ◌∷◌}
use Rattle.rules.specs.declared.AreaIndex.{AreaIndex}
use Rattle.rules.specs.declared.Held.{Held}
use Rattle.rules.specs.Tests.{all, Accepted}
use Rattle.rules.specs.Values.{Index, Lengths, part_bytes}
use Rattle.rules.specs.Plan.{jump, plan, bytes_at}
use Rattle.rules.specs.Merge.{merge}
use Rattle.rules.specs.File.{saved}
use Rattle.rules_jump.specs.Names.{named_hint}
use Rattle.rules.specs.declared.Made.TheVariants as made
use Rattle.tables.specs.Index.{Tables, index_in, made_out}
use Rattle.plan.specs.Plan.{plan_in}
use Rattle.hint.specs.Hint.{hint_in}
use Rattle.rules.specs.declared.Brings.{Brings}
use Rattle.adds.specs.Adds.{brings, adds_in}
use Rattle.merge.specs.Merge.{merge_in}
use Rattle.theorems.specs.TableRun.{LentIn}

-- is nothing named but, at most, the image id?
unfoldable pub none_but_image : Brings → Bool
none_but_image b =
    all (not b.checkpoints ∷ not b.ending ∷ not b.parts ∷ not b.malformed ∷ not b.hints
    ∷ not b.confirmed ∷ not b.fingerprint ∷ [])

unfoldable pub none_named : Brings → Bool
none_named b = all (none_but_image b ∷ not b.image ∷ [])

-- nothing is named exactly where the merge leaves the own list as it is
abbrev pub NothingNamed : Type 0
NothingNamed =
    (l m : Lengths) (own other : Index) (b : Brings) → brings l own m other ≡ Accepted b
    → (none_named b ≡ true → merge l own m other ≡ Accepted own)
    × (merge l own m other ≡ Accepted own → none_named b ≡ true)

-- and where nothing is named but the image id, the own list answers every frame as the merged one does, and is saved as the same bytes
pub record SameAnswers (l : Lengths) (own x : Index) : Type 0 where
  pub plans : (first : ℕ) → plan l x first ≡ plan l own first
  pub starts : (first : ℕ) → jump x.scan first ≡ jump own.scan first
  pub parts : (p : Held) → part_bytes x.scan.frames p ≡ part_bytes own.scan.frames p
  pub hints : (first end playtime : ℕ) → named_hint l x first end playtime ≡ named_hint l own first end playtime
  pub file : saved x ≡ saved own

abbrev pub OnlyImageNamed : Type 0
OnlyImageNamed =
    (l m : Lengths) (own other x : Index) (b : Brings) → brings l own m other ≡ Accepted b → none_but_image b ≡ true
    → merge l own m other ≡ Accepted x
    → SameAnswers l own x

-- ---- the calls over lent tables: adds names b, and merge leaves the numbers z and the tables t'
-- nothing is named exactly where the tables then hold the own list as it was
abbrev pub NothingNamedInTables : Type 0
NothingNamedInTables =
    (x : AreaIndex) (t : Tables) (y : AreaIndex) (u : Tables) (b : Brings) (z : AreaIndex) (t' : Tables) → LentIn x t
    → LentIn y u
    → adds_in x t y u ≡ Accepted b → merge_in x t y u ≡ made_out (made.Index z) t'
    → (none_named b ≡ true) ↔ (index_in z t' ≡ index_in x t)

-- the own tables answer as those after the merge do: plan and hint for every frame, the bytes of every part of the store, and the file
pub record SameAnswersInTables (x : AreaIndex) (t : Tables) (z : AreaIndex) (t' : Tables) : Type 0 where
  pub plans : (first : ℕ) → plan_in z t' first ≡ plan_in x t first
  pub parts : (offset len : ℕ) → bytes_at t'.store offset len ≡ bytes_at t.store offset len
  pub hints : (first end playtime : ℕ) → hint_in z t' first end playtime ≡ hint_in x t first end playtime
  pub file : saved (index_in z t') ≡ saved (index_in x t)

-- where nothing is named but the image id, which no file holds, deleting the other list loses nothing
abbrev pub OnlyImageNamedInTables : Type 0
OnlyImageNamedInTables =
    (x : AreaIndex) (t : Tables) (y : AreaIndex) (u : Tables) (b : Brings) (z : AreaIndex) (t' : Tables) → LentIn x t
    → LentIn y u
    → adds_in x t y u ≡ Accepted b → merge_in x t y u ≡ made_out (made.Index z) t' → none_but_image b ≡ true
    → SameAnswersInTables x t z t'
