-- What the functions of hint need of each other.
use Rattle.std.specs.Prelude.{ℕ, suc, ◌+◌, ◌-◌, ◌*◌, ◌≤◌, Bool, true, cond, ◌&&◌, ◌||◌, List, length, drop, nat_le, slice_index_or, Option, None, Some}
use Rattle.std.specs.declared.option.Option as code
use Rattle.std.specs.declared.option.Option.TheVariants.{None, Some}
use Rattle.rules.specs.declared.Confirmation.{Confirmation}
use Rattle.rules.specs.declared.Hint.{Hint}
use Rattle.rules.specs.declared.Area.{Area}
use Rattle.rules.specs.declared.AreaIndex.{AreaIndex}
use Rattle.rules.specs.Values.{no_hint, hint_reach, is_checked}
use Rattle.rules.specs.Sections.{confirmed_lsn}
use Rattle.rules.specs.Hints.{near, confirmed_at, larger, largest_of, hint_place, first_from, hinted_locally, hinted_later}
use Rattle.rules_jump.specs.Names.{NamedHint, named_at, start_rule}
use Rattle.rules.specs.Hints as rules
use Rattle.laws.specs.Order.{Rises}
use Rattle.tables.specs.Tables.{confirmations_in, kept_in}

-- n confirmations are there, and their LSNs rise
pub record Ordered (n : ℕ) (t : List ℕ) : Type 0 where
  pub there : n * 16 ≤ length t
  pub rises : Rises confirmed_lsn 0 (confirmations_in n t)

-- near, and confirmed for first unless any near one counts
unfoldable pub candidate : Bool → Bool → List Confirmation → ℕ → Hint → Bool
candidate checked any cs first h = near first h && (any || (checked && confirmed_at cs h.lsn first))

-- a place or none, in the words of the rules
abbrev pub place_of : code.Option ℕ → Option ℕ
place_of None = None
place_of (Some i) = Some i

-- hint k is the larger by (number, LSN), or the first
unfoldable pub larger_than : List Hint → Option ℕ → ℕ → Bool
larger_than hs None k = true
larger_than hs (Some i) k = larger hs i k

-- of the first n hints the candidate with the largest (number, LSN)
unfoldable pub largest_in : Bool → Bool → List Hint → List Confirmation → ℕ → ℕ → Option ℕ
largest_in checked any hs cs first n = largest_of (λ i. candidate checked any cs first (slice_index_or hs i no_hint)) hs n

-- what hint reads of the tables
pub record HintReads (x : AreaIndex) (hs cs : List ℕ) : Type 0 where
  pub order : x.area.start ≤ x.area.end
  pub end : x.area.end ≤ 4294967295
  pub hints : x.hints * 8 ≤ length hs
  pub confirmed : Ordered x.confirmed cs

-- the upper end through a later hint, if at most 64 frames past end; 0 where there is none
unfoldable pub later_end : ℕ → Option Hint → ℕ
later_end end None = 0
later_end end (Some s) = cond (nat_le (s.number - end) hint_reach) (s.lsn + 1) 0

-- the read from the hint at i on
unfoldable pub hinted_from : Area → List Hint → ℕ → ℕ → ℕ → rules.Hinted
hinted_from a hs i end playtime =
    hinted_later (first_from end (drop (suc i) hs)) end (slice_index_or hs i no_hint) (hinted_locally a hs i end playtime)

-- the read behind the questions
unfoldable pub read_for : AreaIndex → List ℕ → List ℕ → ℕ → ℕ → ℕ → Option NamedHint
read_for x hints confirmed first end playtime =
    named_at x.area (kept_in x.hints hints) end playtime
    (start_rule (is_checked x.fingerprint) (kept_in x.hints hints) (confirmations_in x.confirmed confirmed) first)
    (hint_place (is_checked x.fingerprint) (kept_in x.hints hints) (confirmations_in x.confirmed confirmed) first)
