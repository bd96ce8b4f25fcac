-- What the desk stands on where it says "may be deleted: A holds all that B holds".
use Rattle.std.specs.Prelude.{ℕ, ◌-◌, ◌/◌, ◌<◌, ◌≤◌, ◌≡◌, Bool, true, false, ◌&&◌, ◌⊎◌, List, ◌∷◌, ◌++◌, eqb, length, get_or, take, Some}
use Rattle.rules.specs.declared.Confirmation.{Confirmation}
use Rattle.rules.specs.declared.EndState.{EndState}
use Rattle.rules.specs.declared.Held.{Held}
use Rattle.rules.specs.declared.HeldPart.{HeldPart}
use Rattle.rules.specs.declared.Hint.{Hint}
use Rattle.rules.specs.declared.Plan.TheVariants.{At}
use Rattle.rules.specs.declared.Resume.{Resume}
use Rattle.rules.specs.Tests.{Accepted, agree, or_else}
use Rattle.rules.specs.Values.{Frame, Index, Lengths, no_confirmation, count, complete, stated, is_checked}
use Rattle.rules.specs.Plan.{jump, planned, bytes_at}
use Rattle.tables.specs.Index.{store_of}
use Rattle.rules.specs.Run.{Content, content_of, Reading, Cut}
use Rattle.rules.specs.Sections.{own_lsn}
use Rattle.rules.specs.Hints.{insert_all, unkept, thin, keeps_nothing, confirmed_at, Hinted, hint}
use Rattle.rules.specs.PartRule.{stores, piece, add_parts}
use Rattle.rules.specs.Merge.{merge}
use Rattle.laws.specs.Order.{Rises}
use Rattle.rules.specs.declared.Brings.{Brings}
use Rattle.adds.specs.Adds.{brings}
use Rattle.rules_lacks.specs.declared.Lacks.{Lacks}
use Rattle.rules_lacks.specs.Lacks.{covers, missing, lacking, holds_all, lacks}
use Rattle.theorems.specs.Terms.{Holds, stored_in}
use Rattle.theorems.specs.Hints.{One, Among, Stands}
use Rattle.theorems.specs.Adds.{none_but_image}

-- one of cs confirms the LSN of d, by the same digest and from no higher threshold on
pub record Confirms (cs : List Confirmation) (d : Confirmation) : Type 0 where
  pub place : ℕ
  pub inside : place < length cs
  pub lsn : (get_or cs place no_confirmation).lsn ≡ d.lsn
  pub digest : (get_or cs place no_confirmation).digest ≡ d.digest
  pub threshold : (get_or cs place no_confirmation).threshold ≤ d.threshold

-- the part k, in a store that begins with the frames fs, is what h is in one that begins with gs
pub record SamePart (fs : List Frame) (k : HeldPart) (gs : List Frame) (h : HeldPart) : Type 0 where
  pub kind : k.kind ≡ h.kind
  pub number : k.number ≡ h.number
  pub remaining : k.remaining ≡ h.remaining
  pub bytes : (u v : List ℕ) → bytes_at (store_of fs ++ u) k.offset k.len
      ≡ bytes_at (store_of gs ++ v) h.offset h.len

-- the own list does all that the other does
pub record Serves (own other : Index) : Type 0 where
  -- for every frame its jump starts no earlier
  pub starts : (t : ℕ) → jump other.scan t ≤ jump own.scan t
  -- it begins with the other's checkpoints, and is complete, with the same end state, if the other is
  pub checkpoints : other.scan.checkpoints ≡ take (count other.scan) own.scan.checkpoints
  pub ending : (e : EndState) → other.scan.ending ≡ Some e → own.scan.ending ≡ Some e
  pub complete : complete other.scan ≡ true → complete own.scan ≡ true
  -- for each checkpoint that the other has a part for, it has one with the same bytes, number, kind and remaining
  pub parts : (j : ℕ) (c : Content) → Holds (stored_in other.scan) j c → Holds (stored_in own.scan) j c
  -- and where both plan one checkpoint and the other names a part, it names the same, byte for byte
  pub plans : (t : ℕ) (r s : Resume) (h : HeldPart) → planned other.scan t ≡ At r → planned own.scan t ≡ At s
      → s.number ≡ r.number → r.assembly ≡ Some h
      → (k : HeldPart) × (s.assembly ≡ Some k) × SamePart own.scan.frames k other.scan.frames h
  -- every hint is one of its own, kept or not, and every confirmation, or a better one
  pub hints : (h : Hint) → Among other.hinting.hints h → Stands own.hinting.hints h
  pub confirmed : (i : ℕ) → i < length other.hinting.confirmed
      → Confirms own.hinting.confirmed (get_or other.hinting.confirmed i no_confirmation)
  -- it states the other's fingerprint
  pub fingerprint : (v : ℕ) → stated other.fingerprint ≡ Some v → stated own.fingerprint ≡ Some v

-- where nothing is lacking but image id and room
abbrev pub NothingLacking : Type 0
NothingLacking =
    (l m : Lengths) (own other : Index) (x : Lacks) → lacks l own m other ≡ Accepted x → holds_all x ≡ true
    → Serves own other

-- every list holds all that it holds itself
abbrev pub LacksSelf : Type 0
LacksSelf = (x : Index) → holds_all (lacking x x) ≡ true

-- all lists below a kept one may go at once; image ids, which no file holds, must not differ
abbrev pub LacksTrans : Type 0
LacksTrans =
    (l m n : Lengths) (a b c : Index) (x y : Lacks) → lacks l a m b ≡ Accepted x → holds_all x ≡ true → lacks m b n c
    ≡ Accepted y → holds_all y ≡ true
    → agree eqb a.image c.image ≡ true
    → (z : Lacks) × (lacks l a n c ≡ Accepted z) × (holds_all z ≡ true)

-- a merge then changes nothing but the image id
abbrev pub LacksAdds : Type 0
LacksAdds =
    (l m : Lengths) (own other : Index) (x : Lacks) → lacks l own m other ≡ Accepted x → holds_all x ≡ true
    → merge l own m other ≡ Accepted (record {
      scan = own.scan;
      hinting = own.hinting;
      fingerprint = own.fingerprint;
      image = or_else own.image other.image;
    })

-- and adds names nothing but the image id
abbrev pub LacksBrings : Type 0
LacksBrings =
    (l m : Lengths) (own other : Index) (x : Lacks) (b : Brings) → lacks l own m other ≡ Accepted x → holds_all x
    ≡ true → brings l own m other ≡ Accepted b
    → none_but_image b ≡ true

-- a count is 0 exactly where for each thing of the other list one of the own stands for it
abbrev pub CountsTell : Type 1
CountsTell = (A : Type 0) (stands : A → A → Bool) (xs ys : List A) → covers stands xs ys ≡ eqb (missing stands xs ys) 0

-- ---- the hint to begin at
-- a is not lower than b, by number and then by LSN
abbrev pub NotLower : Hinted → Hinted → Type 0
NotLower a b = (b.number < a.number) ⊎ ((b.number ≡ a.number) × (b.lsn ≤ a.lsn))

-- x confirms for first the LSN where h begins
abbrev pub ConfirmedFor : Index → ℕ → Hinted → Type 0
ConfirmedFor x first h = (is_checked x.fingerprint && confirmed_at x.hinting.confirmed h.lsn first) ≡ true

-- a, of the own list, is confirmed and not lower if b, of the other, is confirmed; in any case it is confirmed or not lower
pub record HintServes (own other : Index) (first : ℕ) (a b : Hinted) : Type 0 where
  pub confirmed : ConfirmedFor other first b → ConfirmedFor own first a × NotLower a b
  pub number : ConfirmedFor own first a ⊎ NotLower a b

-- where nothing is lacking but image id and room, and the own fingerprint is checked if the other's is
abbrev pub LacksHint : Type 0
LacksHint =
    (l m : Lengths) (own other : Index) (x : Lacks) → lacks l own m other ≡ Accepted x → holds_all x ≡ true
    → (is_checked other.fingerprint ≡ true → is_checked own.fingerprint ≡ true)
    → (first end playtime : ℕ) (b : Hinted) → hint m other first end playtime ≡ Accepted (Some b)
    → (a : Hinted) × (hint l own first end playtime ≡ Accepted (Some a)) × HintServes own other first a b

-- ---- what a merged list y can lack of the two: of its own list hints and confirmations at most, of the other parts, hints, confirmations and room at most
-- (malformed LSNs apart, for which see MergeMalformed)
pub record MergedHolds (own other y : Index) : Type 0 where
  pub checkpoints : (lacking y own).checkpoints ≡ 0
  pub ending : (lacking y own).ending ≡ false
  pub parts : (lacking y own).parts ≡ 0
  pub fingerprint : (lacking y own).fingerprint ≡ false
  pub image : (lacking y own).image ≡ false
  pub budget : (lacking y own).budget ≡ false
  pub most : (lacking y own).most ≡ false
  pub checkpoints' : (lacking y other).checkpoints ≡ 0
  pub ending' : (lacking y other).ending ≡ false
  pub fingerprint' : (lacking y other).fingerprint ≡ false
  pub image' : (lacking y other).image ≡ false
  -- its room is the own list's
  pub budget' : (lacking y other).budget ≡ (lacking own other).budget
  pub most' : (lacking y other).most ≡ (lacking own other).most

abbrev pub MergeLacks : Type 0
MergeLacks = (l m : Lengths) (own other y : Index) → merge l own m other ≡ Accepted y → MergedHolds own other y

-- of two lists cut from one reading, whose malformed LSNs rise, it lacks no malformed LSN
abbrev pub MergeMalformed : Type 0
MergeMalformed =
    (R : Reading) (l m : Lengths) (own other y : Index) → Rises own_lsn 0 R.malformed → Cut R own → Cut R other
    → merge l own m other ≡ Accepted y
    → ((lacking y own).malformed ≡ 0) × ((lacking y other).malformed ≡ 0)

-- ---- and which of them
-- the hints of both in the order of their LSNs, before thinning
abbrev pub together : Index → Index → List Hint
together own other = insert_all own.scan.area own.hinting.hints (unkept other.hinting.hints)

-- they are more than M, and y has M − M/4 of them
pub record Thinned (own other y : Index) : Type 0 where
  pub above : own.hinting.most < length (together own other)
  pub left : y.hinting.hints ≡ thin (own.hinting.most - own.hinting.most / 4) (together own other)

-- M confirmations of later LSNs are held: above M the lowest LSN goes
pub record PushedOut (own y : Index) (lsn : ℕ) : Type 0 where
  pub full : length y.hinting.confirmed ≡ own.hinting.most
  pub later : (i : ℕ) → i < length y.hinting.confirmed → lsn < (get_or y.hinting.confirmed i no_confirmation).lsn

-- one of cs is of the LSN of d, by another digest
pub record OtherDigest (cs : List Confirmation) (d : Confirmation) : Type 0 where
  pub place : ℕ
  pub inside : place < length cs
  pub lsn : (get_or cs place no_confirmation).lsn ≡ d.lsn
  pub digest : (get_or cs place no_confirmation).digest ≡ d.digest → ⊥

-- is the part q of the other list, which comes after xs, admitted by the part rule?
abbrev pub admitted : Index → Index → List Held → Held → Bool
admitted own other xs q =
    stores own.scan.budget (add_parts own.scan.budget other.scan.frames (count own.scan) xs
    (stored_in own.scan)) (piece other.scan.frames q)

pub record MergeLeaves (own other y : Index) : Type 0 where
  -- of the own list: hints whose LSN the other has with another number, or that are thinned; confirmations of which the other list has another digest, or
  -- that are pushed out
  pub hints :
      (h : Hint) → Among own.hinting.hints h
      → Among y.hinting.hints h ⊎ (One (λ x. (x.lsn ≡ h.lsn) × (x.number ≡ h.number → ⊥))
      other.hinting.hints ⊎ Thinned own other y)
  pub confirmed :
      (i : ℕ) → i < length own.hinting.confirmed
      → Confirms y.hinting.confirmed (get_or own.hinting.confirmed i no_confirmation)
      ⊎ (OtherDigest other.hinting.confirmed (get_or own.hinting.confirmed i no_confirmation) ⊎ PushedOut own y
      (get_or own.hinting.confirmed i no_confirmation).lsn)
  -- of the other: parts for checkpoints that the own list has, or that the part rule does not admit
  pub parts' :
      (xs ys : List Held) (q : Held) → other.scan.parts ≡ xs ++ (q ∷ ys)
      → Holds (stored_in y.scan) q.at (content_of other.scan.frames q) ⊎
      ((q.at < count own.scan) ⊎ (admitted own other xs q ≡ false))
  -- hints where M is 0, or that are thinned; their marks are not taken
  pub hints' : (h : Hint) → Among other.hinting.hints h
      → Stands y.hinting.hints h ⊎ ((own.hinting.most ≡ 0) ⊎ Thinned own other y)
  -- confirmations, all of them where the own fingerprint is unchecked or M is 0, else those that are pushed out
  pub confirmed' :
      (i : ℕ) → i < length other.hinting.confirmed
      → Confirms y.hinting.confirmed (get_or other.hinting.confirmed i no_confirmation)
      ⊎ ((keeps_nothing (is_checked own.fingerprint) own.hinting.most ≡ true) ⊎ PushedOut own y
      (get_or other.hinting.confirmed i no_confirmation).lsn)

abbrev pub MergeLeft : Type 0
MergeLeft = (l m : Lengths) (own other y : Index) → merge l own m other ≡ Accepted y → MergeLeaves own other y
