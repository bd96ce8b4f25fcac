-- What questions 2 and 4 and the sizes say, one by one. Assumes nothing.
use mathlib.Core.Path.{◌≡◌}
use mathlib.Core.Bool.{Bool, true}
use mathlib.Core.List.{[], ◌∷◌}
use Prim.Native.Nat.{ℕ, ◌≤◌}
use borrow.Author.Tests.{leb-true, le-leb}
use lib.Dec.{leb, ltb}
use lib.Signed.{mag}
use lib.ListN.{length}
use Rattle.field.proofs.Format.{Each}
use Rattle.rules.specs.declared.AreaKey.{AreaKey}
use Rattle.rules.specs.Values.{Scan, Index, max32, max64, max_malformed, boundaries, count, complete, frontier, counted, stated}
use Rattle.rules.specs.Sections.{counts_ok, checkpoints_ok, frames_ok, parts_ok, ending_ok, malformed_ok}
use Rattle.rules.specs.Questions.{numbers_ok, held_ok, scan_ok, question1, question2, question4}
use Rattle.rules.specs.Sizes.{key_sized, frame_sized, scan_sized, known_sized, hinting_sized, sized}
use Rattle.laws.proofs.hint_lists.Closure.{HintingIs, hinting→}
use Rattle.laws.specs.Statements.{Savable}
use Rattle.rules.proofs.Tests.{all→, →all, each→, →each}
use Rattle.laws.proofs.Ranges.{AreaFacts, area_ok→}

-- question 2
pub record NumberFacts (k budget : ℕ) : Type 0 where
  pub low : 1 ≤ k
  pub high : k ≤ 65536
  pub budgeted : budget ≤ max32

pub numbers_ok→ : (k budget : ℕ) → numbers_ok k budget ≡ true → NumberFacts k budget
unfolding numbers_ok
numbers_ok→ k budget h =
    let g = all→ (leb 1 k ∷ leb k 65536 ∷ leb budget max32 ∷ []) h in
    record { low = leb-true 1 k g.0; high = leb-true k 65536 g.1.0; budgeted = leb-true budget max32 g.1.1.0 }

-- question 4 of what a list has read
pub record ScanFacts (x : Scan) : Type 0 where
  pub counts : counts_ok (boundaries x.area x.interval) (count x) (complete x) (length x.frames) (length x.parts) (length x.malformed) ≡ true
  pub checkpoints : checkpoints_ok x.interval 0 x.checkpoints ≡ true
  pub frames : frames_ok x.area x.budget x.frames ≡ true
  pub parts : parts_ok x.area x.interval 0 x.checkpoints x.frames x.parts ≡ true
  pub ending : ending_ok x.area x.checkpoints x.ending ≡ true
  pub malformed : malformed_ok x.area (frontier x) (counted x.checkpoints x.ending) x.malformed ≡ true

pub scan_ok→ : (x : Scan) → scan_ok x ≡ true → ScanFacts x
unfolding scan_ok held_ok
scan_ok→ x h =
    let g = all→ _ h in
    let q = all→ _ g.1.1.0 in
    record { counts = g.0; checkpoints = g.1.0; frames = q.0; parts = q.1.0; ending = g.1.1.1.0; malformed = g.1.1.1.1.0 }

pub →scan_ok : (x : Scan) → ScanFacts x → scan_ok x ≡ true
unfolding scan_ok held_ok
→scan_ok x f =
    →all _ (f.counts, (f.checkpoints, (→all _ (f.frames, (f.parts, tt)), (f.ending, (f.malformed, tt)))))

-- the counts
pub record CountFacts (b n : ℕ) (whole : Bool) (f h m : ℕ) : Type 0 where
  pub passed : n ≤ b
  pub parts : h ≤ n
  pub frames : f ≤ h
  pub malformed : m ≤ max_malformed

pub counts_ok→ : (b n : ℕ) (whole : Bool) (f h m : ℕ) → counts_ok b n whole f h m ≡ true → CountFacts b n whole f h m
unfolding counts_ok
counts_ok→ b n whole f h m q =
    let g = all→ _ q in
    record {
      passed = leb-true n b g.0;
      parts = leb-true h n g.1.1.0;
      frames = leb-true f h g.1.1.1.0;
      malformed = leb-true m max_malformed g.1.1.1.1.0;
    }

-- the sizes
pub record KeyFacts (k : AreaKey) : Type 0 where
  pub start : k.start ≤ max32
  pub end : k.end ≤ max32
  pub channels : k.channels ≤ 255
  pub sectors : k.sectors ≤ max64

pub record SizeFacts (x : Index) : Type 0 where
  pub key : KeyFacts x.scan.area.key
  pub checkpoints : Each (λ c. leb c.digest max64 ≡ true) x.scan.checkpoints
  pub frames : Each (λ f. frame_sized f ≡ true) x.scan.frames
  pub parts : Each (λ p. ltb (mag p.remaining) 2147483648 ≡ true) x.scan.parts
  pub spacing : x.hinting.spacing ≤ max32
  pub confirmed : Each (λ c. leb c.digest max64 ≡ true) x.hinting.confirmed
  pub known : known_sized (stated x.fingerprint) ≡ true

pub sized→ : (x : Index) → sized x ≡ true → SizeFacts x
unfolding sized scan_sized key_sized hinting_sized
sized→ x h =
    let g = all→ _ h in
    let s = all→ _ g.0 in
    let k = all→ _ s.0 in
    let r = all→ _ g.1.0 in
    record {
      key = record { start = leb-true _ _ k.0; end = leb-true _ _ k.1.0; channels = leb-true _ _ k.1.1.0; sectors = leb-true _ _ k.1.1.1.0 };
      checkpoints = each→ _ _ s.1.0;
      frames = each→ _ _ s.1.1.0;
      parts = each→ _ _ s.1.1.1.0;
      spacing = leb-true _ _ r.0;
      confirmed = each→ _ _ r.1.0;
      known = g.1.1.0;
    }

pub →sized : (x : Index) → SizeFacts x → sized x ≡ true
unfolding sized scan_sized key_sized hinting_sized
→sized x f =
    →all _ (
      →all _ (
        →all _ (le-leb _ _ f.key.start, (le-leb _ _ f.key.end, (le-leb _ _ f.key.channels, (le-leb _ _ f.key.sectors, tt)))),
        (→each _ f.checkpoints, (→each _ f.frames, (→each _ f.parts, tt))),
      ),
      (→all _ (le-leb _ _ f.spacing, (→each _ f.confirmed, tt)), (f.known, tt)),
    )

-- all of a list
pub record Facts (x : Index) : Type 0 where
  pub area : AreaFacts x.scan.area
  pub numbers : NumberFacts x.scan.interval x.scan.budget
  pub scan : ScanFacts x.scan
  pub hinting : HintingIs x.scan.area x.fingerprint x.hinting
  pub sizes : SizeFacts x

pub facts : (x : Index) → Savable x → Facts x
unfolding question1 question2 question4
facts x s =
    let g = all→ _ s.four in
    record {
      area = area_ok→ x.scan.area s.one;
      numbers = numbers_ok→ x.scan.interval x.scan.budget s.two;
      scan = scan_ok→ x.scan g.0;
      hinting = hinting→ x.scan.area x.fingerprint x.hinting g.1.0;
      sizes = sized→ x s.sizes;
    }
