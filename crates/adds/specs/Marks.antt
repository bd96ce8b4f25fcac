-- Two lists of hints together, each hint marked as held, new, or one whose number is replaced,
-- and what thinning to the held ones' number would drop.
use Rattle.std.specs.Prelude.{ℕ, ◌+◌, ◌-◌, ◌/◌, Bool, true, false, ◌&&◌, ◌||◌, not, cond, List, [], ◌∷◌, eqb, leb, ltb}
use Rattle.rules.specs.declared.Hint.{Hint}
use Rattle.rules.specs.Values.{max32}
use Rattle.thin.specs.Thin.{gap_from}
use Rattle.adds.specs.declared.compare.Pair.{Pair}
use Rattle.adds.specs.declared.compare.Weighed.{Weighed}

pub record Marked : Type 0 where
  pub hint : Hint
  pub new : Bool
  -- has the other list another number at its LSN?
  pub replaced : Bool

abbrev pub mark : Bool → Hint → Marked
mark b h = record { hint = h; new = b; replaced = false }

-- the held x where the other list has y
abbrev pub mark_both : Hint → Hint → Marked
mark_both x y = record { hint = x; new = false; replaced = not (eqb x.number y.number) }

unfoldable pub marks_of : Bool → List Hint → List Marked
marks_of b [] = []
marks_of b (h ∷ hs) = mark b h ∷ marks_of b hs

-- the held ones and the others, in the order of their LSNs; of two at one LSN the held one
unfoldable pub marked : List Hint → List Hint → List Marked
marked [] ys = marks_of true ys
marked (x ∷ xs) [] = marks_of false (x ∷ xs)
marked (x ∷ xs) (y ∷ ys) =
    cond (ltb x.lsn y.lsn) (mark false x ∷ marked xs (y ∷ ys))
    (cond (ltb y.lsn x.lsn) (mark true y ∷ marked (x ∷ xs) ys) (mark_both x y ∷ marked xs ys))

-- the LSN of the first, above every LSN where there is none
unfoldable pub lsn_from : List Hint → ℕ
lsn_from [] = max32 + 1
lsn_from (h ∷ hs) = h.lsn

abbrev pub pair : ℕ → ℕ → Pair
pair g i = record { gap = g; place = i }

-- is (gap, place) of p smaller?
unfoldable pub lower : Pair → Pair → Bool
lower p q = ltb p.gap q.gap || (eqb p.gap q.gap && ltb p.place q.place)

-- before the first: the largest pair of a new one and the smallest of a held one are yet unknown
abbrev pub unweighed : Weighed
unweighed = record { place = 0; before = max32; new = pair 0 0; held = pair (max32 + 1) 0; replaced = false }

-- one hint more
unfoldable pub weigh_one : Weighed → Bool → Bool → Hint → Weighed
weigh_one s new replaced h =
    let g = gap_from s.before h in
    record {
      place = s.place + 1;
      before = h.number;
      new = cond (new && leb s.new.gap g) (pair g s.place) s.new;
      held = cond (not new && ltb g s.held.gap) (pair g s.place) s.held;
      replaced = s.replaced || replaced;
    }

unfoldable pub weighed : Weighed → List Marked → Weighed
weighed s [] = s
weighed s (m ∷ ms) = weighed (weigh_one s m.new m.replaced m.hint) ms

-- would n held hints change, at the limit most? One whose number is replaced does, or is dropped
unfoldable pub changed_by : Weighed → ℕ → ℕ → Bool
changed_by w n most =
    cond w.replaced true
    (cond (eqb w.place n) false
    (cond (leb w.place most) true (cond (eqb n (most - most / 4)) (not (lower w.new w.held)) true)))
