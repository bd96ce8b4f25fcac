-- A turn of each pass. Assumes nothing.
use mathlib.Core.Path.{◌≡◌, refl, sym, ap, ◌∙◌}
use mathlib.Core.Bool.{Bool, cond, ◌&&◌, ◌||◌}
use mathlib.Core.List.{List, ◌++◌}
use Prim.Native.Nat.{ℕ, ◌+◌, ◌*◌, ◌-◌, ◌<◌, ◌≤◌, min}
use native.Mathlib.Numerals.{add-one}
use native.Mathlib.Omega.{arith}
use borrow.Author.Tests.{leb-true, leb-false, eq-eqb, ne_eqb}
use lib.Dec.{leb, ltb, eqb}
use lib.ListN.{length, get_or, take, drop}
use lib.Seq.{sets}
use Rattle.field.specs.Records.{Bytes, record_at}
use Rattle.field.proofs.Records.{records_length, records_at}
use Rattle.field.proofs.Format.{record_fits, written}
use Rattle.rules.specs.declared.Hint.{Hint}
use Rattle.rules.specs.Values.{no_hint}
use Rattle.rules.specs.Hints.{count_of, gap, kept, thin}
use Rattle.rules.proofs.Tests.{test}
use Rattle.laws.specs.Cutoff.{below, level, stays}
use Rattle.laws.proofs.hint_lists.Cutoff.{below_mono, thin_cut}
use Rattle.laws.proofs.hint_lists.Ranks.{count_none, count_le}
use Rattle.laws.proofs.hint_lists.Passes.{begins_none, begins_more}
use Rattle.laws.proofs.hint_lists.Thinning.{kept_none, kept_yes, kept_no, kept_length, thin_length, thin_few}
use Rattle.thin.specs.declared.Cut.{Cut}
use Rattle.thin.specs.declared.PassState.{PassState}
use Rattle.tables.specs.Tables.{encode_kept, decode_kept, kept_in}
use Rattle.tables.proofs.Kept.{kept_layout}
use Rattle.thin.specs.Thin.{one, gap_from, Starts}
use Rattle.thin.specs.Steps.{lower, remaining, ahead, stayed, first_place, next_place, Cuts}
use Rattle.thin.proofs.Counting.{one_le, count_more, count_long, below_every, gap_at, gap_fits, ahead_next}

-- ---- a hint in a table
pub hint_seen : {h : Hint} (n : ℕ) (t : List ℕ) (i : ℕ) → i < n → h ≡ record_at 8 decode_kept t i
    → h ≡ get_or (kept_in n t) i no_hint
hint_seen n t i l e = e ∙ sym (records_at 8 decode_kept n t i no_hint l)

gap_seen : (hs : List Hint) (i : ℕ) {before g : ℕ} {h : Hint} → before ≡ ahead hs i → h ≡ get_or hs i no_hint
    → h.number < 4294967296 → g ≡ gap_from before h → g ≡ gap hs i
gap_seen hs i p e f q = let f' : (get_or hs i no_hint).number < 4294967296 = rw e at f in q ∙ rw (p, e) (gap_at hs i f')

ahead_step : (hs : List Hint) (i : ℕ) {h : Hint} → h ≡ get_or hs i no_hint → h.number ≡ ahead hs (i + 1)
ahead_step hs i e = rw (ahead_next hs i, e)

-- ---- the pass that counts gaps below g: before place i
pub record Counted (hs : List Hint) (g found before i : ℕ) : Type 0 where
  pub last : before ≡ ahead hs i
  pub passed : found ≡ count_of (below hs g) i

pub count_start : (hs : List Hint) (g : ℕ) → Counted hs g 0 4294967295 0
unfolding ahead
count_start hs g = record { last = refl; passed = sym (count_none (below hs g)) }

pub count_step : {hs : List Hint} {g found before i o : ℕ} {h : Hint} {b : Bool} → Counted hs g found before i
    → h ≡ get_or hs i no_hint → h.number < 4294967296 → b ≡ ltb (gap_from before h) g → o ≡ one b → Counted hs g (found + o) h.number (i + 1)
unfolding below
count_step {hs} {g} {i = i} p e f b o =
    record {
      last = ahead_step hs i e;
      passed = rw (count_more (below hs g) i, p.passed, o, b, gap_seen hs i p.last e f refl);
    }

pub count_short : {hs : List Hint} {g found before i : ℕ} → Counted hs g found before i → found ≤ i
count_short {hs} {g} {i = i} p = omega (arith, p.passed, count_le (below hs g) i)

pub count_end : {g found before i : ℕ} (n : ℕ) (t : List ℕ) → Counted (kept_in n t) g found before i → i ≤ n → n ≤ i
    → found ≡ lower (kept_in n t) g
count_end {g} {i = i} n t p a b =
    let e : i ≡ length (kept_in n t) = omega (arith, records_length 8 decode_kept n t) in rw e at p.passed

-- ---- bisection
pub high_start : (n e : ℕ) (t : List ℕ) → Bytes t → e ≤ n → e ≤ lower (kept_in n t) 4294967297
high_start n e t b l =
    let hs = kept_in n t in
    let m = records_length 8 decode_kept n t in
    omega (
      arith,
      below_every hs 4294967297 (length hs) (λ k q.
          gap_fits hs k (rw (records_at 8 decode_kept n t k no_hint (omega arith))
          (let f = (record_fits kept_layout t k b).1.0 in omega (arith, f)))),
    )

pub found_cut : (hs : List Hint) {e c m : ℕ} → m ≡ lower hs c → m ≡ e → Cuts hs e (record { gap = c; rest = 0 })
found_cut hs {e} {c} p q =
    record { sum = omega arith; most = omega (arith, below_mono hs c (c + 1) (length hs) (omega arith)) }

pub last_cut : (hs : List Hint) {e c d m g r : ℕ} → m ≡ lower hs c → m ≤ e → e ≤ lower hs d → d ≤ c + 1 → g ≡ c
    → r ≡ e - m → Cuts hs e (record { gap = g; rest = r })
last_cut hs {e} {c} {d} p q h l f k =
    rw f (record { sum = omega arith; most = omega (arith, below_mono hs d (c + 1) (length hs) l) })

-- ---- the pass that keeps what stays: before place i
pub record Pass (hs : List Hint) (k : Cut) (old new : List ℕ) (p : PassState) (i : ℕ) : Type 0 where
  pub last : p.before ≡ ahead hs i
  pub spare : p.left ≡ k.rest - count_of (level hs k.gap) i
  pub starts : Starts (kept (stays hs k.gap k.rest) hs i) p.kept old new

pub pass_start : {p : PassState} (hs : List Hint) (k : Cut) (t : List ℕ) → p ≡ first_place k → Pass hs k t t p 0
unfolding ahead
pass_start hs k t e =
    rw e (record {
      last = refl;
      spare = omega (arith, count_none (level hs k.gap));
      starts = rw (kept_none (stays hs k.gap k.rest) hs) (begins_none kept_layout t);
    })

pub pass_end : {k : Cut} {old new : List ℕ} {p : PassState} {i : ℕ} (n : ℕ) (src : List ℕ)
    → Pass (kept_in n src) k old new p i → i ≤ n → n ≤ i → Starts (remaining (kept_in n src) k) p.kept old new
pass_end {i = i} n src u a b =
    let e : i ≡ length (kept_in n src) = omega (arith, records_length 8 decode_kept n src) in rw e at u.starts

pub pass_short : {hs : List Hint} {k : Cut} {old new : List ℕ} {p : PassState} {i : ℕ} → Pass hs k old new p i → p.kept ≤ i
pass_short {hs} {k} {i = i} u =
    let p = stays hs k.gap k.rest in
    omega (arith, u.starts.count, kept_length p hs i, count_le p i)

pub pass_within : {hs : List Hint} {k : Cut} {old new : List ℕ} {p : PassState} {i : ℕ} (n : ℕ) {d : ℕ} (h : Hint)
    → Pass hs k old new p i → i < n → n * 8 ≤ d → (p.kept + one (stayed k p h)) * 8 ≤ d
pass_within {k = k} {p = p} n h u l r = omega (arith, pass_short u, one_le (stayed k p h))

zero_leb : (r m left : ℕ) → left ≡ r - m → eqb left 0 ≡ leb r m
zero_leb r m left h =
    test (leb r m) (λ e. rw e (eq-eqb left 0 (omega (arith, leb-true r m e))))
    (λ e. rw e (ne_eqb left 0 (λ z. omega (arith, leb-false r m e))))

module _ (n : ℕ) (src : List ℕ) {k : Cut} {old new : List ℕ} {p : PassState} {i : ℕ} {h : Hint}
    (u : Pass (kept_in n src) k old new p i) (l : i < n) (e : h ≡ record_at 8 decode_kept src i) (f : h.number < 4294967296) where
  abbrev hs : List Hint
  hs = kept_in n src

  is_hint : h ≡ get_or hs i no_hint
  is_hint = hint_seen n src i l e

  is_gap : gap_from p.before h ≡ gap hs i
  is_gap = gap_seen hs i u.last is_hint f refl

  is_stayed : stayed k p h ≡ stays hs k.gap k.rest i
  unfolding stays stayed
  is_stayed = rw (zero_leb k.rest (count_of (level hs k.gap) i) p.left u.spare, is_gap)

  -- one more that stays is one of all that stay
  pub pass_room : {d : ℕ} → length (remaining hs k) * 8 ≤ d → (p.kept + one (stayed k p h)) * 8 ≤ d
  pass_room r =
      omega (
        arith,
        records_length 8 decode_kept n src,
        u.starts.count,
        kept_length (stays hs k.gap k.rest) hs i,
        kept_length (stays hs k.gap k.rest) hs (length hs),
        count_more (stays hs k.gap k.rest) i,
        count_long (stays hs k.gap k.rest) (i + 1) (length hs) (omega (arith, records_length 8 decode_kept n src)),
        ap one is_stayed,
      )

  pub pass_step : {new' : List ℕ} {p' : PassState} → (p.kept + one (stayed k p h)) * 8 ≤ length new → p' ≡ next_place k p h
      → new' ≡ cond (stayed k p h) (sets new (p.kept * 8) (encode_kept h)) new → Pass hs k old new' p' (i + 1)
  unfolding level
  pass_step room y z = rw y (record {
    last = ahead_step hs i is_hint;
    spare = omega (arith, u.spare, count_more (level hs k.gap) i, ap (λ (x : ℕ). one (eqb x k.gap)) is_gap);
    starts = rw (z, add-one i) (test (stayed k p h)
        (λ t. rw (t, kept_yes (stays hs k.gap k.rest) hs i (sym is_stayed ∙ t), ← is_hint)
        (begins_more kept_layout u.starts h (rw t at room)))
        (λ t. let v : p.kept + 0 ≡ p.kept = omega arith in
        rw (t, kept_no (stays hs k.gap k.rest) hs i (sym is_stayed ∙ t), v) u.starts));
  })

-- a turn as it is computed
module _ {g : ℕ} (k : Cut) (p : PassState) (h : Hint) (e : g ≡ gap_from p.before h) where
  pub stayed_is : {b d : Bool} → b ≡ (ltb k.gap g || (eqb g k.gap && eqb p.left 0)) → b ≡ d → stayed k p h ≡ d
  unfolding stayed
  stayed_is f q = rw (← e, ← f) q

  pub next_is : {left j : ℕ} → left ≡ p.left - one (eqb g k.gap) → j ≡ p.kept + one (stayed k p h)
      → ◌≡◌ {A = PassState} (record { left = left; before = h.number; kept = j }) (next_place k p h)
  next_is f q = rw (f, q, e)

-- ---- the whole
module _ (n most : ℕ) (src : List ℕ) {k : Cut} (u : Cuts (kept_in n src) (n - most) k) where
  cut_is : remaining (kept_in n src) k ≡ thin most (kept_in n src)
  cut_is =
      let e : length (kept_in n src) - most ≡ n - most = ap (λ (x : ℕ). x - most) (records_length 8 decode_kept n src) in
      thin_cut (kept_in n src) most k.gap k.rest (rw e u)

  pub thin_room : {d : ℕ} → min n most * 8 ≤ d → length (remaining (kept_in n src) k) * 8 ≤ d
  thin_room h = rw (cut_is, thin_length most (kept_in n src), records_length 8 decode_kept n src) h

  pub thinned : {j : ℕ} {old new : List ℕ} → Starts (remaining (kept_in n src) k) j old new
      → Starts (thin most (kept_in n src)) j old new
  thinned s = rw cut_is at s

-- few hints stay as they are
pub thinned_few : {new : List ℕ} (n most : ℕ) (src old : List ℕ) → Bytes src → n * 8 ≤ length src → n ≤ most
    → new ≡ take (n * 8) src ++ drop (n * 8) old → Starts (thin most (kept_in n src)) n old new
thinned_few n most src old b h l e =
    let m = records_length 8 decode_kept n src in
    let z : thin most (kept_in n src) ≡ kept_in n src = thin_few most (kept_in n src) (omega arith) in
    rw z (record { count = sym m; bytes = written kept_layout n src old b h e })
