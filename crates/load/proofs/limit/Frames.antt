-- The frames of a file, one behind the other: which fit a budget, and how they are moved into tables. Assumes nothing.
use mathlib.Core.Path.{◌≡◌, refl, sym, ap, ◌∙◌}
use mathlib.Core.List.{List, ◌∷◌, ◌++◌, append_assoc}
use Prim.Native.Nat.{ℕ, zero, suc, ◌+◌, ◌-◌, ◌*◌, ◌<◌, ◌≤◌}
use native.Mathlib.Nat.{add-zero}
use native.Mathlib.Omega.{arith}
use borrow.Author.Tests.{le-leb, lt-leb}
use lib.ListN.{length, take, drop, length-append, length-take, length-drop, take-append-drop}
use lib.Seq.{drop-drop, take_at, length-take-le, drop-append-add}
use Rattle.field.specs.Records.{bytes_of, Bytes}
use Rattle.field.proofs.Number.{encode_length, number_drop, encode_number}
use Rattle.field.proofs.Bytes.{stretch_join}
use Rattle.rules.specs.Values.{Frame, used}
use Rattle.rules.specs.File.{encode_frame_header, over}
use Rattle.rules.specs.Load.{fitting}
use Rattle.laws.proofs.Length.{length_each}
use Rattle.tables.specs.Files.{place_at, each_read, frame_here, frame_follows, frames_read}
use Rattle.tables.proofs.Files.{place_first, place_shift, place_inside}
use Rattle.tables.specs.Index.{store_of}
use Rattle.index.proofs.Store.{store_length}
use Rattle.load.specs.Limit.{length_here, Moved}

-- ---- the next of suc n frames
pub follows_on : (b : List ℕ) (here : ℕ) → frame_follows (drop here b) ≡ drop (here + 8 + length_here b here) b
follows_on b here = rw (number_drop 4 here b 4) (simp drop-drop)

module _ (b : List ℕ) (here n : ℕ) where
  pub frames_next : frames_read (suc n) (drop here b) ≡ frame_here (drop here b) ∷ frames_read n (drop (here + 8 + length_here b here) b)
  unfolding each_read
  frames_next = ap (λ (t : List ℕ). frame_here (drop here b) ∷ frames_read n t) (follows_on b here)

  module _ (l : place_at b here (suc n) ≤ length b) where
    pub next_room : here + 8 + length_here b here ≤ length b
    next_room = let h = rw (← place_first b here) at (place_inside b here (suc n) 0 (omega arith)) in omega arith

    pub next_size : length (frame_here (drop here b)).bytes ≡ length_here b here
    next_size =
        let r = next_room in
        rw (number_drop 4 here b 4) (length-take-le (length_here b here) (drop 8 (drop here b)) (simp length-drop (omega arith)))

    pub next_bytes : (frame_here (drop here b)).bytes ≡ take (length_here b here) (drop (here + 8) b)
    next_bytes = rw (number_drop 4 here b 4, drop-drop)

    pub next_header : Bytes b → encode_frame_header (frame_here (drop here b)) ≡ take 8 (drop here b)
    unfolding encode_frame_header
    next_header y =
        let r = next_room in
        rw (next_size, number_drop 4 here b 0, add-zero, encode_number 4 b here y (omega arith), encode_number 4 b (here + 4) y (omega arith)) (stretch_join b here 4 4)

    pub next_inside : place_at b (here + 8 + length_here b here) n ≤ length b
    next_inside = rw (← place_shift b here n) l

-- ---- the first ones that fit
-- i of f frames fit, with u bytes; the next begins at here, and the answer is to be r
pub record Fitting (b : List ℕ) (budget f r i here u : ℕ) : Type 0 where
  pub within : i ≤ f
  pub inside : place_at b here (f - i) ≤ length b
  pub low : u ≤ budget
  pub rest : i + length (fitting (budget - u) (frames_read (f - i) (drop here b))) ≡ r

module _ {b : List ℕ} {budget f r i here u : ℕ} (k : Fitting b budget f r i here u) where
  module _ (h : i < f) where
    left : f - i ≡ suc (f - (i + 1))
    left = omega arith

    there : place_at b here (suc (f - (i + 1))) ≤ length b
    there = rw left at k.inside

    pub fit_room : here + 8 + length_here b here ≤ length b
    fit_room = next_room b here (f - (i + 1)) there

    turn : i + length (fitting (budget - u) (frame_here (drop here b) ∷ frames_read (f - (i + 1)) (drop (here + 8 + length_here b here) b))) ≡ r
    turn = rw (left, frames_next b here (f - (i + 1))) at k.rest

    pub fit_on : {len : ℕ} → len ≡ length_here b here → len ≤ budget - u → Fitting b budget f r (i + 1) (here + 8 + len) (u + len)
    unfolding fitting
    fit_on {len} e g =
        let s : length (frame_here (drop here b)).bytes ≡ len = next_size b here (f - (i + 1)) there ∙ sym e in
        let q : budget - u - len ≡ budget - (u + len) = omega arith in
        let t : i + suc (length (fitting (budget - (u + len)) (frames_read (f - (i + 1)) (drop (here + 8 + len) b)))) ≡ r =
        (rw (s, le-leb len (budget - u) g, q, ← e) at turn) in
        record {
          within = omega arith;
          inside = rw e (next_inside b here (f - (i + 1)) there);
          low = let l = k.low in omega arith;
          rest = omega (arith, t);
        }

    pub fit_stop : {len : ℕ} → len ≡ length_here b here → budget - u < len → i ≡ r
    unfolding fitting
    fit_stop {len} e g =
        let s : length (frame_here (drop here b)).bytes ≡ len = next_size b here (f - (i + 1)) there ∙ sym e in
        sym (add-zero i) ∙ (rw (s, lt-leb len (budget - u) g) at turn)

  pub fit_end : f ≤ i → f ≡ r
  unfolding fitting each_read
  fit_end h =
      let e : f - i ≡ 0 = omega arith in
      let q : f ≡ i = omega (arith, k.within) in
      q ∙ sym (add-zero i) ∙ (rw e at k.rest)

-- ---- into the tables
-- w bytes h put at k, and then r behind them up to m
put_on : (t h r : List ℕ) (k w m : ℕ) → length h ≡ w → k + w ≤ m → m ≤ length t
    → take (k + w) (take k t ++ (h ++ drop (k + w) t)) ++ (r ++ drop m (take k t ++ (h ++ drop (k + w) t))) ≡ take k t ++ ((h ++ r) ++ drop m t)
put_on t h r k w m e g l =
    let p = take k t ++ h in
    let s : take k t ++ (h ++ drop (k + w) t) ≡ p ++ drop (k + w) t = sym (append_assoc (take k t) h (drop (k + w) t)) in
    let n : length p ≡ k + w = length-append (take k t) h ∙ rw (length-take-le k t (omega arith), e) in
    let q : m ≡ length p + (m - (k + w)) = omega arith in
    let q' : k + w + (m - (k + w)) ≡ m = omega arith in
    let d : drop m (p ++ drop (k + w) t) ≡ drop m t =
    ap (λ (z : ℕ). drop z (p ++ drop (k + w) t)) q ∙ drop-append-add p (drop (k + w) t) (m - (k + w)) ∙ rw (drop-drop, q') in
    rw (s, take_at p (drop (k + w) t) (k + w) n, d) (simp append_assoc)

-- i of f frames are moved; the store is full up to u, and up to v at the end. The tables are to be g and s
pub record Moving (b : List ℕ) (f v : ℕ) (g s : List ℕ) (i here u : ℕ) (frames store : List ℕ) : Type 0 where
  pub within : i ≤ f
  pub inside : place_at b here (f - i) ≤ length b
  pub sum : u + used (frames_read (f - i) (drop here b)) ≡ v
  pub headers : take (i * 8) frames ++ (bytes_of encode_frame_header (frames_read (f - i) (drop here b)) ++ drop (f * 8) frames) ≡ g
  pub bytes : take u store ++ (store_of (frames_read (f - i) (drop here b)) ++ drop v store) ≡ s
  pub table : f * 8 ≤ length frames
  pub room : v ≤ length store

module _ {b : List ℕ} {f v : ℕ} {g s : List ℕ} {i here u : ℕ} {frames store : List ℕ} (k : Moving b f v g s i here u frames store) where
  module _ (h : i < f) where
    more : f - i ≡ suc (f - (i + 1))
    more = omega arith

    on : place_at b here (suc (f - (i + 1))) ≤ length b
    on = rw more at k.inside

    next : frames_read (f - i) (drop here b) ≡ frame_here (drop here b) ∷ frames_read (f - (i + 1)) (drop (here + 8 + length_here b here) b)
    next = rw more (frames_next b here (f - (i + 1)))

    total : u + (length_here b here + used (frames_read (f - (i + 1)) (drop (here + 8 + length_here b here) b))) ≡ v
    unfolding used
    total = rw (next_size b here (f - (i + 1)) on) at (rw next at k.sum)

    pub move_room : (here + 8 + length_here b here ≤ length b) × (i * 8 + 8 ≤ length frames) × (u + length_here b here ≤ length store)
    move_room =
        let t = k.table in let r = k.room in let e = total in
        (next_room b here (f - (i + 1)) on, omega arith, omega arith)

    pub move_on : {len : ℕ} {frames' store' : List ℕ} → Bytes b → Moved b here i u len frames frames' store store'
        → Moving b f v g s (i + 1) (here + 8 + len) (u + len) frames' store'
    unfolding bytes_of store_of
    move_on {len} {frames'} {store'} y m =
        let n = f - (i + 1) in
        let e = m.count in
        let rest = frames_read n (drop (here + 8 + len) b) in
        let t = k.table in let r = k.room in let z = move_room in
        let w : u + (len + used rest) ≡ v = rw (← e) at total in
        let hs : take (i * 8) frames ++ ((take 8 (drop here b) ++ bytes_of encode_frame_header rest) ++ drop (f * 8) frames) ≡ g =
        rw (next, next_header b here n on y, ← e) at k.headers in
        let bs : take u store ++ ((take len (drop (here + 8) b) ++ store_of rest) ++ drop v store) ≡ s =
        rw (next, next_bytes b here n on, ← e) at k.bytes in
        let q : (i + 1) * 8 ≡ i * 8 + 8 = omega arith in
        let a : length (take 8 (drop here b)) ≡ 8 = length-take-le 8 (drop here b) (simp length-drop (omega arith)) in
        let c : length (take len (drop (here + 8) b)) ≡ len = length-take-le len (drop (here + 8) b) (simp length-drop (omega arith)) in
        let lf : length frames' ≡ length frames = ap length m.header ∙ simp (length-append, a, length-take, length-drop) (omega arith) in
        let ls : length store' ≡ length store = ap length m.bytes ∙ simp (length-append, c, length-take, length-drop) (omega arith) in
        record {
          within = omega arith;
          inside = rw e (next_inside b here n on);
          sum = omega arith;
          headers = rw (q, m.header) (put_on frames (take 8 (drop here b)) (bytes_of encode_frame_header rest) (i * 8) 8 (f * 8) a (omega arith) t ∙ hs);
          bytes = rw m.bytes (put_on store (take len (drop (here + 8) b)) (store_of rest) u len v c (omega arith) r ∙ bs);
          table = omega arith;
          room = omega arith;
        }

  pub move_end : f ≤ i → (frames ≡ g) × (store ≡ s)
  unfolding used bytes_of store_of each_read
  move_end h =
      let w = k.within in
      let e : f - i ≡ 0 = omega arith in
      let q : i ≡ f = omega arith in
      let z : u ≡ v = (rw (e, add-zero) at k.sum) in (
        sym (take-append-drop (f * 8) frames) ∙ (rw (e, q) at k.headers),
        sym (take-append-drop v store) ∙ (rw (e, z) at k.bytes),
      )

-- ---- how long they are
pub read_count : (f : ℕ) (b : List ℕ) → length (frames_read f b) ≡ f
unfolding each_read
read_count zero b = refl
read_count (suc f) b = ap suc (read_count f _)

header_size : (f : Frame) → length (encode_frame_header f) ≡ 8
unfolding encode_frame_header
header_size f = simp (length-append, encode_length)

headers_length : (fs : List Frame) → length (bytes_of encode_frame_header fs) ≡ 8 * length fs
headers_length fs = length_each encode_frame_header 8 header_size fs

-- the tables as they are asked for
pub moved_all : {frames' store' : List ℕ} (frames store : List ℕ) (f : ℕ) (b : List ℕ)
    → (frames' ≡ bytes_of encode_frame_header (frames_read f b) ++ drop (f * 8) frames) × (store' ≡ store_of (frames_read f b) ++ drop (used (frames_read f b)) store)
    → (frames' ≡ over (bytes_of encode_frame_header (frames_read f b)) frames) × (store' ≡ over (store_of (frames_read f b)) store)
moved_all frames store f b (p, q) =
    let e : length (bytes_of encode_frame_header (frames_read f b)) ≡ f * 8 = headers_length (frames_read f b) ∙ rw read_count (omega arith) in
    (rw e p, rw store_length q)
