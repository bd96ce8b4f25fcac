-- What is written into a head is read from it again. Assumes nothing.
use Rattle.rules.specs.declared.Hint.{Hint}
use Rattle.rules.specs.declared.EndState.{EndState}
use Rattle.std.specs.Prelude.{Option, None, Some, ℕ}
use mathlib.Core.Path.{◌≡◌, refl, sym, ap, ◌∙◌}
use mathlib.Core.Bool.{true}
use mathlib.Core.List.{List}
use Prim.Native.Nat.{ℕ, zero, suc, ◌%◌, ◌≤◌}
use native.Mathlib.Omega.{arith}
use lib.ListN.{length, length-append, replicate}
use lib.Dec.{leb}
use borrow.Author.Tests.{le-leb}
use Rattle.field.specs.Number.{same_bytes}
use Rattle.field.proofs.Bytes.{same_refl, same_true}
use Rattle.field.proofs.Format.{Each, none, one, numbers, records_bytes, bytes_of_length}
use Rattle.rules.specs.declared.Area.{Area}
use Rattle.rules.specs.declared.AreaIndex.{AreaIndex}
use Rattle.rules.specs.declared.Fingerprint.{Fingerprint}
use Rattle.rules.specs.declared.Fingerprint.TheVariants.{Unknown, Held, Checked}
use Rattle.rules.specs.declared.HintRecorder.{HintRecorder}
use Rattle.rules.specs.declared.Mode.{Mode}
use Rattle.rules.specs.declared.Mode.TheVariants.{Running, Finished, Stopped}
use Rattle.rules.specs.declared.Recorder.{Recorder}
use Rattle.rules.specs.File.{over}
use Rattle.rules.proofs.Tests.{and_right}
use Rattle.blocks.specs.Blocks.{at, told, with_area, area_read, end_read, fingerprint_read, image_read, mode_read, last_read, tail_read, index_read, recorder_read, hint_recorder_read, is_head, with_free, words_in, block_of, end_words, fingerprint_words, image_words, mode_words, last_words, tail_words, index_words, recorder_words, hint_recorder_array, hint_recorder_words}
use Rattle.blocks.specs.declared.Told.{Told}
use Rattle.blocks.specs.RoundTrip.{Fits8, Fits32, Fits64, tail_mark, AreaFits, IndexFits, RecorderFits, HintRecorderFits, ToldFits, IndexBack, RecorderBack, HintRecorderBack, IndexIsHead, RecorderIsHead, HintRecorderIsHead, NoneFree, HeadWords}

words_back : (ws b : List ℕ) → Each Fits64 ws → words_in (length ws) (over (block_of ws) b) ≡ ws
words_back ws b f = records_bytes (numbers 8) _ f

low8 : (v : ℕ) → Fits8 v → v % 256 ≡ v
low8 v h = omega arith

low32 : (v : ℕ) → Fits32 v → v % 4294967296 ≡ v
low32 v h = omega arith

wide8 : {v : ℕ} → Fits8 v → Fits64 v
wide8 h = omega arith

wide32 : {v : ℕ} → Fits32 v → Fits64 v
wide32 h = omega arith

no_bits : Fits64 0
no_bits = omega arith

-- ---- things that may be unknown
mark_fits : (e : Option EndState) → Fits64 (end_words e).mark
unfolding end_words
mark_fits None = omega arith
mark_fits (Some s) = omega arith

end_back : (e : Option EndState) → Fits32 (end_words e).first → end_read (end_words e).mark (end_words e).first (end_words e).second ≡ e
unfolding end_read end_words
end_back None h = refl
end_back (Some s) h = rw (low32 s.threshold h)

print_fits : (f : Fingerprint) → Fits64 (fingerprint_words f).mark
unfolding fingerprint_words
print_fits Unknown = omega arith
print_fits (Held v) = omega arith
print_fits (Checked v) = omega arith

print_back : (f : Fingerprint) → fingerprint_read (fingerprint_words f).mark (fingerprint_words f).first ≡ f
unfolding fingerprint_read fingerprint_words
print_back Unknown = refl
print_back (Held v) = refl
print_back (Checked v) = refl

image_fits : (i : Option ℕ) → Fits64 (image_words i).mark
unfolding image_words
image_fits None = omega arith
image_fits (Some v) = omega arith

image_back : (i : Option ℕ) → image_read (image_words i).mark (image_words i).first ≡ i
unfolding image_read image_words
image_back None = refl
image_back (Some v) = refl

mode_fits : (m : Mode) → Fits64 (mode_words m).mark
unfolding mode_words
mode_fits Running = omega arith
mode_fits (Finished s) = omega arith
mode_fits Stopped = omega arith

mode_back : (m : Mode) → Fits32 (mode_words m).first → mode_read (mode_words m).mark (mode_words m).first (mode_words m).second ≡ m
unfolding mode_read mode_words
mode_back Running h = refl
mode_back (Finished s) h = rw (low32 s.threshold h)
mode_back Stopped h = refl

last_fits : (l : Option ℕ) → Fits64 (last_words l).mark
unfolding last_words
last_fits None = omega arith
last_fits (Some t) = omega arith

last_back : (l : Option ℕ) → Fits32 (last_words l).first → last_read (last_words l).mark (last_words l).first ≡ l
unfolding last_read last_words
last_back None h = refl
last_back (Some t) h = rw (low32 t h)

tail_fits : (t : Option Hint) → Fits64 (tail_words t).mark
unfolding tail_words
tail_fits None = omega arith
tail_fits (Some h) = omega arith

tail_back : (t : Option Hint) → Fits32 (tail_words t).first → Fits32 (tail_words t).second → tail_mark t ≡ 0 → tail_read (tail_words t).mark (tail_words t).first (tail_words t).second ≡ t
unfolding tail_read tail_words tail_mark
tail_back None g h m = refl
tail_back (Some k) g h m = rw (low32 k.lsn g, low32 k.number h) (λ i. Some (record { lsn = k.lsn; number = k.number; mark = sym m i }))

-- ---- heads
zeros : (n : ℕ) → Each Fits64 (replicate n 0)
zeros zero = none
zeros (suc n) = one no_bits (zeros n)

-- the words of an area are words, and what is read from them is it
area_words : (a : Area) (ws : List ℕ) → AreaFits a → Each Fits64 ws → Each Fits64 (with_area a ws)
area_words a ws f r =
    one (wide8 f.slot) (one (wide8 f.channels) (one (wide32 f.key_start) (one (wide32 f.key_end)
    (one f.sectors (one f.start (one f.end r))))))

area_same : (a : Area) (ws : List ℕ) → AreaFits a → area_read (with_area a ws) ≡ a
unfolding area_read
area_same a ws f = rw (low8 _ f.slot, low8 _ f.channels, low32 _ f.key_start, low32 _ f.key_end)

-- the words of an index are words, and what is read from them is it
index_words_lemma : (x : AreaIndex) → IndexFits x → Each Fits64 (index_words x)
unfolding index_words
index_words_lemma x f =
    area_words x.area _ f.area
    (one (wide32 f.interval) (one f.budget (one (wide32 f.spacing) (one (wide32 f.most)
    (one (wide32 f.checkpoints) (one (wide32 f.frames) (one (wide32 f.parts) (one (wide32 f.malformed)
    (one (wide32 f.hints) (one (wide32 f.confirmed) (one (mark_fits x.ending) (one (wide32 f.threshold)
    (one f.counted (one (print_fits x.fingerprint) (one f.fingerprint (one (image_fits x.image)
    (one f.image none)))))))))))))))))

index_same : (x : AreaIndex) → IndexFits x → index_read (index_words x) ≡ x
unfolding index_read index_words
index_same x f =
    rw (
      area_same x.area _ f.area,
      low32 _ f.interval,
      low32 _ f.spacing,
      low32 _ f.most,
      low32 _ f.checkpoints,
      low32 _ f.frames,
      low32 _ f.parts,
      low32 _ f.malformed,
      low32 _ f.hints,
      low32 _ f.confirmed,
      end_back x.ending f.threshold,
      print_back x.fingerprint,
      image_back x.image,
    )

pub index_back : IndexBack
unfolding index_words
index_back x b f = ap index_read (words_back (index_words x) b (index_words_lemma x f)) ∙ index_same x f

-- the words of a recorder are words, and what is read from them is it
recorder_words_lemma : (r : Recorder) → RecorderFits r → Each Fits64 (recorder_words r)
unfolding recorder_words
recorder_words_lemma r f =
    area_words r.area _ f.area
    (one (wide32 f.interval) (one f.budget (one (wide32 f.first) (one f.from
    (one (wide32 f.checkpoints) (one (wide32 f.frames) (one (wide32 f.parts) (one (mode_fits r.mode)
    (one (wide32 f.threshold) (one f.counted (zeros 7)))))))))))

recorder_same : (r : Recorder) → RecorderFits r → recorder_read (recorder_words r) ≡ r
unfolding recorder_read recorder_words
recorder_same r f =
    rw (
      area_same r.area _ f.area,
      low32 _ f.interval,
      low32 _ f.first,
      low32 _ f.checkpoints,
      low32 _ f.frames,
      low32 _ f.parts,
      mode_back r.mode f.threshold,
    )

pub recorder_back : RecorderBack
unfolding recorder_words
recorder_back r b f = ap recorder_read (words_back (recorder_words r) b (recorder_words_lemma r f)) ∙ recorder_same r f

-- the words of a hint recorder, whatever words 7 to 10 are, are words, and what is read from them is it
told_words : (r : HintRecorder) (f : Told) → HintRecorderFits r → ToldFits f → Each Fits64 (hint_recorder_array r f)
unfolding hint_recorder_array
told_words r f g h =
    one (wide32 g.spacing) (one (last_fits r.last) (one (wide32 g.last) (one (tail_fits r.tail)
    (one (wide32 g.lsn) (one (wide32 g.number) (one (wide32 g.count) (one h.found (one h.number
    (one h.offset (one h.why (zeros 13)))))))))))

told_same : (r : HintRecorder) (f : Told) → HintRecorderFits r → hint_recorder_read (hint_recorder_array r f) ≡ r
unfolding hint_recorder_read hint_recorder_array
told_same r f g =
    rw (
      low32 _ g.spacing,
      last_back r.last g.last,
      tail_back r.tail g.lsn g.number g.mark,
      low32 _ g.count,
    )

pub hint_recorder_back : HintRecorderBack
unfolding hint_recorder_array
hint_recorder_back r f b g h =
    ap hint_recorder_read (words_back (hint_recorder_array r f) b (told_words r f g h)) ∙ told_same r f g

-- its free words are words 7 to 10
abbrev told_in : List ℕ → Told
told_in free = told (at free 7) (at free 8) (at free 9) (at free 10)

free_told : (r : HintRecorder) (free : List ℕ) → with_free free (hint_recorder_words r) ≡ hint_recorder_array r (told_in free)
unfolding with_free hint_recorder_words hint_recorder_array
free_told r free = refl

pub none_free : NoneFree
unfolding with_free hint_recorder_words hint_recorder_array
none_free r = refl

-- ---- what is written over a block is a head
pub words_head : (again : List ℕ → List ℕ) (ws b : List ℕ) → length ws ≡ 24 → Each Fits64 ws → again ws ≡ ws → 192 ≤ length b → is_head again (over (block_of ws) b) ≡ true
unfolding is_head
words_head again ws b n f e h =
    let k : length (block_of ws) ≡ 192 = bytes_of_length (numbers 8) ws ∙ rw n in
    let l : 192 ≤ length (over (block_of ws) b) = rw (length-append, k) (omega arith) in
    let w : words_in 24 (over (block_of ws) b) ≡ ws = rw n at (words_back ws b f) in
    rw (le-leb 192 (length (over (block_of ws) b)) l, w, e) (same_refl ws)

pub index_is_head : IndexIsHead
unfolding index_words
index_is_head x b f h = words_head _ (index_words x) b refl (index_words_lemma x f) (ap index_words (index_same x f)) h

pub recorder_is_head : RecorderIsHead
unfolding recorder_words
recorder_is_head r b f h = words_head _ (recorder_words r) b refl (recorder_words_lemma r f) (ap recorder_words (recorder_same r f)) h

-- written again, free words are as they were
free_again : (r : HintRecorder) (free : List ℕ) → let ws = with_free free (hint_recorder_words r) in with_free ws (hint_recorder_words r) ≡ ws
unfolding with_free hint_recorder_words hint_recorder_array
free_again r free = refl

free_length : (r : HintRecorder) (free : List ℕ) → length (with_free free (hint_recorder_words r)) ≡ 24
unfolding with_free hint_recorder_words hint_recorder_array
free_length r free = refl

pub hint_recorder_is_head : HintRecorderIsHead
hint_recorder_is_head r free b f g h =
    let ws = with_free free (hint_recorder_words r) in
    let fits : ToldFits (told_in free) = record { found = g 7; number = g 8; offset = g 9; why = g 10 } in
    let same : hint_recorder_read ws ≡ r = ap hint_recorder_read (free_told r free) ∙ told_same r (told_in free) f in
    words_head _ ws b (free_length r free) (rw (free_told r free) (told_words r (told_in free) f fits))
    (ap (λ (x : HintRecorder). with_free ws (hint_recorder_words x)) same ∙ free_again r free) h

-- the words of a head are what is read from them, written again
pub head_words : HeadWords
unfolding is_head
head_words again b e =
    sym (same_true (words_in 24 b) (again (words_in 24 b)) (and_right (leb 192 (length b)) (same_bytes (words_in 24 b) (again (words_in 24 b))) e))
