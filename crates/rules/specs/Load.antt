-- Document 01, "File": loading, in the order of from_bytes, and the limited index.
use Rattle.std.specs.Prelude.{ℕ, zero, suc, ◌+◌, ◌-◌, ◌*◌, ◌/◌, ◌%◌, min, Bool, ◌&&◌, ◌||◌, not, cond, List, [], ◌∷◌, eqb, leb, ltb, length, take, drop, Option, None, Some}
use Rattle.field.specs.Number.{decode, number_at}
use Rattle.fnv.specs.Fnv.{fnv64}
use Rattle.rules.specs.declared.Area.{Area}
use Rattle.rules.specs.declared.AreaKey.{AreaKey}
use Rattle.rules.specs.declared.Checkpoint.{Checkpoint}
use Rattle.rules.specs.declared.Confirmation.{Confirmation}
use Rattle.rules.specs.declared.EndState.{EndState}
use Rattle.rules.specs.declared.Fingerprint.{Fingerprint}
use Rattle.rules.specs.declared.Fingerprint.TheVariants.{Unknown, Checked}
use Rattle.rules.specs.declared.Fingerprint.TheVariants as fingerprint
use Rattle.rules.specs.declared.Header.{Header}
use Rattle.rules.specs.declared.Held.{Held}
use Rattle.rules.specs.declared.Hint.{Hint}
use Rattle.rules.specs.declared.HintHeader.{HintHeader}
use Rattle.rules.specs.Tests.{all, ask, first_no, Answer, Accepted, after, bind}
use Rattle.rules.specs.Values.{Frame, Scan, Hinting, Index, Lengths, max_malformed, max_hints, max_short_hints, max_interval, max32, default_spacing, default_hints, boundaries, frontier_of, counted, same_key}
use Rattle.rules.specs.Sections.{counts_ok, begun, passed, checkpoint_ok, Filled, unfilled, filled, frame_ok, part_ok, reached, ending_ok, rising_ok, risen, own_lsn, any_lsn, hint_lsn, hint_ok, confirmed_lsn, confirmation_ok}
use Rattle.rules.specs.Questions.{area_ok, question3}
use Rattle.rules.specs.Hints.{thin, last_ones, unkept}
use Rattle.rules.specs.File.{read_header, magic_bytes, decode_checkpoint, decode_held, decode_lsn, decode_hint, decode_confirmation}

-- ---- reading in order
-- what was read, and the bytes behind it
pub record Read (A : Type 0) : Type 0 where
  pub value : A
  pub rest : List ℕ

abbrev pub read : {A : Type 0} → A → List ℕ → Answer (Read A)
read a b = Accepted (record { value = a; rest = b })

-- n things in turn, each read in a state that is s at first and goes on by next
unfoldable pub read_each : {S A : Type 0} → (S → List ℕ → Answer (Read A)) → (S → A → S) → ℕ → S → List ℕ → Answer (Read (List A))
read_each r next zero s b = read [] b
read_each r next (suc n) s b =
    bind (r s b) (λ t. bind (read_each r next n (next s t.value) t.rest) (λ u. read (t.value ∷ u.value) u.rest))

-- a record of w bytes: 20 where they are not there, number where ok does not hold
unfoldable pub read_record : {S A : Type 0} → ℕ → (List ℕ → A) → (S → A → Bool) → ℕ → S → List ℕ → Answer (Read A)
read_record w d ok number s b =
    after (first_no (ask (leb w (length b)) 20 ∷ ask (ok s (d (take w b))) number ∷ [])) (read (d (take w b)) (drop w b))

-- a frame: 8 bytes, its rule, then its bytes
unfoldable pub read_frame : Area → ℕ → Filled → List ℕ → Answer (Read Frame)
read_frame a budget s b =
    after
    (first_no
    (ask (leb 8 (length b)) 20 ∷ ask (frame_ok a budget s (number_at 4 b 0) (number_at 4 b 4)) 32
    ∷ ask (leb (8 + number_at 4 b 4) (length b)) 20 ∷ []))
    (read (record { start = number_at 4 b 0; bytes = take (number_at 4 b 4) (drop 8 b) }) (drop (number_at 4 b 4) (drop 8 b)))

-- a part: 24 bytes, its kind (a byte 0 or 1 and three zero bytes, as one number at most 1), then its rule
unfoldable pub read_part : Area → ℕ → List Checkpoint → List Frame → Option Held → List ℕ → Answer (Read Held)
read_part a k cs fs o b =
    after
    (first_no
    (ask (leb 24 (length b)) 20 ∷ ask (leb (number_at 4 b 20) 1) 33 ∷ ask (part_ok a k 0 cs fs o (decode_held (take 24 b))) 32 ∷ []))
    (read (decode_held (take 24 b)) (drop 24 b))

-- ---- the header
abbrev pub is_complete : Header → Bool
is_complete h = eqb (h.flags % 2) 1

-- the fingerprint flag, value 2
abbrev pub has_fingerprint : Header → Bool
has_fingerprint h = eqb (h.flags / 2 % 2) 1

abbrev pub key_of : Header → AreaKey
key_of h = record { slot = h.slot; start = h.start; end = h.end; channels = h.channels; sectors = h.sectors }

-- the sections' fixed parts
abbrev pub fixed_size : Header → ℕ
fixed_size h =
    24 * h.checkpoints + 8 * h.frames + 24 * h.parts + 4 * h.malformed + cond (leb 2 h.version) 24 0 + cond (leb 3 h.version) 8 0

-- 23 to 30, with the bytes behind the header
unfoldable pub header_number : Area → Header → ℕ → ℕ
header_number a h left =
    first_no
    (ask (leb 1 h.version && leb h.version 4) 23 ∷ ask (leb h.slot 1) 24
    ∷ ask (leb h.flags (cond (leb 2 h.version) 3 1) && eqb h.zero15 0) 25 ∷ ask (same_key (key_of h) a.key) 26
    ∷ ask (leb 1 h.interval && leb h.interval max_interval) 27 ∷ ask (eqb h.zero52 0) 28 ∷ ask (leb h.budget max32) 29
    ∷ ask (eqb h.zero68 0) 28
    ∷ ask (counts_ok (boundaries a h.interval) h.checkpoints (is_complete h) h.frames h.parts h.malformed && leb (fixed_size h) left) 30 ∷ [])

abbrev pub ending_of : Header → Option EndState
ending_of h = cond (is_complete h) (Some (record { threshold = h.threshold; malformed = h.counted })) None

-- ---- behind the parts: 32 (does the last part reach the last frame?), 34, 28, 35
unfoldable pub end_number : Area → Header → List Checkpoint → List Held → ℕ
end_number a h cs ps =
    first_no
    (ask (eqb (reached ps) h.frames) 32 ∷ ask (ending_ok a cs (ending_of h)) 34
    ∷ ask (is_complete h || (eqb h.threshold 0 && eqb h.counted 0)) 28 ∷ ask (eqb h.malformed (min (counted cs (ending_of h)) max_malformed)) 35 ∷ [])

-- ---- the hint section
unfoldable pub decode_hint_header : List ℕ → HintHeader
decode_hint_header b =
    record { fingerprint = number_at 8 b 0; spacing = number_at 4 b 8; most = number_at 4 b 12; count = number_at 4 b 16; zero20 = number_at 4 b 20 }

-- what a version 1 file stands for
abbrev pub no_hint_header : HintHeader
no_hint_header = record { fingerprint = 0; spacing = default_spacing; most = default_hints; count = 0; zero20 = 0 }

-- does version 2 add something? A later version does.
unfoldable pub adds : Header → HintHeader → Bool
adds h g = has_fingerprint h || (ltb 0 g.count || (not (eqb g.spacing default_spacing && eqb g.most default_hints) || leb 3 h.version))

-- may a file of this version have the limit M? Version 4 has those that the versions before it cannot have
unfoldable pub most_ok : Header → ℕ → Bool
most_ok h most = cond (leb 4 h.version) (ltb max_short_hints most && leb most max_hints) (leb most max_short_hints)

-- 20, 28, 36
unfoldable pub hint_number : Header → HintHeader → ℕ → ℕ
hint_number h g left =
    first_no
    (ask (leb 24 left) 20 ∷ ask (eqb g.zero20 0) 28
    ∷ ask
    (all (adds h g ∷ (has_fingerprint h || eqb g.fingerprint 0) ∷ most_ok h g.most ∷ leb g.count g.most ∷ leb (24 + 8 * g.count) left ∷ []))
    36 ∷ [])

pub record HintSection : Type 0 where
  pub header : HintHeader
  pub hints : List Hint

abbrev pub read_hint : Area → ℕ → List ℕ → Answer (Read Hint)
read_hint a = read_record 8 decode_hint (rising_ok hint_lsn hint_ok a.end) 36

unfoldable pub read_hint_section : Area → Header → List ℕ → Answer (Read HintSection)
read_hint_section a h b =
    cond (leb 2 h.version)
    (after (hint_number h (decode_hint_header b) (length b))
    (bind (read_each (read_hint a) (risen hint_lsn) (decode_hint_header b).count a.start (drop 24 b))
    (λ t. read (record { header = decode_hint_header b; hints = t.value }) t.rest)))
    (read (record { header = no_hint_header; hints = [] }) b)

-- ---- the confirmations
-- may there be n confirmations? In version 3 one at least, beside a fingerprint; in version 4 none without a fingerprint
unfoldable pub may_confirm : Header → ℕ → Bool
may_confirm h n = cond (leb 4 h.version) (has_fingerprint h || eqb n 0) (has_fingerprint h && ltb 0 n)

-- 20, 37; the count is at bytes 0 to 3, and bytes 4 to 7 are 0
unfoldable pub confirmed_number : Header → ℕ → List ℕ → ℕ
confirmed_number h most b =
    first_no
    (ask (leb 8 (length b)) 20
    ∷ ask
    (all (eqb (number_at 4 b 4) 0 ∷ may_confirm h (number_at 4 b 0) ∷ leb (number_at 4 b 0) most ∷ leb (8 + 16 * number_at 4 b 0) (length b) ∷ []))
    37 ∷ [])

abbrev pub read_confirmation : Area → ℕ → List ℕ → Answer (Read Confirmation)
read_confirmation a = read_record 16 decode_confirmation (rising_ok confirmed_lsn confirmation_ok a.end) 37

unfoldable pub read_confirmed_section : Area → Header → ℕ → List ℕ → Answer (Read (List Confirmation))
read_confirmed_section a h most b =
    cond (leb 3 h.version)
    (after (confirmed_number h most b) (read_each (read_confirmation a) (risen confirmed_lsn) (number_at 4 b 0) a.start (drop 8 b)))
    (read [] b)

-- ---- the sections, one behind the other
abbrev pub read_checkpoints : Header → List ℕ → Answer (Read (List Checkpoint))
read_checkpoints h b = read_each (read_record 24 decode_checkpoint (checkpoint_ok h.interval) 31) passed h.checkpoints (begun 0) b

abbrev pub read_frames : Area → Header → List ℕ → Answer (Read (List Frame))
read_frames a h b = read_each (read_frame a h.budget) (λ s f. filled s f.start (length f.bytes)) h.frames (unfilled a) b

abbrev pub read_parts : Area → Header → List Checkpoint → List Frame → List ℕ → Answer (Read (List Held))
read_parts a h cs fs b = read_each (read_part a h.interval cs fs) (λ o p. Some p) h.parts None b

abbrev pub read_malformed : Area → Header → List Checkpoint → List ℕ → Answer (Read (List ℕ))
read_malformed a h cs b =
    read_each (read_record 4 decode_lsn (rising_ok own_lsn any_lsn (frontier_of a h.interval (length cs) (ending_of h))) 35) (risen own_lsn) h.malformed
    a.start b

abbrev pub index_from : Area → Header → List Checkpoint → List Frame → List Held → List ℕ → HintSection → List Confirmation → Index
index_from a h cs fs ps ms hs qs =
    record {
      scan =
          record {
            area = a;
            interval = h.interval;
            budget = h.budget;
            checkpoints = cs;
            frames = fs;
            parts = ps;
            ending = ending_of h;
            malformed = ms;
          };
      hinting = record { spacing = hs.header.spacing; most = hs.header.most; hints = hs.hints; confirmed = qs };
      fingerprint = cond (has_fingerprint h) (fingerprint.Held hs.header.fingerprint) Unknown;
      image = None;
    }

unfoldable pub read_sections : Area → Header → List ℕ → Answer Index
read_sections a h b =
    bind (read_checkpoints h b)
    (λ cs. bind (read_frames a h cs.rest)
    (λ fs. bind (read_parts a h cs.value fs.value fs.rest)
    (λ ps. after (end_number a h cs.value ps.value)
    (bind (read_malformed a h cs.value ps.rest)
    (λ ms. bind (read_hint_section a h ms.rest)
    (λ hs. bind (read_confirmed_section a h hs.value.header.most hs.rest)
    (λ qs. after (first_no (ask (eqb (length qs.rest) 0) 38 ∷ []))
    (Accepted (index_from a h cs.value fs.value ps.value ms.value hs.value qs.value)))))))))

-- ---- the whole file
-- all but the last 8 bytes; behind 20, which says that there are 8
abbrev pub body_in : List ℕ → List ℕ
body_in b = take (length b - 8) b

abbrev pub sum_in : List ℕ → ℕ
sum_in b = decode (drop (length b - 8) b)

-- 20, 21, 22
unfoldable pub file_number : List ℕ → ℕ
file_number b =
    first_no
    (ask (leb 8 (length b)) 20 ∷ ask (leb 80 (length (body_in b)) && eqb (read_header (body_in b)).magic (decode magic_bytes)) 21
    ∷ ask (eqb (fnv64 (body_in b)) (sum_in b)) 22 ∷ [])

-- the list in a file, whole
unfoldable pub from_bytes : Area → List ℕ → Answer Index
from_bytes a b =
    after (file_number b)
    (after (header_number a (read_header (body_in b)) (length (drop 80 (body_in b)))) (read_sections a (read_header (body_in b)) (drop 80 (body_in b))))

-- ---- the limit
-- the first frames, as many as fit b bytes together: what is left where last frames are dropped while they exceed b
unfoldable pub fitting : ℕ → List Frame → List Frame
fitting b [] = []
fitting b (f ∷ fs) = cond (leb (length f.bytes) b) (f ∷ fitting (b - length f.bytes) fs) []

-- the parts whose frame is among the first n: the first ones, since a part's frame is never below that of the part before it (32)
unfoldable pub within : ℕ → List Held → List Held
within n [] = []
within n (p ∷ ps) = cond (ltb p.frame n) (p ∷ within n ps) []

-- Loading with a limit lowers the budget to at most it, drops last frames while they exceed the budget,
-- and their parts
abbrev pub limited_scan : ℕ → Scan → Scan
limited_scan limit x =
    record {
      area = x.area;
      interval = x.interval;
      budget = min x.budget limit;
      checkpoints = x.checkpoints;
      frames = fitting (min x.budget limit) x.frames;
      parts = within (length (fitting (min x.budget limit) x.frames)) x.parts;
      ending = x.ending;
      malformed = x.malformed;
    }

-- lowers M to at most limit/8, thins to M, and keeps the last min(M, limit/16) confirmations;
-- the divisions round down, and a file has no marks
abbrev pub limited_hinting : ℕ → Hinting → Hinting
limited_hinting limit r =
    record {
      spacing = r.spacing;
      most = min r.most (limit / 8);
      hints = thin (min r.most (limit / 8)) (unkept r.hints);
      confirmed = last_ones (min (min r.most (limit / 8)) (limit / 16)) r.confirmed;
    }

-- Image id and checked mark are not saved, nor kept marks (change request 11)
unfoldable pub unmarked : Fingerprint → Fingerprint
unmarked Unknown = Unknown
unmarked (fingerprint.Held v) = fingerprint.Held v
unmarked (Checked v) = fingerprint.Held v

unfoldable pub limited : ℕ → Index → Index
limited limit x =
    record {
      scan = limited_scan limit x.scan;
      hinting = limited_hinting limit x.hinting;
      fingerprint = unmarked x.fingerprint;
      image = None;
    }

-- Load: 1, then 20 to 38 when and as often as `from_bytes` tests. Then 3, for the limited index.
unfoldable pub load : Lengths → Area → List ℕ → ℕ → Answer Index
load l a b limit =
    after (first_no (ask (area_ok a) 1 ∷ []))
    (bind (from_bytes a b) (λ x. after (first_no (ask (question3 l (limited limit x)) 3 ∷ [])) (Accepted (limited limit x))))
