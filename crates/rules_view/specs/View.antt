-- Change request 10: the views of a list.
use Rattle.std.specs.Prelude.{ℕ, suc, ◌+◌, ◌*◌, Bool, ◌||◌, cond, List, [], ◌∷◌, ◌++◌, eqb, leb, length, get_or, drop, Option, None, Some}
use Rattle.field.specs.Number.{encode, number_at}
use Rattle.field.specs.Records.{records, bytes_of}
use Rattle.rules.specs.declared.Area.{Area}
use Rattle.rules.specs.declared.Checkpoint.{Checkpoint}
use Rattle.rules.specs.declared.Confirmation.{Confirmation}
use Rattle.rules.specs.declared.Held.{Held}
use Rattle.rules.specs.declared.Hint.{Hint}
use Rattle.rules.specs.Tests.{all, is_some, Answer, Accepted, after, ask, first_no}
use Rattle.rules.specs.Values.{Index, Lengths, lsn_of, complete, stated}
use Rattle.rules.specs.Questions.{four}
use Rattle.rules.specs.File.{encode_lsn, decode_lsn, encode_hint, decode_hint, encode_confirmation, decode_confirmation, or_zero, bit}

-- ---- roles: "1 (listener)", "2 (workshop)"
abbrev pub listener : ℕ
listener = 1

abbrev pub workshop : ℕ
workshop = 2

-- is it the workshop's role?
abbrev pub is_workshop : ℕ → Bool
is_workshop role = eqb role workshop

-- ---- "A listener's view gives the area, interval, completeness, and each checkpoint's LSN and threshold"
-- of a checkpoint: its LSN and threshold
pub record Seen : Type 0 where
  pub lsn : ℕ
  pub threshold : ℕ

pub record Listener : Type 0 where
  pub area : Area
  pub interval : ℕ
  pub complete : Bool
  pub checkpoints : List Seen

-- of checkpoints, of which j is the first number
unfoldable pub seen_from : Area → ℕ → ℕ → List Checkpoint → List Seen
seen_from a k j [] = []
seen_from a k j (c ∷ cs) = record { lsn = lsn_of a k j; threshold = c.threshold } ∷ seen_from a k (suc j) cs

unfoldable pub listener_of : Index → Listener
listener_of x =
    record {
      area = x.scan.area;
      interval = x.scan.interval;
      complete = complete x.scan;
      checkpoints = seen_from x.scan.area x.scan.interval 0 x.scan.checkpoints;
    }

-- ---- "The workshop's view adds back, digests, malformed LSNs, held lengths, hints, fingerprint and confirmations"
-- of a checkpoint: back and digest
pub record Backing : Type 0 where
  pub back : ℕ
  pub digest : ℕ

-- of a held part: its checkpoint's number and its length
pub record HeldLength : Type 0 where
  pub at : ℕ
  pub len : ℕ

pub record Workshop : Type 0 where
  pub seen : Listener
  pub behind : List Backing
  pub malformed : List ℕ
  pub parts : List HeldLength
  pub hints : List Hint
  pub fingerprint : Option ℕ
  pub confirmed : List Confirmation

unfoldable pub backings_of : List Checkpoint → List Backing
backings_of [] = []
backings_of (c ∷ cs) = record { back = c.back; digest = c.digest } ∷ backings_of cs

unfoldable pub lengths_of : List Held → List HeldLength
lengths_of [] = []
lengths_of (p ∷ ps) = record { at = p.at; len = p.len } ∷ lengths_of ps

unfoldable pub workshop_of : Index → Workshop
workshop_of x =
    record {
      seen = listener_of x;
      behind = backings_of x.scan.checkpoints;
      malformed = x.scan.malformed;
      parts = lengths_of x.scan.parts;
      hints = x.hinting.hints;
      fingerprint = stated x.fingerprint;
      confirmed = x.hinting.confirmed;
    }

-- ---- "The team writes the byte layout down in docs/": docs/VIEW.md
-- words of eight bytes
abbrev pub word_bytes : List ℕ → List ℕ
word_bytes ws = bytes_of (encode 8) ws

-- the eleven words that a view begins with
pub record Head : Type 0 where
  pub role : ℕ
  pub slot : ℕ
  pub channels : ℕ
  pub key_start : ℕ
  pub key_end : ℕ
  pub sectors : ℕ
  pub start : ℕ
  pub end : ℕ
  pub interval : ℕ
  pub complete : ℕ
  pub count : ℕ

abbrev pub head_words : Head → List ℕ
head_words h =
    h.role ∷ h.slot ∷ h.channels ∷ h.key_start ∷ h.key_end ∷ h.sectors ∷ h.start ∷ h.end ∷ h.interval ∷ h.complete ∷ h.count ∷ []

unfoldable pub read_head : List ℕ → Head
read_head b =
    record {
      role = number_at 8 b 0;
      slot = number_at 8 b 8;
      channels = number_at 8 b 16;
      key_start = number_at 8 b 24;
      key_end = number_at 8 b 32;
      sectors = number_at 8 b 40;
      start = number_at 8 b 48;
      end = number_at 8 b 56;
      interval = number_at 8 b 64;
      complete = number_at 8 b 72;
      count = number_at 8 b 80;
    }

unfoldable pub head_of : ℕ → Listener → Head
head_of role v =
    record {
      role = role;
      slot = v.area.key.slot;
      channels = v.area.key.channels;
      key_start = v.area.key.start;
      key_end = v.area.key.end;
      sectors = v.area.key.sectors;
      start = v.area.start;
      end = v.area.end;
      interval = v.interval;
      complete = bit v.complete;
      count = length v.checkpoints;
    }

abbrev pub head_area : Head → Area
head_area h =
    record {
      key = record { slot = h.slot; start = h.key_start; end = h.key_end; channels = h.channels; sectors = h.sectors };
      start = h.start;
      end = h.end;
    }

unfoldable pub encode_seen : Seen → List ℕ
encode_seen s = encode 4 s.lsn ++ encode 4 s.threshold

unfoldable pub decode_seen : List ℕ → Seen
decode_seen b = record { lsn = number_at 4 b 0; threshold = number_at 4 b 4 }

-- behind word 0 the same in both views
unfoldable pub seen_bytes : ℕ → Listener → List ℕ
seen_bytes role v = word_bytes (head_words (head_of role v)) ++ bytes_of encode_seen v.checkpoints

unfoldable pub listener_bytes : Listener → List ℕ
listener_bytes v = seen_bytes listener v

-- the six words behind the checkpoints: counts, and the fingerprint
pub record Totals : Type 0 where
  pub malformed : ℕ
  pub parts : ℕ
  pub hints : ℕ
  pub known : ℕ
  pub fingerprint : ℕ
  pub confirmed : ℕ

abbrev pub total_words : Totals → List ℕ
total_words c = c.malformed ∷ c.parts ∷ c.hints ∷ c.known ∷ c.fingerprint ∷ c.confirmed ∷ []

unfoldable pub read_totals : List ℕ → Totals
read_totals b =
    record {
      malformed = number_at 8 b 0;
      parts = number_at 8 b 8;
      hints = number_at 8 b 16;
      known = number_at 8 b 24;
      fingerprint = number_at 8 b 32;
      confirmed = number_at 8 b 40;
    }

unfoldable pub totals_of : Workshop → Totals
totals_of w =
    record {
      malformed = length w.malformed;
      parts = length w.parts;
      hints = length w.hints;
      known = bit (is_some w.fingerprint);
      fingerprint = or_zero w.fingerprint;
      confirmed = length w.confirmed;
    }

unfoldable pub encode_backing : Backing → List ℕ
encode_backing c = encode 4 c.back ++ encode 8 c.digest

unfoldable pub decode_backing : List ℕ → Backing
decode_backing b = record { back = number_at 4 b 0; digest = number_at 8 b 4 }

unfoldable pub encode_held_length : HeldLength → List ℕ
encode_held_length p = encode 4 p.at ++ encode 4 p.len

unfoldable pub decode_held_length : List ℕ → HeldLength
decode_held_length b = record { at = number_at 4 b 0; len = number_at 4 b 4 }

-- a hint's kept mark (change request 11) in a byte
unfoldable pub encode_mark : Hint → List ℕ
encode_mark h = encode 1 h.mark

unfoldable pub workshop_bytes : Workshop → List ℕ
workshop_bytes w =
    seen_bytes workshop w.seen
    ++ (word_bytes (total_words (totals_of w))
    ++ (bytes_of encode_backing w.behind
    ++ (bytes_of encode_lsn w.malformed
    ++ (bytes_of encode_held_length w.parts ++ (bytes_of encode_hint w.hints ++ (bytes_of encode_mark w.hints ++ bytes_of encode_confirmation w.confirmed))))))

-- ---- "the bytes of a view determine every field it gives": reading a view
-- of the head h, and the bytes b behind it
unfoldable pub listener_from : Head → List ℕ → Listener
listener_from h b =
    record { area = head_area h; interval = h.interval; complete = eqb h.complete 1; checkpoints = records 8 decode_seen h.count b }

unfoldable pub seen_in : List ℕ → Listener
seen_in b = listener_from (read_head b) (drop 88 b)

-- none where the role is another, or the length is not that of the counts
unfoldable pub read_listener : List ℕ → Option Listener
read_listener b = cond (all (eqb (read_head b).role listener ∷ eqb (length b) (88 + (read_head b).count * 8) ∷ [])) (Some (seen_in b)) None

-- hints with their marks, a byte each
unfoldable pub with_marks : List Hint → List ℕ → List Hint
with_marks [] b = []
with_marks (h ∷ hs) b = record { lsn = h.lsn; number = h.number; mark = get_or b 0 0 } ∷ with_marks hs (drop 1 b)

-- the sections behind the six words of a workshop's view of n checkpoints
unfoldable pub workshop_from : Listener → ℕ → Totals → List ℕ → Workshop
workshop_from v n c b =
    let s1 = drop (n * 12) b in
    let s2 = drop (c.malformed * 4) s1 in
    let s3 = drop (c.parts * 8) s2 in
    let s4 = drop (c.hints * 8) s3 in
    let s5 = drop c.hints s4 in
    record {
      seen = v;
      behind = records 12 decode_backing n b;
      malformed = records 4 decode_lsn c.malformed s1;
      parts = records 8 decode_held_length c.parts s2;
      hints = with_marks (records 8 decode_hint c.hints s3) s4;
      fingerprint = cond (eqb c.known 1) (Some c.fingerprint) None;
      confirmed = records 16 decode_confirmation c.confirmed s5;
    }

-- its length
unfoldable pub workshop_size : ℕ → Totals → ℕ
workshop_size n c = 136 + 20 * n + 4 * c.malformed + 8 * c.parts + 9 * c.hints + 16 * c.confirmed

abbrev pub behind_seen : List ℕ → List ℕ
behind_seen b = drop (88 + (read_head b).count * 8) b

unfoldable pub read_workshop : List ℕ → Option Workshop
read_workshop b =
    cond (all (eqb (read_head b).role workshop ∷ eqb (length b) (workshop_size (read_head b).count (read_totals (behind_seen b))) ∷ []))
    (Some (workshop_from (seen_in b) (read_head b).count (read_totals (behind_seen b)) (drop 48 (behind_seen b)))) None

-- ---- the call
-- 52 of a view: is the role 1 or 2? ("52 when the role is neither 1 (listener) nor 2 (workshop)")
unfoldable pub is_role : ℕ → Bool
is_role role = eqb role listener || eqb role workshop

unfoldable pub view_bytes : ℕ → Index → List ℕ
view_bytes role x = cond (eqb role listener) (listener_bytes (listener_of x)) (workshop_bytes (workshop_of x))

unfoldable pub view_length : ℕ → Index → ℕ
view_length role x =
    cond (eqb role listener) (88 + 8 * length x.scan.checkpoints) (workshop_size (length x.scan.checkpoints) (totals_of (workshop_of x)))

-- 52, "asked before all others"; 1 to 4; 40, "asked after 4": is the output long enough?
-- What lies past the length stays.
unfoldable pub view : ℕ → Lengths → Index → ℕ → Answer (List ℕ)
view role l x out =
    after (first_no (ask (is_role role) 52 ∷ four l x (ask (leb (view_length role x) out) 40 ∷ []))) (Accepted (view_bytes role x))

-- the length that a view will have
unfoldable pub view_size : ℕ → Lengths → Index → Answer ℕ
view_size role l x = after (first_no (ask (is_role role) 52 ∷ four l x [])) (Accepted (view_length role x))
