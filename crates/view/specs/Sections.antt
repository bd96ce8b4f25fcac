-- The sections of a view of an index in its tables, and what is needed of the tables.
use Rattle.std.specs.Prelude.{ℕ, ◌+◌, ◌*◌, ◌≤◌, List, [], ◌++◌, length}
use Rattle.field.specs.Records.{bytes_of}
use Rattle.rules.specs.declared.AreaIndex.{AreaIndex}
use Rattle.rules.specs.declared.Checkpoint.{Checkpoint}
use Rattle.rules.specs.Tests.{is_some}
use Rattle.rules.specs.Values.{stated}
use Rattle.rules.specs.File.{encode_lsn, encode_hint, encode_confirmation, or_zero, bit}
use Rattle.rules_view.specs.View.{Seen, Listener, Backing, Head, Totals, seen_from, backings_of, lengths_of, listener_of, word_bytes, total_words, encode_backing, encode_held_length, encode_mark}
use Rattle.tables.specs.Tables.{checkpoints_in, parts_in, lsns_in, kept_in, confirmations_in}
use Rattle.tables.specs.Index.{index_in, tables}

-- ---- the words
abbrev pub head_in : ℕ → AreaIndex → Head
head_in role x =
    record {
      role = role;
      slot = x.area.key.slot;
      channels = x.area.key.channels;
      key_start = x.area.key.start;
      key_end = x.area.key.end;
      sectors = x.area.key.sectors;
      start = x.area.start;
      end = x.area.end;
      interval = x.interval;
      complete = bit (is_some x.ending);
      count = x.checkpoints;
    }

abbrev pub totals_in : AreaIndex → Totals
totals_in x =
    record {
      malformed = x.malformed;
      parts = x.parts;
      hints = x.hints;
      known = bit (is_some (stated x.fingerprint));
      fingerprint = or_zero (stated x.fingerprint);
      confirmed = x.confirmed;
    }

-- ---- the records
abbrev pub seen_of : AreaIndex → List ℕ → List Seen
seen_of x t = seen_from x.area x.interval 0 (checkpoints_in x.checkpoints t)

abbrev pub backing_of : Checkpoint → Backing
backing_of c = record { back = c.back; digest = c.digest }

-- the listener's view depends on the table of checkpoints alone
abbrev pub listener_in : AreaIndex → List ℕ → Listener
listener_in x t = listener_of (index_in x (tables t [] [] [] [] [] []))

-- ---- what the workshop's view adds
abbrev pub behind_bytes : AreaIndex → List ℕ → List ℕ → List ℕ → List ℕ → List ℕ → List ℕ
behind_bytes x checkpoints parts malformed hints confirmed =
    word_bytes (total_words (totals_in x))
    ++ (bytes_of encode_backing (backings_of (checkpoints_in x.checkpoints checkpoints))
    ++ (bytes_of encode_lsn (lsns_in x.malformed malformed)
    ++ (bytes_of encode_held_length (lengths_of (parts_in x.parts parts))
    ++ (bytes_of encode_hint (kept_in x.hints hints)
    ++ (bytes_of encode_mark (kept_in x.hints hints) ++ bytes_of encode_confirmation (confirmations_in x.confirmed confirmed))))))

abbrev pub behind_size : AreaIndex → ℕ
behind_size x = 48 + (x.checkpoints * 12 + (x.malformed * 4 + (x.parts * 8 + (x.hints * 8 + (x.hints + x.confirmed * 16)))))

-- ---- what 1 to 4 say that is needed
pub record Shown (x : AreaIndex) (cs ps ms hs fs : List ℕ) : Type 0 where
  pub start : x.area.start ≤ 4294967295
  pub checkpoints : x.checkpoints * 24 ≤ length cs
  pub parts : x.parts * 24 ≤ length ps
  pub malformed : x.malformed * 4 ≤ length ms
  pub hints : x.hints * 8 ≤ length hs
  pub confirmed : x.confirmed * 16 ≤ length fs
