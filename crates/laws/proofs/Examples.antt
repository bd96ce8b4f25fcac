-- A list with every kind of record: the theorems' premises hold of it. Assumes nothing.
use Rattle.std.specs.Prelude.{Some}
use mathlib.Core.Path.{◌≡◌, refl}
use mathlib.Core.List.{[], ◌∷◌}
use lib.IntN.{negsuc}
use Rattle.rules.specs.declared.FrameKind.TheVariants.{Dsd}
use Rattle.rules.specs.declared.Fingerprint.TheVariants.{Checked}
use Rattle.rules.specs.Tests.{all, each, walk, last_or, is_some, Accepted}
use Rattle.rules.specs.Values.{Index, boundaries, frontier_of, counted, stated, same_kind, used}
use Rattle.rules.specs.Sections.{counts_ok, checkpoint_ok, checkpoints_ok, frame_ok, frames_ok, follows, belongs, part_ok, reached, parts_ok, end_ok, ending_ok, rising_ok, rising, malformed_ok, hints_ok, is_kept, kept_count, marks_ok, confirmations_ok}
use Rattle.rules.specs.Questions.{area_ok, numbers_ok, held_ok, scan_ok, hinting_ok, question1, question2, question4}
use Rattle.rules.specs.Sizes.{key_sized, frame_sized, scan_sized, known_sized, hinting_sized, sized}
use Rattle.rules.specs.File.{has_hinting, version_of, saved, saved_length}
use Rattle.rules.specs.Load.{from_bytes}
use Rattle.laws.specs.Statements.{stripped, Savable}
use Rattle.laws.proofs.Saved.{load_of_save}

pub example : Index
example =
    record {
      scan =
          record {
            area = record { key = record { slot = 1; start = 100; end = 140; channels = 2; sectors = 5 }; start = 100; end = 140 };
            interval = 20;
            budget = 10;
            checkpoints = record { threshold = 3; back = 0; malformed = 0; digest = 7 } ∷ record { threshold = 9; back = 10; malformed = 1; digest = 18446744073709551615 } ∷ [];
            frames = record { start = 110; bytes = 1 ∷ 2 ∷ 255 ∷ [] } ∷ [];
            parts = record { at = 1; frame = 0; len = 3; number = 5; kind = Dsd; remaining = negsuc 2147483647 } ∷ [];
            ending = Some (record { threshold = 9; malformed = 1 });
            malformed = 105 ∷ [];
          };
      hinting = record { spacing = 8; most = 2048; hints = record { lsn = 101; number = 4; mark = 1 } ∷ []; confirmed = record { lsn = 130; threshold = 8; digest = 1 } ∷ [] };
      fingerprint = Checked 99;
      image = Some 3;
    }

example_savable : Savable example
unfolding example question1 question2 question4 sized area_ok numbers_ok scan_ok hinting_ok held_ok counts_ok checkpoints_ok checkpoint_ok frames_ok frame_ok parts_ok part_ok follows belongs reached ending_ok end_ok malformed_ok rising rising_ok hints_ok is_kept kept_count marks_ok confirmations_ok scan_sized key_sized frame_sized hinting_sized known_sized boundaries frontier_of counted stated same_kind all each walk last_or is_some
example_savable = record { one = refl; two = refl; four = refl; sizes = refl }

-- a version 3 file of 231 bytes
example_length : (version_of example ≡ 3) × (saved_length example ≡ 231)
unfolding example version_of saved_length has_hinting is_some stated used
example_length = (refl, refl)

pub example_loads : from_bytes example.scan.area (saved example) ≡ Accepted (stripped example)
example_loads = load_of_save example example_savable
