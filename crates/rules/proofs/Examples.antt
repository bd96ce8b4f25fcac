-- The definitions give what the examples should be. Assumes nothing.
use Prim.Native.Nat.{ℕ}
use mathlib.Core.Path.{refl}
use Rattle.field.specs.Number.{encode, decode, number_at, put, same_bytes}
use Rattle.field.specs.Records.{bytes_of}
use Rattle.fnv.specs.Fnv.{fnv_from}
use Rattle.rules.specs.Create.{new, bind_fingerprint, recorder, hint_recorder}
use Rattle.rules.specs.examples.HintRecorders.{tail_numbers, seen_numbers, taken_numbers, spacing_numbers, first_records, hint_recorders}
use Rattle.rules.specs.examples.Recorders.{mode_numbers, checkpoint_numbers, recorder_numbers, recorders}
use Rattle.rules.specs.examples.Absorbs.{absorbed_numbers, absorbs}
use Rattle.rules.specs.examples.Hints.{fingerprint_numbers, fingerprints, additions, confirmations, hints}
use Rattle.rules.specs.examples.Merges.{places_of, scan_numbers, rest_numbers, merges, orders, orders_shown, part_rule, files}
use Rattle.rules.specs.examples.Versions.{versions}
use Rattle.rules.specs.examples.Marks.{mark_numbers, maybe_marks, marks, marked_thinning, marked_files}
use Rattle.rules.specs.examples.Starred.{numbers_of, known_numbers, first_numbers, hint_numbers, confirmed_numbers, plan_numbers, hinted_numbers, index_numbers, part_numbers, kept_numbers, Hold, starred, traps}
use Rattle.rules.specs.File.{header_fields, field_at, read_header, write_fields, encode_checkpoint, decode_checkpoint, encode_frame_header, encode_frame, unsigned32, signed32, kind_number, kind_of, encode_held, decode_held, encode_lsn, decode_lsn, encode_hint, decode_hint, encode_confirmation, decode_confirmation, or_zero, end_or_zero, bit, has_hinting, version_of, header_of, hint_section, confirmed_section, body_of, saved, saved_length, save}
use Rattle.rules.specs.FirstRecord.{time_at, first_record, record_number}
use Rattle.rules.specs.Hints.{spaced, seen_record, see, flushed_list, flush, take_list, insert, count_of, rise, rise_at, gap, smaller, rank, kept, thin, in_area, insert_all, limited_to, joined_hints, question13, add_hints, unkept, place_of, question53, with_mark, keep_hint, held_confirmation, last_ones, keep, keep_all, question14, keep_confirmation, larger, larger_of, largest_of, near, confirmed_at, hint_place, first_from, run_from, density_before, local, denser, or_hint, upper_end, hinted_locally, hinted_later, hinted_at, hint}
use Rattle.rules.specs.Load.{read_each, read_record, read_frame, read_part, header_number, end_number, decode_hint_header, adds, hint_number, most_ok, may_confirm, read_hint_section, confirmed_number, read_confirmed_section, read_sections, file_number, from_bytes, fitting, within, unmarked, limited, load}
use Rattle.rules.specs.Merge.{question41, question42, question43, further, merged_scan, held_from, merged_fingerprint, merged, merge_number, merge}
use Rattle.rules.specs.PartRule.{opens, joins, growth, stores, add_part, add_parts}
use Rattle.rules.specs.Plan.{last_not_above, assembly_of, plan_from, plan_or, planned, start_of, plan, bytes_at}
use Rattle.rules.specs.Questions.{area_ok, numbers_ok, scan_room, hinting_room, held_ok, scan_ok, hinting_ok, question1, question2, question3, question4, end_of, recorder_question1, recorder_question2, recorder_question3, recorder_question4}
use Rattle.rules.specs.Record.{is_running, question5, question6, question7, back_of, assembled, record_at, finish, same_counts, question8, question9, question10, question11, below, question12, drained, is_stopped, absorb}
use Rattle.rules.specs.Run.{answered, step, run}
use Rattle.rules.specs.Sections.{counts_ok, checkpoint_ok, checkpoints_ok, frame_ok, frames_ok, follows, belongs, part_ok, reached, parts_ok, end_ok, ending_ok, rising_ok, rising, malformed_ok, hints_ok, is_kept, kept_count, marks_ok, confirmations_ok}
use Rattle.rules.specs.Tests.{all, each, walk, last_or, is_some, or_else, agree, agrees, first_no, after, bind, number_of}
use Rattle.rules.specs.Values.{used, boundaries, frontier_of, counted, stated, is_checked, same_kind, same_key, same_area, same_checkpoint, same_end}

-- the definitions that an evaluation sees through
unfoldable pub evaluated : ℕ
unfolding places_of scan_numbers rest_numbers merges part_rule files fingerprint_numbers fingerprints additions confirmations hints absorbed_numbers absorbs mode_numbers checkpoint_numbers recorder_numbers recorders tail_numbers seen_numbers taken_numbers spacing_numbers known_numbers first_records hint_recorders new bind_fingerprint recorder hint_recorder numbers_of first_numbers hint_numbers confirmed_numbers plan_numbers hinted_numbers index_numbers part_numbers kept_numbers starred traps header_fields field_at read_header write_fields encode_checkpoint decode_checkpoint encode_frame_header encode_frame unsigned32 signed32 kind_number kind_of encode_held decode_held encode_lsn decode_lsn encode_hint decode_hint encode_confirmation decode_confirmation or_zero end_or_zero bit has_hinting version_of header_of hint_section confirmed_section body_of saved saved_length save time_at first_record record_number spaced seen_record see flushed_list flush take_list insert count_of rise rise_at gap smaller rank kept thin in_area insert_all limited_to joined_hints question13 add_hints unkept place_of question53 with_mark keep_hint held_confirmation last_ones keep keep_all question14 keep_confirmation larger larger_of largest_of near confirmed_at hint_place first_from run_from density_before local denser or_hint upper_end hinted_locally hinted_later hinted_at hint read_each read_record read_frame read_part header_number end_number decode_hint_header adds hint_number most_ok may_confirm read_hint_section confirmed_number read_confirmed_section read_sections file_number from_bytes fitting within unmarked limited load question41 question42 question43 further merged_scan held_from merged_fingerprint merged merge_number merge opens joins growth stores add_part add_parts last_not_above assembly_of plan_from plan_or planned start_of plan bytes_at area_ok numbers_ok scan_room hinting_room held_ok scan_ok hinting_ok question1 question2 question3 question4 end_of recorder_question1 recorder_question2 recorder_question3 recorder_question4 is_running question5 question6 question7 back_of assembled record_at finish same_counts question8 question9 question10 question11 below question12 drained is_stopped absorb counts_ok checkpoint_ok checkpoints_ok frame_ok frames_ok follows belongs part_ok reached parts_ok end_ok ending_ok rising_ok rising malformed_ok hints_ok is_kept kept_count marks_ok confirmations_ok all each walk last_or is_some or_else agree agrees first_no after bind number_of used boundaries frontier_of counted stated is_checked same_kind same_key same_area same_checkpoint same_end encode decode number_at same_bytes bytes_of fnv_from
evaluated = 0

-- 01's starred examples
pub starred_hold : Hold starred
unfolding evaluated
starred_hold = refl

-- the traps
pub traps_hold : Hold traps
unfolding evaluated
traps_hold = refl

-- first records
pub first_records_hold : Hold first_records
unfolding evaluated
first_records_hold = refl

-- see, flush and take
pub hint_recorders_hold : Hold hint_recorders
unfolding evaluated
hint_recorders_hold = refl

-- recorder, record and finish
pub recorders_hold : Hold recorders
unfolding evaluated
recorders_hold = refl

-- absorb
pub absorbs_hold : Hold absorbs
unfolding evaluated
absorbs_hold = refl

-- the fingerprint entry
pub fingerprints_hold : Hold fingerprints
unfolding evaluated
fingerprints_hold = refl

-- add_hints
pub additions_hold : Hold additions
unfolding evaluated
additions_hold = refl

-- keep_confirmation
pub confirmations_hold : Hold confirmations
unfolding evaluated
confirmations_hold = refl

-- hint
pub hints_hold : Hold hints
unfolding evaluated
hints_hold = refl

-- merge
pub merges_hold : Hold merges
unfolding evaluated
merges_hold = refl

-- merges in every order and bracketing
pub orders_hold : Hold orders
unfolding evaluated orders answered step run
orders_hold = refl

pub orders_shown_hold : Hold orders_shown
unfolding evaluated orders_shown
orders_shown_hold = refl

-- the part rule
pub part_rule_hold : Hold part_rule
unfolding evaluated
part_rule_hold = refl

-- loading
pub files_hold : Hold files
unfolding evaluated
files_hold = refl

-- limits above 65,536, and version 4 of the file
pub versions_hold : Hold versions
unfolding evaluated put versions
versions_hold = refl

-- kept marks: keep_hint and question 4, thinning and joining, files and the other calls
pub marks_hold : Hold marks
unfolding evaluated mark_numbers marks
marks_hold = refl

pub marked_thinning_holds : Hold marked_thinning
unfolding evaluated mark_numbers marked_thinning
marked_thinning_holds = refl

pub marked_files_hold : Hold marked_files
unfolding evaluated put mark_numbers maybe_marks marked_files
marked_files_hold = refl
