-- The definitions of change request 10 give what the examples should be. Assumes nothing.
use mathlib.Core.Path.{refl}
use Rattle.field.specs.Records.{records}
use Rattle.rules.specs.examples.Starred.{Hold}
use Rattle.rules.proofs.Examples.{evaluated}
use Rattle.rules_disc.specs.Disc.{encode_entry, decode_entry, laid, contents_ok, entry_of, body_at, slot_area, load_body, load_bodies, load_disc, entries_from, disc_bytes, bodies_length, disc_length, entries_ok, save_lists, save_one, by_slot, save_both}
use Rattle.rules_drawer.specs.Drawer.{question44, load_files, pair_number, first_of, pairs_with, pairs_number, merge_each, merge_lists, merge_all}
use Rattle.rules_view.specs.View.{seen_from, listener_of, backings_of, lengths_of, workshop_of, read_head, head_of, encode_seen, decode_seen, seen_bytes, listener_bytes, read_totals, totals_of, encode_backing, decode_backing, encode_held_length, decode_held_length, encode_mark, workshop_bytes, listener_from, seen_in, read_listener, with_marks, workshop_from, workshop_size, read_workshop, is_role, view_bytes, view_length, view, view_size}
use Rattle.rules_view.specs.Roles.{as_workshop}
use Rattle.rules_view.specs.ViewExamples.{seen_numbers, behind_numbers, length_numbers, mark_numbers, read_numbers, views, roles}

pub views_hold : Hold views
unfolding evaluated records seen_from listener_of backings_of lengths_of workshop_of read_head head_of encode_seen decode_seen seen_bytes listener_bytes read_totals totals_of encode_backing decode_backing encode_held_length decode_held_length encode_mark workshop_bytes listener_from seen_in read_listener with_marks workshop_from workshop_size read_workshop is_role view_bytes view_length view view_size seen_numbers behind_numbers length_numbers mark_numbers read_numbers views
views_hold = refl

pub roles_hold : Hold roles
unfolding evaluated records encode_entry decode_entry laid contents_ok entry_of body_at slot_area load_body load_bodies load_disc entries_from disc_bytes bodies_length disc_length entries_ok save_lists save_one by_slot save_both question44 load_files pair_number first_of pairs_with pairs_number merge_each merge_lists merge_all as_workshop roles
roles_hold = refl
