-- The definitions of change request 14 give what the examples should be. Assumes nothing.
use mathlib.Core.Path.{refl}
use Rattle.field.specs.Records.{records}
use Rattle.rules.specs.examples.Starred.{Hold}
use Rattle.rules.proofs.Examples.{evaluated}
use Rattle.rules_disc.specs.Disc.{encode_entry, decode_entry, laid, contents_ok, entry_of, body_at, slot_area, load_body, load_bodies, load_disc, entries_from, disc_bytes, bodies_length, disc_length, entries_ok, save_lists, save_one, by_slot, save_both}
use Rattle.rules_disc.specs.DiscExamples.{count_of, disc_numbers, discs}

pub discs_hold : Hold discs
unfolding evaluated records encode_entry decode_entry laid contents_ok entry_of body_at slot_area load_body load_bodies load_disc entries_from disc_bytes bodies_length disc_length entries_ok save_lists save_one by_slot save_both count_of disc_numbers discs
discs_hold = refl
