-- The definitions of change request 9 give what the examples should be. Assumes nothing.
use mathlib.Core.Path.{refl}
use Rattle.rules.specs.examples.Starred.{Hold}
use Rattle.rules.proofs.Examples.{evaluated}
use Rattle.rules_shelf.specs.Shelf.{sum, area_place, among, no_two, drop_at, without, older, oldest_of, roomy, make_room, staying, entered, restamped, jumped, shelf_ok, entering, jumped_in, jumping, enter, held_by, jump}
use Rattle.rules_shelf.specs.ShelfExamples.{full, list_numbers, shelf_numbers, table_numbers, jump_numbers, shelves, full_shelves}

pub shelves_hold : Hold shelves
unfolding evaluated sum area_place among no_two drop_at without older oldest_of roomy make_room staying entered restamped jumped shelf_ok entering jumped_in jumping enter held_by jump full list_numbers shelf_numbers table_numbers jump_numbers shelves
shelves_hold = refl

pub full_shelves_hold : Hold full_shelves
unfolding evaluated sum area_place among no_two drop_at without older oldest_of roomy make_room staying entered restamped jumped shelf_ok entering enter full list_numbers shelf_numbers full_shelves
full_shelves_hold = refl
