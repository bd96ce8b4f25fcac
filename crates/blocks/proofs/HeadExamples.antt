-- The definitions give what the examples of heads should be. Assumes nothing.
use mathlib.Core.Path.{refl}
use Rattle.field.specs.Number.{encode, decode, same_bytes}
use Rattle.field.specs.Records.{records, bytes_of}
use Rattle.blocks.specs.Blocks.{end_read, fingerprint_read, image_read, mode_read, last_read, tail_read, area_read, index_read, recorder_read, hint_recorder_read, end_words, fingerprint_words, image_words, mode_words, last_words, tail_words, index_words, recorder_words, hint_recorder_array, hint_recorder_words, is_head, with_free}
use Rattle.blocks.specs.HeadExamples.{Hold, lists, recorders}

lists_hold : Hold lists
unfolding is_head same_bytes records bytes_of encode decode index_read area_read end_read fingerprint_read image_read index_words end_words fingerprint_words image_words
lists_hold = refl

recorders_hold : Hold recorders
unfolding is_head same_bytes records bytes_of encode decode recorder_read area_read mode_read recorder_words mode_words hint_recorder_read last_read tail_read hint_recorder_words hint_recorder_array last_words tail_words with_free
recorders_hold = refl
