-- What the calls for C answer on disc files.
use Rattle.std.specs.Prelude.{ℕ, List}
use Rattle.rules.specs.declared.Area.{Area}
use Rattle.blocks.specs.Blocks.{is_index}
use Rattle.tables.specs.Index.{Tables}
use Rattle.blocks.specs.Calls.{Called, called, into, in_block, in_head, head_index, saved_into}
use Rattle.rules_view.specs.Roles.{in_workshop}
use Rattle.disc_load.specs.DiscLoad.{contents_in, DiscOut, load_disc_in, disc_sizes}
use Rattle.disc_save.specs.DiscSave.{save_one_in, save_both_in, one_length, both_length}
use Rattle.player_disc.specs.Block.{CalledLists, called_lists, contents_into, disc_size_words, loaded_into}

-- ---- the block is the answer's
unfoldable pub disc_contents_call : List ℕ → List ℕ → Called
disc_contents_call answer file = in_block answer (called 3 answer) (contents_into answer (contents_in file))

unfoldable pub disc_sizes_call : List ℕ → Area → Area → List ℕ → ℕ → Called
disc_sizes_call answer a0 a1 file limit = in_block answer (called 3 answer) (into disc_size_words answer (disc_sizes a0 a1 file limit))

-- ---- the length, or the refusal number
unfoldable pub disc_length_call : List ℕ → Tables → ℕ
disc_length_call head t = in_head (is_index head) 3 (one_length (head_index head) t)

unfoldable pub disc_length_both_call : List ℕ → List ℕ → Tables → Tables → ℕ
disc_length_both_call head other t u = in_head (is_index head) 3 (in_head (is_index other) 3 (both_length (head_index head) t (head_index other) u))

-- with the output as block
unfoldable pub disc_save_call : List ℕ → Tables → List ℕ → Called
disc_save_call head t out =
    let o = save_one_in (head_index head) t out in
    in_head (is_index head) (called 3 out) (saved_into o.answer o.out)

unfoldable pub disc_save_both_call : List ℕ → List ℕ → Tables → Tables → List ℕ → Called
disc_save_both_call head other t u out =
    let o = save_both_in (head_index head) t (head_index other) u out in
    in_head (is_index head) (called 3 out) (in_head (is_index other) (called 3 out) (saved_into o.answer o.out))

-- ---- loading: the heads of both slots, the answer, and the tables of both slots
pub record CalledDisc : Type 0 where
  pub call : CalledLists
  pub slot0 : Tables
  pub slot1 : Tables

abbrev pub called_disc : CalledLists → Tables → Tables → CalledDisc
called_disc c t u = record { call = c; slot0 = t; slot1 = u }

abbrev pub disc_into : List ℕ → List ℕ → List ℕ → DiscOut → CalledDisc
disc_into head other answer o = called_disc (loaded_into head other answer o.answer) o.slot0 o.slot1

unfoldable pub disc_load_call : List ℕ → List ℕ → Area → Area → List ℕ → ℕ → List ℕ → Tables → Tables → CalledDisc
disc_load_call head other a0 a1 file limit answer t u =
    let short = called_disc (called_lists 3 head other answer) t u in
    in_block head short (in_block other short (in_block answer short (disc_into head other answer (load_disc_in a0 a1 file limit t u))))

-- ---- what the workshop alone may call (change request 10)
unfoldable pub disc_save_call_as : ℕ → List ℕ → Tables → List ℕ → Called
disc_save_call_as role head t out = in_workshop role (called 52 out) (disc_save_call head t out)

unfoldable pub disc_save_both_call_as : ℕ → List ℕ → List ℕ → Tables → Tables → List ℕ → Called
disc_save_both_call_as role head other t u out = in_workshop role (called 52 out) (disc_save_both_call head other t u out)

unfoldable pub disc_load_call_as : ℕ → List ℕ → List ℕ → Area → Area → List ℕ → ℕ → List ℕ → Tables → Tables → CalledDisc
disc_load_call_as role head other a0 a1 file limit answer t u =
    in_workshop role (called_disc (called_lists 52 head other answer) t u) (disc_load_call head other a0 a1 file limit answer t u)
