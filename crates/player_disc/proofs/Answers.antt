-- What each call answers where its blocks are heads or long enough, from what the calls in it ensure. Assumes nothing.
use mathlib.Core.Path.{◌≡◌, ◌∙◌}
use mathlib.Core.Bool.{true}
use mathlib.Core.List.{List}
use Prim.Native.Nat.{ℕ, ◌≤◌}
use lib.ListN.{length}
use Rattle.std.specs.Prelude.{Result}
use Rattle.std.specs.Result.{result_unwrap_or}
use Rattle.rules.specs.declared.Area.{Area}
use Rattle.rules.specs.declared.AreaIndex.{AreaIndex}
use Rattle.blocks.specs.Blocks.{is_index}
use Rattle.tables.specs.Index.{Tables}
use Rattle.save.specs.Save.{made}
use Rattle.blocks.specs.Calls.{called, into, head_index, saved_number}
use Rattle.blocks.proofs.calls.Blocks.{long_enough, is_head_lemma}
use Rattle.blocks.proofs.calls.Numbers.{saved_is}
use Rattle.rules_disc.specs.declared.Contents.{Contents}
use Rattle.disc_load.specs.DiscLoad.{contents_in, disc_out, load_disc_in, disc_sizes, disc_sized_of}
use Rattle.rules_disc.specs.declared.Loaded.{Loaded}
use Rattle.disc_save.specs.DiscSave.{save_one_in, save_both_in, one_length, both_length}
use Rattle.rules_disc.specs.declared.DiscSized.{DiscSized}
use Rattle.rules.specs.declared.Refusal.{Refusal}
use Rattle.rules.specs.Refusals.{answer_in, number_in}
use Rattle.rules.specs.Tests.{Answer}
use Rattle.player_disc.specs.Block.{called_lists, contents_into, disc_size_words, loaded_into}
use Rattle.player_disc.specs.PlayerDisc.{disc_contents_call, disc_sizes_call, disc_length_call, disc_length_both_call, disc_save_call, disc_save_both_call, called_disc, disc_load_call}

-- ---- the block is the answer's
module _ (b b' : List ℕ) (n : ℕ) (l : 192 ≤ length b) where
  pub contents_done : (file : List ℕ) (r : Contents) → called n b' ≡ contents_into b r → r ≡ contents_in file → called n b' ≡ disc_contents_call b file
  unfolding disc_contents_call
  contents_done file r p e = long_enough b _ _ l (rw e at p)

  pub sizes_done : (a0 a1 x y : Area) (file : List ℕ) (limit : ℕ) (r : DiscSized) → called n b' ≡ into disc_size_words b (disc_sized_of r)
      → disc_sized_of r ≡ disc_sizes x y file limit → x ≡ a0 → y ≡ a1 → called n b' ≡ disc_sizes_call b a0 a1 file limit
  unfolding disc_sizes_call
  sizes_done a0 a1 x y file limit r p e z w = long_enough b _ _ l (rw (e, z, w) at p)

-- ---- loading
module _ (h g b h' g' b' : List ℕ) (n : ℕ) (l : 192 ≤ length h) (k : 192 ≤ length g) (m : 192 ≤ length b) (a0 a1 x y : Area) (file : List ℕ) (limit : ℕ) (t u t' u' : Tables) where
  pub load_done : (r : Loaded) → called_lists n h' g' b' ≡ loaded_into h g b r → disc_out r t' u' ≡ load_disc_in x y file limit t u → x ≡ a0 → y ≡ a1
      → called_disc (called_lists n h' g' b') t' u' ≡ disc_load_call h g a0 a1 file limit b t u
  unfolding disc_load_call
  load_done r p e z w = long_enough h _ _ l (long_enough g _ _ k (long_enough b _ _ m (rw (← z, ← w, ← e, p))))

-- ---- no block is written
module _ (h : List ℕ) (l : is_index h ≡ true) (x : AreaIndex) (z : x ≡ head_index h) (t : Tables) where
  pub length_done : (n : ℕ) (r : Result ℕ Refusal) → result_unwrap_or r (number_in r) ≡ one_length x t → n ≡ saved_number (answer_in r) → n ≡ disc_length_call h t
  unfolding disc_length_call
  length_done n r e q = is_head_lemma _ _ _ l (rw z at (q ∙ saved_is r ∙ e))

  pub save_done : (n : ℕ) (o o' : List ℕ) (r : Answer ℕ) → made r o' ≡ save_one_in x t o → n ≡ saved_number r → called n o' ≡ disc_save_call h t o
  unfolding disc_save_call
  save_done n o o' r e q = is_head_lemma _ _ _ l (rw (← z, ← e, q))

  module _ (g : List ℕ) (k : is_index g ≡ true) (y : AreaIndex) (w : y ≡ head_index g) (u : Tables) where
    pub length_both_done : (n : ℕ) (r : Result ℕ Refusal) → result_unwrap_or r (number_in r) ≡ both_length x t y u → n ≡ saved_number (answer_in r)
        → n ≡ disc_length_both_call h g t u
    unfolding disc_length_both_call
    length_both_done n r e q = is_head_lemma _ _ _ l (is_head_lemma _ _ _ k (rw (z, w) at (q ∙ saved_is r ∙ e)))

    pub both_done : (n : ℕ) (o o' : List ℕ) (r : Answer ℕ) → made r o' ≡ save_both_in x t y u o → n ≡ saved_number r → called n o' ≡ disc_save_both_call h g t u o
    unfolding disc_save_both_call
    both_done n o o' r e q = is_head_lemma _ _ _ l (is_head_lemma _ _ _ k (rw (← z, ← w, ← e, q)))
