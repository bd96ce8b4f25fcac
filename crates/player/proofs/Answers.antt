-- What each call answers where its blocks are heads or long enough, from what the calls in it ensure. Assumes nothing.
use mathlib.Core.Path.{◌≡◌, ◌∙◌}
use mathlib.Core.Bool.{true}
use mathlib.Core.List.{List}
use Prim.Native.Nat.{ℕ, ◌≤◌}
use lib.ListN.{length}
use Rattle.std.specs.Prelude.{Result}
use Rattle.std.specs.Result.{result_unwrap_or}
use Rattle.rules.specs.declared.Area.{Area}
use Rattle.rules.specs.declared.AreaIndex.{AreaIndex}
use Rattle.rules.specs.declared.First.{First}
use Rattle.rules.specs.FirstRecord.{first_record}
use Rattle.rules.specs.declared.Refusal.{Refusal}
use Rattle.rules.specs.Refusals.{answer_in, number_in}
use Rattle.rules.specs.Tests.{Accepted, Answer}
use Rattle.blocks.specs.Blocks.{index_words, is_index}
use Rattle.tables.specs.Index.{Tables, made_out}
use Rattle.rules.specs.declared.Made.{Made}
use Rattle.index.specs.Index.{made_of, new_in, bound_in}
use Rattle.plan.specs.Plan.{plan_in}
use Rattle.load.specs.Load.{load_in}
use Rattle.merge.specs.Merge.{merge_in}
use Rattle.adds.specs.Adds.{adds_in}
use Rattle.add_hints.specs.AddHints.{add_hints_in}
use Rattle.save.specs.Save.{made, save_in}
use Rattle.rules.specs.declared.Sized.{Sized}
use Rattle.rules.specs.declared.Plan.{Plan}
use Rattle.rules.specs.declared.Brings.{Brings}
use Rattle.sizes.specs.Sizes.{sized_of, new_sizes, file_sizes, file_area, file_length}
use Rattle.blocks.specs.Calls.{called, into, head_index, saved_number}
use Rattle.player.specs.Block.{plan_words, first_words, size_words, area_words, brings_words}
use Rattle.player.specs.Player.{called_over, first_call, sizes_call, file_area_call, file_sizes_call, new_call, load_call, fingerprint_call, plan_call, length_call, save_call, merge_call, adds_call, add_hints_call}
use Rattle.blocks.proofs.calls.Blocks.{long_enough, is_head_lemma}
use Rattle.blocks.proofs.calls.Numbers.{saved_is}

-- ---- the block is the answer's
module _ (b b' : List ℕ) (n : ℕ) (l : 192 ≤ length b) where
  pub first_done : (s : List ℕ) (f : First) → called n b' ≡ into first_words b (Accepted f) → f ≡ first_record s → called n b' ≡ first_call b s
  unfolding first_call
  first_done s f p e = long_enough b _ _ l (rw e at p)

  pub sizes_done : (a x : Area) (k budget most : ℕ) (r : Sized) → called n b' ≡ into size_words b (sized_of r) → sized_of r ≡ new_sizes x k budget most
      → x ≡ a → called n b' ≡ sizes_call b a k budget most
  unfolding sizes_call
  sizes_done a x k budget most r p e z = long_enough b _ _ l (rw (e, z) at p)

  pub file_area_done : (file : List ℕ) (r : Answer Area) → called n b' ≡ into area_words b r → r ≡ file_area file
      → called n b' ≡ file_area_call b file
  unfolding file_area_call
  file_area_done file r p e = long_enough b _ _ l (rw e at p)

  pub file_sizes_done : (a x : Area) (file : List ℕ) (limit : ℕ) (r : Sized) → called n b' ≡ into size_words b (sized_of r)
      → sized_of r ≡ file_sizes x file limit → x ≡ a → called n b' ≡ file_sizes_call b a file limit
  unfolding file_sizes_call
  file_sizes_done a x file limit r p e z = long_enough b _ _ l (rw (e, z) at p)

  pub plan_done : (h : List ℕ) → is_index h ≡ true → (x : AreaIndex) (t : Tables) (frame : ℕ) (r : Answer Plan)
      → called n b' ≡ into plan_words b r → r ≡ plan_in x t frame → x ≡ head_index h → called n b' ≡ plan_call h frame b t
  unfolding plan_call
  plan_done h g x t frame r p e z = is_head_lemma _ _ _ g (long_enough b _ _ l (rw (e, z) at p))

  -- ---- the block is the head, which is only written
  pub new_done : (a x : Area) (k budget spacing most : ℕ) (t : Tables) (r : Made) → called n b' ≡ into index_words b (made_of r)
      → made_of r ≡ new_in t x k budget spacing most → x ≡ a → called n b' ≡ new_call b a k budget spacing most t
  unfolding new_call
  new_done a x k budget spacing most t r p e z = long_enough b _ _ l (rw (e, z) at p)

  pub load_done : (a x : Area) (file : List ℕ) (limit : ℕ) (t t' : Tables) (r : Made) → called n b' ≡ into index_words b (made_of r)
      → made_out r t' ≡ load_in x file limit t → x ≡ a → called_over n b' t' ≡ load_call b a file limit t
  unfolding load_call
  load_done a x file limit t t' r p e z = long_enough b _ _ l (rw (← z, ← e, p))

  -- ---- two lists
  pub adds_done : (g : List ℕ) → is_index g ≡ true → (x y : AreaIndex) → y ≡ head_index g → (t u : Tables) (h : List ℕ) → is_index h ≡ true → (r : Answer Brings)
      → called n b' ≡ into brings_words b r → r ≡ adds_in x t y u → x ≡ head_index h → called n b' ≡ adds_call h g b t u
  unfolding adds_call
  adds_done g m x y w t u h k r p e z = is_head_lemma _ _ _ k (is_head_lemma _ _ _ m (long_enough b _ _ l (rw (← z, ← w, ← e) p)))

-- ---- the block is the head, read and written
module _ (b b' : List ℕ) (n : ℕ) (l : is_index b ≡ true) where
  pub fingerprint_done : (x : AreaIndex) (v : ℕ) (t : Tables) (r : Made) → called n b' ≡ into index_words b (made_of r)
      → made_of r ≡ bound_in x t v → x ≡ head_index b → called n b' ≡ fingerprint_call b v t
  unfolding fingerprint_call
  fingerprint_done x v t r p e z = is_head_lemma _ _ _ l (rw (e, z) at p)

  pub add_hints_done : (x : AreaIndex) (list : List ℕ) (t t' : Tables) (r : Made) → called n b' ≡ into index_words b (made_of r)
      → made_out r t' ≡ add_hints_in x t list → x ≡ head_index b → called_over n b' t' ≡ add_hints_call b list t
  unfolding add_hints_call
  add_hints_done x list t t' r p e z = is_head_lemma _ _ _ l (rw (← z, ← e, p))

  pub merge_done : (g : List ℕ) → is_index g ≡ true → (x y : AreaIndex) → y ≡ head_index g → (t u t' : Tables) (r : Made)
      → called n b' ≡ into index_words b (made_of r) → made_out r t' ≡ merge_in x t y u → x ≡ head_index b → called_over n b' t' ≡ merge_call b g t u
  unfolding merge_call
  merge_done g m x y w t u t' r p e z = is_head_lemma _ _ _ l (is_head_lemma _ _ _ m (rw (← z, ← w, ← e, p)))

-- ---- no block is written
module _ (h : List ℕ) (l : is_index h ≡ true) (x : AreaIndex) (z : x ≡ head_index h) (t : Tables) where
  pub length_done : (n : ℕ) (r : Result ℕ Refusal) → result_unwrap_or r (number_in r) ≡ file_length x t → n ≡ saved_number (answer_in r) → n ≡ length_call h t
  unfolding length_call
  length_done n r e q = is_head_lemma _ _ _ l (rw z at (q ∙ saved_is r ∙ e))

  pub save_done : (n : ℕ) (o o' : List ℕ) (r : Answer ℕ) → made r o' ≡ save_in x t o → n ≡ saved_number r → called n o' ≡ save_call h t o
  unfolding save_call
  save_done n o o' r e q = is_head_lemma _ _ _ l (rw (← z, ← e, q))
