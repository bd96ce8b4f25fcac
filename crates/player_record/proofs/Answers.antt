-- What each call answers where its blocks are heads or long enough, from what the calls in it ensure. Assumes nothing.
use Rattle.std.specs.Prelude.{Option, ℕ}
use mathlib.Core.Path.{◌≡◌}
use mathlib.Core.Bool.{true}
use mathlib.Core.List.{List}
use Prim.Native.Nat.{ℕ, ◌≤◌}
use lib.ListN.{length}
use Rattle.rules.specs.declared.AreaIndex.{AreaIndex}
use Rattle.rules.specs.declared.EndState.{EndState}
use Rattle.rules.specs.declared.Recorder.{Recorder}
use Rattle.blocks.specs.Blocks.{is_index, is_recorder}
use Rattle.tables.specs.Index.{Tables, frontier_in}
use Rattle.tables.specs.Recorder.{RecorderTables}
use Rattle.recorder.specs.Recorder.{started_in, finished_in, recorder_out, record_in, due_at, checkpoint_lsn}
use Rattle.rules.specs.declared.Absorbed.{Absorbed}
use Rattle.rules.specs.declared.Assembling as under
use Rattle.rules.specs.Tests.{Answer}
use Rattle.absorb.specs.Absorb.{absorbed_out, absorb_in}
use Rattle.player_record.specs.Block.{called_both, absorbed_into, lsn_words, boundary_words}
use Rattle.blocks.specs.Calls.{called, into, head_index, head_recorder}
use Rattle.blocks.proofs.calls.Blocks.{long_enough, is_head_lemma}
use Rattle.player_record.specs.PlayerRecord.{called_four, recorded_into, recorder_call, record_call, finish_call, due_call, boundary_call, frontier_call, called_absorbed, absorb_call}

module _ (b b' : List ℕ) (n : ℕ) (q : Answer Recorder) (p : called n b' ≡ recorded_into b q) where
  pub recorder_done : 192 ≤ length b → (h : List ℕ) → is_index h ≡ true → (x : AreaIndex) (t : Tables) (from : ℕ) → q ≡ started_in x t from → x ≡ head_index h
      → called n b' ≡ recorder_call h from b t
  unfolding recorder_call
  recorder_done l h g x t from e z = is_head_lemma _ _ _ g (long_enough b _ _ l (rw (e, z) at p))

  pub finish_done : is_recorder b ≡ true → (r : Recorder) (t : RecorderTables) (s : EndState) → q ≡ finished_in r t s → r ≡ head_recorder b → called n b' ≡ finish_call b s t
  unfolding finish_call
  finish_done l r t s e z = is_head_lemma _ _ _ l (rw (e, z) at p)

  pub record_done : is_recorder b ≡ true → (r : Recorder) (t t' : RecorderTables) (lsn threshold malformed : ℕ) (f g : Option under.Assembling) (bytes sector : List ℕ)
      → recorder_out q t' ≡ record_in r t lsn threshold malformed f bytes sector → r ≡ head_recorder b → f ≡ g
      → called_four n b' t' ≡ record_call b lsn threshold malformed g bytes sector t
  unfolding record_call
  record_done l r t t' lsn threshold malformed f g bytes sector e z w = is_head_lemma _ _ _ l (rw (← z, ← w, ← e, p))

-- ---- boundaries
module _ (b a a' : List ℕ) (n : ℕ) (l : 192 ≤ length a) (q : Answer (Option ℕ)) (p : called n a' ≡ into boundary_words a q) where
  pub due_done : is_recorder b ≡ true → (r : Recorder) → q ≡ due_at r → r ≡ head_recorder b → called n a' ≡ due_call b a
  unfolding due_call
  due_done g r e z = is_head_lemma _ _ _ g (long_enough a _ _ l (rw (e, z) at p))

  pub boundary_done : is_index b ≡ true → (x : AreaIndex) (j : ℕ) → q ≡ checkpoint_lsn x j → x ≡ head_index b → called n a' ≡ boundary_call b j a
  unfolding boundary_call
  boundary_done g x j e z = is_head_lemma _ _ _ g (long_enough a _ _ l (rw (e, z) at p))

pub frontier_done : (h a a' : List ℕ) (n : ℕ) → 192 ≤ length a → (q : Answer ℕ) → called n a' ≡ into lsn_words a q
    → is_index h ≡ true → (x : AreaIndex) → q ≡ frontier_in x → x ≡ head_index h → called n a' ≡ frontier_call h a
unfolding frontier_call
frontier_done h a a' n l q p g x e z = is_head_lemma _ _ _ g (long_enough a _ _ l (rw (e, z) at p))

-- ---- a list and a recorder
module _ (h h' b b' : List ℕ) (n : ℕ) (g : is_index h ≡ true) (l : is_recorder b ≡ true) (x : AreaIndex) (r : Recorder) (t : Tables) (u : RecorderTables) where
  pub absorb_done : (t' : Tables) (i j : Option ℕ) (given : List ℕ) (q : Absorbed) → called_both n h' b' ≡ absorbed_into h b q
      → absorbed_out q t' ≡ absorb_in x t i given r u → x ≡ head_index h → r ≡ head_recorder b → i ≡ j → called_absorbed n h' b' t' ≡ absorb_call h b j given t u
  unfolding absorb_call
  absorb_done t' i j given q p e z y w = is_head_lemma _ _ _ g (is_head_lemma _ _ _ l (rw (← z, ← y, ← w, ← e, p)))
