-- What each call answers where its blocks are heads or long enough, from what the calls in it ensure. Assumes nothing.
use mathlib.Core.Path.{◌≡◌}
use mathlib.Core.Bool.{true}
use mathlib.Core.List.{List}
use Prim.Native.Nat.{ℕ, ◌≤◌}
use lib.ListN.{length}
use Rattle.rules.specs.declared.AreaIndex.{AreaIndex}
use Rattle.rules.specs.declared.Confirmation.{Confirmation}
use Rattle.rules.specs.declared.HintRecorder.{HintRecorder}
use Rattle.blocks.specs.Blocks.{hint_recorder_words, is_index, is_hint_recorder}
use Rattle.rules.specs.Tests.{number_of, Answer}
use Rattle.tables.specs.Index.{Tables, made_out}
use Rattle.rules.specs.declared.Made.{Made}
use Rattle.index.specs.Index.{made_of}
use Rattle.keep_hint.specs.KeepHint.{keep_hint_in}
use Rattle.hint.specs.Hint.{hint_in}
use Rattle.hint_recorder.specs.HintRecorder.{created_in, see_in, flush_in, take_in}
use Rattle.hint_recorder.specs.HintRecorder as hinting
use Rattle.rules.specs.declared.SeenSector.{SeenSector}
use Rattle.rules.specs.declared.TakenList.{TakenList}
use Rattle.rules_jump.specs.Names.{NamedHint}
use Rattle.std.specs.Prelude.{Option}
use Rattle.confirmations.specs.Confirmations.{keep_in}
use Rattle.confirmations.specs.Confirmations as keeping
use Rattle.blocks.specs.Calls.{called, into, head_index, head_hint_recorder}
use Rattle.blocks.proofs.calls.Blocks.{long_enough, is_head_lemma}
use Rattle.player_record.specs.Block.{called_both, sector_words, created_words, hint_words, taken_into, kept_into}
use Rattle.player_record.specs.PlayerRecord.{called_list, called_kept, called_tables, hint_recorder_call, see_call, flush_call, take_call, keep_call, keep_hint_call, hint_call}

-- ---- a block that is only written, and a list's head
module _ (b b' : List ℕ) (n : ℕ) (l : 192 ≤ length b) (h : List ℕ) (g : is_index h ≡ true) (x : AreaIndex) (t : Tables) where
  pub created_done : (q : Answer (Option HintRecorder)) → called n b' ≡ into created_words b q → q ≡ created_in x t → x ≡ head_index h
      → called n b' ≡ hint_recorder_call h b t
  unfolding hint_recorder_call
  created_done q p e z = is_head_lemma _ _ _ g (long_enough b _ _ l (rw (e, z) at p))

  pub hint_done : (first end playtime : ℕ) (q : Answer (Option NamedHint)) → called n b' ≡ into hint_words b q → q ≡ hint_in x t first end playtime
      → x ≡ head_index h → called n b' ≡ hint_call h first end playtime b t
  unfolding hint_call
  hint_done first end playtime q p e z = is_head_lemma _ _ _ g (long_enough b _ _ l (rw (e, z) at p))

-- ---- a hint recorder's block
module _ (b b' : List ℕ) (n : ℕ) (l : is_hint_recorder b ≡ true) (r : HintRecorder) (z : r ≡ head_hint_recorder b) where
  module _ (t t' : List ℕ) where
    pub see_done : (q : Answer SeenSector) → called n b' ≡ into sector_words b q → (lsn : ℕ) (sector : List ℕ) → hinting.saw_out q t' ≡ see_in r t lsn sector
        → called_list n b' t' ≡ see_call b lsn sector t
    unfolding see_call
    see_done q p lsn sector e = is_head_lemma _ _ _ l (rw (← z, ← e, p))

    pub flush_done : (q : Answer HintRecorder) → called n b' ≡ into hint_recorder_words b q → hinting.seen_out q t' ≡ flush_in r t → called_list n b' t' ≡ flush_call b t
    unfolding flush_call
    flush_done q p e = is_head_lemma _ _ _ l (rw (← z, ← e, p))

  pub take_done : (a a' : List ℕ) → 192 ≤ length a → (t : List ℕ) (q : Answer TakenList) → called_both n b' a' ≡ taken_into b a q → q ≡ take_in r t
      → called_both n b' a' ≡ take_call b a t
  unfolding take_call
  take_done a a' k t q p e = is_head_lemma _ _ _ l (long_enough a _ _ k (rw (e, z) at p))

-- ---- a list's head that is written, and an answer
pub keep_done : (b b' : List ℕ) (n : ℕ) → is_index b ≡ true → (a a' : List ℕ) → 192 ≤ length a → (x : AreaIndex) (t t' : Tables) (c : Confirmation) (q : Answer (Option AreaIndex))
    → called_both n b' a' ≡ kept_into b a q → keeping.kept_out q t' ≡ keep_in x t c → x ≡ head_index b → called_kept n b' a' t' ≡ keep_call b c a t
unfolding keep_call
keep_done b b' n l a a' k x t t' c q p e z = is_head_lemma _ _ _ l (long_enough a _ _ k (rw (← z, ← e, p)))

-- ---- a list's head that is only read
pub keep_hint_done : (h : List ℕ) → is_index h ≡ true → (x : AreaIndex) (t t' : Tables) (lsn n : ℕ) (q : Made)
    → n ≡ number_of (made_of q) → made_out q t' ≡ keep_hint_in x t lsn → x ≡ head_index h → called_tables n t' ≡ keep_hint_call h lsn t
unfolding keep_hint_call
keep_hint_done h l x t t' lsn n q p e z = is_head_lemma _ _ _ l (rw (← z, ← e, p))
