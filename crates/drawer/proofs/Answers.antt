-- What is answered of a set. Assumes nothing.
use Prim.Native.Nat.{ℕ, ◌*◌, ◌/◌, ◌≤◌}
use mathlib.Core.Path.{◌≡◌, refl, sym, ap, ◌∙◌}
use mathlib.Core.Bool.{Bool, true, false}
use mathlib.Core.Logic.{◌≢◌}
use mathlib.Core.List.{List, [], ◌∷◌}
use native.Mathlib.Omega.{arith}
use lib.Dec.{eqb, leb}
use lib.ListN.{length}
use borrow.Author.Tests.{eqb-true, leb-true, le-leb}
use mir.Val.{Val}
use denote.Laws.{Is}
use Rattle.field.specs.Records.{Bytes}
use Rattle.rules.specs.declared.AreaIndex.{AreaIndex}
use Rattle.rules.specs.declared.Fingerprint.{Fingerprint}
use Rattle.rules.specs.declared.Fingerprint.TheVariants.{Unknown, Checked}
use Rattle.rules.specs.declared.Fingerprint.TheVariants as fingerprint
use Rattle.rules.specs.Tests.{Answer, Refused, Accepted, after, ask, first_no}
use Rattle.rules.specs.Values.{Index, max64, stated}
use Rattle.rules.specs.Sizes.{known_sized}
use Rattle.rules.specs.Questions.{question1, question2, question4, four}
use Rattle.rules.proofs.Tests.{and_left, and_right, asks, test, →after, →bind}
use Rattle.rules.specs.contracts.AreaIndex.{the_row}
use Rattle.rules.specs.contracts.Fingerprint as print
use Rattle.tables.specs.Index.{Tables, room_of, room_in, index_in, kinds_in, refusal, MadeOut, made_out, made_out_of}
use Rattle.rules.specs.declared.Made.TheVariants as made
use Rattle.index.specs.Steps.{Passes, held_question4}
use Rattle.tables.specs.Lent.{Typed, TableBytes}
use Rattle.index.proofs.Questions.{passes, passes_long}
use Rattle.index.proofs.Lent.{passes_savable}
use Rattle.rules_drawer.specs.Drawer.{lengths_in, question44, pairs_number, merge_each, merge_lists, merge_all}
use Rattle.rules_drawer.proofs.Files.{refused_bind, refused_after}
use Rattle.drawer.specs.declared.ask.Asked.{Asked}
use Rattle.drawer.specs.Ask.{unasked, refused_by, numbered, size_ok, Few, lists_at, Loads, FilesAsked, Joinable, join_pairs, Admitted, SetAsked}
use Rattle.drawer.specs.Drawer.{lists_of, merge_all_in}
use Rattle.drawer.specs.Turns.{Turns, turns_in, turns_out}
use Rattle.drawer.proofs.Asking.{lengths_count}
use Rattle.drawer.proofs.Pairing.{pairs_are, joinable}

-- ---- what the types of lent numbers say
print_fits : (f : Fingerprint) (vs : List Val) → Is print.the_row f vs → known_sized (stated f) ≡ true
unfolding known_sized stated
print_fits Unknown vs g = refl
print_fits (fingerprint.Held v) vs g = let h : v ≤ max64 = omega (arith, g) in le-leb v max64 h
print_fits (Checked v) vs g = let h : v ≤ max64 = omega (arith, g) in le-leb v max64 h

pub typed : (x : AreaIndex) (vs : List Val) → Is the_row x vs → Typed x
typed x vs g =
    let key = g.1.1.0.1.1.0 in
    record {
      start = omega (arith, key);
      end = omega (arith, key);
      channels = omega (arith, key);
      sectors = omega (arith, key);
      spacing = omega (arith, g.1.1.1.1.1.0);
      fingerprint = print_fits x.fingerprint _ g.1.1.1.1.1.1.1.1.1.1.1.1.1.1.0;
    }

-- ---- the questions before the files
four_none : (x : AreaIndex) (t : Tables) (ns : List ℕ) → Passes x t → question44 ns ≡ true → first_no (four (room_of t) (index_in x t) (ask (question44 ns) 44 ∷ [])) ≡ 0
unfolding room_in held_question4 question1 question2
four_none x t ns p q =
    asks _ (p.roomy.area, (p.roomy.numbers, (p.roomy.room, (and_left (question4 (index_in x t)) (kinds_in x t) p.held, (q, tt)))))

four_size : (x : AreaIndex) (t : Tables) (ns : List ℕ) → Passes x t → question44 ns ≡ false → first_no (four (room_of t) (index_in x t) (ask (question44 ns) 44 ∷ [])) ≡ 44
unfolding room_in held_question4 question1 question2 first_no
four_size x t ns p q =
    rw (p.roomy.area, p.roomy.numbers, p.roomy.room, and_left (question4 (index_in x t)) (kinds_in x t) p.held, q)

module _ (x : AreaIndex) (t : Tables) (ls b : List ℕ) (limit : ℕ) (u : Tables) where
  abbrev answer : Answer Index
  answer = merge_all (room_of t) (index_in x t) (room_of u) (lengths_in ls) b limit

  refuses : {s : Asked} {k : ℕ} → s.ok ≡ false → s.number ≡ k → after (refusal x t) answer ≡ Refused k → SetAsked x t ls b limit u s
  refuses {s} {k} o n e =
      record {
        refused = λ w. e ∙ ap (λ (m : ℕ). Refused m) (sym n);
        admitted = λ w. let p : true ≡ false = sym w ∙ o in let z : ◌≡◌ {A = ℕ} 0 1 = cc in let f : ⊥ = omega arith in absurd f;
      }

  -- 1 to 4
  pub own_refused : {n : ℕ} {s : Asked} → n ≡ refusal x t → n ≢ 0 → s ≡ refused_by unasked n → SetAsked x t ls b limit u s
  own_refused {n} e z w =
      rw w (refuses refl refl (ap (λ (m : ℕ). after m answer) (sym e) ∙ refused_after n answer z))

  module _ {n : ℕ} (e : n ≡ refusal x t) (z : n ≡ 0) where
    none_refused : refusal x t ≡ 0
    none_refused = sym e ∙ z

    own_passes : Passes x t
    own_passes = passes x t none_refused

    size_is : question44 (lengths_in ls) ≡ size_ok (length ls / 8)
    unfolding question44 size_ok
    size_is = ap size_ok (lengths_count ls)

    -- 44
    pub size_refused : {s : Asked} {r : Bool} → r ≡ size_ok (length ls / 8) → r ≡ false → s ≡ refused_by unasked 44 → SetAsked x t ls b limit u s
    unfolding merge_all
    size_refused r q w =
        let f = four_size x t (lengths_in ls) own_passes (size_is ∙ sym r ∙ q) in
        rw w (refuses refl refl (→after none_refused (rw f (refused_after 44 _ (λ k. omega arith)))))

    module _ {r : Bool} (o : r ≡ size_ok (length ls / 8)) (q : r ≡ true) where
      size_yes : question44 (lengths_in ls) ≡ true
      size_yes = size_is ∙ sym o ∙ q

      pub few_files : Few ls
      unfolding size_ok
      few_files = leb-true _ _ (and_right (leb 1 (length ls / 8)) _ (sym o ∙ q))

      -- a file
      pub file_refuses : {s : Asked} → FilesAsked x.area (lengths_in ls) b limit u s → s.ok ≡ false → SetAsked x t ls b limit u s
      unfolding merge_all
      file_refuses {s} f w =
          refuses w refl (→after none_refused (→after (four_none x t (lengths_in ls) own_passes size_yes) (refused_bind _ s.number (f.refused w))))

      -- a pair, or none
      module _ (by : Bytes b) {s : Asked} (f : FilesAsked x.area (lengths_in ls) b limit u s) (w : s.ok ≡ true) where
        loads : Loads x.area (lengths_in ls) b limit u s
        loads = f.loads w

        by_pairs : {m : ℕ} → pairs_number (index_in x t ∷ lists_at x.area b limit s) ≡ m
            → after (refusal x t) answer ≡ after m (Accepted (merge_each (index_in x t) (lists_at x.area b limit s)))
        unfolding merge_all merge_lists
        by_pairs e =
            →after none_refused (→after (four_none x t (lengths_in ls) own_passes size_yes) (→bind _ loads.lists (ap (λ (k : ℕ). after k (Accepted (merge_each (index_in x t) (lists_at x.area b limit s)))) e)))

        -- what the pairs read
        pub pairs_ready : (x.checkpoints * 24 ≤ length t.checkpoints) × Joinable b s
        pairs_ready = ((passes_long own_passes).checkpoints, joinable x.area b limit u by s loads.held)

        decided : Typed x → TableBytes t → (m : ℕ) → pairs_number (index_in x t ∷ lists_at x.area b limit s) ≡ m → (s' : Asked) → s' ≡ numbered s m → (k : Bool) → eqb m 0 ≡ k → SetAsked x t ls b limit u s'
        unfolding numbered after
        decided ty tb m e s' d true k =
            rw (d, k)
            (record {
              refused = λ v. let p : true ≡ false = sym w ∙ v in let z : ◌≡◌ {A = ℕ} 0 1 = cc in let f : ⊥ = omega arith in absurd f;
              admitted = λ v. record { own = none_refused; savable = passes_savable own_passes ty tb; size = size_yes; files = loads; pairs = e ∙ eqb-true m 0 k };
            })
        decided ty tb m e s' d false k = rw (d, k) (refuses refl refl (by_pairs e ∙ rw k))

        pub pairs_decide : Typed x → TableBytes t → {m : ℕ} {s' : Asked} → m ≡ join_pairs x t.checkpoints s b → s' ≡ numbered s m → SetAsked x t ls b limit u s'
        pairs_decide ty tb {m} {s'} e d =
            decided ty tb m (sym (e ∙ pairs_are x.area b limit u by x t s loads.held)) s' d (eqb m 0) refl

-- ---- the call
module _ (x : AreaIndex) (t : Tables) (ls b : List ℕ) (limit : ℕ) (u : Tables) {s : Asked} (d : SetAsked x t ls b limit u s) where
  call_refused : s.ok ≡ false → made_out (made.Refused s.number) t ≡ merge_all_in x t ls b limit u
  unfolding made_out_of
  call_refused e = sym (ap (made_out_of _ t) (d.refused e))

  module _ (e : s.ok ≡ true) where
    abbrev ready : Admitted x t ls b limit u s
    ready = d.admitted e

    pub turns_of : Turns x.area x t s b limit u
    turns_of = record { ok = e; own = passes x t ready.own; savable = ready.savable; held = ready.files.held; pairs = ready.pairs }

    accepted : merge_all (room_of t) (index_in x t) (room_of u) (lengths_in ls) b limit ≡ Accepted (merge_each (index_in x t) (lists_at x.area b limit s))
    unfolding merge_all merge_lists
    accepted = →after (four_none x t (lengths_in ls) (passes x t ready.own) ready.size) (→bind _ ready.files.lists (→after ready.pairs refl))

    done : turns_in x t (lists_at x.area b limit s) ≡ merge_all_in x t ls b limit u
    unfolding made_out_of turns_in lists_of
    done = sym (rw (→after ready.own accepted, ready.files.lists))

  pub call_made : {o : MadeOut} → o ≡ turns_out x t s (lists_at x.area b limit s) → o ≡ merge_all_in x t ls b limit u
  unfolding turns_out
  call_made q = q ∙ test s.ok (λ e. rw e (done e)) (λ e. rw e (call_refused e))
