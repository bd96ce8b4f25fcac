-- What the questions of a disc file answer. Assumes nothing.
use mathlib.Core.Path.{◌≡◌, refl, sym, ◌∙◌}
use mathlib.Core.Bool.{Bool, true, false, ◌&&◌}
use mathlib.Core.List.{List}
use Prim.Native.Nat.{ℕ}
use native.Mathlib.Omega.{arith}
use Rattle.rules.specs.declared.Area.{Area}
use Rattle.rules.specs.Tests.{Refused, Accepted, first_no, after, bind}
use Rattle.rules_disc.specs.Disc.{body_at, slot_area, load_body, load_bodies, load_disc}
use Rattle.rules_disc.specs.declared.Contents.TheVariants.{Broken, Lists}
use Rattle.rules_disc.specs.declared.SlotEntry.{SlotEntry}
use Rattle.disc_load.specs.Steps.{entry_in, BodyDecision, decided_by, Located, Decision}
use Rattle.disc_load.specs.DiscLoad.{contents_in}
use Rattle.disc_load.proofs.contents.Inside.{locates, breaks}
use Rattle.tables.specs.Index.{Tables, room_of}
use Rattle.disc_load.specs.declared.ask.Asked.{Asked}
use Rattle.disc_load.specs.declared.ask.Asked.TheVariants as asked
use Rattle.disc_load.specs.declared.ask.Decided.{Decided}
use Rattle.disc_load.specs.declared.ask.Decided.TheVariants as decided
use Rattle.disc_load.proofs.ask.Asking.{held_loads}

pub located : {a0 a1 : Area} {b : List ℕ} {r : Bool} {p q : SlotEntry} → r ≡ (slot_area 0 a0 && slot_area 1 a1) → r ≡ true → Lists p q ≡ contents_in b → Located a0 a1 b p q
located {a0} {a1} {b} e h k = record { areas = sym e ∙ h; table = locates b k }

module _ {a0 a1 : Area} {b : List ℕ} (limit : ℕ) (t u : Tables) where
  -- ---- what is decided
  refuses : {n : ℕ} → load_disc (room_of t) (room_of u) a0 a1 b limit ≡ Refused n → Decision a0 a1 b limit t u (decided.Refused n)
  refuses {n} e =
      record {
        refused = λ m q. let p : n ≡ m = cc in rw (← p) e;
        ready = λ p q h. let z : ◌≡◌ {A = ℕ} 0 1 = cc in let f : ⊥ = omega arith in absurd f;
      }

  pub no_areas : {r : Bool} → r ≡ (slot_area 0 a0 && slot_area 1 a1) → r ≡ false → Decision a0 a1 b limit t u (decided.Refused 1)
  unfolding load_disc first_no after
  no_areas e h = refuses (rw (← e, h))

  pub no_table : {r : Bool} → r ≡ (slot_area 0 a0 && slot_area 1 a1) → r ≡ true → Broken ≡ contents_in b → Decision a0 a1 b limit t u (decided.Refused 54)
  unfolding load_disc first_no after
  no_table e h k = refuses (rw (← e, h, breaks b k))

  module _ {p q : SlotEntry} (l : Located a0 a1 b p q) where
    -- the file's answer by the places
    pub by_places : load_disc (room_of t) (room_of u) a0 a1 b limit
        ≡ bind (load_body (room_of t) a0 limit (body_at b (entry_in p)))
        (λ x. bind (load_body (room_of u) a1 limit (body_at b (entry_in q))) (λ y. Accepted (record { slot0 = x; slot1 = y })))
    unfolding load_disc first_no after load_bodies
    by_places = rw (l.areas, l.table.contents, l.table.entry0, l.table.entry1) refl

    pub bodies : (v w : Asked) {r : Decided} → BodyDecision a0 b limit t p v → BodyDecision a1 b limit u q w → r ≡ decided_by v w → Decision a0 a1 b limit t u r
    unfolding decided_by bind
    bodies (asked.Refused n) w e f d = rw d (refuses (by_places ∙ rw (e.refused n refl)))
    bodies (asked.Passed x) (asked.Refused n) e f d =
        let h = e.passed x refl in
        rw d (refuses (by_places ∙ rw (held_loads a0 b limit t x h.0 h.1, f.refused n refl)))
    bodies (asked.Passed x) (asked.Passed y) e f d =
        let h = e.passed x refl in
        let k = f.passed y refl in
        rw d
        (record {
          refused = λ n z. let z : ◌≡◌ {A = ℕ} 0 1 = cc in let g : ⊥ = omega arith in absurd g;
          ready = λ x' y' z.
              let i : x ≡ x' = cc in
              let j : y ≡ y' = cc in
              rw (← i, ← j) (record { located = rw (← h.0, ← k.0) l; holds0 = h.1; holds1 = k.1 });
        })
