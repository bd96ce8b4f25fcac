-- What loading a disc file answers. Assumes nothing.
use mathlib.Core.Path.{◌≡◌, refl, ◌∙◌}
use mathlib.Core.List.{List}
use Prim.Native.Nat.{ℕ}
use Rattle.rules.specs.declared.Area.{Area}
use Rattle.rules.specs.Tests.{Accepted}
use Rattle.rules.proofs.Tests.{→bind}
use Rattle.rules_disc.specs.Disc.{load_disc}
use Rattle.tables.specs.Index.{Tables, room_of}
use Rattle.disc_load.specs.declared.ask.Body.{Body}
use Rattle.disc_load.specs.declared.ask.Decided.{Decided}
use Rattle.disc_load.specs.declared.ask.Decided.TheVariants as decided
use Rattle.disc_load.specs.Steps.{held_in, BothLoad, Decision}
use Rattle.disc_load.proofs.ask.Asking.{held_loads}
use Rattle.disc_load.proofs.ask.Deciding.{by_places}
use Rattle.rules_disc.specs.declared.Listed.{Listed}
use Rattle.rules_disc.specs.declared.Loaded.TheVariants as loaded
use Rattle.disc_load.specs.DiscLoad.{disc_out, listed_from, tables_with, disc_out_of, load_disc_in}

module _ {a0 a1 : Area} {b : List ℕ} (limit : ℕ) (t u : Tables) where
  pub answer_refused : {r : Decided} {n : ℕ} → Decision a0 a1 b limit t u r → r ≡ decided.Refused n → disc_out (loaded.Refused n) t u ≡ load_disc_in a0 a1 b limit t u
  unfolding load_disc_in disc_out_of
  answer_refused {r} {n} d e = rw (d.refused n e)

  pub answer_ready : {x y : Body} {m n : Listed} {t' u' : Tables} → BothLoad a0 a1 b limit t u x y
      → (m ≡ listed_from (held_in a0 b limit x)) × (t' ≡ tables_with (held_in a0 b limit x) t)
      → (n ≡ listed_from (held_in a1 b limit y)) × (u' ≡ tables_with (held_in a1 b limit y) u)
      → disc_out (loaded.Lists m n) t' u' ≡ load_disc_in a0 a1 b limit t u
  unfolding load_disc_in disc_out_of
  answer_ready {x} {y} w h k =
      let e : load_disc (room_of t) (room_of u) a0 a1 b limit ≡ Accepted (record { slot0 = held_in a0 b limit x; slot1 = held_in a1 b limit y }) =
      by_places limit t u w.located
      ∙ →bind _ (held_loads a0 b limit t x refl w.holds0) (→bind _ (held_loads a1 b limit u y refl w.holds1) refl) in
      rw (h.0, h.1, k.0, k.1, e)
