use mathlib.Core.Path.{sym, ◌∙◌}
use Rattle.parts.specs.Parts.{piece_in}
use Rattle.parts.proofs.Stored.{passed_over, place_ready, puts_ready, stored_put}
use Rattle.parts.proofs.add_part.Goals as goal

pub returns-then-not-stores : goal.returns-then-not-stores
returns-then-not-stores c =
    passed_over c.requires (λ i. (c.slice_known-1.given i).fits)
    (λ i. (c.slice_known-3-1.given i).fits)
    (piece_in c.args.p c.args.bytes.now)
    (sym c.stores.ensures ∙ c.if-not-stores.true)

pub place-to-requires : goal.place-to-requires
place-to-requires c =
    place_ready c.requires (λ i. (c.slice_known-1.given i).fits)
    (λ i. (c.slice_known-3-1.given i).fits)
    (piece_in c.args.p c.args.bytes.now)
    (sym c.stores.ensures ∙ c.if-not-stores.false)
    c.last_header-last.ensures c.opens-new.ensures

pub put_part-requires : goal.put_part-requires
put_part-requires c =
    puts_ready c.requires (λ i. (c.slice_known-1.given i).fits)
    (λ i. (c.slice_known-3-1.given i).fits)
    (piece_in c.args.p c.args.bytes.now)
    (sym c.stores.ensures ∙ c.if-not-stores.false)
    c.last_header-last.ensures c.opens-new.ensures c.place-to.ensures

pub returns : goal.returns
returns c =
    c.put_part.ensures
    ∙ stored_put c.requires (λ i. (c.slice_known-1.given i).fits)
    (λ i. (c.slice_known-3-1.given i).fits)
    (piece_in c.args.p c.args.bytes.now)
    (sym c.stores.ensures ∙ c.if-not-stores.false)
    c.last_header-last.ensures c.opens-new.ensures c.place-to.ensures
