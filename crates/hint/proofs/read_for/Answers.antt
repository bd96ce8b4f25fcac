use Rattle.std.proofs.Common.{ap, ◌∙◌}
use Rattle.hint.specs.Hint.{read_of}
use Rattle.hint.specs.Steps.{place_of}
use Rattle.hint.proofs.Answers.{none_near, place_in, some_near}
use Rattle.hint.proofs.read_for.Goals as goal

pub returns-in_err-i : goal.returns-in_err-i
returns-in_err-i c =
    ap read_of c.from_residual.ensures ∙ none_near c.args.x c.args.hints.now c.args.confirmed.now c.args.first c.args.end
    c.args.playtime c.is_checked.ensures c.hint_place-found.ensures.0 c.hint_place-found.ensures.1
    (ap place_of c.in_err-i.was)

pub hinted_from-requires : goal.hinted_from-requires
hinted_from-requires c = (
  c.requires.hints,
  place_in c.args.x c.args.hints.now c.args.confirmed.now c.args.first c.args.end c.args.playtime
      c.is_checked.ensures c.hint_place-found.ensures.0 c.hint_place-found.ensures.1 (ap place_of c.in_ok-i.was),
  c.requires.order,
  c.requires.end,
)

pub returns : goal.returns
returns c =
    some_near _ _ _ _ _ _ c.is_checked.ensures c.hint_place-found.ensures.0 c.hint_place-found.ensures.1
    (ap place_of c.in_ok-i.was) c.hinted_from.ensures
