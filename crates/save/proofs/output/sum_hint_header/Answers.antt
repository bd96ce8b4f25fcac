use Rattle.field.specs.Number.{encode}
use Rattle.save.proofs.output.Sums.{sum_both}
use Rattle.save.proofs.output.sum_hint_header.Goals as goal

pub returns : goal.returns
returns c =
    let h = c.args.h in
    sum_both c.args.sum (encode 8 h.fingerprint) _ c.sum_u64-a.ensures
    (sum_both c.sum_u64-a.result (encode 4 h.spacing) _ c.sum_u32-b.ensures
    (sum_both c.sum_u32-b.result (encode 4 h.most) _ c.sum_u32-c.ensures
    (sum_both c.sum_u32-c.result (encode 4 h.count) (encode 4 h.zero20) c.sum_u32-d.ensures c.sum_u32.ensures)))
