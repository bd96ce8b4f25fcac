use Rattle.save.proofs.write.Frames.{framed, frame_hash}
use mathlib.Core.Path.{ap}
use Rattle.field.specs.Records.{Bytes}
use Rattle.tables.specs.declared.FrameHeader.{FrameHeader}
use native.Mathlib.Omega.{arith}
use Rattle.save.proofs.write.put_frame.Goals as goal

pub returns : goal.returns
returns c =
    let bytes : Bytes c.args.headers.now = λ i. (c.type_inv.headers i).fits in
    let e = ap (λ (h : FrameHeader). h.len) c.read_header-h.ensures in (
      e,
      record {
        put = framed c.args.headers.now c.args.store.now c.args.k c.args.from bytes c.requires.0 c.args.out.now c.args.at _ e (omega (arith, c.requires)) (omega (arith, c.requires)) c.copy_part_summed-before.auto.dst c.copy_part_summed-before.ensures.0 c.copy_part_summed-behind.ensures.0;
        sum = frame_hash c.args.headers.now c.args.store.now c.args.k c.args.from bytes c.requires.0 c.args.sum c.copy_part_summed-before.result c.copy_part_summed-behind.result _ e (omega (arith, c.requires)) c.copy_part_summed-before.ensures.1 c.copy_part_summed-behind.ensures.1;
      },
    )
