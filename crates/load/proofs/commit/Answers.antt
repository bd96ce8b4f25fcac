use Rattle.tables.specs.Index.{tables}
use Rattle.load.proofs.Filling.{Fits, ready_inside, ready_fits, ready_filled}
use Rattle.load.proofs.commit.Goals as goal

pub locate-p-requires : goal.locate-p-requires
locate-p-requires c = ready_inside (λ i. (c.type_inv.bytes i).fits) c.requires

pub commit_part-requires : goal.commit_part-requires
commit_part-requires c = ((let got : Fits c.args.bytes.now c.locate-p.result ((tables c.args.checkpoints.now c.args.frames.now c.args.store.now c.args.parts.now c.args.malformed.now c.args.hints.now c.args.confirmed.now)) = ready_fits (λ i. (c.type_inv.bytes i).fits) c.requires c.locate-p.ensures in got)).checkpoints

pub commit_frames-requires : goal.commit_frames-requires
commit_frames-requires c = ((let got : Fits c.args.bytes.now c.locate-p.result ((tables c.args.checkpoints.now c.args.frames.now c.args.store.now c.args.parts.now c.args.malformed.now c.args.hints.now c.args.confirmed.now)) = ready_fits (λ i. (c.type_inv.bytes i).fits) c.requires c.locate-p.ensures in got)).frames

pub commit_part-requires-2 : goal.commit_part-requires-2
commit_part-requires-2 c = ((let got : Fits c.args.bytes.now c.locate-p.result ((tables c.args.checkpoints.now c.args.frames.now c.args.store.now c.args.parts.now c.args.malformed.now c.args.hints.now c.args.confirmed.now)) = ready_fits (λ i. (c.type_inv.bytes i).fits) c.requires c.locate-p.ensures in got)).parts

pub commit_part-requires-3 : goal.commit_part-requires-3
commit_part-requires-3 c = ((let got : Fits c.args.bytes.now c.locate-p.result ((tables c.args.checkpoints.now c.args.frames.now c.args.store.now c.args.parts.now c.args.malformed.now c.args.hints.now c.args.confirmed.now)) = ready_fits (λ i. (c.type_inv.bytes i).fits) c.requires c.locate-p.ensures in got)).malformed

pub commit_hints-requires : goal.commit_hints-requires
commit_hints-requires c = ((let got : Fits c.args.bytes.now c.locate-p.result ((tables c.args.checkpoints.now c.args.frames.now c.args.store.now c.args.parts.now c.args.malformed.now c.args.hints.now c.args.confirmed.now)) = ready_fits (λ i. (c.type_inv.bytes i).fits) c.requires c.locate-p.ensures in got)).hints

pub commit_part-requires-4 : goal.commit_part-requires-4
commit_part-requires-4 c = ((let got : Fits c.args.bytes.now c.locate-p.result ((tables c.args.checkpoints.now c.args.frames.now c.args.store.now c.args.parts.now c.args.malformed.now c.args.hints.now c.args.confirmed.now)) = ready_fits (λ i. (c.type_inv.bytes i).fits) c.requires c.locate-p.ensures in got)).confirmed

pub returns : goal.returns
returns c =
    ready_filled (λ i. (c.type_inv.bytes i).fits) c.requires c.locate-p.ensures c.commit_part.ensures c.commit_frames.ensures
    c.commit_part-2.ensures c.commit_part-3.ensures c.commit_hints.ensures c.commit_part-4.ensures
