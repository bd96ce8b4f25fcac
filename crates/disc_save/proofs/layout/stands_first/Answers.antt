use Rattle.disc_save.proofs.layout.stands_first.Goals as goal

pub returns : goal.returns
returns c = cc
