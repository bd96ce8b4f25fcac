use Rattle.drawer.proofs.ask.unasked_files.Goals as goal

pub returns : goal.returns
returns c = rw c.blank_index-index.ensures
