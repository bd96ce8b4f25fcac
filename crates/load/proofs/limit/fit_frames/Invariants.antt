use lib.ListN.{length, drop}
use Rattle.rules.specs.Load.{fitting}
use Rattle.tables.specs.Files.{frames_read}
use Rattle.load.proofs.limit.Frames.{Fitting}
use Rattle.load.proofs.limit.fit_frames.Given as goal

abbrev pub invariant-loop-i : goal.invariant-loop-i
invariant-loop-i l = Fitting l.b l.budget l.f (length (fitting l.budget (frames_read l.f (drop l.at l.b)))) l.i l.here l.used
