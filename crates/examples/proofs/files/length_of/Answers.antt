-- A list without frames has none that breaks its rule.
use Rattle.std.proofs.Common.{rules}
use Rattle.field.specs.Records.{records}
use Rattle.rules.specs.Tests.{walk}
use Rattle.rules.specs.Sections.{frames_ok}
use Rattle.tables.specs.Tables.{frames_of}
use Rattle.examples.proofs.files.length_of.Goals as goal

pub saved_length-requires : goal.saved_length-requires
unfolding frames_ok walk frames_of records
saved_length-requires c = search rules
