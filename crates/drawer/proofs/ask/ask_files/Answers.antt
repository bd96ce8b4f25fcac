use mathlib.Core.Path.{sym, ◌∙◌}
use native.Mathlib.Omega.{arith}
use Rattle.drawer.proofs.Asking.{length_at, few_lengths, lengths_count, asking_none, asking_refused, asking_on, asking_done}
use Rattle.drawer.proofs.ask.ask_files.Goals as goal

pub loop-i-init : goal.loop-i-init
loop-i-init c = asking_none _ _ _ _ _ c.unasked_files-asked.ensures

pub ask_file-said-requires : goal.ask_file-said-requires
ask_file-said-requires c = c.loop-i.invariant.from

pub returns-in-Refused : goal.returns-in-Refused
returns-in-Refused c =
    asking_refused _ _ _ _ _ c.loop-i.invariant (few_lengths c.args.lengths.now _ c.loop-i-test.true) (c.read_u64-len.ensures ∙ sym (length_at c.args.lengths.now _ c.loop-i-test.true))
    c.ask_file-said.ensures c.in-Refused.is c.refused.ensures

pub overflow_add-from : goal.overflow_add-from
overflow_add-from c =
    let h = c.ask_file-said.ensures.loads _ c.in-Loads.is in
    omega (arith, h.from, h.holds.inside, c.well_formed.1.1.0)

pub loop-i-preserved : goal.loop-i-preserved
loop-i-preserved c =
    asking_on _ _ _ _ _ c.loop-i.invariant (few_lengths c.args.lengths.now _ c.loop-i-test.true) (c.read_u64-len.ensures ∙ sym (length_at c.args.lengths.now _ c.loop-i-test.true))
    c.ask_file-said.ensures c.in-Loads.is (omega (arith, c.loop-i-test.true, c.requires))

pub returns : goal.returns
returns c = asking_done _ _ _ _ _ c.loop-i.invariant (omega arith) (lengths_count c.args.lengths.now) c.requires
