use Rattle.macs_journal.proofs.laws.compaction_written.Goals as goal

pub returns-clause-calls : goal.returns-clause-calls
returns-clause-calls g c = λ old new records opened is honest counted. is.calls honest opened counted

pub returns-clause-head : goal.returns-clause-head
returns-clause-head g c = λ old new records is honest. (is.gates honest).head

pub returns-clause-slots : goal.returns-clause-slots
returns-clause-slots g c = λ old new records slot is honest within opened. (is.gates honest).slot slot within opened

pub returns-clause-format_head : goal.returns-clause-format_head
returns-clause-format_head g c = λ old new identity is honest. (is.gates honest).head

pub returns-clause-format_slots : goal.returns-clause-format_slots
returns-clause-format_slots g c =
    λ old new identity slot is honest within opened. (is.gates honest).slot slot within opened
