use Rattle.std.proofs.Common.{refl}
use Rattle.macs_fixtures.specs.Evidence.{memory-sound}
use Rattle.macs_fixtures.specs.MemFiles.{file_of}
use Rattle.macs_stop_tests.proofs.in_file.page_of_memory_files.Goals as goal

pub returns-clause-reopened : goal.returns-clause-reopened
returns-clause-reopened g c = λ old new left again as_shown found honest nothing opened.
    c.page_of_files.ensures.reopened old new (file_of left) again as_shown found refl honest nothing
    (memory-sound left.block left.size left.durable_size left.cache.items left.device.items left.durable.items
    left.dirty.items left.pending.items left.is_clean left.is_sure left.is_claimed left.kept left.ends) opened
