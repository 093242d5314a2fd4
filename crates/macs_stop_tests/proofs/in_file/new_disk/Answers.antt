use Rattle.std.proofs.Common.{ap, ◌∙◌}
use Rattle.macs_disk.specs.FileDisks.{file_left}
use Rattle.macs_disk.specs.Files.{IsEmpty}
use Rattle.macs_disk.specs.Layouts.{suits}
use Rattle.macs_fixtures.specs.MemFiles.{file_of}
use Rattle.macs_stop_tests.proofs.in_file.new_disk.Goals as goal

pub returns-clause-new : goal.returns-clause-new
returns-clause-new c =
    let file = c.in-Ok.file in
    let disk = c.in-Ok-blank.disk in
    let made = c.in-Ok.ensures in
    let empty : IsEmpty (file_of file) = record { behaves = made.behaves; size = made.size; is_sure = made.sure } in
    c.page_of_files.ensures.new (file_of file) (file_of (file_left disk)) c.args.layout disk
    (c.in-Ok-blank.ensures.known empty) (ap (suits c.args.layout) made.block ∙ c.block_for.ensures)
