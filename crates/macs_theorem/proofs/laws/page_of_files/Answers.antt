use Rattle.macs_disk.specs.FileDisks.{disk_in_file}
use Rattle.macs_headline.proofs.Endings.{power-losses-pass-on}
use Rattle.macs_theorem.proofs.laws.page_of_files.Goals as goal

pub returns-clause-new : goal.returns-clause-new
returns-clause-new g c = λ old new layout disk blank suited.
    c.files.ensures.new old new layout (disk_in_file g.F.DiskFile.file disk) blank suited

pub returns-clause-reopened : goal.returns-clause-reopened
returns-clause-reopened g c = λ old new left again shown found behaves honest nothing sound opened.
    let file = g.F.DiskFile.file in
    let lost = c.files.ensures.reopened old left again (disk_in_file file new) shown found behaves honest nothing sound
    opened in
    power-losses-pass-on (disk_in_file file old) (disk_in_file file new) (disk_in_file file old).clock lost.1

pub returns-clause-nonces : goal.returns-clause-nonces
returns-clause-nonces g c = c.page.ensures.nonces

pub returns-clause-seen : goal.returns-clause-seen
returns-clause-seen g c = c.page.ensures.seen
