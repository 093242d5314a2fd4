use Rattle.std.proofs.Common.{◌≡◌, ℕ, max, ap, ◌∙◌, arith}
use Rattle.macs_disk.specs.Layouts.{sectors_in}
use Rattle.macs_disk.specs.declared.layout.Layout.{Layout}
use Rattle.macs_headline.proofs.DiskFiles.{blank-file-is-new, left-suited, lengthened, let-go, opened-again}
use Rattle.macs_headline.proofs.DiskFiles.{opened-still}
use Rattle.macs_headline.proofs.laws.files.Goals as goal

pub returns-clause-new : goal.returns-clause-new
returns-clause-new g c = blank-file-is-new

pub returns-clause-opened_again : goal.returns-clause-opened_again
returns-clause-opened_again g c = opened-again

pub returns-clause-reopened : goal.returns-clause-reopened
returns-clause-reopened g c it file again new left found behaves honest nothing sound opened =
    opened-again (g.F.DiskFile.file it.file) file it.layout again _ new (found behaves).0
    (left-suited g.F.DiskFile.file it left behaves honest) honest
    (λ image is. c.a_file_is_left_as_its_disk.ensures it image left behaves is) nothing sound opened

pub returns-clause-let_go : goal.returns-clause-let_go
returns-clause-let_go g c = let-go

pub returns-clause-opened : goal.returns-clause-opened
returns-clause-opened g c = λ file least layout disk i opened.
    let count = opened.sectors in
    let still = opened-still file least layout disk i opened in
    (omega (arith, count), still.0, still.1)

pub returns-clause-counted : goal.returns-clause-counted
returns-clause-counted g c = λ file least layout disk opened.
    let all : disk.sectors ≡ max (sectors_in layout file.size) least =
    opened.sectors ∙ ap (λ (n : ℕ). max (sectors_in layout n) least) opened.copies.size in (
      λ is. all ∙ ap (λ (l : Layout). max (sectors_in l file.size) least) is,
      λ is. all ∙ ap (λ (l : Layout). max (sectors_in l file.size) least) is,
    )

pub returns-clause-whole_sectors : goal.returns-clause-whole_sectors
returns-clause-whole_sectors g c = λ file least layout disk opened. opened.whole

pub returns-clause-lengthened : goal.returns-clause-lengthened
returns-clause-lengthened g c = lengthened
