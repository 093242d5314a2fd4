use Rattle.std.proofs.Common.{◌≡◌, ◌≢◌, ap, ◌∙◌, arith, sym}
use Rattle.macs_disk.specs.Layouts.{mark_place, place}
use Rattle.macs_disk.specs.declared.layout.Layout.{Layout}
use Rattle.macs_disk_tests.proofs.tests.behaving_files.use_packed.Goals as goal

pub returns : goal.returns
returns g c found = c.sync-synced.ensures.again (c.write-written.ensures.again elsewhere found) where
  elsewhere : place c.args.disk.now.layout 3 ≢ mark_place
  elsewhere same =
      let is : 1536 ≡ mark_place = ap (λ (l : Layout). place l 3) (sym c.requires.packed) ∙ same in
      omega (arith, is)
