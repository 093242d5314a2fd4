use Rattle.std.proofs.Common.{◌≡◌, ℕ, ap, ◌∙◌, rules, subst, sym}
use Rattle.macs_disk.specs.Files.{FileState, IsFileImage}
use Rattle.macs_fixtures.specs.MemFiles.{file_of}
use Rattle.macs_fixtures.proofs.MemoryFile.{copied_ends, cut_kept, image_kept, kept_lost, left_of_seen, loss_leaves}
use Rattle.macs_fixtures.proofs.MemoryFile.{nothing_lost, size_kept, size_lost}
use Rattle.macs_fixtures.proofs.file.MemFile.crash.Goals as goal

pub invariant_of-self-clause-kept : goal.invariant_of-self-clause-kept
invariant_of-self-clause-kept g c =
    let m = c.args.self.now in
    kept_lost m.block m.cache.items m.device.items m.durable.items m.dirty.items m.pending.items m.is_clean m.is_sure
    m.kept c.copy_blocks.new.to.items c.cut.new.to.items (search rules) (search rules) (search rules) (search rules)
    (search rules)
    (cut_kept m.block m.durable_size c.choose-size.result m.durable.items c.spoil.new.durable.items c.cut.new.to.items
    m.pending.items (size_kept c.args.left m.size m.durable_size c.choose-size.result (search rules) m.grown)
    m.durable_ends (search rules) c.cut.ensures.cut c.cut.ensures.before)

pub invariant_of-self-clause-device_ends : goal.invariant_of-self-clause-device_ends
invariant_of-self-clause-device_ends g c =
    let m = c.args.self.now in
    copied_ends m.block m.size m.cache.items m.device.items c.copy_blocks.new.to.items m.dirty.items m.ends
    m.device_ends (search rules) (search rules)

pub returns-clause-image : goal.returns-clause-image
returns-clause-image g c =
    let m = c.args.self.now in
    subst (λ (octets : ℕ → ℕ). IsFileImage (file_of m) octets) (sym (ap (λ (f : FileState). f.durable) c.boot.ensures))
    (image_kept m.block m.size m.durable_size m.cache.items m.durable.items c.cut.new.to.items m.pending.items
    m.is_clean m.is_sure m.is_claimed
    (cut_kept m.block m.durable_size c.choose-size.result m.durable.items c.spoil.new.durable.items c.cut.new.to.items
    m.pending.items (size_kept c.args.left m.size m.durable_size c.choose-size.result (search rules) m.grown)
    m.durable_ends (search rules) c.cut.ensures.cut c.cut.ensures.before) (search rules))

pub returns-clause-nothing_new : goal.returns-clause-nothing_new
returns-clause-nothing_new g c =
    let m = c.args.self.now in
    nothing_lost (file_of m) (file_of c.boot.new.self) (search rules) (returns-clause-image g c)
    (λ durable. size_lost c.args.left m.size m.durable_size (file_of c.boot.new.self).size (search rules) durable)

pub returns-clause-left : goal.returns-clause-left
returns-clause-left g c p within =
    let m = c.args.self.now in
    ap (λ (f : FileState). f.durable p) c.boot.ensures ∙ c.cut.ensures.before p (search rules)
    ∙ loss_leaves m.block m.size m.durable_size m.cache.items m.device.items m.durable.items m.dirty.items
    m.pending.items m.is_clean m.is_sure m.is_claimed c.args.left
    c.copy_blocks.new.to.items c.spoil.new.durable.items (search rules) (search rules) (search rules) (search rules) p

pub returns-clause-sure : goal.returns-clause-sure
returns-clause-sure g c sure p within =
    let m = c.args.self.now in
    ap (λ (f : FileState). f.durable p) c.boot.ensures ∙ c.cut.ensures.before p (search rules)
    ∙ loss_leaves m.block m.size m.durable_size m.cache.items m.device.items m.durable.items m.dirty.items
    m.pending.items m.is_clean m.is_sure m.is_claimed c.args.left
    c.copy_blocks.new.to.items c.spoil.new.durable.items (search rules) (search rules) (search rules) (search rules) p
    ∙ left_of_seen m.block m.size m.durable_size m.cache.items m.device.items m.durable.items m.dirty.items
    m.pending.items m.is_clean m.is_sure m.is_claimed c.args.left
    m.kept sure p
