use Rattle.std.proofs.Common.{◌≡◌, ◌+◌, ◌||◌, ◌∙◌, ℕ, length, length-take-le, take, refl, arith}
use Rattle.macs_disk.specs.Files.{has_some}
use Rattle.macs_disk.specs.CallLists.{flag_at}
use Rattle.macs_fixtures.proofs.MemoryFile.{ends_put, kept_put, put_writes}
use Rattle.macs_fixtures.proofs.file.MemFile.put.Goals as goal

pub invariant_of-self-clause-kept : goal.invariant_of-self-clause-kept
invariant_of-self-clause-kept g c =
    let m = c.args.self.now in
    let size : length (take c.args.count c.args.from.now) ≡ c.args.count =
    length-take-le c.args.count c.args.from.now c.requires.given in
    kept_put m.block m.cache.items m.device.items m.durable.items m.dirty.items m.pending.items m.is_clean m.is_sure
    c.args.at c.dirty_from-front.result c.dirty_to-behind.result
    (take c.args.count c.args.from.now) m.kept c.dirty_from-front.ensures.before
    (omega (arith, size, c.dirty_to-behind.ensures.behind))
    c.store.new.to.items c.mark.new.flags.items c.mark-2.new.flags.items c.store.ensures.length c.store.ensures.stored
    (c.store.ensures.octets m.kept.cache_octets)
    c.mark.ensures.length c.mark.ensures.marked c.mark-2.ensures.length c.mark-2.ensures.marked

pub invariant_of-self-clause-ends : goal.invariant_of-self-clause-ends
invariant_of-self-clause-ends g c =
    let m = c.args.self.now in
    let xs = take c.args.count c.args.from.now in
    ends_put m.size c.args.at c.args.count c.max-self.result m.cache.items c.store.new.to.items xs m.ends
    (length-take-le c.args.count c.args.from.now c.requires.given) c.max-self.ensures c.store.ensures.stored

pub returns-clause-sure : goal.returns-clause-sure
returns-clause-sure g c sure =
    let m = c.args.self.now in
    let size : length (take c.args.count c.args.from.now) ≡ c.args.count =
    length-take-le c.args.count c.args.from.now c.requires.given in
    let front : c.dirty_from-front.result ≡ c.args.at = c.dirty_from-front.ensures.sure sure in
    let behind : c.dirty_to-behind.result ≡ c.args.at + c.args.count = c.dirty_to-behind.ensures.sure sure in
    let marked : (n : ℕ) → flag_at c.mark-2.new.flags.items n
    ≡ (has_some m.block c.args.at (c.args.at + c.args.count) n || flag_at m.pending.items n) =
    λ n. c.mark-2.ensures.marked n ∙ (rw (front, behind) refl) in
    put_writes m.block m.size m.durable_size m.cache.items m.durable.items m.pending.items m.is_clean m.is_sure
    m.is_claimed c.args.at c.args.count
    (take c.args.count c.args.from.now) size c.requires.some m.grown
    c.max-self.result c.store.new.to.items c.mark-2.new.flags.items c.max-self.ensures c.store.ensures.stored marked
