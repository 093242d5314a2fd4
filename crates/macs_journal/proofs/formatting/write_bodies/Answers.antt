use Rattle.std.proofs.Common.{◌∙◌, arith, refl, subst, sym}
use Rattle.macs_disk.specs.Disk.{IsHonest, now}
use Rattle.macs_disk.proofs.Images.{put-same}
use Rattle.macs_record.specs.Decoding.{IsSectorOf}
use Rattle.macs_record.specs.Heads.{IsHeadOf}
use Rattle.macs_record.specs.Settings.{default_settings}
use Rattle.macs_record.specs.declared.record.Record.{Record}
use Rattle.macs_journal.specs.Areas.{head_body, slot_body}
use Rattle.macs_journal.proofs.BodyCalls.{always, written-record}
use Rattle.macs_journal.proofs.Spared.{Spared-on, Spared-seen, Spared-write}
use Rattle.macs_journal.proofs.Working.{failed, work-then}
use Rattle.macs_journal.proofs.formatting.write_bodies.Goals as goal

pub returns-in_err-write_head-clause-work : goal.returns-in_err-write_head-clause-work
returns-in_err-write_head-clause-work g c =
    let d = g.D.SectorDisk.disk in
    failed (d c.args.disk.now) (d c.write_head.new.disk) c.from_residual.result c.from_residual.ensures.0
    c.write_head.ensures.call.work.works c.in_err-write_head.ensures.call.work.err

pub returns-in_err-write_head-clause-others : goal.returns-in_err-write_head-clause-others
returns-in_err-write_head-clause-others g c honest i not_head not_body =
    let (octets, is, writes) = c.write_head.ensures.does honest in
    Spared-write _ _ _ octets c.write_head.result i not_head c.write_head.ensures.call writes

pub returns-clause-work : goal.returns-clause-work
returns-clause-work g c =
    let d = g.D.SectorDisk.disk in
    work-then (d c.args.disk.now) (d c.write_head.new.disk) (d c.write_record.new.disk) c.write_record.result
    c.write_head.ensures.call.work.works c.in_ok-write_head.ensures.call.work.ok c.write_record.ensures.call.work

pub returns-clause-head : goal.returns-clause-head
returns-clause-head g c = always c.write_record.result _ (λ honest.
    let d = g.D.SectorDisk.disk in
    let at = head_body c.args.area in
    let (octets, is, writes) =
    c.in_ok-write_head.ensures.does (sym c.write_record.ensures.call.work.works.honest ∙ honest) in
    let (after, record_is, later) = c.write_record.ensures.does honest in
    let left = Spared-seen _ _ at c.write_record.ensures.call.work.works
    (Spared-write _ _ _ after c.write_record.result at (omega arith) c.write_record.ensures.call later) in
    let written = (λ j. (writes.ok j).seen at) ∙ put-same (now (d c.args.disk.now)).seen at at octets refl in
    subst (IsHeadOf c.args.head.now) (sym (left ∙ written)) is)

pub returns-clause-body : goal.returns-clause-body
returns-clause-body g c =
    written-record (g.D.SectorDisk.disk c.write_head.new.disk) (g.D.SectorDisk.disk c.write_record.new.disk)
    (slot_body c.args.area 0) default_settings c.write_record.result (λ honest.
    let (octets, is, writes) = c.write_record.ensures.does honest in
    (octets, subst (λ (r : Record). IsSectorOf r octets) c.default.ensures is, writes))

pub returns-clause-others : goal.returns-clause-others
returns-clause-others g c honest i not_head not_body =
    let honest1 : IsHonest (g.D.SectorDisk.disk c.write_head.new.disk) =
    sym c.write_record.ensures.call.work.works.honest ∙ honest in
    let (octets, is, writes) = c.write_head.ensures.does honest1 in
    let (after, record_is, later) = c.write_record.ensures.does honest in
    Spared-on _ _ _ i c.write_head.ensures.call.work.works c.write_record.ensures.call.work.works
    (Spared-write _ _ _ octets c.write_head.result i not_head c.write_head.ensures.call writes)
    (Spared-write _ _ _ after c.write_record.result i not_body c.write_record.ensures.call later)
