use Rattle.std.proofs.Common.{◌≤◌, inl, inr, refl, sym, subst}
use Rattle.macs_journal.specs.Areas.{least_sectors}
use Rattle.macs_c.specs.ReportedDisks.{ReportedValue}
use Rattle.macs_c.proofs.Stepped.{idle-before, large-enough, still-busy, went-on}
use Rattle.macs_c.proofs.stepping.did_call.Goals as goal

pub returns-in_default : goal.returns-in_default
returns-in_default g c = inl (refl, c.next_call.ensures.none.0 c.in_default.is, refl, refl)

pub replace_disk-requires : goal.replace_disk-requires
replace_disk-requires g c =
    large-enough c.disk.result.now c.after-later.result g.next c.reported-said.result c.after-later.ensures
    (subst (λ (d : ReportedValue). least_sectors ≤ d.sectors) (sym c.disk.ensures.disk) c.disk.ensures.size)

pub did_call-stepped-requires : goal.did_call-stepped-requires
did_call-stepped-requires g c = λ idle.
    still-busy c.next_call.result c.in-Some._call c.in-Some.is
    (c.next_call.ensures.none.1
    (inr (idle-before c.args.endpoint.now c.replace_disk.new.self c.after-later.result c.replace_disk.ensures.same
    idle)))

pub returns : goal.returns
returns g c =
    let went =
    went-on c.args.endpoint.now g.next c.args.read.now c.args.ok c.in-Some._call c.in-Some.ensures.call c.requires
    c.reported-said.result c.reported-said.ensures c.disk.result.now c.disk.ensures.disk c.after-later.result
    c.after-later.ensures c.replace_disk.new.self c.replace_disk.ensures.same c.did_call-stepped.result
    c.did_call-stepped.new.self c.did_call-stepped.ensures in
    inr (c.did_call-stepped.result, c.step_answer.ensures, went.0, went.1, c.say_done.ensures)
