use Rattle.std.proofs.Common.{◌∙◌, [], ◌∷◌, ap, refl}
use Rattle.macs_commands.specs.Papers.{written}
use Rattle.macs_commands.specs.Talks.{Said}
use Rattle.macs_commands.proofs.Written.{all_of_it, its_room}
use Rattle.macs_texts.specs.KeyTexts.{keys_text}
use Rattle.macs_control.specs.Listening.{report_room, reports_of, told}
use Rattle.macs_control.specs.Replies.{end_text}
use Rattle.macs_control.proofs.EndTexts.{end-0}
use Rattle.macs_control.proofs.Talking.{says}
use Rattle.macs_control.proofs.desk.answering.answer.Goals as goal

pub tell-requires : goal.tell-requires
tell-requires g c = its_room report_room c.args.paper.now c.show_lines.new.paper _ c.requires c.show_lines.ensures

pub returns-in-Show-clause-answers : goal.returns-in-Show-clause-answers
returns-in-Show-clause-answers g c =
    let reports =
    reports_of c.args.program.now (g.S.Overruns.known c.args.system.now) (g.S.KeyNotes.answers c.args.system.now)
    c.args.endpoint.now c.args.controlled.now c.args.common.now in
    rw c.in-Show.is (
      told c.args.client reports.shown,
      (refl, c.tell.ensures.order),
      c.tell.ensures.told reports.shown
          (all_of_it report_room c.args.paper.now c.show_lines.new.paper _ c.requires c.show_lines.ensures),
    )

pub returns-in-Show-clause-room : goal.returns-in-Show-clause-room
returns-in-Show-clause-room g c =
    its_room report_room c.args.paper.now c.show_lines.new.paper _ c.requires c.show_lines.ensures

pub tell-requires-in-Keys : goal.tell-requires-in-Keys
tell-requires-in-Keys g c =
    its_room report_room c.args.paper.now c.keys_lines.new.paper _ c.requires c.keys_lines.ensures

pub returns-in-Keys-clause-answers : goal.returns-in-Keys-clause-answers
returns-in-Keys-clause-answers g c =
    let reports =
    reports_of c.args.program.now (g.S.Overruns.known c.args.system.now) (g.S.KeyNotes.answers c.args.system.now)
    c.args.endpoint.now c.args.controlled.now c.args.common.now in
    rw c.in-Keys.is (
      told c.args.client reports.keys,
      (refl, c.tell-in-Keys.ensures.order),
      c.tell-in-Keys.ensures.told reports.keys
          (all_of_it report_room c.args.paper.now c.keys_lines.new.paper _ c.requires
          (c.keys_lines.ensures ∙ ap (λ (k : _). written c.args.paper.now (keys_text k)) c.config.ensures.config)),
    )

pub returns-in-Keys-clause-room : goal.returns-in-Keys-clause-room
returns-in-Keys-clause-room g c =
    its_room report_room c.args.paper.now c.keys_lines.new.paper _ c.requires c.keys_lines.ensures

pub tell-requires-in-Traffic : goal.tell-requires-in-Traffic
tell-requires-in-Traffic g c =
    its_room report_room c.args.paper.now c.traffic_lines.new.paper _ c.requires c.traffic_lines.ensures

pub returns-in-Traffic-clause-answers : goal.returns-in-Traffic-clause-answers
returns-in-Traffic-clause-answers g c =
    let reports =
    reports_of c.args.program.now (g.S.Overruns.known c.args.system.now) (g.S.KeyNotes.answers c.args.system.now)
    c.args.endpoint.now c.args.controlled.now c.args.common.now in
    rw c.in-Traffic.is (
      told c.args.client reports.traffic,
      (refl, c.tell-in-Traffic.ensures.order),
      c.tell-in-Traffic.ensures.told reports.traffic
          (all_of_it report_room c.args.paper.now c.traffic_lines.new.paper _ c.requires c.traffic_lines.ensures),
    )

pub returns-in-Traffic-clause-room : goal.returns-in-Traffic-clause-room
returns-in-Traffic-clause-room g c =
    its_room report_room c.args.paper.now c.traffic_lines.new.paper _ c.requires c.traffic_lines.ensures

pub tell-requires-in-About : goal.tell-requires-in-About
tell-requires-in-About g c =
    its_room report_room c.args.paper.now c.about_lines.new.paper _ c.requires c.about_lines.ensures

pub returns-in-About-clause-answers : goal.returns-in-About-clause-answers
returns-in-About-clause-answers g c =
    let reports =
    reports_of c.args.program.now (g.S.Overruns.known c.args.system.now) (g.S.KeyNotes.answers c.args.system.now)
    c.args.endpoint.now c.args.controlled.now c.args.common.now in
    rw c.in-About.is (
      told c.args.client reports.about,
      (refl, c.tell-in-About.ensures.order),
      c.tell-in-About.ensures.told reports.about
          (all_of_it report_room c.args.paper.now c.about_lines.new.paper _ c.requires c.about_lines.ensures),
    )

pub returns-in-About-clause-room : goal.returns-in-About-clause-room
returns-in-About-clause-room g c =
    its_room report_room c.args.paper.now c.about_lines.new.paper _ c.requires c.about_lines.ensures

pub tell-requires-in-Counters : goal.tell-requires-in-Counters
tell-requires-in-Counters g c = its_room report_room c.args.paper.now c.count.new.paper _ c.requires c.count.ensures.2

pub returns-in-Counters-clause-answers : goal.returns-in-Counters-clause-answers
returns-in-Counters-clause-answers g c =
    let counted = c.count.ensures in
    let reports =
    reports_of c.args.program.now (g.S.Overruns.known c.args.system.now) (g.S.KeyNotes.answers c.args.system.now)
    c.args.endpoint.now c.args.controlled.now c.args.common.now in
    rw c.in-Counters.is (
      told c.args.client (reports.counted counted.0),
      (counted.0, counted.1, refl, c.tell-in-Counters.ensures.order),
      c.tell-in-Counters.ensures.told (reports.counted counted.0)
          (all_of_it report_room c.args.paper.now c.count.new.paper _ c.requires counted.2),
    )

pub returns-in-Counters-clause-room : goal.returns-in-Counters-clause-room
returns-in-Counters-clause-room g c =
    its_room report_room c.args.paper.now c.count.new.paper _ c.requires c.count.ensures.2

pub returns-in-Stop-clause-answers : goal.returns-in-Stop-clause-answers
returns-in-Stop-clause-answers g c = rw c.in-Stop.is (
  Said c.args.client (end_text 0) ∷ [],
  (refl, refl),
  says g.C.Clients.does c.args.clients.now c.say.new.self c.args.client c.as_bytes.result.now (end_text 0)
      (c.as_bytes.ensures.value ∙ end-0) c.say.ensures,
)

pub returns-in-Apply-clause-answers : goal.returns-in-Apply-clause-answers
returns-in-Apply-clause-answers g c =
    let handed = c.hand_in.ensures in
    rw c.in-Apply.is (handed.2, (handed.0, handed.1, handed.3), handed.4)
