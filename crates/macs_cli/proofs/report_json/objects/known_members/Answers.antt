use Rattle.std.proofs.Common.{◌≡◌, ◌++◌, ◌∷◌, [], rules}
use Rattle.json.specs.Value.{members_view}
use Rattle.macs_cli.proofs.Made.{ended-made, short-made, step-made, writable-more}
use Rattle.macs_cli.proofs.report_json.objects.known_members.Goals as goal

pub returns-in_default-cut-clause-members : goal.returns-in_default-cut-clause-members
returns-in_default-cut-clause-members c =
    short-made (members_view c.loop-own.found.items) _ c.loop-own.places.now c.loop-own.rest.now c.in-Some.own.now
    c.in-Some.more.now c.loop-own.invariant.2 c.in-Some.ensures.pieces c.in_default-cut.ensures.pieces

pub loop-own-preserved-in_ok-push-2 : goal.loop-own-preserved-in_ok-push-2
loop-own-preserved-in_ok-push-2 c =
    let items : c.push-in-Some-name.new.self.items
    ≡ c.loop-own.found.items ++ (c.in-Some-name.name, c.value.result) ∷ [] = search rules in (
      search rules,
      search rules,
      rw items (step-made c.loop-own.found.items c.in-Some-name.name c.value.result _ c.loop-own.places.now
          c.loop-own.rest.now c.in-Some.own.now c.in-Some.more.now c.in-Some-cut.word.now c.in-Some-cut.others.now _
          c.name.result c.loop-own.invariant.2 c.in-Some.ensures.pieces c.in-Some-cut.ensures.pieces
          c.part_of-part.ensures c.name.ensures c.in-Some-name.is c.value.ensures.value),
      rw items (writable-more c.loop-own.found.items c.in-Some-name.name c.value.result c.loop-own.invariant.3
          c.value.ensures.writable),
    )

pub returns-clause-members : goal.returns-clause-members
returns-clause-members c =
    ended-made (members_view c.loop-own.found.items) _ c.loop-own.places.now c.loop-own.rest.now
    c.loop-own.invariant.2 c.in_default.ensures.pieces
