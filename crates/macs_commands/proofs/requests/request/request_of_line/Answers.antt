use Rattle.std.proofs.Common.{◌∙◌, ◌≤◌, ℕ, ap, length, refl, subst, sym}
use Rattle.macs_commands.specs.Papers.{blank}
use Rattle.macs_commands.specs.Requests.{request_line}
use Rattle.macs_commands.specs.declared.requests.request.Request.{Request}
use Rattle.macs_commands.proofs.Written.{all_of_it, its_room}
use Rattle.macs_commands.proofs.requests.request.request_of_line.Goals as goal

pub is_written-is_its-requires : goal.is_written-is_its-requires
is_written-is_its-requires c = subst (λ (room : ℕ). length c.args.line.now ≤ room)
    (sym (its_room _ c.clear.new.self c.write_request.new.paper _ c.clear.ensures c.write_request.ensures)) c.requires

pub returns-then-is_its-clause-only : goal.returns-then-is_its-clause-only
returns-then-is_its-clause-only c =
    (c.if-is_its.ensures (request_line c.request_taken-request.result)
    (all_of_it _ c.clear.new.self c.write_request.new.paper _ c.clear.ensures c.write_request.ensures)).0 refl

pub returns-then-is_its-clause-blank : goal.returns-then-is_its-clause-blank
returns-then-is_its-clause-blank c = c.clear-2.ensures
    ∙ ap (λ (room : ℕ). blank room)
    (its_room _ c.clear.new.self c.write_request.new.paper _ c.clear.ensures c.write_request.ensures)

pub returns-else-is_its-clause-read : goal.returns-else-is_its-clause-read
returns-else-is_its-clause-read c = λ request asked is.
    let wrong = (c.if-is_its.ensures (request_line c.request_taken-request.result)
    (all_of_it _ c.clear.new.self c.write_request.new.paper _ c.clear.ensures c.write_request.ensures)).1
    (is ∙ ap (λ (r : Request). request_line r) (sym (c.request_taken-request.ensures request asked is))) in
    cc

pub returns-else-is_its-clause-blank : goal.returns-else-is_its-clause-blank
returns-else-is_its-clause-blank c = c.clear-2.ensures
    ∙ ap (λ (room : ℕ). blank room)
    (its_room _ c.clear.new.self c.write_request.new.paper _ c.clear.ensures c.write_request.ensures)
