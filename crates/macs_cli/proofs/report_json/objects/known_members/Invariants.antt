use Rattle.std.proofs.Common.{◌≡◌, length, Some}
use denote.Text.{Utf8}
use denote.Shadow.{shadow}
use Rattle.json.specs.Tree.{MembersHaveNumbers}
use Rattle.json.specs.Value.{members_view}
use Rattle.macs_cli.specs.Cutting.{words}
use Rattle.macs_cli.specs.Objects.{members, members_of, parts}
use Rattle.macs_cli.proofs.Made.{joined}
use Rattle.macs_cli.proofs.report_json.objects.known_members.Given as goal

abbrev pub invariant-loop-own : goal.invariant-loop-own
invariant-loop-own l = shadow (Utf8 l.places) × shadow (Utf8 l.rest)
    × (joined (members_view l.found.items) (members (parts l.places) (words l.rest))
    ≡ members_of (Some l.fn.kind) l.fn.line)
    × MembersHaveNumbers (members_view l.found.items)

abbrev pub decreases-loop-own : goal.decreases-loop-own
decreases-loop-own l = length l.places
