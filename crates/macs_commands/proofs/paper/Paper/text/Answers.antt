use Rattle.std.proofs.Common.{◌≡◌, ◌∙◌, Some, ap}
use Rattle.std.specs.Prelude.{None, if◌then◌else◌}
use Rattle.macs_commands.specs.Papers.{Sheet}
use Rattle.macs_commands.proofs.Written.{exact}
use Rattle.macs_commands.proofs.paper.Paper.text.Goals as goal

pub returns-then-self : goal.returns-then-self
returns-then-self c = λ text is.
    let same : (if c.self.inside.is_cut then None else Some c.self.inside.octets.items) ≡ c.args.self.now.text =
    ap (λ (s : Sheet). s.text) c.self.view_is in
    (rw c.if-self.true at same) ∙ exact c.args.self.now text is

pub returns : goal.returns
returns c = λ text is.
    let same : (if c.self.inside.is_cut then None else Some c.self.inside.octets.items) ≡ c.args.self.now.text =
    ap (λ (s : Sheet). s.text) c.self.view_is in
    ap Some c.as_slice.ensures.value ∙ (rw c.if-self.false at same) ∙ exact c.args.self.now text is
