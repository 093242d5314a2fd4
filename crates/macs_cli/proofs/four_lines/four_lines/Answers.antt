use Rattle.std.proofs.Common.{rules, tests, refl}
use Rattle.macs_cli.proofs.TextLines.{exactly_four, more_than_four}
use Rattle.macs_cli.proofs.four_lines.four_lines.Goals as goal

pub returns-then-not-is_empty-clause-four : goal.returns-then-not-is_empty-clause-four
returns-then-not-is_empty-clause-four c =
    let no = more_than_four _ _ _ _ _ _ _ _ _ c.in_ok-first.ensures c.in_ok-second.ensures c.in_ok-third.ensures
    c.in_ok-fourth.ensures
    (search (rules, tests)) in
    (λ e. cc, λ four. absurd (no four))

pub returns-clause-four : goal.returns-clause-four
returns-clause-four c =
    let four = exactly_four _ _ _ _ _ _ _ _ _ c.in_ok-first.ensures c.in_ok-second.ensures c.in_ok-third.ensures
    c.in_ok-fourth.ensures
    (search (rules, tests)) in
    (λ e. four, λ e. refl)
