use Rattle.std.proofs.Common.{None, Some, arith, codes}
use Rattle.std.proofs.lemmas.Str.Pattern.{split_parts, split_text_parts}
use Rattle.macs_control.proofs.Marks.{around-mark, digits-behind, unended, unmarked}
use Rattle.macs_control.proofs.signals.digits_in.Goals as goal

pub returns-in_default-clause-none : goal.returns-in_default-clause-none
returns-in_default-clause-none c =
    λ none. unmarked c.args.status.now
    (split_text_parts (codes "ShdPnd:\t") c.args.status.now None c.in_default.ensures.cases)

pub returns-in_default-split_once-clause-none : goal.returns-in_default-split_once-clause-none
returns-in_default-split_once-clause-none c =
    λ none. unended c.args.status.now c.in-Some.field-0-0.now c.in-Some.behind.now
    (around-mark c.args.status.now (c.in-Some.field-0-0, c.in-Some.behind) c.in-Some.ensures.cases)
    (split_parts 10 c.in-Some.behind.now None c.in_default-split_once.ensures.cases (omega arith))

pub returns-clause-digits : goal.returns-clause-digits
returns-clause-digits c =
    let end =
    split_parts 10 c.in-Some.behind.now (Some (c.in-Some-split_once.digits, c.in-Some-split_once.field-0-1))
    c.in-Some-split_once.ensures.cases (omega arith) in
    digits-behind c.args.status.now c.in-Some.field-0-0.now c.in-Some.behind.now c.in-Some-split_once.digits.now
    c.in-Some-split_once.field-0-1.now
    (around-mark c.args.status.now (c.in-Some.field-0-0, c.in-Some.behind) c.in-Some.ensures.cases) end.0 end.1
