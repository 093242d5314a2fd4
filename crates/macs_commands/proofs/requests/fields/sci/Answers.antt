use Rattle.std.proofs.Common.{◌∙◌, ap}
use Rattle.macs_commands.specs.Digits.{octets_of}
use Rattle.macs_commands.proofs.Values.{sci_none, sci_said}
use Rattle.macs_commands.proofs.requests.fields.sci.Goals as goal

pub returns-in-Some : goal.returns-in-Some
returns-in-Some c = λ sci is said. sci_said c.in-Some.sci sci c.args.text.now
    (c.in-Some.ensures ∙ ap (octets_of 8) c.as_bytes.ensures.value) is said

pub returns-in-None : goal.returns-in-None
returns-in-None c = λ sci is said. absurd (sci_none sci c.args.text.now
    (c.in-None.ensures ∙ ap (octets_of 8) c.as_bytes.ensures.value) is said)
