use Rattle.std.proofs.Common.{◌∙◌, ap}
use Rattle.macs_commands.specs.Digits.{key_of}
use Rattle.macs_commands.proofs.Values.{key_none, key_said}
use Rattle.macs_commands.proofs.requests.fields.key.Goals as goal

pub returns-in-Some : goal.returns-in-Some
returns-in-Some c = λ key is size said. key_said c.in-Some.key key c.args.text.now
    (c.in-Some.ensures ∙ ap key_of c.as_bytes.ensures.value) is size said

pub returns-in-None : goal.returns-in-None
returns-in-None c = λ key is size said. absurd (key_none key c.args.text.now
    (c.in-None.ensures ∙ ap key_of c.as_bytes.ensures.value) is size said)
