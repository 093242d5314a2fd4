use Rattle.std.proofs.Common.{◌∙◌, ◌++◌, ℕ, List, ap, codes, string_bytes}
use Rattle.std.proofs.lemmas.Result.{IfOk-weaker}
use Rattle.std.specs.Fmt.{decimal}
use Rattle.macs_texts.specs.Lines.{line}
use Rattle.macs_offline.proofs.inspect.inspect_line.Goals as goal

pub returns : goal.returns
returns c =
    IfOk-weaker c.numbered.result _ _
    (λ text is. (
      string_bytes c.in_ok-said.said,
      c.in_ok-said.ensures,
      is ∙ ap (λ (said : List ℕ). line (decimal c.args.at ++ (codes " " ++ said))) c.as_str.ensures.value,
    )) c.numbered.ensures
