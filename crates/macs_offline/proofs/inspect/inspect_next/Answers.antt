use Rattle.std.proofs.Common.{◌+◌, ◌∙◌, string_bytes, subst}
use Rattle.macs_edge.proofs.Behind.{read_as}
use Rattle.macs_offline.specs.Inspecting.{IsLineOf}
use Rattle.macs_cli.proofs.Printing.{prints-text}
use Rattle.macs_offline.proofs.inspect.inspect_next.Goals as goal

pub returns-clause-next : goal.returns-clause-next
returns-clause-next g c =
    let items = c.read_record.new.into.items in
    let read = read_as c.args.big c.args.count _ (g.R.Source.state c.args.source.now)
    (g.R.Source.state c.read_record.new.source) items
    c.in_ok-_stamp.field-0 c.in-Some._stamp c.in-Some.is c.in_ok-_stamp.ensures in
    let line = subst (λ frame. IsLineOf (c.from.result + 1) frame (string_bytes c.in_ok-line.line))
    c.as_slice.ensures.value c.in_ok-line.ensures in
    let said = subst (λ n. IsLineOf (n + 1) items (string_bytes c.in_ok-line.line)) c.from.ensures line in (
      record { stamp = c.in-Some._stamp; frame = items },
      _,
      read,
      string_bytes c.in_ok-line.line,
      said,
      prints-text _ _ _ _ (c.as_bytes.ensures.value ∙ c.as_str.ensures.value) c.in_ok-print.ensures.printed,
    )
