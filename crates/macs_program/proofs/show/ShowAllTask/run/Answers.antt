use Rattle.std.proofs.Common.{refl}
use Rattle.std.proofs.lemmas.Result.{err_from_is_err_and}
use Rattle.macs_commands.proofs.Written.{all_of_it, whole}
use Rattle.macs_cli.specs.declared.failure.Failure.TheVariants.{Memory}
use Rattle.macs_program.proofs.InFiles.{no-text, not-shown, text-shown}
use Rattle.macs_program.specs.Endpoints.{shown_text}
use Rattle.macs_program.proofs.show.ShowAllTask.run.Goals as goal

pub returns-in_err-paper : goal.returns-in_err-paper
returns-in_err-paper g c =
    let p = err_from_is_err_and c.from_residual.result c.from_residual.ensures.1 in
    no-text _ _ _ _ p.0 c.from_residual.result p.1 p.2

pub returns-in_default : goal.returns-in_default
returns-in_default g c = no-text _ _ _ _ Memory _ refl refl

pub returns-in_err-print_octets : goal.returns-in_err-print_octets
returns-in_err-print_octets g c =
    let p = err_from_is_err_and c.from_residual-in_err-print_octets.result
    c.from_residual-in_err-print_octets.ensures.1 in
    not-shown _ _ _ _ _ c.in_err-print_octets.field-0.0 p.0 c.from_residual-in_err-print_octets.result p.1 p.2
    c.in_err-print_octets.ensures.failed c.in_err-print_octets.ensures.broken

pub returns : goal.returns
returns g c =
    let shown = shown_text c.args.endpoint.now in
    text-shown _ _ _ _ c.print_octets.new.out shown c.in-Some.text.now
    (whole _ shown c.in-Some.text.now (c.in-Some.ensures shown
    (all_of_it 65536 c.in_ok-paper.paper c.show_lines.new.paper shown c.in_ok-paper.ensures c.show_lines.ensures)))
    refl c.in_ok-print_octets.ensures.printed
