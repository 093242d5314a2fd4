use Rattle.std.proofs.Common.{◌∙◌, sym, ap}
use Rattle.macs_c.specs.declared.answers.Answer.TheVariants as code
use Rattle.macs_c.specs.declared.handle.MacsEndpoint.{MacsEndpoint}
use Rattle.macs_c.proofs.Exported.{none-there, open-already, opens-there, refused-there}
use Rattle.macs_c.proofs.Opened.{opened-from, store-idle}
use Rattle.macs_c.proofs.endpoint_exports.macs_open.Goals as goal

pub returns-then-is_open : goal.returns-then-is_open
returns-then-is_open g c = (
  code.Open,
  c.number_of.ensures,
  open-already g.honest c.args.sectors.now c.args.endpoint.now _ c.is_open.result c.is_open.ensures.0
      c.is_open.ensures.1 c.if-is_open.true,
)

pub begin-requires-clause-idle : goal.begin-requires-clause-idle
begin-requires-clause-idle g c = store-idle g.honest c.args.sectors.now c.in-Ok.store c.in-Ok.ensures

pub returns-in-Ok : goal.returns-in-Ok
returns-in-Ok g c = (
  code.Success,
  c.number_of-in-Ok.ensures,
  opens-there g.honest c.args.sectors.now c.args.endpoint.now.value _ c.begin.ensures.0
      (none-there c.args.endpoint.now.value (sym c.is_open.ensures.0 ∙ c.if-is_open.false)) c.begin.ensures.1
      (opened-from g.honest c.args.sectors.now c.in-Ok.store c.in-Ok.ensures c.begin.ensures.0 c.begin.ensures.2),
)

pub returns-in-Err : goal.returns-in-Err
returns-in-Err g c = (
  c.open_answer.result,
  c.number_of-in-Err.ensures,
  refused-there g.honest c.args.sectors.now c.args.endpoint.now.value _ c.open_answer.result c.in-Err.fault
      (none-there c.args.endpoint.now.value (sym c.is_open.ensures.0 ∙ c.if-is_open.false))
      (ap (λ (h : MacsEndpoint). h.value) c.is_open.ensures.1) c.open_answer.ensures c.in-Err.ensures,
)
