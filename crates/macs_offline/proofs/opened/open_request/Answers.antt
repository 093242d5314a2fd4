use Rattle.std.proofs.Common.{refl}
use Rattle.macs_offline.proofs.OpenedFrames.{opens, refused}
use Rattle.macs_offline.proofs.opened.open_request.Goals as goal

pub returns-in-Ok : goal.returns-in-Ok
returns-in-Ok c =
    let said = c.in-Ok.ensures in
    opens c.args.request.now _ _ _ _ _ c.new-key.ensures c.as_slice-frame.ensures.value
    (λ fault first. cc ((said.fault fault).1 first)) said.opened said.numbers.0 said.numbers.1

pub returns-in-Err : goal.returns-in-Err
returns-in-Err c =
    refused c.args.request.now _ _ c.in-Err.fault c.new-key.ensures c.as_slice-frame.ensures.value
    ((c.in-Err.ensures.fault c.in-Err.fault).0 refl)
