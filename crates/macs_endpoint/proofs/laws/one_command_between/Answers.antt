use Rattle.macs_endpoint.proofs.OneCommand.{one-command}
use Rattle.macs_endpoint.proofs.laws.one_command_between.Goals as goal

pub returns : goal.returns
returns g c = one-command g.D.SectorDisk.disk
