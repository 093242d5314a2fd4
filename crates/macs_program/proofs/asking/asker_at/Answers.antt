use Rattle.macs_program.proofs.Told.{not-connected}
use Rattle.macs_program.proofs.asking.asker_at.Goals as goal

pub returns-in-Err : goal.returns-in-Err
returns-in-Err g c = not-connected c.args.path.now _ c.failure_of_connection.result c.failure_of_connection.ensures
