use Rattle.std.proofs.Common.{refl}
use Rattle.macs_edge.specs.Telling.{telling_of}
use Rattle.macs_edge.proofs.telling.tell.Goals as goal

pub returns-in-Some : goal.returns-in-Some
returns-in-Some g c = rw c.in-Some.is (telling_of c.tell.new.self c.tell.new.to, c.tell.ensures, refl)
