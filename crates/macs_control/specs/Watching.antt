-- What the system is asked about sockets.
use Rattle.std.specs.Prelude.{ℤ, pos, List, [], ◌∷◌}
use Rattle.libc.specs.declared.types.pollfd.{pollfd}
use Rattle.macs_control.specs.declared.watch.Watch.{Watch}

-- whether it is readable (POLLIN is 1)
abbrev pub asks : ℤ → pollfd
asks socket = record { fd = socket; events = pos 1; revents = pos 0 }

-- the sockets that are watched: both wires, the keeper, the listening socket, and the clients
abbrev pub watched : Watch → List ℤ
watched watch =
    watch.sockets.controlled ∷ watch.sockets.common ∷ watch.sockets.keeper ∷ watch.listener
    ∷ watch.first ∷ watch.second ∷ watch.third ∷ watch.fourth ∷ []
