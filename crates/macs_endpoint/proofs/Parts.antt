-- An endpoint made of parts, whose queue has something else under way.
use Rattle.std.proofs.Common.{◌≡◌, Option, Some, None, sym, subst}
use Rattle.macs_config.specs.declared.command.Command.{Command}
use Rattle.macs_store.specs.Value.{StoreValue}
use Rattle.macs_endpoint.specs.Ceilings as ceilings
use Rattle.macs_endpoint.specs.Parts.{endpoint_of, raise_of}
use Rattle.macs_endpoint.specs.Queue.{QueueValue}
use Rattle.macs_endpoint.specs.Value.{EndpointValue}
use Rattle.macs_endpoint.specs.declared.channels.Channels.{Channels}
use Rattle.macs_endpoint.specs.declared.refilling.Raise.{Raise}
use Rattle.macs_endpoint.specs.declared.turn.Turn.{Turn}

module _ {D : Type 0} (s : StoreValue D) (channels : Channels) (queue new : QueueValue) (turn : Turn)
    (P : EndpointValue D → Type 0) where
  abbrev e : EndpointValue D
  e = endpoint_of s channels queue turn

  -- a command, or nothing, where no ceiling was being raised
  pub commanded : (command : Option Command) → new ≡ record queue { under_way = command; reserving = None }
      → e.reserving ≡ None
      → P (record e { under_way = command }) → P (endpoint_of s channels new turn)
  commanded command is none holds =
      subst (λ (q : QueueValue). P (endpoint_of s channels q turn)) (sym is)
      (subst (λ (o : Option ceilings.Raise). P (record e { under_way = command; reserving = o })) none holds)

  -- a ceiling that is being raised, where no command was under way
  pub raising : (raise : Raise) → new ≡ record queue { under_way = None; reserving = Some raise }
      → e.under_way ≡ None
      → P (record e { reserving = Some (raise_of raise) }) → P (endpoint_of s channels new turn)
  raising raise is none holds =
      subst (λ (q : QueueValue). P (endpoint_of s channels q turn)) (sym is)
      (subst (λ (o : Option Command). P (record e { under_way = o; reserving = Some (raise_of raise) })) none holds)
