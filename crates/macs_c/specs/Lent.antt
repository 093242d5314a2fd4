-- A handle whose endpoint is borrowed.
use Rattle.std.specs.Prelude.{Some}
use Rattle.std.specs.Borrow.{Lends, MutBor, Fml}
use Rattle.macs_c.specs.declared.handle.MacsEndpoint.{MacsEndpoint}
use Rattle.macs_c.specs.declared.slot.Slot.{Slot}
use Rattle.macs_c.specs.contracts.handle.MacsEndpoint.{the_row as handle_row}
use Rattle.macs_c.specs.contracts.slot.Slot.{the_row as slot_row}

-- the handle, whose endpoint is now this one
abbrev pub with_slot : MacsEndpoint → Slot → MacsEndpoint
with_slot h w = record h { value = Some w }

-- the endpoint of an open handle is borrowed: at the end the handle has what the borrower left there
abbrev pub LendsSlot : MutBor MacsEndpoint → MutBor Slot → Fml
LendsSlot h r = Lends handle_row slot_row h r (with_slot h.now)
