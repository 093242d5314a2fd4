-- The states of the example's lives.
use Rattle.std.specs.Prelude.{ℕ, []}
use Rattle.macs_config.specs.Apply.{config_after}
use Rattle.macs_config.specs.Config.{Config, default, this_edition}
use Rattle.macs_config.specs.declared.command.Command.{Command}
use Rattle.macs_txsc.specs.Transmit.{Outgoing}
use Rattle.macs_rxsc.specs.Receive.{Numbers, first_numbers, numbers_after_delivery, numbers_after_hold}
use Rattle.macs_store.specs.Standing.{new_standing}
use Rattle.macs_endpoint.specs.Restart.{opened_state}
use Rattle.macs_endpoint.specs.State.{State, no_logs, state_after_fault, state_with_under_way}
use Rattle.macs_endpoint.specs.Step.{state_after_command, state_after_delivery, state_after_frame, state_after_hold}
use Rattle.macs_endpoint.specs.Step.{state_with_waiting, state_without_first}
use Rattle.macs_endpoint.specs.declared.queue.Waiting.{Waiting}
use Rattle.macs_headline.specs.Example.{add_peer, check_only, example_identity, install_own, guard, install_peer}
use Rattle.macs_headline.specs.Example.{later_edition, narrow, own_sa, remove_peer, unguard, use_own, widen}
use Rattle.macs_headline.specs.Example.{checked_standing, full_standing, last_standing, served_config}
use Rattle.macs_headline.proofs.ExampleFrames.{arrival}
use Rattle.macs_headline.proofs.ExampleImages.{served_standing}

-- what goes out under the transmit association
abbrev pub outgoing : ℕ → Outgoing
outgoing pn = record { an = 0; sa = own_sa; pn = pn }

-- ---- the first life

abbrev pub c1 : Config
c1 = config_after default install_own

abbrev pub c2 : Config
c2 = config_after c1 use_own

abbrev pub c3 : Config
c3 = config_after c2 add_peer

abbrev pub c4 : Config
c4 = config_after c3 install_peer

abbrev pub c5 : Config
c5 = config_after c4 narrow

abbrev pub s0 : State
s0 = opened_state (new_standing this_edition example_identity) no_logs

abbrev pub s1 : State
s1 = state_after_command s0 install_own c1

abbrev pub s2 : State
s2 = state_after_command s1 use_own c2

-- frames 1 to 4
abbrev pub s3 : State
s3 = state_after_frame s2 (outgoing 1)

abbrev pub s4 : State
s4 = state_after_frame s3 (outgoing 2)

abbrev pub s5 : State
s5 = state_after_frame s4 (outgoing 3)

abbrev pub s6 : State
s6 = state_after_frame s5 (outgoing 4)

-- a command that waits, under this ticket
abbrev pub waits : ℕ → Command → Waiting
waits ticket command = record { ticket = ticket; command = command }

-- the peer's channel is to be added: it waits, it is under way, a frame goes out between, and it takes effect
abbrev pub s7 : State
s7 = state_with_waiting s6 add_peer

abbrev pub s8 : State
s8 = state_with_under_way s7 add_peer

abbrev pub s9 : State
s9 = state_after_frame s8 (outgoing 5)

abbrev pub s10 : State
s10 = state_after_command (state_without_first s9 []) add_peer c3

-- the peer's association, and a window of 1
abbrev pub s11 : State
s11 = state_after_command s10 install_peer c4

abbrev pub s12 : State
s12 = state_after_command s11 narrow c5

-- the numbers of the receive association, before the frame comes, once it is held back, and once it is delivered
abbrev pub before_frame : Numbers
before_frame = first_numbers 1

abbrev pub after_hold : Numbers
after_hold = numbers_after_hold before_frame 5

abbrev pub after_delivery : Numbers
after_delivery = numbers_after_delivery 1 after_hold 5

abbrev pub s13 : State
s13 = state_after_hold s12 (arrival before_frame)

-- delivered twice
abbrev pub s14 : State
s14 = state_after_delivery s13 (arrival after_hold)

abbrev pub s15 : State
s15 = state_after_delivery s14 (arrival after_delivery)

-- the window is to be widened: it waits, and is under way when the power goes, with a frame between
abbrev pub s16 : State
s16 = state_with_waiting s15 widen

abbrev pub s17 : State
s17 = state_with_under_way s16 widen

abbrev pub first_end : State
first_end = state_after_frame s17 (outgoing 6)

-- what it is once the command under way was followed
abbrev pub first_followed : State
first_followed = state_after_command first_end widen served_config

-- ---- the second life

abbrev pub t0 : State
t0 = opened_state served_standing first_end.logs

abbrev pub t1 : State
t1 = state_after_frame t0 (outgoing 9)

-- no replay protection, the peer's frame, and protection again
abbrev pub unguarded_config : Config
unguarded_config = config_after served_config unguard

abbrev pub t2 : State
t2 = state_after_command t1 unguard unguarded_config

-- the numbers of the receive association then
abbrev pub late_numbers : Numbers
late_numbers = first_numbers 9

abbrev pub t3 : State
t3 = state_after_delivery t2 (arrival late_numbers)

abbrev pub after_delay : Numbers
after_delay = numbers_after_delivery 3 late_numbers 5

abbrev pub t4 : State
t4 = state_after_command t3 guard (config_after unguarded_config guard)

abbrev pub second_end : State
second_end = state_with_under_way t4 remove_peer

-- ---- the third life

abbrev pub u0 : State
u0 = opened_state full_standing t4.logs

abbrev pub u1 : State
u1 = state_after_command u0 remove_peer (config_after served_config remove_peer)

abbrev pub u2 : State
u2 = state_after_frame u1 (outgoing 13)

abbrev pub third_end : State
third_end = state_after_fault (state_with_under_way u2 check_only)

-- ---- the fourth life

abbrev pub v0 : State
v0 = opened_state (last_standing this_edition) u2.logs

abbrev pub v1 : State
v1 = state_with_waiting v0 check_only

abbrev pub fourth_end : State
fourth_end = state_with_under_way v1 check_only

-- what it is once the command under way was followed
abbrev pub fourth_followed : State
fourth_followed = state_after_command fourth_end check_only (checked_standing this_edition).config

-- ---- the last life

abbrev pub x0 : State
x0 = opened_state (checked_standing later_edition) u2.logs

abbrev pub x1 : State
x1 = state_after_frame x0 (outgoing 17)

-- the configuration after it
abbrev pub last_config : Config
last_config = config_after (checked_standing later_edition).config guard

abbrev pub last_state : State
last_state = state_after_command x1 guard last_config
