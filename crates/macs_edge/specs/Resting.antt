-- Quiet turns, in which there is nothing to do, and the sleep after them.
use Rattle.std.specs.Prelude.{◌≡◌, ◌+◌, ℕ, Option, Some, None}
use Rattle.std.specs.Option.{option_map}
use Rattle.macs_endpoint.specs.declared.progress.Step.{Step as Progress}
use Rattle.macs_endpoint.specs.declared.progress.Step.TheVariants.{Idle}
use Rattle.macs_edge.specs.Relaying.{LaneValue, Relay}
use Rattle.macs_edge.specs.declared.relaying.Tally.{Tally}
use Rattle.macs_edge.specs.declared.attending.DeskEvent.{DeskEvent}
use Rattle.macs_edge.specs.declared.attending.DeskEvent.TheVariants.{Rested, Wanted}
use Rattle.macs_edge.specs.declared.attending.Order.TheVariants.{Go}

-- a way rests: its lane is empty, and nothing has been counted since `before`
abbrev pub WayRests : Tally → LaneValue → Type 0
WayRests before lane = (lane.waiting ≡ None) × (lane.tally ≡ before)

-- a step found no work, or the disk has not answered, and both ways rest
abbrev pub AllRest : Option Progress → Tally → Tally → LaneValue → LaneValue → Type 0
AllRest (Some Idle) out_before back_before out back = WayRests out_before out × WayRests back_before back
AllRest None out_before back_before out back = WayRests out_before out × WayRests back_before back
AllRest progress out_before back_before out back = ⊥

-- A turn with this step is quiet: it found no work, or had none while the disk has not answered; both lanes are empty
-- after it, and neither a frame nor a failed call of a wire was counted in it
abbrev pub IsQuiet : {D : Type 0} → Option Progress → Relay D → Relay D → Type 0
IsQuiet progress old new = AllRest progress old.to_common.tally old.to_controlled.tally new.to_common new.to_controlled

-- how many sleeps there were, if reported, plus `count`
abbrev pub with_sleeps : Option ℕ → ℕ → Option ℕ
with_sleeps slept more = option_map (λ before. before + more) slept

-- ---- a desk where nobody is

-- an event there: the order is that the relay continues, and a rest is one sleep. How often it slept, if known, is
-- `old` before and `new` after
abbrev pub PassesUnattended : DeskEvent → Option ℕ → Option ℕ → Type 0
PassesUnattended (Wanted was_quiet order) old new = (order ≡ Go) × (new ≡ old)
PassesUnattended Rested old new = new ≡ with_sleeps old 1
PassesUnattended event old new = new ≡ old
