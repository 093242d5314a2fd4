use Rattle.std.proofs.Common.{◌≡◌, ◌∙◌, ◌≤◌, ◌<◌, List, Option, Some, None, get_or, length, sym, subst, arith}
use Rattle.macs_rxsc.proofs.Needs.{met, needs_are, needs_in, passed, past_all}
use Rattle.macs_rxsc.specs.Needs.{Need, first_need}
use Rattle.macs_rxsc.specs.declared.channel.Channel.{Channel}
use Rattle.macs_rxsc.proofs.table.Table.need.Goals as goal
use Rattle.macs_rxsc.proofs.table.Table.need.Goals.{After-need}

within : (c : After-need) → c.loop-channel.channel-index < length c.args.self.now.channels.items
within c = let items = c.deref-channel-items.ensures.0 in let test = c.loop-channel-test.true in
    subst (λ (xs : List Channel). c.loop-channel.channel-index < length xs) items (omega arith)

item_is : (c : After-need)
    → c.channel-item.result ≡ get_or c.args.self.now.channels.items c.loop-channel.channel-index c.channel-item.result
item_is c = let items = c.deref-channel-items.ensures.0 in rw items at c.channel-item.is

-- the needs of the channel at hand
at_hand : (c : After-need) (o : Option Need)
    → first_need (needs_in c.args.block c.channel-item.result.sci (Some c.channel-item.result)) ≡ o
    → first_need (needs_in c.args.block
    (get_or c.args.self.now.channels.items c.loop-channel.channel-index c.channel-item.result).sci
    (Some (get_or c.args.self.now.channels.items c.loop-channel.channel-index c.channel-item.result))) ≡ o
at_hand c o is = subst (λ (x : Channel). first_need (needs_in c.args.block x.sci (Some x)) ≡ o) (item_is c) is

pub returns-in-Some : goal.returns-in-Some
returns-in-Some c = λ validate replay.
    let p = (goal.at.returns-in-Some c).After-need in
    sym (met c.args.block c.args.self.now.channels.items c.loop-channel.channel-index c.channel-item.result _ (within p)
    (at_hand p _ (sym c.in-Some.ensures)) c.loop-channel.invariant)
    ∙ needs_are c.args.block c.args.self.now.channels.items c.requires validate replay

pub loop-channel-preserved : goal.loop-channel-preserved
loop-channel-preserved c =
    let p = (goal.at.loop-channel-preserved c).After-need in
    passed c.args.block c.args.self.now.channels.items c.loop-channel.channel-index c.channel-item.result (within p)
    (at_hand p None (sym c.in_default.ensures)) c.loop-channel.invariant

pub returns : goal.returns
returns c = λ validate replay.
    let items = c.deref-channel-items.ensures.0 in
    sym (past_all c.args.block c.args.self.now.channels.items c.loop-channel.channel-index (subst (λ (xs : List
    Channel). length xs ≤ c.loop-channel.channel-index) items c.loop-channel-test.false) c.loop-channel.invariant)
    ∙ needs_are c.args.block c.args.self.now.channels.items c.requires validate replay
