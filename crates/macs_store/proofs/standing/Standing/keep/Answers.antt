use Rattle.std.proofs.Common.{◌≡◌, ◌∙◌, false, IsSome, ap, subst}
use Rattle.macs_config.specs.Apply.{has_wrong_offset}
use Rattle.macs_config.specs.declared.command.Command.{Command}
use Rattle.macs_store.specs.UnderWay.{record_kept}
use Rattle.macs_store.specs.Replay.{is_raise, standing_after_record}
use Rattle.macs_store.specs.Standing.{Standing, standing_with_rx_ceiling, standing_with_tx_ceiling}
use Rattle.macs_store.specs.Table.{standing_of}
use Rattle.macs_store.specs.declared.under_way.Kept.{Kept}
use Rattle.macs_store.proofs.Keeping.{raised-follows, recorded-fits, recorded-follows}
use Rattle.macs_store.proofs.standing.Standing.keep.Goals.{After-judged-judged}
use Rattle.macs_store.proofs.standing.Standing.keep.Goals as goal

-- the offset of the command is one of the three
right : (c : After-judged-judged) → has_wrong_offset c.in-Command.checked ≡ false
right c = subst (λ (command : Command). has_wrong_offset command ≡ false) c.judged-judged.ensures.asked
    c.judged-judged.ensures.judged.2

-- what is kept follows
follows : (s : Standing) (one other : Kept) → one ≡ other → IsSome (standing_after_record s (record_kept one))
    → IsSome (standing_after_record s (record_kept other))
follows s one other is some = subst (λ (k : Kept). IsSome (standing_after_record s (record_kept k))) is some

pub accept_checked-requires : goal.accept_checked-requires
accept_checked-requires c =
    let at = (goal.at.accept_checked-requires c).After-judged-judged in
    recorded-fits (standing_of c.args.self.now) c.in-Command.checked (right at)
    (follows (standing_of c.args.self.now) c.args.kept.now _ c.in-Command.is c.requires.follows)

pub returns-in-Command : goal.returns-in-Command
returns-in-Command c =
    let at = (goal.at.returns-in-Command c).After-judged-judged in
    ap (λ (k : Kept). standing_after_record (standing_of c.args.self.now) (record_kept k)) c.in-Command.is
    ∙ recorded-follows (standing_of c.args.self.now) (standing_of c.accept_checked.new.self) c.in-Command.checked
    (right at) c.accept_checked.ensures

pub returns-in-TxCeiling : goal.returns-in-TxCeiling
returns-in-TxCeiling c =
    let s = standing_of c.args.self.now in
    let i = c.in-TxCeiling in
    ap (λ (k : Kept). standing_after_record s (record_kept k)) i.is
    ∙ raised-follows (is_raise (s.ceilings.tx i.an) i.ceiling) (standing_with_tx_ceiling s i.an i.ceiling)
    (standing_of c.replay_tx.new.self)
    (follows s c.args.kept.now _ i.is c.requires.follows)
    (λ rises. c.replay_tx.ensures.raised (c.replay_tx.ensures.fits ∙ rises))

pub returns-in-RxCeiling : goal.returns-in-RxCeiling
returns-in-RxCeiling c =
    let s = standing_of c.args.self.now in
    let i = c.in-RxCeiling in
    ap (λ (k : Kept). standing_after_record s (record_kept k)) i.is
    ∙ raised-follows (is_raise (s.ceilings.rx i.sci i.an) i.ceiling)
    (standing_with_rx_ceiling s i.sci i.an i.ceiling) (standing_of c.replay_rx.new.self)
    (follows s c.args.kept.now _ i.is c.requires.follows)
    (λ rises. c.replay_rx.ensures.raised (c.replay_rx.ensures.fits ∙ rises))
