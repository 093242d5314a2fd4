use Rattle.std.proofs.Common.{◌≡◌, ◌∙◌, inl, inr, true, false, sym, subst}
use Rattle.macs_store.specs.Halves.{IsNextCall}
use Rattle.macs_store.specs.Stepping.{Steps}
use Rattle.macs_store.specs.Value.{IsIdle, StoreValue, device_in, is_stopped}
use Rattle.macs_store.proofs.Turns.{rests-idle, rests-stopped}
use Rattle.macs_store.proofs.store.Store.step.Goals as goal

pub returns-then-is_stopped : goal.returns-then-is_stopped
returns-then-is_stopped g c =
    rests-stopped g.D.SectorDisk.disk c.args.self.now (sym c.is_stopped.ensures ∙ c.if-is_stopped.true)

pub returns-in_default : goal.returns-in_default
returns-in_default g c =
    let runs : is_stopped c.args.self.now ≡ false = sym c.is_stopped.ensures ∙ c.if-is_stopped.false in
    let idle : IsIdle c.args.self.now = elim (c.next_call.ensures.none.0 c.in_default.is) [
      | inl stopped ↦ absurd (let no : true ≡ false = sym stopped ∙ runs in cc)
      | inr idle ↦ idle
    ] in
    rests-idle g.D.SectorDisk.disk c.args.self.now runs idle

pub did_call-requires : goal.did_call-requires
did_call-requires g c = λ idle.
    let was : IsIdle c.args.self.now =
    subst (λ (s : StoreValue g.row.D.Denot). IsIdle s) (sym c.make-answer.ensures.same) idle in
    absurd (let none = c.next_call.ensures.none.1 (inr was) in cc)

pub returns : goal.returns
returns g c =
    let same = c.make-answer.ensures.same in
    let call : IsNextCall c.make-answer.new.self c.in-Some.call =
    subst (λ (s : StoreValue g.row.D.Denot). IsNextCall s c.in-Some.call) same c.in-Some.ensures.call in
    subst
    (λ (s : StoreValue g.row.D.Denot). Steps g.D.SectorDisk.disk s c.did_call.result c.did_call.new.self) (sym same)
    (c.did_call.ensures.steps (device_in c.args.self.now) c.in-Some.call call c.make-answer.ensures.made)
