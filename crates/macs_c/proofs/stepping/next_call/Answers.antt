use Rattle.std.proofs.Common.{◌≡◌, ◌∙◌, inl, inr, true, false, refl, sym}
use Rattle.macs_c.proofs.stepping.next_call.Goals as goal

pub returns-in-Some : goal.returns-in-Some
returns-in-Some c =
    inr (
      c.in-Some.stepped,
      c.step_answer.ensures,
      c.in-Some.ensures.ended,
      c.begin.ensures.device,
      refl,
      c.say_done.ensures,
    )

pub returns-in_default-next_call : goal.returns-in_default-next_call
returns-in_default-next_call c =
    let begun = c.begin.ensures.begun c.in_default.is in
    elim (c.next_call.ensures.none.0 c.in_default-next_call.is) [
      | inl stopped ↦ absurd (let no : true ≡ false = sym stopped ∙ begun.running in cc)
      | inr idle ↦ absurd (begun.busy idle)
    ]

pub returns : goal.returns
returns c =
    inl (
      refl,
      c.begin.ensures.begun c.in_default.is,
      c.begin.ensures.device,
      refl,
      (
        c.in-Some-next_call.next,
        c.in-Some-next_call.ensures.call,
        c.in-Some-next_call.ensures.within,
        c.say.ensures,
      ),
    )
