use Rattle.std.proofs.Common.{◌∙◌, ℕ, List, [], ◌∷◌, inr, refl, subst}
use Rattle.macs_commands.specs.Talks.{Said}
use Rattle.macs_control.specs.Listening.{IsNoRequest}
use Rattle.macs_control.specs.Replies.{end_text}
use Rattle.macs_control.proofs.EndTexts.{end-2}
use Rattle.macs_control.proofs.Talking.{says}
use Rattle.macs_control.proofs.desk.answering.read.Goals as goal

pub returns-in-None-clause-reads : goal.returns-in-None-clause-reads
returns-in-None-clause-reads g c = (
  Said c.args.heard.now.client (end_text 2) ∷ [],
  inr (subst (λ (l : List ℕ). IsNoRequest l) c.as_slice.ensures.value c.in-None.ensures.read, refl, refl),
  says g.C.Clients.does c.args.clients.now c.say.new.self c.args.heard.now.client c.as_bytes.result.now (end_text 2)
      (c.as_bytes.ensures.value ∙ end-2) c.say.ensures,
)
