use Rattle.std.proofs.Common.{◌≡◌, ◌∙◌, ◌<◌, ℕ, List, Option, Some, None, get_or, length, refl, ap, subst, arith}
use Rattle.std.proofs.lemmas.List.{get_or_default, set-get_or}
use Rattle.std.specs.Option.{option_map}
use Rattle.macs_frame.specs.Tag.{tag_of}
use Rattle.macs_frame.specs.declared.tag.SecTag.{SecTag}
use Rattle.macs_rxsc.proofs.Shown.{decided_same, decided_some}
use Rattle.macs_rxsc.proofs.Steps.{first_no_association, settles_bare}
use Rattle.macs_rxsc.specs.Receive.{NoAssociation, Numbers}
use Rattle.macs_rxsc.specs.Value.{numbers_in, packet_numbers, sa_of}
use Rattle.macs_rxsc.specs.declared.association.Association.{Association}
use Rattle.macs_rxsc.specs.declared.channel.Channel.{Channel}
use Rattle.macs_rxsc.specs.declared.verdict.Kind.TheVariants.{UnusedSa}
use Rattle.macs_rxsc.specs.declared.verdict.Reason.TheVariants.{NotUsingSa}
use Rattle.macs_rxsc.proofs.channel.Channel.decide.Goals as goal

pub returns-in-Some-clause-verdict : goal.returns-in-Some-clause-verdict
returns-in-Some-clause-verdict c = λ side ceilings v r ch rx nu ce.
    let an : c.get.result ≡ (tag_of c.args.frame.now).an = c.get.ensures.value
    ∙ ap (λ (t : SecTag). t.an) c.requires.read.0.reading.tag in
    let within : c.get.result < length c.args.self.now.associations = omega arith in
    let read : get_or c.args.self.now.associations c.get.result c.index-self-get.result
    ≡ Some c.in-Some.association = cc in
    let place = get_or_default c.args.self.now.associations c.get.result None c.index-self-get.result within ∙ read in
    let there = subst (λ n. get_or c.args.self.now.associations n None ≡ Some c.in-Some.association) an place in
    decided_some side ceilings c.args.frame.now c.args.self.now c.get.result (tag_of c.args.frame.now).an _ _ _
    an within nu
    (c.receive.ensures.verdict side ceilings v r ch
    (ap (λ f. f (tag_of c.args.frame.now).an) rx ∙ ap (option_map sa_of) there)
    (ap (λ f. f (tag_of c.args.frame.now).an) nu ∙ ap (option_map packet_numbers) there)
    (ap (λ f. f (tag_of c.args.frame.now).an) ce ∙ ap (option_map (λ (a : Association). a.ceiling)) there))

-- the numbers of a channel with these associations in the place of its own
abbrev numbers_with : Channel → List (Option Association) → ℕ → Option Numbers
numbers_with channel associations = numbers_in (Some (record channel { associations = associations }))

pub returns-in-None-clause-verdict : goal.returns-in-None-clause-verdict
returns-in-None-clause-verdict c = λ side ceilings v r ch rx nu ce.
    let an : c.get.result ≡ (tag_of c.args.frame.now).an = c.get.ensures.value
    ∙ ap (λ (t : SecTag). t.an) c.requires.read.0.reading.tag in
    let within : c.get.result < length c.args.self.now.associations = omega arith in
    let read : get_or c.args.self.now.associations c.get.result c.index-self-get.result ≡ None = cc in
    let place = get_or_default c.args.self.now.associations c.get.result None c.index-self-get.result within ∙ read in
    let there = subst (λ n. get_or c.args.self.now.associations n None ≡ None) an place in
    settles_bare side ceilings c.args.frame.now NoAssociation NotUsingSa UnusedSa c.args.policy.validate
    (first_no_association side c.args.frame.now c.args.parts.now c.requires.read c.args.self.now.sci ch
    (ap (λ f. f (tag_of c.args.frame.now).an) rx ∙ ap (option_map sa_of) there))
    refl refl v _ _ _ c.discard_or_deliver.ensures.verdict c.discard_or_deliver.ensures.given
    (decided_same side c.args.self.now _ (ap (numbers_with c.args.self.now)
    (set-get_or c.args.self.now.associations c.get.result c.index-self-get.result)) nu)
