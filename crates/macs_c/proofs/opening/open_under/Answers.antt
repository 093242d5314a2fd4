use Rattle.std.proofs.Common.{◌<◌, refl, length, subst}
use Rattle.macs_aes.specs.Keys.{octets_of_key}
use Rattle.macs_fields.specs.Fields.{octets_of}
use Rattle.macs_c.proofs.Refused.{faultless, little_room}
use Rattle.macs_c.specs.Refusals.{IsFault}
use Rattle.macs_c.proofs.opening.open_under.Goals as goal

pub returns-in-Err-clause-refused : goal.returns-in-Err-clause-refused
returns-in-Err-clause-refused c =
    let why = (c.in-Err.ensures.fault c.in-Err.fault).0 refl in
    c.refusal_of.ensures c.args.frame.now (octets_of_key c.args.key.now) c.args.sci (octets_of c.args.offset)
    (length c.args.out.now)
    (subst (λ k. IsFault c.args.frame.now k c.args.sci (octets_of c.args.offset) c.in-Err.fault) c.new.ensures why)

pub returns-in-Ok-put-clause-faultless : goal.returns-in-Ok-put-clause-faultless
returns-in-Ok-put-clause-faultless c =
    faultless c.args.frame.now c.new.result (octets_of_key c.args.key.now) c.args.sci (octets_of c.args.offset)
    c.open_frame.result _ c.in-Ok.is c.new.ensures
    c.open_frame.ensures.fault

pub returns-in-Err-put-clause-refused : goal.returns-in-Err-put-clause-refused
returns-in-Err-put-clause-refused c =
    little_room c.args.frame.now c.new.result (octets_of_key c.args.key.now) c.args.sci (octets_of c.args.offset)
    (length c.args.out.now)
    c.open_frame.new.out.items c.in-Err-put.refusal c.in-Err-put.ensures.refused c.new.ensures
    (faultless c.args.frame.now c.new.result (octets_of_key c.args.key.now) c.args.sci (octets_of c.args.offset)
    c.open_frame.result _ c.in-Ok.is c.new.ensures
    c.open_frame.ensures.fault)
    c.in-Ok.ensures.opened
    (subst (λ p. length c.args.out.now < length p) c.as_slice.ensures.value c.in-Err-put.ensures.room)
