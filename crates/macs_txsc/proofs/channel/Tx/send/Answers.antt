use Rattle.std.proofs.Common.{◌≡◌, ◌∙◌, ◌<◌, ◌+◌, rules, length, refl, sym, ap, subst, ℕ, List, slice_set}
use Rattle.std.specs.Prelude.{Some, None, IfErr, get_or, Option}
use Rattle.std.specs.Option.{option_map}
use Rattle.std.proofs.lemmas.List.{get_or_default}
use Rattle.macs_config.specs.Tables.{put}
use Rattle.macs_config.specs.declared.association.TxSa.{TxSa}
use Rattle.macs_config.proofs.Tables.{put-placed}
use Rattle.macs_txsc.specs.Transmit.{TxSide, side_after, side_after_frame}
use Rattle.macs_txsc.specs.declared.association.Association.{Association}
use Rattle.macs_txsc.specs.declared.channel.Tx.{Tx}
use Rattle.macs_txsc.proofs.channel.Tx.send.Goals as goal
use Rattle.macs_config.specs.Association.{offset_of}
use Rattle.macs_fields.specs.Fields.{octets_of}
use Rattle.macs_frame.specs.Protection.{protected_frame}
use Rattle.macs_frame.specs.declared.tag.SecTag.{SecTag}
use Rattle.macs_txsc.proofs.Faults.{behind, goes_out, has_length, in_frame, in_numbers, tagged, unset, vacant, chosen}
use Rattle.macs_txsc.specs.Value.{ceilings_of, sa_of, tx_side_of}

-- ---- the places of the associations after one of them has changed, and the answer to a frame

-- what each place says of what is there
abbrev said : {A B : Type 0} → (A → B) → List (Option A) → ℕ → Option B
said f xs j = option_map f (get_or xs j None)

-- there is nothing at a place, whatever is read where nothing is
is_free : {A : Type 0} (xs : List (Option A)) (i : ℕ) (otherwise : Option A) → i < length xs
    → get_or xs i otherwise ≡ None → get_or xs i None ≡ None
is_free xs i otherwise within is = get_or_default xs i None otherwise within ∙ is

-- what is at a place, whatever is read where nothing is
stands : {A : Type 0} (xs : List (Option A)) (i : ℕ) (otherwise : Option A) (a : A) → i < length xs
    → get_or xs i otherwise ≡ Some a
    → get_or xs i None ≡ Some a
stands xs i otherwise a within is = get_or_default xs i None otherwise within ∙ is

-- after one place got another association, of which it says the same
kept : {A B : Type 0} (f : A → B) (xs : List (Option A)) (i : ℕ) (old new : A) → i < length xs
    → get_or xs i None ≡ Some old → f new ≡ f old
    → said f (slice_set xs i (Some new)) ≡ said f xs
kept f xs i old new within is same = search rules

-- the channel after the number of the association that frames go out under is used
sent : (t : Tx) (an : ℕ) (old new : Association) → t.encoding ≡ Some an → an < length t.associations
    → get_or t.associations an None ≡ Some old
    → sa_of new ≡ sa_of old → new.next ≡ old.next + 1
    → tx_side_of (record t { associations = slice_set t.associations an (Some new) }) ≡ side_after_frame (tx_side_of t)
sent t an old new encoding within place sa next =
    let side : TxSide = tx_side_of t in
    let outgoing_is = chosen t an old encoding place in
    let sas : said sa_of (slice_set t.associations an (Some new)) ≡ said sa_of t.associations =
    kept sa_of t.associations an old new within place sa in
    let numbers : said (λ (a : Association). a.next) (slice_set t.associations an (Some new))
    ≡ put side.next an (Some (old.next + 1)) =
    put-placed (λ (a : Association). a.next) t.associations an new within ∙ ap (λ n. put side.next an (Some n)) next in
    let changed : (x : ℕ → Option TxSa) (y : ℕ → Option ℕ) → x ≡ side.tx → y ≡ put side.next an (Some (old.next + 1))
    → record side { tx = x; next = y } ≡ record side { next = put side.next an (Some (old.next + 1)) } =
    λ x y p q. rw (p, q) refl in
    changed _ _ sas numbers ∙ ap (side_after side) (sym outgoing_is)

pub returns-in-Some-clause-fault : goal.returns-in-Some-clause-fault
returns-in-Some-clause-fault c =
    in_frame (tx_side_of c.args.self.now) (ceilings_of c.args.self.now) c.args.plain.now c.in-Some.fault
    (sym c.frame_fault.ensures ∙ c.in-Some.is)

pub returns-in_default-encoding-clause-fault : goal.returns-in_default-encoding-clause-fault
returns-in_default-encoding-clause-fault c =
    behind (tx_side_of c.args.self.now) (ceilings_of c.args.self.now) c.args.plain.now None
    (sym c.frame_fault.ensures ∙ c.in_default.is)
    (unset c.args.self.now c.in_default-encoding.is)

pub returns-in_default-associations-clause-fault : goal.returns-in_default-associations-clause-fault
returns-in_default-associations-clause-fault c =
    let within : c.get.result < length c.args.self.now.associations = search rules in
    let free =
    is_free c.args.self.now.associations c.get.result c.index-self-get.result within c.in_default-associations.is in
    behind (tx_side_of c.args.self.now) (ceilings_of c.args.self.now) c.args.plain.now None
    (sym c.frame_fault.ensures ∙ c.in_default.is)
    (vacant c.args.self.now c.get.result (c.in-Some-encoding.is ∙ ap Some (sym c.get.ensures.value)) free)

pub returns-in_err-pn-clause-fault : goal.returns-in_err-pn-clause-fault
returns-in_err-pn-clause-fault c =
    let within : c.get.result < length c.args.self.now.associations = search rules in
    let here = stands c.args.self.now.associations c.get.result c.index-self-get.result
    c.in-Some-associations.association within c.in-Some-associations.is in
    let numbers = in_numbers c.args.self.now c.args.plain.now c.get.result c.in-Some-associations.association
    (sym c.frame_fault.ensures ∙ c.in_default.is)
    (c.in-Some-encoding.is ∙ ap Some (sym c.get.ensures.value)) here in
    subst (λ found. IfErr c.from_residual.result (λ fault. found ≡ Some fault)) (sym numbers) (search rules)

pub returns-clause-none : goal.returns-clause-none
returns-clause-none c =
    let within : c.get.result < length c.args.self.now.associations = search rules in
    let here = stands c.args.self.now.associations c.get.result c.index-self-get.result
    c.in-Some-associations.association within c.in-Some-associations.is in
    in_numbers c.args.self.now c.args.plain.now c.get.result c.in-Some-associations.association
    (sym c.frame_fault.ensures ∙ c.in_default.is)
    (c.in-Some-encoding.is ∙ ap Some (sym c.get.ensures.value)) here ∙ c.in_ok-pn.ensures.none

pub returns-clause-tag : goal.returns-clause-tag
returns-clause-tag c =
    let within : c.get.result < length c.args.self.now.associations = search rules in
    let here = stands c.args.self.now.associations c.get.result c.index-self-get.result
    c.in-Some-associations.association within c.in-Some-associations.is in
    let there = subst (λ an. get_or c.args.self.now.associations an None ≡ Some c.in-Some-associations.association)
    c.get.ensures.value here in
    tagged c.args.self.now c.in-Some-encoding.an c.in-Some-associations.association c.in_ok-pn.pn c.name-name.result
    c.seal.result
    c.in-Some-encoding.is there c.in_ok-pn.ensures.value c.name-name.ensures c.seal.ensures.tag

pub returns-clause-frame : goal.returns-clause-frame
returns-clause-frame c =
    let within : c.get.result < length c.args.self.now.associations = search rules in
    let here = stands c.args.self.now.associations c.get.result c.index-self-get.result
    c.in-Some-associations.association within c.in-Some-associations.is in
    let there = subst (λ an. get_or c.args.self.now.associations an None ≡ Some c.in-Some-associations.association)
    c.get.ensures.value here in
    goes_out c.args.self.now c.in-Some-encoding.an c.in-Some-associations.association c.in_ok-pn.pn c.name-name.result
    c.args.plain.now c.seal.new.out.items
    c.in-Some-encoding.is there c.in_ok-pn.ensures.value c.name-name.ensures
    (c.seal.ensures.frame ∙ ap (λ (tag : SecTag). protected_frame c.in-Some-associations.association.key
    c.args.self.now.sci tag (octets_of (offset_of c.in-Some-associations.association.protection)) c.args.plain.now)
    c.seal.ensures.tag)

pub returns-clause-sent : goal.returns-clause-sent
returns-clause-sent c =
    let same : sa_of c.seal.new.self ≡ sa_of c.in-Some-associations.association =
    rw (c.seal.ensures.key, c.seal.ensures.protection) refl in
    let within : c.get.result < length c.args.self.now.associations = search rules in
    let here = stands c.args.self.now.associations c.get.result c.index-self-get.result
    c.in-Some-associations.association within c.in-Some-associations.is in
    sent c.args.self.now c.get.result c.in-Some-associations.association c.seal.new.self (search rules) within here same
    c.seal.ensures.next

pub returns-clause-ceilings : goal.returns-clause-ceilings
returns-clause-ceilings c =
    let within : c.get.result < length c.args.self.now.associations = search rules in
    let here = stands c.args.self.now.associations c.get.result c.index-self-get.result
    c.in-Some-associations.association within c.in-Some-associations.is in
    kept _ c.args.self.now.associations c.get.result c.in-Some-associations.association c.seal.new.self within here
    c.seal.ensures.ceiling

pub seal-requires-clause-long_enough : goal.seal-requires-clause-long_enough
seal-requires-clause-long_enough c = (has_length _ _ _ (sym c.frame_fault.ensures ∙ c.in_default.is)).0

pub seal-requires-clause-fits : goal.seal-requires-clause-fits
seal-requires-clause-fits c = rw c.name-name.ensures (has_length _ _ _ (sym c.frame_fault.ensures ∙ c.in_default.is)).1
