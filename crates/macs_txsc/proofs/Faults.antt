-- Which fault comes first: those that lie in the frame, and then those that lie in the association.
use Rattle.std.proofs.Common.{rules, ◌≡◌, ◌∙◌, ℕ, ◌≤◌, ◌+◌, ◌^◌, arith, Bool, true, false, List, [], ◌∷◌, length, refl}
use Rattle.std.proofs.Common.{ap}
use Rattle.std.specs.Prelude.{◌==◌, ◌&&◌, not, nat_lt, Option, Some, None, is_none, get_or}
use Rattle.std.specs.Option.{option_map}
use Rattle.std.proofs.lemmas.Bool.Decides.{nat_tests}
use Rattle.macs_config.specs.Association.{is_confidential, is_end_station, offset_of}
use Rattle.macs_fields.specs.First.{first}
use Rattle.macs_fields.specs.Fields.{octets_of}
use Rattle.macs_frame.specs.Protection.{overhead, protected_frame}
use Rattle.macs_frame.specs.declared.tag.ScName.{ScName}
use Rattle.macs_frame.specs.declared.tag.SecTag.{SecTag}
use Rattle.macs_txsc.specs.declared.association.Association.{Association}
use Rattle.macs_txsc.specs.declared.channel.Tx.{Tx}
use Rattle.macs_txsc.specs.declared.fault.TxFault.{TxFault}
use Rattle.macs_txsc.specs.declared.fault.TxFault.TheVariants.{Runt, TooLong, ForeignSource, NoEncodingSa, Exhausted}
use Rattle.macs_txsc.specs.declared.fault.TxFault.TheVariants.{NoNumber}
use Rattle.macs_txsc.specs.Transmit.{Outgoing, TxSide, all_tx_faults, frame_of, is_at_ceiling, is_own_source}
use Rattle.macs_txsc.specs.Transmit.{is_used_up, name_in, next_outgoing, next_tag}
use Rattle.macs_txsc.specs.Value.{ceilings_of, sa_of, tx_side_of}

-- what lies in the frame, with its tests
abbrev pub frame_faults : TxSide → List ℕ → List (TxFault × Bool)
frame_faults side plain =
    (Runt, nat_lt (length plain) 14)
    ∷ (TooLong, nat_lt 9216 (length plain + overhead (name_in side.mode side.sci)))
    ∷ (ForeignSource, is_end_station side.mode && not (is_own_source side.sci plain))
    ∷ []

-- what lies in the association that frames go out under
abbrev pub association_faults : (ℕ → Option ℕ) → Option Outgoing → List (TxFault × Bool)
association_faults ceilings o =
    (NoEncodingSa, is_none o) ∷ (Exhausted, is_used_up o) ∷ (NoNumber, is_at_ceiling ceilings o) ∷ []

-- what lies in the numbers of an association
abbrev pub number_faults : ℕ → ℕ → List (TxFault × Bool)
number_faults next ceiling = (Exhausted, next == 2 ^ 32) ∷ (NoNumber, ceiling == next) ∷ []

front : (p q r : Bool) (rest : List (TxFault × Bool)) (fault : TxFault)
    → first ((Runt, p) ∷ (TooLong, q) ∷ (ForeignSource, r) ∷ []) ≡ Some fault
    → first ((Runt, p) ∷ (TooLong, q) ∷ (ForeignSource, r) ∷ rest) ≡ Some fault
front true q r rest fault is = is
front false true r rest fault is = is
front false false true rest fault is = is
front false false false rest fault is = search rules

back : (p q r : Bool) (rest : List (TxFault × Bool)) → first ((Runt, p) ∷ (TooLong, q) ∷ (ForeignSource, r) ∷ []) ≡ None
    → first ((Runt, p) ∷ (TooLong, q) ∷ (ForeignSource, r) ∷ rest) ≡ first rest
back true q r rest is = search rules
back false true r rest is = search rules
back false false true rest is = search rules
back false false false rest is = refl

-- a frame without faults is neither short nor long
pub has_length : (n m : ℕ) (r : Bool)
    → first ((Runt, nat_lt n 14) ∷ (TooLong, nat_lt 9216 m) ∷ (ForeignSource, r) ∷ []) ≡ None
    → (14 ≤ n) × (m ≤ 9216)
has_length n m r none = search (rules, nat_tests, arith)

-- a fault of the frame comes first
pub in_frame : (side : TxSide) (ceilings : ℕ → Option ℕ) (plain : List ℕ) (fault : TxFault)
    → first (frame_faults side plain) ≡ Some fault
    → first (all_tx_faults side ceilings plain) ≡ Some fault
in_frame side ceilings plain fault is = front _ _ _ (association_faults ceilings (next_outgoing side)) fault is

-- after a frame without faults come those of the association
pub behind : (side : TxSide) (ceilings : ℕ → Option ℕ) (plain : List ℕ) (o : Option Outgoing)
    → first (frame_faults side plain) ≡ None → next_outgoing side ≡ o
    → first (all_tx_faults side ceilings plain) ≡ first (association_faults ceilings o)
behind side ceilings plain o none is =
    back _ _ _ (association_faults ceilings (next_outgoing side)) none
    ∙ ap (λ x. first (association_faults ceilings x)) is

-- no association is chosen, or there is none at the number
pub unset : (t : Tx) → t.encoding ≡ None → next_outgoing (tx_side_of t) ≡ None
unset t encoding = rw encoding refl

pub vacant : (t : Tx) (an : ℕ) → t.encoding ≡ Some an → get_or t.associations an None ≡ None
    → next_outgoing (tx_side_of t) ≡ None
vacant t an encoding place = rw (encoding, place) refl

-- the association that frames go out under
pub chosen : (t : Tx) (an : ℕ) (a : Association) → t.encoding ≡ Some an → get_or t.associations an None ≡ Some a
    → next_outgoing (tx_side_of t) ≡ Some (record { an = an; sa = sa_of a; pn = a.next })
chosen t an a encoding place = rw (encoding, place) refl

-- after a frame without faults come those of the numbers of the association
pub in_numbers : (t : Tx) (plain : List ℕ) (an : ℕ) (a : Association) → first (frame_faults (tx_side_of t) plain) ≡ None
    → t.encoding ≡ Some an
    → get_or t.associations an None ≡ Some a
    → first (all_tx_faults (tx_side_of t) (ceilings_of t) plain) ≡ first (number_faults a.next a.ceiling)
in_numbers t plain an a none encoding place =
    let o : Outgoing = record { an = an; sa = sa_of a; pn = a.next } in
    let numbers : first (association_faults (ceilings_of t) (Some o)) ≡ first (number_faults a.next a.ceiling) =
    rw place refl in
    behind (tx_side_of t) (ceilings_of t) plain (Some o) none (chosen t an a encoding place) ∙ numbers

-- the SecTAG that an association writes is that of the next frame
pub tagged : (t : Tx) (an : ℕ) (a : Association) (pn : ℕ) (name : ScName) (tag : SecTag) → t.encoding ≡ Some an
    → get_or t.associations an None ≡ Some a → pn ≡ a.next → name ≡ name_in t.mode t.sci
    → tag ≡ record {
      an = an;
      pn = pn;
      name = name;
      encrypted = is_confidential a.protection;
      changed = is_confidential a.protection;
    } → next_tag (tx_side_of t) ≡ Some tag
tagged t an a pn name tag encoding place number named is = rw (encoding, place, is, number, named) refl

-- the frame that an association makes is the one that goes out
pub goes_out : (t : Tx) (an : ℕ) (a : Association) (pn : ℕ) (name : ScName) (plain out : List ℕ) → t.encoding ≡ Some an
    → get_or t.associations an None ≡ Some a → pn ≡ a.next → name ≡ name_in t.mode t.sci
    → out ≡ protected_frame a.key t.sci (record {
      an = an;
      pn = pn;
      name = name;
      encrypted = is_confidential a.protection;
      changed = is_confidential a.protection;
    }) (octets_of (offset_of a.protection)) plain
    → option_map (λ (o : Outgoing). frame_of (tx_side_of t) o plain) (next_outgoing (tx_side_of t)) ≡ Some out
goes_out t an a pn name plain out encoding place number named is = rw (encoding, place, is, number, named) refl
