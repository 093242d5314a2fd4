-- Device calls that write the bodies of an area, one by one.
use Rattle.std.proofs.Common.{◌≡◌, ◌≢◌, ◌<◌, ◌+◌, inl, inr, ℕ, refl, sym, ◌∙◌, ap, subst, arith, List, length, Result}
use Rattle.std.proofs.Common.{Ok, Err, OnOk}
use Rattle.std.proofs.lemmas.Bool.{cases_eq}
use Rattle.macs_disk.specs.Disk.{Disk, IsHonest, Works, Writes, now}
use Rattle.macs_disk.specs.States.{DiskState, state_after_write}
use Rattle.macs_disk.proofs.Images.{put-same}
use Rattle.macs_disk.proofs.Moments.{Works-on}
use Rattle.macs_record.specs.Decoding.{IsSectorOf}
use Rattle.macs_record.specs.Heads.{Head, IsHeadOf}
use Rattle.macs_record.specs.declared.record.Record.{Record}
use Rattle.macs_journal.specs.Areas.{head_body, slot_body}
use Rattle.macs_journal.specs.Stages.{AreBodiesWritten, IsBodyOf, IsCleared, IsFilling}
use Rattle.macs_journal.specs.Work.{IsSpared}
use Rattle.macs_journal.proofs.Spared.{Spared-on, Spared-seen}

-- what holds after any answer holds after one that is no error
pub always : {T E : Type 0} (answer : Result T E) (P : Type 0) → P → OnOk answer P
always (Ok x) P holds = holds
always (Err e) P holds = tt

-- a record that was written is read
pub written-record : {T E : Type 0} (d new : Disk) (at : ℕ) (r : Record) (answer : Result T E)
    → (IsHonest new → (octets : List ℕ) × IsSectorOf r octets × Writes (now d) (now new) at octets answer)
    → OnOk answer (IsHonest new → IsSectorOf r ((now new).seen at))
written-record d new at r (Ok x) does = λ honest.
    let (octets, is, writes) = does honest in
    subst (IsSectorOf r)
    (sym (ap (λ (s : DiskState). s.seen at) writes.ok ∙ put-same (now d).seen at at octets refl)) is
written-record d new at r (Err e) does = tt

-- the body of the head is written
pub head-written : (began d new : Disk) (area : ℕ) (head : Head) (records : List Record) (octets : List ℕ)
    → IsCleared began d area → Works d new → new.clock ≡ d.clock + 1
    → IsHeadOf head octets → now new ≡ state_after_write (now d) (head_body area) octets
    → ((i : ℕ) → i ≢ head_body area → IsSpared d new i)
    → AreBodiesWritten began new area head records 0
head-written began d new area head records octets at works one head_is is spares = record {
  mid = d;
  cleared = at;
  works = works;
  calls = omega (arith, one);
  head_is = subst (IsHeadOf head) (sym (ap (λ (s : DiskState). s.seen (head_body area)) is
      ∙ put-same (now d).seen (head_body area) (head_body area) octets refl)) head_is;
  bodies = λ slot lt. absurd (omega (arith, lt));
  others = λ i not_head no_body. spares i not_head;
}

-- the body of a slot is written
pub body-written : (began d new : Disk) (area : ℕ) (head : Head) (records : List Record) (slot : ℕ) (octets : List ℕ)
    → AreBodiesWritten began d area head records slot
    → Works d new → new.clock ≡ d.clock + 1
    → IsBodyOf records slot octets → now new ≡ state_after_write (now d) (slot_body area slot) octets
    → ((i : ℕ) → i ≢ slot_body area slot → IsSpared d new i)
    → AreBodiesWritten began new area head records (slot + 1)
body-written began d new area head records slot octets at works one body_is is spares =
    let seen-other : (i : ℕ) → i ≢ slot_body area slot
    → (now new).seen i ≡ (now d).seen i = λ i apart. Spared-seen d new i works (spares i apart) in
    record {
      mid = at.mid;
      cleared = at.cleared;
      works = Works-on at.mid d new at.works works;
      calls = (let was = at.calls in omega (arith, was, one));
      head_is = subst (IsHeadOf head) (sym (seen-other (head_body area) (omega arith))) at.head_is;
      bodies = λ j lt. elim (cases_eq j slot) [
        | inl here ↦ subst (λ (n : ℕ). IsBodyOf records n ((now new).seen (slot_body area n))) (sym here)
            (subst (IsBodyOf records slot) (sym (ap (λ (s : DiskState). s.seen (slot_body area slot)) is
            ∙ put-same (now d).seen (slot_body area slot) (slot_body area slot) octets refl)) body_is)
        | inr before ↦ subst (IsBodyOf records j) (sym (seen-other (slot_body area j) (omega (arith, before))))
            (at.bodies j (omega (arith, lt, before)))
      ];
      others = λ i not_head no_body.
          Spared-on at.mid d new i at.works works (at.others i not_head (λ j lt. no_body j (omega (arith, lt))))
          (spares i (no_body slot (omega arith)));
    }

-- whatever these calls answered
pub filling-first : (began d new : Disk) (area count : ℕ) → IsCleared began d area → Works d new
    → ((i : ℕ) → i ≢ head_body area → IsSpared d new i) → IsFilling began new area count
filling-first began d new area count at works spares =
    record { mid = d; cleared = at; works = works; others = λ i not_head no_body. spares i not_head }

pub filling-more : (began d new : Disk) (area : ℕ) (head : Head) (records : List Record) (slot : ℕ)
    → AreBodiesWritten began d area head records slot → slot < length records
    → Works d new → ((i : ℕ) → i ≢ slot_body area slot → IsSpared d new i) → IsFilling began new area (length records)
filling-more began d new area head records slot at lt works spares = record {
  mid = at.mid;
  cleared = at.cleared;
  works = Works-on at.mid d new at.works works;
  others = λ i not_head no_body.
      Spared-on at.mid d new i at.works works (at.others i not_head (λ j before. no_body j (omega (arith, before, lt))))
      (spares i (no_body slot lt));
}
