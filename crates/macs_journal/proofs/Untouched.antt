-- Calls that change nothing, and a first call with others after it that change nothing.
use Rattle.std.proofs.Common.{◌≡◌, ◌⊎◌, inl, inr, ℕ, sym, ◌∙◌, ap, subst, arith, List, Result}
use Rattle.std.proofs.lemmas.Bool.{cases_lt}
use Rattle.macs_disk.specs.States.{DiskState, IsImage, IsSound, state_after_sync}
use Rattle.macs_disk.specs.Disk.{Disk, IsDeviceCall, Reads, Syncs, Works, now}
use Rattle.macs_disk.specs.Runs.{LeavesNothingNew}
use Rattle.macs_disk.proofs.Calls.{sync-leaves}
use Rattle.macs_disk.proofs.Moments.{Nothing-join, Works-start}
use Rattle.macs_journal.specs.Opening.{StandsFromFirst}
use Rattle.macs_journal.specs.Work.{IsSpared, IsUntouched, MayHold}
use Rattle.macs_journal.proofs.Spared.{Spared-on, Spared-sync, synced-holds}

-- before the first call
pub untouched-start : (d : Disk) → IsUntouched d d
untouched-start d k from until =
    let at_now : k ≡ d.clock = omega (arith, from, until) in
    ap d.past at_now

-- runs one after the other
pub untouched-on : (old mid new : Disk) → Works old mid → Works mid new → IsUntouched old mid → IsUntouched mid new
    → IsUntouched old new
untouched-on old mid new to_mid to_new first second k from until = elim (cases_lt mid.clock k) [
  | inl after ↦ second k (omega (arith, after)) until ∙ first mid.clock to_mid.later (omega arith)
  | inr before ↦ to_new.past k before ∙ first k from before
]

-- one read
pub read-untouched : {T E : Type 0} (old new : Disk) (at : ℕ) (into : List ℕ) (result : Result T E)
    → IsDeviceCall old new result → Reads (now old) (now new) at into result → IsUntouched old new
read-untouched old new at into result call reads k from until = elim (cases_lt old.clock k) [
  | inl after ↦
      let at_new : k ≡ new.clock = omega (arith, until, after, call.at_most_one) in
      ap new.past at_new ∙ reads.same
  | inr before ↦
      let at_old : k ≡ old.clock = omega (arith, from, before) in
      call.work.works.past k before ∙ ap old.past at_old
]

-- the disk is now as it was
pub untouched-now : (old new : Disk) → Works old new → IsUntouched old new → now new ≡ now old
untouched-now old new works untouched = untouched new.clock works.later (omega arith)

-- nothing new is left
pub untouched-leaves : (old new : Disk) → Works old new → IsUntouched old new → LeavesNothingNew old new
untouched-leaves old new works untouched = record {
  works = works;
  each = λ image left. subst (λ (s : DiskState). IsImage s image) (untouched left.0 left.1 left.2) left.3;
}

-- each sector is left alone
pub untouched-spared : (old new : Disk) (i : ℕ) → IsUntouched old new → IsSpared old new i
untouched-spared old new i untouched = record {
  reads = λ k from until. ap (λ (s : DiskState). s.seen i) (untouched k from until);
  leaves = λ k from until octets holds. subst (λ (s : DiskState). MayHold s i octets) (untouched k from until) holds;
}

-- ---- a first call, with others after it that change nothing

pub stands-from-first : {T E : Type 0} (old mid new : Disk) (result : Result T E) → IsDeviceCall old mid result
    → Works mid new → IsUntouched mid new → StandsFromFirst old new
stands-from-first old mid new result call works untouched k after until =
    untouched k (omega (arith, after, call.at_most_one)) until ∙ sym (untouched-now mid new works untouched)

-- with none after it
pub stands-after-one : {T E : Type 0} (old new : Disk) (result : Result T E) → IsDeviceCall old new result
    → StandsFromFirst old new
stands-after-one old new result call = stands-from-first old new new result call (Works-start new) (untouched-start new)

-- a sync leaves nothing new
pub synced-leaves : {T E : Type 0} (old mid new : Disk) (result : Result T E) → IsSound (now old)
    → IsDeviceCall old mid result → Syncs (now old) (now mid) result
    → Works mid new → IsUntouched mid new → LeavesNothingNew old new
synced-leaves old mid new result sound call syncs works untouched =
    Nothing-join old mid new (sync-leaves old mid result sound call syncs) (untouched-leaves mid new works untouched)

-- and leaves each sector alone
pub synced-spared : {T E : Type 0} (old mid new : Disk) (result : Result T E) (i : ℕ) → IsSound (now old)
    → IsDeviceCall old mid result → Syncs (now old) (now mid) result
    → Works mid new → IsUntouched mid new → IsSpared old new i
synced-spared old mid new result i sound call syncs works untouched =
    Spared-on old mid new i call.work.works works (Spared-sync old mid result i sound call syncs)
    (untouched-spared mid new i untouched)

-- ---- a disk that is as it was before its first call, or synced

abbrev IsAsSynced : DiskState → DiskState → Type 0
IsAsSynced old new = (new ≡ old) ⊎ (new ≡ state_after_sync old)

synced_seen : (old new : DiskState) (i : ℕ) → IsAsSynced old new → new.seen i ≡ old.seen i
synced_seen old new i (inl same) = ap (λ (s : DiskState). s.seen i) same
synced_seen old new i (inr synced) = ap (λ (s : DiskState). s.seen i) synced

synced_left : (old new : DiskState) (i : ℕ) (octets : List ℕ) → IsSound old → IsAsSynced old new → MayHold new i octets
    → MayHold old i octets
synced_left old new i octets sound (inl same) holds = subst (λ (s : DiskState). MayHold s i octets) same holds
synced_left old new i octets sound (inr synced) holds =
    synced-holds old i octets sound (subst (λ (s : DiskState). MayHold s i octets) synced holds)

-- each sector is left alone by calls of which the first left it so, and the others changed nothing
pub spared-from-first : (old new : Disk) (i : ℕ) → IsSound (now old) → Works old new → StandsFromFirst old new
    → IsAsSynced (now old) (now new) → IsSpared old new i
spared-from-first old new i sound works stands left = record {
  reads = λ k from until. elim (cases_lt old.clock k) [
    | inl after ↦ ap (λ (s : DiskState). s.seen i) (stands k after until) ∙ synced_seen (now old) (now new) i left
    | inr before ↦
        let at_old : k ≡ old.clock = omega (arith, from, before) in
        ap (λ (s : DiskState). s.seen i) (works.past k before ∙ ap old.past at_old)
  ];
  leaves = λ k from until octets holds. elim (cases_lt old.clock k) [
    | inl after ↦ synced_left (now old) (now new) i octets sound left
        (subst (λ (s : DiskState). MayHold s i octets) (stands k after until) holds)
    | inr before ↦
        let at_old : k ≡ old.clock = omega (arith, from, before) in
        subst (λ (s : DiskState). MayHold s i octets) (works.past k before ∙ ap old.past at_old) holds
  ];
}
