-- Each way in which a program may end passes the medium of its disk on.
use Rattle.std.proofs.Common.{◌≡◌, ◌≤◌, ◌&&◌, ◌∙◌, not, cond, ℕ, Bool, true, false, List, Result, Ok, Err, refl, sym}
use Rattle.std.proofs.Common.{ap, subst, le_refl}
use Rattle.macs_disk.specs.Disk.{Disk, IsDeviceCall, IsHonest, now, Works}
use Rattle.macs_disk.specs.States.{DiskState, Image, IsImage, IsSector, IsSound}
use Rattle.macs_disk.specs.declared.disk.DeviceFault.{DeviceFault}
use Rattle.macs_headline.specs.Deeds.{IsPassedOn}
use Rattle.macs_headline.specs.Endings.{DroppedPassOn, ImagesAreWhole, KillingsPassOn, LossesSettle, PowerLossesPassOn}
use Rattle.macs_headline.specs.Endings.{ReadsPassOn, SyncsPassOn, WrittenBackPassOn, state_written_back}
use Rattle.macs_headline.proofs.Losses.{settled-passed}

pub power-losses-pass-on : PowerLossesPassOn
power-losses-pass-on old new since lost =
    settled-passed old new since lost.image lost.left lost.alike.sectors lost.alike.honest lost.settled

pub killings-pass-on : KillingsPassOn
killings-pass-on old new since moment from to alike same = record {
  moment = moment;
  later = from;
  within = to;
  sectors = alike.sectors;
  honest = alike.honest;
  images = λ image left. subst (λ (s : DiskState). IsImage s image) same left;
}

pub dropped-pass-on : DroppedPassOn
dropped-pass-on old new alike same =
    killings-pass-on old new old.clock old.clock (le_refl old.clock) (le_refl old.clock) alike same

-- what ended in calls that came before others ended in the earlier ones: each end fits the work of its own moment
pub ends-are-earlier : (old ran new : Disk) (since : ℕ) → Works old ran → (p : IsPassedOn ran since new) → (from : ℕ)
    → from ≤ p.moment → p.moment ≤ old.clock → IsPassedOn old from new
ends-are-earlier old ran new since works passed from later within = record {
  moment = passed.moment;
  later = later;
  within = within;
  sectors = passed.sectors ∙ works.sectors;
  honest = passed.honest ∙ works.honest;
  images = λ image here.
      subst (λ (s : DiskState). IsImage s image) (works.past passed.moment within) (passed.images image here);
}

-- ---- sectors that reach the medium

kept_sector : (pending written : Bool) (seen durable octets : List ℕ) → (pending ≡ false → seen ≡ durable)
    → (pending && not written ≡ false → octets ≡ cond written seen durable) → pending ≡ false → octets ≡ durable
kept_sector false true seen durable octets fit kept is = kept refl ∙ fit refl
kept_sector false false seen durable octets fit kept is = kept refl
kept_sector true written seen durable octets fit kept is = absurd (cc)

whole_sector : (pending written : Bool) (seen durable octets : List ℕ) → IsSector seen
    → (pending && not written ≡ false → octets ≡ cond written seen durable)
    → (pending && not written ≡ true → IsSector octets) → pending ≡ true → IsSector octets
whole_sector true true seen durable octets sector kept whole is = subst IsSector (sym (kept refl)) sector
whole_sector true false seen durable octets sector kept whole is = whole refl
whole_sector false written seen durable octets sector kept whole is = absurd (cc)

-- it can leave what the state before could leave
written_image : (state : DiskState) (written : ℕ → Bool) (image : Image) → IsSound state
    → IsImage (state_written_back written state) image → IsImage state image
written_image state written image sound left = record {
  kept = λ i. kept_sector (state.pending i) (written i) (state.seen i) (state.durable i) (image i) (sound.fit.kept i)
      (left.kept i);
  whole = λ i. whole_sector (state.pending i) (written i) (state.seen i) (state.durable i) (image i) (sound.seen i)
      (left.kept i) (left.whole i);
}

-- ---- calls of the owner

module _ {D : Type 0} (disk_of : D → Disk) (sound : (it : D) → IsHonest (disk_of it) → IsSound (now (disk_of it))) where
  pub written-back-pass-on : WrittenBackPassOn disk_of
  written-back-pass-on old new written honest alike same =
      let now_old = now (disk_of old) in record {
        moment = (disk_of old).clock;
        later = le_refl (disk_of old).clock;
        within = le_refl (disk_of old).clock;
        sectors = alike.sectors;
        honest = alike.honest;
        images = λ image left. written_image now_old written image (sound old honest)
            (subst (λ (s : DiskState). IsImage s image) same left);
      }

  -- a call that changes nothing
  same_state : (old new : D) (result : Result (Unit {0}) DeviceFault) → IsDeviceCall (disk_of old) (disk_of new) result
      → now (disk_of new) ≡ now (disk_of old)
      → IsPassedOn (disk_of old) (disk_of old).clock (disk_of new)
  same_state old new result call same =
      dropped-pass-on (disk_of old) (disk_of new)
      (record { sectors = call.work.works.sectors; honest = call.work.works.honest }) same

  pub reads-pass-on : ReadsPassOn disk_of
  reads-pass-on old new at into result honest call reads = same_state old new result call reads.same

  pub syncs-pass-on : SyncsPassOn disk_of
  syncs-pass-on old new (Ok done) honest call syncs =
      let clock = (disk_of old).clock in
      settled-passed (disk_of old) (disk_of new) clock (now (disk_of old)).seen
      (clock, le_refl clock, le_refl clock, (sound old honest).fit)
      call.work.works.sectors call.work.works.honest syncs.ok
  syncs-pass-on old new (Err fault) honest call syncs = same_state old new (Err fault) call syncs.err

pub losses-settle : LossesSettle
losses-settle ran new since loses i = (
  ap (λ (s : DiskState). s.pending i) loses.settled,
  ap (λ (s : DiskState). s.seen i) loses.settled ∙ sym (ap (λ (s : DiskState). s.durable i) loses.settled),
)

pub images-are-whole : ImagesAreWhole
images-are-whole state image is i pending = ((is.whole i pending).size, (is.whole i pending).octets)
