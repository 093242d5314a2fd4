-- What a disk stands for.
use Rattle.std.proofs.Common.{◌≡◌, ◌<◌, ◌≤◌, inl, inr, ℕ, zero, suc, List, Ok, Err, Result, refl, sym, ap, arith}
use Rattle.macs_disk.specs.States.{Image}
use Rattle.macs_record.specs.Heads.{Head}
use Rattle.macs_record.specs.declared.record.Record.{Record}
use Rattle.macs_journal.specs.Areas.{least_sectors, other_area, slots}
use Rattle.macs_journal.specs.Found.{Content, HasHead, HasJournal, IsBadJournal, IsCurrent, IsHeadless, JournalIs}
use Rattle.macs_journal.specs.Recovery.{AreRecords, IsCountOf}
use Rattle.macs_journal.specs.declared.fault.JournalFault.{JournalFault}
use Rattle.macs_journal.specs.declared.fault.JournalFault.TheVariants.{Stopped, TooSmall, Disk, AlreadyFormatted}
use Rattle.macs_journal.specs.declared.fault.JournalFault.TheVariants.{NotFormatted, BadJournal, GenerationsSpent}
use Rattle.macs_journal.proofs.Current.{bad_not_blank, current, not_blank, not_both, one_content, one_current}

-- the content that was read is found
pub read_found : (image : Image) (area free : ℕ) (head : Head) (records : List Record) → IsCurrent image area head
    → IsCountOf image area head.count slots free → AreRecords image area free records
    → HasJournal image (record { area = area; head = head; records = records })
read_found image area free head records is counts are =
    let size = are.count in
    record {
      stands = record {
        area = is.is_area;
        head = is.has;
        snapshot = omega (arith, size, counts.least);
        few = omega (arith, size, counts.most);
        opened = λ j from lt. counts.opened j from (omega (arith, lt, size));
        closed = λ j from lt. counts.closed j (omega (arith, from, size)) lt;
        bodies = are.bodies;
      };
      past = is.past;
    }

-- ---- one finding

small : (sectors : ℕ) (image : Image) (found : Result Content JournalFault) → sectors < 1028
    → JournalIs sectors image found → found ≡ Err TooSmall
small sectors image (Ok c) less is = absurd (let large = is.0 in omega (arith, less, large))
small sectors image (Err Stopped) less is = absurd is
small sectors image (Err TooSmall) less is = refl
small sectors image (Err Disk) less is = absurd is
small sectors image (Err AlreadyFormatted) less is = absurd is
small sectors image (Err NotFormatted) less is = absurd (let large = is.0 in omega (arith, less, large))
small sectors image (Err BadJournal) less is = absurd (let large = is.0 in omega (arith, less, large))
small sectors image (Err GenerationsSpent) less is = absurd is

pub one_finding : (sectors : ℕ) (image : Image) (a b : Result Content JournalFault) → JournalIs sectors image a
    → JournalIs sectors image b → a ≡ b
one_finding sectors image (Err Stopped) b is_a is_b = absurd is_a
one_finding sectors image (Err Disk) b is_a is_b = absurd is_a
one_finding sectors image (Err AlreadyFormatted) b is_a is_b = absurd is_a
one_finding sectors image (Err GenerationsSpent) b is_a is_b = absurd is_a
one_finding sectors image (Err TooSmall) b is_a is_b = sym (small sectors image b is_a is_b)
one_finding sectors image (Ok c) (Ok d) is_a is_b = ap Ok (one_content image c d is_a.1 is_b.1)
one_finding sectors image (Ok c) (Err Stopped) is_a is_b = absurd is_b
one_finding sectors image (Ok c) (Err TooSmall) is_a is_b = small sectors image (Ok c) is_b is_a
one_finding sectors image (Ok c) (Err Disk) is_a is_b = absurd is_b
one_finding sectors image (Ok c) (Err AlreadyFormatted) is_a is_b = absurd is_b
one_finding sectors image (Ok c) (Err GenerationsSpent) is_a is_b = absurd is_b
one_finding sectors image (Ok c) (Err NotFormatted) is_a is_b =
    absurd (not_blank image c.area is_a.1.stands.area is_a.1.stands.head.open_gate is_b.1)
one_finding sectors image (Ok c) (Err BadJournal) is_a is_b = absurd (not_both image is_b.1 c is_a.1)
one_finding sectors image (Err NotFormatted) (Ok d) is_a is_b =
    absurd (not_blank image d.area is_b.1.stands.area is_b.1.stands.head.open_gate is_a.1)
one_finding sectors image (Err NotFormatted) (Err Stopped) is_a is_b = absurd is_b
one_finding sectors image (Err NotFormatted) (Err TooSmall) is_a is_b = small sectors image (Err NotFormatted) is_b is_a
one_finding sectors image (Err NotFormatted) (Err Disk) is_a is_b = absurd is_b
one_finding sectors image (Err NotFormatted) (Err AlreadyFormatted) is_a is_b = absurd is_b
one_finding sectors image (Err NotFormatted) (Err GenerationsSpent) is_a is_b = absurd is_b
one_finding sectors image (Err NotFormatted) (Err NotFormatted) is_a is_b = refl
one_finding sectors image (Err NotFormatted) (Err BadJournal) is_a is_b = absurd (bad_not_blank image is_b.1 is_a.1)
one_finding sectors image (Err BadJournal) (Ok d) is_a is_b = absurd (not_both image is_a.1 d is_b.1)
one_finding sectors image (Err BadJournal) (Err Stopped) is_a is_b = absurd is_b
one_finding sectors image (Err BadJournal) (Err TooSmall) is_a is_b = small sectors image (Err BadJournal) is_b is_a
one_finding sectors image (Err BadJournal) (Err Disk) is_a is_b = absurd is_b
one_finding sectors image (Err BadJournal) (Err AlreadyFormatted) is_a is_b = absurd is_b
one_finding sectors image (Err BadJournal) (Err GenerationsSpent) is_a is_b = absurd is_b
one_finding sectors image (Err BadJournal) (Err NotFormatted) is_a is_b = absurd (bad_not_blank image is_a.1 is_b.1)
one_finding sectors image (Err BadJournal) (Err BadJournal) is_a is_b = refl

-- ---- spoiled heads

-- a bad journal is found as such alone
pub bad_alone : (sectors : ℕ) (image : Image) (found : Result Content JournalFault) → IsBadJournal image
    → least_sectors ≤ sectors
    → JournalIs sectors image found → found ≡ Err BadJournal
bad_alone sectors image found bad large is = one_finding sectors image found (Err BadJournal) is (large, bad)

-- a journal is bad where either area has an open head gate without a head
pub headless_at : (image : Image) (area : ℕ) → area ≤ 1 → IsHeadless image area → IsBadJournal image
headless_at image zero within lacks = inl (inl lacks)
headless_at image (suc zero) within lacks = inl (inr lacks)
headless_at image (suc (suc more)) within lacks = absurd (omega (arith, within))

-- of two heads of one journal the later one is found
pub later_found : (image : Image) (area : ℕ) (c : Content) (head before : Head) → area ≤ 1 → HasHead image area head
    → HasHead image (other_area area) before → before.generation < head.generation → before.identity ≡ head.identity
    → HasJournal image c → (c.area ≡ area) × (c.head ≡ head)
later_found image area c head before within has other less same found =
    one_current image c.area area c.head head (current image c found) (record {
      is_area = within;
      has = has;
      past = λ open_gate. record { past = before; is = other.is; earlier = less; same = same };
    })
