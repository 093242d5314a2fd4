-- How calls of a disk follow one another.
use Rattle.std.proofs.Common.{◌≡◌, ◌≤◌, inl, inr, ℕ, refl, ◌∙◌, subst, arith, Result}
use Rattle.std.proofs.lemmas.Bool.{cases_lt}
use Rattle.macs_disk.specs.States.{Image, DiskState, IsImage}
use Rattle.macs_disk.specs.Disk.{Disk, now, LeftSince, Works, FailsOnce, IsDeviceCall}
use Rattle.macs_disk.specs.Runs.{Leaves, LeavesNothingNew}

-- before the first call
pub Works-start : (d : Disk) → Works d d
Works-start d = record {
  later = omega arith;
  past = λ k le. refl;
  failures = omega arith;
  worn = λ is. is;
  sectors = refl;
  honest = refl;
}

-- runs one after the other
pub Works-on : (old mid new : Disk) → Works old mid → Works mid new → Works old new
Works-on old mid new first second = record {
  later = omega (arith, first.later, second.later);
  past = λ k le. second.past k (omega (arith, le, first.later)) ∙ first.past k le;
  failures = omega (arith, first.failures, second.failures);
  worn = λ is. second.worn (first.worn is);
  sectors = second.sectors ∙ first.sectors;
  honest = second.honest ∙ first.honest;
}

pub FailsOnce-before : (old mid new : Disk) → mid.failures ≡ old.failures → FailsOnce mid new → FailsOnce old new
FailsOnce-before old mid new steady once = elim once [
  | inl counted ↦ inl (omega (arith, counted, steady))
  | inr is_worn ↦ inr is_worn
]

-- an image that is left since a moment is left since each earlier one
pub Left-earlier : (d : Disk) (since until : ℕ) (image : Image) → since ≤ until → LeftSince d until image
    → LeftSince d since image
Left-earlier d since until image le left = (left.0, omega (arith, le, left.1), left.2, left.3)

-- an image that is left now is left since each moment up to now
pub Left-now : (d : Disk) (since : ℕ) (image : Image) → since ≤ d.clock → IsImage (now d) image
    → LeftSince d since image
Left-now d since image le left = (d.clock, le, omega arith, left)

-- what was left up to a moment is left of the disk as it was then
pub Left-before : (old new : Disk) (since : ℕ) (image : Image) → Works old new → (left : LeftSince new since image)
    → left.0 ≤ old.clock → LeftSince old since image
Left-before old new since image works left le =
    (left.0, left.1, le, subst (λ (s : DiskState). IsImage s image) (works.past left.0 le) left.3)

-- before the first call
pub Leaves-start : (d : Disk) (P : Image → Type 0) → ((image : Image) → IsImage (now d) image → P image) → Leaves d d P
Leaves-start d P here = record {
  works = Works-start d;
  each = λ image left.
      let at_now : left.0 ≡ d.clock = omega (arith, left.1, left.2) in
      here image (subst (λ (k : ℕ). IsImage (d.past k) image) at_now left.3);
}

-- runs one after the other
pub Leaves-join : (old mid new : Disk) (P Q R : Image → Type 0) → Leaves old mid P → Leaves mid new Q
    → ((image : Image) → P image → R image) → ((image : Image) → Q image → R image) → Leaves old new R
Leaves-join old mid new P Q R first second from_p from_q = record {
  works = Works-on old mid new first.works second.works;
  each = λ image left. elim (cases_lt mid.clock left.0) [
    | inl after ↦ from_q image (second.each image (left.0, omega (arith, after), left.2, left.3))
    | inr before ↦ from_p image (first.each image
        (left.0, left.1, before, subst (λ (s : DiskState). IsImage s image) (second.works.past left.0 before) left.3))
  ];
}

pub Leaves-more : (old mid new : Disk) (P : Image → Type 0) → Leaves old mid P → Leaves mid new P → Leaves old new P
Leaves-more old mid new P first second = Leaves-join old mid new P P P first second (λ image p. p) (λ image p. p)

-- one call more
pub Leaves-call : {T E : Type 0} (old mid new : Disk) (result : Result T E) (P : Image → Type 0) → Leaves old mid P
    → IsDeviceCall mid new result
    → ((image : Image) → IsImage (now new) image → P image) → Leaves old new P
Leaves-call old mid new result P so_far call here = record {
  works = Works-on old mid new so_far.works call.work.works;
  each = λ image left. elim (cases_lt mid.clock left.0) [
    | inl after ↦
        let at_new : left.0 ≡ new.clock = omega (arith, left.2, after, call.at_most_one) in
        here image (subst (λ (k : ℕ). IsImage (new.past k) image) at_new left.3)
    | inr before ↦ so_far.each image
        (left.0, left.1, before, subst (λ (s : DiskState). IsImage s image) (call.work.works.past left.0 before) left.3)
  ];
}

pub Leaves-weaker : (old new : Disk) (P Q : Image → Type 0) → ((image : Image) → P image → Q image) → Leaves old new P
    → Leaves old new Q
Leaves-weaker old new P Q from leaves =
    record { works = leaves.works; each = λ image left. from image (leaves.each image left) }

-- each image that a power loss may leave at the end is among them
pub Leaves-now : (old new : Disk) (P : Image → Type 0) → Leaves old new P → (image : Image)
    → IsImage (now new) image → P image
Leaves-now old new P leaves image left = leaves.each image (Left-now new old.clock image leaves.works.later left)

-- a run that leaves nothing new
pub Nothing-start : (d : Disk) → LeavesNothingNew d d
Nothing-start d = Leaves-start d (IsImage (now d)) (λ image left. left)

pub Nothing-call : {T E : Type 0} (old mid new : Disk) (result : Result T E) → LeavesNothingNew old mid
    → IsDeviceCall mid new result
    → ((image : Image) → IsImage (now new) image → IsImage (now old) image) → LeavesNothingNew old new
Nothing-call old mid new result so_far call here = Leaves-call old mid new result (IsImage (now old)) so_far call here

pub Nothing-join : (old mid new : Disk) → LeavesNothingNew old mid → LeavesNothingNew mid new → LeavesNothingNew old new
Nothing-join old mid new first second =
    Leaves-join old mid new (IsImage (now old)) (IsImage (now mid)) (IsImage (now old)) first second
    (λ image left. left) (Leaves-now old mid (IsImage (now old)) first)
