use Rattle.std.proofs.Common.{◌≡◌, ◌<◌, ◌+◌, ◌*◌, ◌∙◌, refl, ℕ, true, false, subst, sym}
use Rattle.macs_disk.specs.Files.{file_in_doubt, FileState, HasNothingNew, IsFileImage}
use Rattle.macs_disk.proofs.laws.nothing_new_of_a_file.Goals as goal

-- What leaves nothing new of a file.
nothing-same : (old new : FileState) → new ≡ old → HasNothingNew old new
nothing-same old new is = subst (HasNothingNew old) (sym is)
    (record { block = refl; size = λ durable. (refl, durable); images = λ image left. left })

nothing-more : (old mid new : FileState) → HasNothingNew old mid → HasNothingNew mid new → HasNothingNew old new
nothing-more old mid new first second = record {
  block = second.block ∙ first.block;
  size = λ durable. let one = first.size durable in let two = second.size one.1 in (two.0 ∙ one.0, two.1);
  images = λ image left. first.images image (second.images image left);
}

-- a power loss that left one of the images
nothing-lost : (old new : FileState) → IsFileImage old new.durable → new.block ≡ old.block
    → (old.is_size_durable ≡ true → (new.size ≡ old.size) × (new.is_size_durable ≡ true))
    → ((n : ℕ) → new.pending n ≡ false) → HasNothingNew old new
nothing-lost old new is block size none = record {
  block = block;
  size = size;
  images = λ image left. record {
    kept = λ n k clean lt.
        subst (λ (b : ℕ). image (b * n + k) ≡ new.durable (b * n + k)) block
        (left.kept n k (none n) (subst (λ (b : ℕ). k < b) (sym block) lt))
        ∙ is.kept n k clean lt;
    octets = left.octets;
  };
}

nothing-doubted : (old new : FileState) → new ≡ file_in_doubt old → HasNothingNew old new
nothing-doubted old new is = subst (HasNothingNew old) (sym is)
    (record {
      block = refl;
      size = λ durable. (refl, durable);
      images =
          λ image left. record { kept = left.kept; octets = left.octets };
    })

pub returns-clause-none : goal.returns-clause-none
returns-clause-none c = λ file. nothing-same file file refl

pub returns-clause-more : goal.returns-clause-more
returns-clause-more c = nothing-more

pub returns-clause-doubt : goal.returns-clause-doubt
returns-clause-doubt c = λ file. nothing-doubted file (file_in_doubt file) refl

pub returns-clause-lost : goal.returns-clause-lost
returns-clause-lost c = nothing-lost
