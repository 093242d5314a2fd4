-- What is in a file is one thing, and only what may be written over is.
use Rattle.std.proofs.Common.{◌≡◌, ℕ, true, false, None, refl}
use Rattle.macs_disk.specs.Files.{FileState}
use Rattle.macs_journal.specs.Contents.{ContentsAre, HasOpenGate, IsBlankFile}
use Rattle.macs_program.specs.NewDisks.{Permits}
use Rattle.macs_journal.specs.declared.contents.Contents.{Contents}
use Rattle.macs_journal.specs.declared.contents.Contents.TheVariants as contents

pub one-stands : (file : FileState) (sectors : ℕ) (a b : Contents) → ContentsAre file sectors a
    → ContentsAre file sectors b → a ≡ b
one-stands file sectors contents.Endpoint contents.Endpoint one other = refl
one-stands file sectors contents.Endpoint contents.Blank one other = absurd (other.0 one)
one-stands file sectors contents.Endpoint contents.Other one other = absurd (other.0 one)
one-stands file sectors contents.Blank contents.Endpoint one other = absurd (one.0 other)
one-stands file sectors contents.Blank contents.Blank one other = refl
one-stands file sectors contents.Blank contents.Other one other = absurd (other.1 one.1)
one-stands file sectors contents.Other contents.Endpoint one other = absurd (one.0 other)
one-stands file sectors contents.Other contents.Blank one other = absurd (one.1 other.1)
one-stands file sectors contents.Other contents.Other one other = refl

pub blank-permitted : (file : FileState) (sectors : ℕ) → Permits false file sectors None
    → IsBlankFile file sectors × ¬ HasOpenGate file sectors
blank-permitted file sectors (contents.Blank, are, is) = (are.1, are.0)
blank-permitted file sectors (contents.Endpoint, are, is) = absurd (cc)
blank-permitted file sectors (contents.Other, are, is) = absurd (cc)

pub closed-permitted : (file : FileState) (sectors : ℕ) → Permits true file sectors None → ¬ HasOpenGate file sectors
closed-permitted file sectors (contents.Blank, are, is) = are.0
closed-permitted file sectors (contents.Endpoint, are, is) = absurd (cc)
closed-permitted file sectors (contents.Other, are, is) = are.0
