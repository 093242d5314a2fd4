-- What one write and two writes send.
use Rattle.std.proofs.Common.{◌≡◌, ◌∙◌, ℕ, ◌+◌, List, ◌++◌, length, Option, Result, Ok, Err, IfErr, sym, ap, arith}
use Rattle.std.proofs.Common.{subst, append_assoc, length-append}
use Rattle.std.specs.Io.KnownBytes.{Appends}
use Rattle.std.proofs.KnownBytes.{Appends-trans}
use Rattle.std.proofs.lemmas.Bool.{false≢true}
use Rattle.std.specs.Prelude.{IsErr}
use Rattle.macs_pcap.specs.States.{SinkState}
use Rattle.macs_pcap.specs.Writing.{AppendsFront, WritesText}
use Rattle.macs_pcap.specs.declared.fault.PcapFault.{PcapFault}
use Rattle.macs_pcap.specs.declared.fault.PcapFault.TheVariants.{Write}

-- octets that are a text were written
pub text-sent : (before after : SinkState) (octets text : List ℕ) (answer : Result (Unit {0}) PcapFault) → octets ≡ text
    → WritesText before after octets answer → WritesText before after text answer
text-sent before after octets text answer same writes =
    subst (λ (t : List ℕ). WritesText before after t answer) same writes

-- the front of the first part is written
pub cut-in-first : (before after : Option (List ℕ)) (first second : List ℕ) → AppendsFront before after first
    → AppendsFront before after (first ++ second)
cut-in-first before after first second (front, rest, split, some, sent) =
    let more : length (rest ++ second) ≡ length rest + length second = length-append rest second in (
      front,
      rest ++ second,
      ap (λ (l : List ℕ). l ++ second) split ∙ append_assoc front rest second,
      omega (arith, more, some),
      sent,
    )

-- the first part is written, and the front of the second one
pub cut-in-second : (before between after : Option (List ℕ)) (first second : List ℕ) → Appends before between first
    → AppendsFront between after second
    → AppendsFront before after (first ++ second)
cut-in-second before between after first second whole (front, rest, split, some, sent) = (
  first ++ front,
  rest,
  ap (λ (l : List ℕ). first ++ l) split ∙ sym (append_assoc first front rest),
  some,
  Appends-trans before between after first front whole sent,
)

joined : (before between after : SinkState) (first second : List ℕ) (answer : Result (Unit {0}) PcapFault)
    → Appends before.held between.held first
    → between.failed ≡ before.failed → WritesText between after second answer
    → WritesText before after (first ++ second) answer
joined before between after first second (Ok done) sent steady writes =
    record {
      whole = Appends-trans before.held between.held after.held first second sent writes.whole;
      front = tt;
      write = record { done = writes.write.done ∙ steady; failed = tt; names = tt };
    }
joined before between after first second (Err fault) sent steady writes =
    record {
      whole = tt;
      front = cut-in-second before.held between.held after.held first second sent writes.front;
      write = record { done = tt; failed = writes.write.failed; names = writes.write.names };
    }

-- after a first part, the second one is written, or its front
pub both-sent : (before between after : SinkState) (octets first second : List ℕ) (answer : Result (Unit {0}) PcapFault)
    → octets ≡ first
    → Appends before.held between.held octets → between.failed ≡ before.failed → WritesText between after second answer
    → WritesText before after (first ++ second) answer
both-sent before between after octets first second answer same sent steady writes =
    text-sent before after (octets ++ second) (first ++ second) answer (ap (λ (l : List ℕ). l ++ second) same)
    (joined before between after octets second answer sent steady writes)

-- where the first part is cut, what was to come after it is not begun
pub first-cut : (before after : SinkState) (octets first second : List ℕ) (sent answer : Result (Unit {0}) PcapFault)
    → octets ≡ first
    → WritesText before after octets sent → IsErr sent → IsErr answer → IfErr answer (λ fault. fault ≡ Write)
    → WritesText before after (first ++ second) answer
first-cut before after octets first second (Ok done) answer same writes cut is names = absurd (false≢true cut)
first-cut before after octets first second (Err one) (Ok done) same writes cut is names = absurd (false≢true is)
first-cut before after octets first second (Err one) (Err fault) same writes cut is names =
    text-sent before after (octets ++ second) (first ++ second) (Err fault)
    (ap (λ (l : List ℕ). l ++ second) same) (record {
      whole = tt;
      front = cut-in-first before.held after.held octets second writes.front;
      write = record { done = tt; failed = writes.write.failed; names = names };
    })
