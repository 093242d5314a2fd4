-- What the calls that write a capture promise.
use Rattle.std.specs.Prelude.{◌≡◌, ◌<◌, ℕ, Bool, true, List, ◌++◌, length, Option, Result, Err, IfErr, OnErr, OnOk}
use Rattle.std.specs.Io.KnownBytes.{Appends, Keeps}
use Rattle.macs_pcap.specs.States.{SinkState}
use Rattle.macs_pcap.specs.declared.fault.PcapFault.{PcapFault}
use Rattle.macs_pcap.specs.declared.fault.PcapFault.TheVariants.{Write}

-- a prefix of a text is appended, but not all of it
abbrev pub AppendsFront : Option (List ℕ) → Option (List ℕ) → List ℕ → Type 0
AppendsFront before after text =
    (front : List ℕ) × (rest : List ℕ) × (text ≡ front ++ rest) × (0 < length rest) × Appends before after front

-- a write or a flush failed in this call if and only if that is the answer; what had failed before stays so
pub record TellsFailedWrite {T : Type 0} (before after : Bool) (answer : Result T PcapFault) : Type 0 where
  pub done : OnOk answer (after ≡ before)
  pub failed : OnErr answer (after ≡ true)
  pub names : IfErr answer (λ fault. fault ≡ Write)

-- a text is written: whole, or a prefix of it if a write fails
pub record WritesText {T : Type 0} (before after : SinkState) (text : List ℕ)
    (answer : Result T PcapFault) : Type 0 where
  pub whole : OnOk answer (Appends before.held after.held text)
  pub front : OnErr answer (AppendsFront before.held after.held text)
  pub write : TellsFailedWrite before.failed after.failed answer

-- a write of a text fails with this fault, and a prefix of the text is written
abbrev pub CutsShort : SinkState → SinkState → List ℕ → PcapFault → Type 0
CutsShort before after text fault = WritesText {T = Unit {0}} before after text (Err fault)

-- all that was written is flushed, or flushing fails
pub record Flushes {T : Type 0} (before after : SinkState) (answer : Result T PcapFault) : Type 0 where
  pub held : Keeps before.held after.held
  pub flushed : OnOk answer (after.flushed ≡ true)
  pub write : TellsFailedWrite before.failed after.failed answer
