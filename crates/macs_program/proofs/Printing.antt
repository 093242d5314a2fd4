-- What a run reads and prints, where the octets are known.
use Rattle.std.proofs.Common.{◌≡◌, ℕ, ◌++◌, List, [], ◌∷◌, length, take, Option, Some, None, IfSome, option_map}
use Rattle.std.proofs.Common.{length-take, ap, subst, ◌∙◌, ◌⊎◌, inl, inr, arith}
use Rattle.std.proofs.lemmas.List.{take_all}
use Rattle.std.specs.Io.KnownBytes.{Appends}
use Rattle.macs_fields.specs.First.{IsFirst}
use Rattle.macs_offline.specs.Opened.{Answers, answer_status, answer_text}
use Rattle.macs_cli.specs.OpenInput.{InputFaultHolds, input_faults}
use Rattle.macs_program.specs.Run.{Prints}
use Rattle.macs_cli.proofs.Printing.{prints-text}
use Rattle.macs_offline.specs.declared.opened.Opened.{Opened}
use Rattle.macs_offline.specs.declared.opened.Opened.TheVariants as answers
use Rattle.macs_cli.specs.declared.open_input.InputFault.{InputFault}
use Rattle.macs_cli.specs.declared.status.Status.{Status}
use Rattle.macs_cli.specs.declared.status.Status.TheVariants.{Done, Refused}

-- what was appended to nothing is what was read
pub appended-read : (remaining : Option (List ℕ)) (limit : ℕ) (text : List ℕ)
    → IfSome (option_map (take limit) remaining) (λ octets. Appends (Some []) (Some text) octets)
    → IfSome remaining (λ octets. text ≡ take limit octets)
appended-read None limit text h = tt
appended-read (Some octets) limit text h = h

-- an input that spells a request was read whole
read-whole : (input octets : List ℕ) (answer : Opened) → input ≡ take 20001 octets → Answers input answer
    → Answers octets answer
read-whole input octets answer read answers =
    let short = answers.spelled.four.0 in
    let count = length-take 20001 octets in
    let whole = take_all 20001 octets (omega (arith, ap length read)) in
    subst (λ (x : List ℕ). Answers x answer) (read ∙ whole) answers

-- the answer to what was read is printed
pub prints : (remaining before after : Option (List ℕ)) (input line : List ℕ) (answer : Opened) (status : Status)
    → IfSome remaining (λ octets. input ≡ take 20001 octets) → Answers input answer
    → line ≡ answer_text answer ++ 10 ∷ []
    → Appends before after line → status ≡ answer_status answer
    → IfSome remaining (λ octets. Prints octets before after status)
prints None before after input line answer status read answers text printed end = tt
prints (Some octets) before after input line answer status read answers text printed end =
    (answer, read-whole input octets answer read answers, prints-text before after line _ text printed, end)

-- an answer ends the run as done or refused
pub answered : (answer : Opened) (status : Status) → status ≡ answer_status answer
    → (status ≡ Done) ⊎ (status ≡ Refused)
answered (answers.Valid an pn plain) status is = inl is
answered (answers.Refused fault) status is = inr is

-- the first fault of what was read is that of the input, as far as it is read
pub refused-first : (remaining : Option (List ℕ)) (input slice : List ℕ) (fault : InputFault)
    → IfSome remaining (λ octets. input ≡ take 20001 octets)
    → slice ≡ input → IsFirst (InputFaultHolds slice) input_faults fault
    → IfSome remaining (λ octets. IsFirst (InputFaultHolds (take 20001 octets)) input_faults fault)
refused-first None input slice fault read same first = tt
refused-first (Some octets) input slice fault read same first =
    subst (λ (x : List ℕ). IsFirst (InputFaultHolds x) input_faults fault) (same ∙ read) first
