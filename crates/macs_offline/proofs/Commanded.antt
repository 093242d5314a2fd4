-- A command file that was read.
use Rattle.std.proofs.Common.{◌≡◌, ℕ, ◌++◌, List, [], length, take, Option, Some, None, IfSome, option_map, length-take}
use Rattle.std.proofs.Common.{ap, subst, ◌∙◌, arith}
use Rattle.std.proofs.lemmas.List.{take_all}
use Rattle.macs_config.specs.declared.command.Command.{Command}
use Rattle.macs_offline.specs.Applying.{SaysCommands}

-- a file that says commands was read whole
says-whole : (input octets : List ℕ) (end : Option (List ℕ)) (commands : List Command) → input ≡ take 1048577 octets
    → SaysCommands input end commands → SaysCommands octets end commands
says-whole input octets end commands read says =
    let short = says.short in
    let count = length-take 1048577 octets in
    let whole = take_all 1048577 octets (omega (arith, ap length read)) in
    subst (λ (x : List ℕ). SaysCommands x end commands) (read ∙ whole) says

-- what was read says what the file says
pub says-read : (remaining : Option (List ℕ)) (input : List ℕ) (end : Option (List ℕ)) (commands : List Command)
    → IfSome (option_map (take 1048577) remaining) (λ octets. input ≡ [] ++ octets) → SaysCommands input end commands
    → IfSome remaining (λ octets. SaysCommands octets end commands)
says-read None input end commands read says = tt
says-read (Some octets) input end commands read says = says-whole input octets end commands read says
