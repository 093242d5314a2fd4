-- The commands of a link, stage by stage, at each of its ends.
use Rattle.std.specs.Prelude.{ℕ, true, List, [], ◌∷◌, Some, None, Result, Ok, Err}
use Rattle.toml.specs.Data.{Members}
use Rattle.macs_aes.specs.declared.keys.Key.{Key}
use Rattle.macs_config.specs.declared.command.Command.{Command}
use Rattle.macs_config.specs.declared.command.Command.TheVariants.{TxInstall, TxUse, TxRemove, RxAdd, RxInstall}
use Rattle.macs_config.specs.declared.command.Command.TheVariants.{RxRemove}
use Rattle.macs_commands.specs.Reading.{file_link, ◌>>=◌}
use Rattle.macs_commands.specs.declared.links.link.End.{End}
use Rattle.macs_commands.specs.declared.links.link.End.TheVariants.{Left, Right}
use Rattle.macs_commands.specs.declared.links.link.KeyPair.{KeyPair}
use Rattle.macs_commands.specs.declared.links.link.Link.{Link}
use Rattle.macs_commands.specs.declared.links.plan_fault.PlanFault.{PlanFault}
use Rattle.macs_commands.specs.declared.links.plan_fault.PlanFault.TheVariants as fault
use Rattle.macs_commands.specs.declared.links.planning.Stage.{Stage}
use Rattle.macs_commands.specs.declared.links.planning.Stage.TheVariants as stage

-- the other end
abbrev pub other_end : End → End
other_end Left = Right
other_end Right = Left

-- the SCI of an end
abbrev pub sci_of : Link → End → List ℕ
sci_of link Left = link.left
sci_of link Right = link.right

-- the key of the frames from an end
abbrev pub own_key : KeyPair → End → Key
own_key pair Left = pair.left
own_key pair Right = pair.right

-- an end sends under a pair, with all User Data encrypted, from packet number 1 on
abbrev pub sends : KeyPair → End → Command
sends pair end = TxInstall pair.an (own_key pair end) 1 true 0

-- it receives what the other end sends under it
abbrev pub receives : Link → KeyPair → End → Command
receives link pair end = RxInstall (sci_of link (other_end end)) pair.an (own_key pair (other_end end)) 1 0

-- for the first keys of an end: it sends and receives under the newest pair
abbrev pub first_keys : Link → End → List Command
first_keys link end =
    sends link.newest end ∷ TxUse link.newest.an ∷ RxAdd (sci_of link (other_end end))
    ∷ receives link link.newest end ∷ []

-- then for each new pair: it also receives under it
abbrev pub receive_both : Link → End → List Command
receive_both link end = receives link link.newest end ∷ []

-- it sends under it
abbrev pub start_sending : Link → End → List Command
start_sending link end = sends link.newest end ∷ TxUse link.newest.an ∷ []

-- and the previous pair is removed
abbrev pub remove_earlier : Link → End → KeyPair → List Command
remove_earlier link end earlier = TxRemove earlier.an ∷ RxRemove (sci_of link (other_end end)) earlier.an ∷ []

-- the previous pair
abbrev pub pair_before : Link → Result KeyPair PlanFault
pair_before link = elim link.before [ None ↦ Err fault.OneKey | Some earlier ↦ Ok earlier ]

-- the commands of a stage at an end
abbrev pub planned : Link → End → Stage → Result (List Command) PlanFault
planned link end stage.First = Ok (first_keys link end)
planned link end stage.Receive = pair_before link >>= (λ (earlier : KeyPair). Ok (receive_both link end))
planned link end stage.Send = pair_before link >>= (λ (earlier : KeyPair). Ok (start_sending link end))
planned link end stage.Remove = pair_before link >>= (λ (earlier : KeyPair). Ok (remove_earlier link end earlier))

-- the same for the link in a file
abbrev pub file_planned : Members → End → Stage → Result (List Command) PlanFault
file_planned members end stage = file_link members >>= (λ (link : Link). planned link end stage)
