use Rattle.macs_journal.specs.Formatting.{first_content}
use Rattle.macs_store.proofs.Formats.{meaning-read, two-read}
use Rattle.macs_store.proofs.laws.new_journal.Goals as goal

pub returns : goal.returns
returns c edition identity takes_two = meaning-read edition (first_content identity) (two-read edition takes_two)
