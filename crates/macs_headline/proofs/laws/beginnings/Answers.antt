use Rattle.macs_headline.proofs.Chains.{fitting-disks, new-disks, passed-on, settled-disks}
use Rattle.macs_headline.proofs.Older.{larger-find, older}
use Rattle.macs_headline.proofs.laws.beginnings.Goals as goal

pub returns-clause-new : goal.returns-clause-new
returns-clause-new c = new-disks

pub returns-clause-fitting : goal.returns-clause-fitting
returns-clause-fitting c = fitting-disks

pub returns-clause-settled : goal.returns-clause-settled
returns-clause-settled c = settled-disks

pub returns-clause-larger : goal.returns-clause-larger
returns-clause-larger c = older

pub returns-clause-found : goal.returns-clause-found
returns-clause-found c = larger-find

pub returns-clause-fits : goal.returns-clause-fits
returns-clause-fits c = λ edition disk lives h. (h.honest, h.history, h.images)

pub returns-clause-passed_on : goal.returns-clause-passed_on
returns-clause-passed_on c = passed-on
