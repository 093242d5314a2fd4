use Rattle.std.proofs.Common.{w16}
use Rattle.std.proofs.lemmas.Simd.{below_from_Fits}
use Rattle.macs_planes.proofs.Octets.{octet_of_narrower}
use Rattle.macs_planes.specs.declared.places.TheConstants.{LANES}
use Rattle.macs_planes.proofs.places.octets_of_words.Goals as goal

pub returns : goal.returns
returns c = λ m h. octet_of_narrower LANES c.args.words m (below_from_Fits w16 c.args.words c.fits-words.1) h
