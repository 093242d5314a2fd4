use Rattle.std.proofs.Common.{rules}
use Rattle.macs_pcap.proofs.Taken.{header-read}
use Rattle.macs_pcap.proofs.reader.read_header.Goals as goal

pub returns : goal.returns
returns g c =
    let judged = c.parse_header.ensures in
    header-read _ _ _ _ _ (search rules) c.if-branch-lt24.false c.in_ok-fill.ensures.octets judged.header judged.fault
    (search rules) (search rules)
