use Rattle.std.proofs.Common.{◌≡◌, ◌++◌, Some, codes}
use Rattle.std.specs.Cmp.{unsigned_Decides}
use Rattle.std.proofs.lemmas.Slice.Eq.{strip_prefix_is, strip_suffix_is}
use Rattle.macs_program.proofs.Refused.{refused-by}
use Rattle.macs_program.proofs.sending.refused_name.Goals as goal

pub returns : goal.returns
returns c =
    let rest = c.in_ok-strip_prefix.field-0 in
    let is : c.args.text.now ≡ codes "refused " ++ rest.now =
    strip_prefix_is unsigned_Decides c.args.text.now (codes "refused ") (Some rest)
    c.in_ok-strip_prefix.ensures.cases in
    refused-by c.args.text.now rest.now c.strip_suffix.result is
    (strip_suffix_is unsigned_Decides rest.now _ c.strip_suffix.result c.strip_suffix.ensures.cases)
