use Rattle.std.proofs.Common.{◌∙◌}
use Rattle.macs_aes.proofs.Loaded.{in_words}
use Rattle.macs_aes.proofs.round_keys.bits_of.Goals as goal

pub returns : goal.returns
returns c =
    in_words c.bit_word.result c.bit_word-2.result c.bit_word-3.result c.bit_word-4.result c.bit_word-5.result
    c.bit_word-6.result c.bit_word-7.result c.bit_word-8.result c.octets_of-octets.result
    c.octets_of-octets.ensures.block
    c.bit_word.ensures c.bit_word-2.ensures c.bit_word-3.ensures c.bit_word-4.ensures c.bit_word-5.ensures
    c.bit_word-6.ensures c.bit_word-7.ensures c.bit_word-8.ensures
    ∙ c.octets_of-octets.ensures.octets
