use Rattle.macs_aes.proofs.BitTests.{word_bit}
use Rattle.macs_aes.proofs.bits.bit_word.Goals as goal

pub returns : goal.returns
returns c = λ j h. word_bit c.args.octets c.args.mask j c.requires h
