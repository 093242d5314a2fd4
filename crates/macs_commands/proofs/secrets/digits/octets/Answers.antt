use Rattle.std.proofs.Common.{◌*◌, ◌∙◌, ◌≡◌, ◌==◌, ap, arith, sym, ℕ, List, length, None, Result, Ok, Err, refl}
use Rattle.std.specs.Result.{result_ok}
use Rattle.std.specs.List.{list_all}
use Rattle.std.proofs.lemmas.List.{length-set}
use Rattle.std.proofs.lemmas.Bool.{eqb-true}
use Rattle.std.proofs.lemmas.List.Sums.{list_all-from_AllPass}
use Rattle.hex.specs.Hex.{decode_sized, is_hex_digit}
use Rattle.hex.specs.declared.error.FromHexError.{FromHexError}
use Rattle.hex.proofs.Pairs.{decode_done, decode_sized-pairs, decode_step}
use Rattle.hex.proofs.HexLemmas.{IsOk-decode_sized}
use Rattle.macs_commands.specs.Digits.{octets_of}
use Rattle.macs_commands.proofs.secrets.digits.octets.Goals as goal

-- A text that has another octet than digits says nothing.
undecoded : (text : List ℕ) (n digits : ℕ) → (digits == length text) ≡ list_all is_hex_digit text
    → (digits ≡ length text → ⊥) → None ≡ octets_of n text
undecoded text n digits all other = go (decode_sized text n) refl
  where
    go : (r : Result (List ℕ) FromHexError) → decode_sized text n ≡ r → None ≡ result_ok r
    go (Ok octets) e =
        let each = ((IsOk-decode_sized text n).0 (rw e refl)).1 in
        absurd (other (eqb-true digits (length text) (all ∙ list_all-from_AllPass is_hex_digit text each)))
    go (Err cause) e = refl

pub returns-then-digits_in-text : goal.returns-then-digits_in-text
returns-then-digits_in-text g c =
    undecoded c.args.text.now g.row.N c.digits_in.result c.digits_in.ensures.all c.if-digits_in-text.true

pub loop-i-preserved : goal.loop-i-preserved
loop-i-preserved g c = (
  length-set _ _ _ ∙ c.loop-i.invariant.0,
  decode_step c.args.text.now c.loop-i.octets c.loop-i.i _ (omega arith) (omega arith)
      (c.octet_of.ensures (2 * c.loop-i.i)) c.loop-i.invariant.1,
)

pub returns : goal.returns
returns g c =
    sym (ap result_ok (decode_sized-pairs _ _ c.if-text-ne0.false c.if-text.false
    ∙ decode_done c.args.text.now c.loop-i.octets c.loop-i.i (omega arith) (omega arith) c.loop-i.invariant.1))
