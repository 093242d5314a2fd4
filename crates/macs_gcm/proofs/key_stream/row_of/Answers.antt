use Rattle.std.proofs.Common.{◌≡◌, ◌+◌, ◌%◌, ◌^◌, ◌++◌, ◌∙◌, ℕ, [], ap, arith, get_or}
use Rattle.std.specs.Int.{to_be_bytes, w32}
use Rattle.std.proofs.lemmas.List.{get_or-map, length-set}
use Rattle.macs_aes.specs.Cipher.{encrypt}
use Rattle.macs_planes.proofs.Octets.{filled_more}
use Rattle.macs_gcm.proofs.key_stream.row_of.Goals as goal

pub loop-j-preserved : goal.loop-j-preserved
loop-j-preserved c =
    let l = c.loop-j in
    let held = l.invariant in
    let within = held.size in
    let block = c.stream_block.result in
    let fixed = c.args.fixed.now in
    record {
      size = length-set l.masks l.j block ∙ held.size;
      made = filled_more (λ k b. b
          ≡ fixed ++ to_be_bytes w32 ((c.args.first + k) % 2 ^ 32) ++ to_be_bytes w32 c.args.number) [] l.masks l.j block
          (omega (arith, within)) held.made c.stream_block.ensures;
    }

pub returns : goal.returns
returns c = λ j below few.
    let held = c.loop-j.invariant in
    let size = held.size in
    let fixed = c.args.fixed.now in
    let same : (c.args.first + j) % 2 ^ 32 ≡ c.args.first + j = omega (arith, few) in
    ap (λ m. get_or m j []) c.encrypt_group.ensures
    ∙ get_or-map (encrypt c.args.keys.now) c.loop-j.masks j [] [] (omega (arith, size, below))
    ∙ ap (encrypt c.args.keys.now) (held.made j (omega arith)
    ∙ ap (λ (n : ℕ). fixed ++ to_be_bytes w32 n ++ to_be_bytes w32 c.args.number) same)
