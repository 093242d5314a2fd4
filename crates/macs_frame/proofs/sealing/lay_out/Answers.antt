use Rattle.std.proofs.Common.{◌≡◌, ◌∙◌, ◌-◌, ◌++◌, List, ℕ, length, take, drop, slice_range, ap, ap₂, sym, arith}
use Rattle.std.proofs.Common.{length-drop}
use Rattle.macs_fields.specs.Fields.{octets_of}
use Rattle.macs_frame.specs.Opening.{clear_of, hidden_of}
use Rattle.macs_frame.specs.Protection.{header_of, written_tag}
use Rattle.macs_frame.proofs.SealedInPlace.{slice_range-end}
use Rattle.macs_frame.proofs.sealing.lay_out.Goals as goal
use Rattle.macs_frame.proofs.sealing.lay_out.Goals.{After-append-2}

-- what is in front of the encrypted octets
front : (c : After-append-2) → c.append-2.new.out.items ≡ header_of c.args.tag.now c.args.plain.now
    ++ clear_of c.args.tag.now.encrypted (octets_of c.args.offset) (drop 12 c.args.plain.now)
front c =
    let count : length c.args.plain.now - 12 ≡ length (drop 12 c.args.plain.now) =
    sym (length-drop 12 c.args.plain.now) in
    let all = slice_range-end 12 c.args.plain.now (omega arith) in
    let clear = c.clear_end-clear.ensures.clear c.args.plain.now
    ∙ ap (clear_of c.args.tag.now.encrypted (octets_of c.args.offset)) all in
    rw (c.append-2.ensures, c.write_tag.ensures.written, c.append.ensures, c.clear.ensures)
    (ap₂ (λ (n : ℕ) (l : List ℕ). take 12 c.args.plain.now ++ written_tag c.args.tag.now n ++ l) count clear)

pub returns-clause-octets : goal.returns-clause-octets
returns-clause-octets c =
    let all = slice_range-end 12 c.args.plain.now (omega arith) in
    let hidden = c.clear_end-clear.ensures.hidden c.args.plain.now
    ∙ ap (hidden_of c.args.tag.now.encrypted (octets_of c.args.offset)) all in
    c.append-3.ensures ∙ ap₂ (λ (f h : List ℕ). f ++ h) (front (goal.at.returns-clause-octets c).After-append-2) hidden

pub returns-clause-start : goal.returns-clause-start
returns-clause-start c =
    sym (c.len-start.ensures.value ∙ ap length (front (goal.at.returns-clause-start c).After-append-2))
