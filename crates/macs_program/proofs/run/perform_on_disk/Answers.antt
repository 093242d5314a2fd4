use Rattle.std.proofs.Common.{refl}
use Rattle.macs_program.proofs.Performed.{applies, formats, keeps, shows}
use Rattle.macs_program.proofs.run.perform_on_disk.Goals as goal

pub returns-in-Format : goal.returns-in-Format
returns-in-Format g c =
    λ input. rw c.in-Format.is (formats g.row.T.Denot _ _ _ _ input _ _ _ _ _ _ _ _ _ c.format.ensures.printed
    c.format.ensures.usage c.format.ensures.silent c.format.ensures.ended c.format.ensures.broken)

pub returns-in-Apply : goal.returns-in-Apply
returns-in-Apply g c = λ input. rw c.in-Apply.is (applies g.row.T.Denot _ _ _ _ input _ _ _ _ _ c.apply.ensures.printed
    c.apply.ensures.failed c.apply.ensures.lines c.apply.ensures.ended c.apply.ensures.broken)

pub returns-in-Show : goal.returns-in-Show
returns-in-Show g c = λ input. rw c.in-Show.is (shows g.row.T.Denot _ _ _ _ input _ _ _ _ c.show.ensures.printed
    c.show.ensures.failed c.show.ensures.silent c.show.ensures.ended c.show.ensures.broken)

pub returns-in-Keep : goal.returns-in-Keep
returns-in-Keep g c = λ input. rw c.in-Keep.is (keeps g.row.T.Denot _ _ _ _ input _ _ _ _ _ refl c.keep.ensures.kept
    c.keep.ensures.ended)
