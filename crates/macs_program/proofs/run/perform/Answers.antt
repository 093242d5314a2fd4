use Rattle.std.proofs.Common.{refl}
use Rattle.macs_program.proofs.Performed.{opens}
use Rattle.macs_program.proofs.run.perform.Goals as goal

pub returns-in-Open-clause-performs : goal.returns-in-Open-clause-performs
returns-in-Open-clause-performs g c =
    rw c.in-Open.is (opens g.row.T.Denot _ _ _ _ _ _ _ _ c.open_input.ensures.printed c.open_input.ensures.status
    c.open_input.ensures.failed c.open_input.ensures.silent c.open_input.ensures.ended c.open_input.ensures.broken)

pub returns-in-OnDisk-clause-performs : goal.returns-in-OnDisk-clause-performs
returns-in-OnDisk-clause-performs g c = rw c.in-OnDisk.is (c.perform_on_disk.ensures _)

pub returns-in-OnFrames-clause-performs : goal.returns-in-OnFrames-clause-performs
returns-in-OnFrames-clause-performs g c = rw c.in-OnFrames.is (c.perform_on_frames.ensures _)

pub returns-in-Tool-clause-performs : goal.returns-in-Tool-clause-performs
returns-in-Tool-clause-performs g c = rw c.in-Tool.is (c.perform_tool.ensures _)

-- ---- the input

pub returns-in-Open-clause-unread : goal.returns-in-Open-clause-unread
returns-in-Open-clause-unread g c = λ other. absurd (other c.in-Open.is)

pub returns-in-OnDisk-clause-unread : goal.returns-in-OnDisk-clause-unread
returns-in-OnDisk-clause-unread g c = λ other. refl

pub returns-in-OnFrames-clause-unread : goal.returns-in-OnFrames-clause-unread
returns-in-OnFrames-clause-unread g c = λ other. refl

pub returns-in-Tool-clause-unread : goal.returns-in-Tool-clause-unread
returns-in-Tool-clause-unread g c = λ other. refl
