use Rattle.std.proofs.Common.{decimal}
use Rattle.macs_commands.specs.Words.{replay_word}
use Rattle.macs_commands.proofs.Lined.{word_then}
use Rattle.macs_commands.proofs.requests.lines.write_replay.Goals as goal

pub returns : goal.returns
returns c = word_then c.args.paper.now c.put_word.new.paper c.number.new.self (replay_word c.args.on)
    (decimal c.args.window) (rw c.replay_word.ensures at c.put_word.ensures) (rw c.from.ensures at c.number.ensures)
