use Rattle.macs_program.proofs.wires.relay_spared.Goals as goal

pub returns : goal.returns
returns g c = (_, _, c.relay_frames.ensures)
