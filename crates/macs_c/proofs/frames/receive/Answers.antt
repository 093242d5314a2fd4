use Rattle.std.proofs.Common.{◌≤◌, inr, length, Ok, refl, arith}
use Rattle.macs_c.specs.Frames.{buffer_of}
use Rattle.macs_c.proofs.GivenFrames.{stores-received}
use Rattle.macs_c.proofs.frames.receive.Goals as goal

pub returns-in-Ok : goal.returns-in-Ok
returns-in-Ok c =
    let large : 9216 ≤ length c.args.out.now = omega arith in
    inr (
      large,
      (
        Ok c.in-Ok.verdict,
        c.receive.new.out.items,
        refl,
        c.in-Ok.ensures.call,
        stores-received c.args.endpoint.now c.receive.new.self c.args.frame.now c.in-Ok.verdict
            c.receive.new.out.items (buffer_of c.args.out.now c.args.written.now)
            (buffer_of c.put_frame.new.out c.put_frame.new.written) c.in-Ok.ensures.call
            (c.put_frame.ensures.put, c.put_frame.ensures.count),
      ),
    )
