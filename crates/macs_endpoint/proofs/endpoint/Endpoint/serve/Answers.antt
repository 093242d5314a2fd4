use Rattle.std.proofs.Common.{◌≡◌, ℕ, refl, sym, ◌∙◌, subst, arith}
use Rattle.macs_endpoint.specs.Serving.{IsServed, Told}
use Rattle.macs_endpoint.specs.declared.event.ServeEnd.TheVariants.{TurnsSpent}
use Rattle.macs_endpoint.proofs.Turns.{served-ended, served-halted, served-spent, serving-more, serving-start}
use Rattle.macs_endpoint.proofs.endpoint.Endpoint.serve.Given.{Over}
use Rattle.macs_endpoint.proofs.endpoint.Endpoint.serve.Goals as goal

-- what a source and a sink report
abbrev tells : (g : Over) → g.row.S.Denot → g.row.K.Denot → Told
tells g source sink = record {
  source_tells = g.S.EventSource.tells source;
  left = g.S.EventSource.left source;
  sink_tells = g.K.AnswerSink.tells sink;
  took = g.K.AnswerSink.took sink;
}

pub loop-init : goal.loop-init
loop-init g c = record {
  serving = serving-start g.D.SectorDisk.disk c.args.self.now (tells g c.args.source.now c.args.sink.now);
  within = omega arith;
}

pub returns-in_default : goal.returns-in_default
returns-in_default g c =
    let served = served-ended g.D.SectorDisk.disk c.args.self.now (tells g c.args.source.now c.args.sink.now)
    c.loop.counter c.loop.self
    (tells g c.loop.source c.loop.sink) c.loop.invariant.serving c.args.turns
    (tells g c.next_event.new.self c.loop.sink) c.loop-test.true
    (c.in_default.ensures.taken, c.in_default.ensures.telling) refl refl in
    record { served = served; lives = (served.turns, served.lives) }

pub returns-then-is_halt : goal.returns-then-is_halt
returns-then-is_halt g c =
    let served = served-halted g.D.SectorDisk.disk c.args.self.now (tells g c.args.source.now c.args.sink.now)
    c.loop.counter c.loop.self
    (tells g c.loop.source c.loop.sink) c.loop.invariant.serving c.in-Some.event c.answer-answer.result
    c.answer-answer.new.self
    (tells g c.next_event.new.self c.put.new.self) c.answer-answer.ensures c.facts.ensures
    (c.in-Some.ensures.taken, c.in-Some.ensures.telling) (c.put.ensures.given, c.put.ensures.telling) c.args.turns
    c.loop-test.true
    (sym c.is_halt-is_halt.ensures ∙ c.if-is_halt.true) in
    record { served = served; lives = (served.turns, served.lives) }

pub loop-preserved : goal.loop-preserved
loop-preserved g c = record {
  serving = serving-more g.D.SectorDisk.disk c.args.self.now (tells g c.args.source.now c.args.sink.now)
      c.loop.counter c.loop.self
      (tells g c.loop.source c.loop.sink) c.loop.invariant.serving c.in-Some.event c.answer-answer.result
      c.answer-answer.new.self
      (tells g c.next_event.new.self c.put.new.self) c.answer-answer.ensures c.facts.ensures
      (c.in-Some.ensures.taken, c.in-Some.ensures.telling) (c.put.ensures.given, c.put.ensures.telling)
      (sym c.is_halt-is_halt.ensures ∙ c.if-is_halt.false);
  within = omega (arith, c.loop-test.true);
}

pub returns : goal.returns
returns g c =
    let all : c.loop.counter ≡ c.args.turns = omega (arith, c.loop.invariant.within, c.loop-test.false) in
    let told = tells g c.args.source.now c.args.sink.now in
    let served = subst (λ (n : ℕ). IsServed g.D.SectorDisk.disk n c.args.self.now told TurnsSpent c.loop.self
    (tells g c.loop.source c.loop.sink)) all
    (served-spent g.D.SectorDisk.disk c.args.self.now told c.loop.counter c.loop.self
    (tells g c.loop.source c.loop.sink) c.loop.invariant.serving) in
    record { served = served; lives = (served.turns, served.lives) }
