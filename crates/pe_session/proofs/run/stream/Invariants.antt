use Rattle.std.proofs.Common.{◌≡◌, ◌+◌, ◌-◌, ◌≤◌, ℕ, List, length}
use Rattle.std.specs.Io.KnownBytes.{Appends, Consumes}
use Rattle.pe_output.specs.OutputText.{ended_text}
use Rattle.pe_session.specs.Session.{HasTaken}
use Rattle.pe_session.proofs.run.stream.Given as goal

abbrev pub invariant-loop-count : goal.invariant-loop-count
invariant-loop-count g l = record {
  source_kept : g.S.Source.faults l.source ≡ g.S.Source.faults l.fn.source;
  sink_kept : g.K.Sink.faults l.sink ≡ g.K.Sink.faults l.fn.sink;
  within : l.total ≤ l.limit;
  went : (taken : List ℕ) × Consumes (g.S.Source.left l.fn.source) (g.S.Source.left l.source) taken
      × (l.total ≡ length taken)
      × Appends (g.K.Sink.written l.fn.sink) (g.K.Sink.written l.sink) (ended_text l.fn.session.engine.duration taken)
      × HasTaken l.fn.session.engine.duration l.session taken;
}

abbrev pub decreases-loop-count : goal.decreases-loop-count
decreases-loop-count g l = l.limit + 1 - l.total
