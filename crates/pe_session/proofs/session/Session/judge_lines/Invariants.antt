use Rattle.std.proofs.Common.{◌≡◌, ◌+◌, ◌≤◌, ℕ, List, Option, length, false}
use Rattle.pe_lines.specs.Cutting.{Cuts}
use Rattle.pe_rules.specs.History.{History}
use Rattle.pe_session.specs.Judging.{Stands}
use Rattle.pe_session.specs.Session.{HasJudged}
use Rattle.pe_session.proofs.session.Session.judge_lines.Given as goal

abbrev pub invariant-loop-line : goal.invariant-loop-line
invariant-loop-line l = record {
  open_still : l.self.cutter.finished ≡ false;
  room : l.self.number + length l.self.cutter.bytes ≤ l.fn.self.number + length l.fn.self.cutter.bytes;
  went : (done : List (Option (List ℕ))) × Cuts l.fn.self.cutter.bytes done l.self.cutter.bytes
      × (l.self.number ≡ l.fn.self.number + length done)
      × ((duration : ℕ) (H : History) → Stands duration l.fn.self.engine H
      → HasJudged duration l.self.engine l.fn.self.number H l.fn.self.out.items l.self.out.items l.fn.self.refused l.self.refused done);
}

abbrev pub decreases-loop-line : goal.decreases-loop-line
decreases-loop-line l = length l.self.cutter.bytes
