use Rattle.std.proofs.Common.{◌++◌, [], ◌∙◌, sym, ap, arith, length, length-append}
use Rattle.pe_lines.specs.Lines.{ended_lines_or_too_long}
use Rattle.pe_output.specs.OutputText.{ended_text, readings}
use Rattle.pe_session.specs.Session.{history_after_lines}
use Rattle.pe_session.proofs.Stretches.{lines-more, piece-went}
use Rattle.pe_session.proofs.session.Session.take.Goals as goal

pub returns-in_default-write_whole-clause-write : goal.returns-in_default-write_whole-clause-write
returns-in_default-write_whole-clause-write g c = λ _. (
  c.in_default-write_whole.ensures.rose,
  λ duration taken h.
      let (done, cuts, none, number, went) = c.in-Ok-judge_lines.ensures.ok in
      let (same, all) = lines-more taken _ _ _ _ done h.cuts c.in-Ok.ensures.bytes cuts none in
      let (stands, adds, flag) = piece-went duration _ _ taken _ _ _ _ _ done same h.number (went duration (history_after_lines duration [] (readings (ended_lines_or_too_long taken))) h.stands) h.empty h.refused_is in
      let (front, rest, split, wrote) = c.in_default-write_whole.ensures.err in
      (front, rest, adds ∙ ap (λ t. ended_text duration taken ++ t) (sym c.deref.ensures.value ∙ split), wrote),
)

pub returns-clause-ok : goal.returns-clause-ok
returns-clause-ok g c = λ duration taken h.
    let (done, cuts, none, number, went) = c.in-Ok-judge_lines.ensures.ok in
    let (same, all) = lines-more taken _ _ _ _ done h.cuts c.in-Ok.ensures.bytes cuts none in
    let (stands, adds, flag) = piece-went duration _ _ taken _ _ _ _ _ done same h.number (went duration (history_after_lines duration [] (readings (ended_lines_or_too_long taken))) h.stands) h.empty h.refused_is in (
      record {
        cuts = all;
        none = none;
        open_still = c.judge_lines.ensures.open;
        number = omega (arith, number, h.number, ap length same, length-append (ended_lines_or_too_long taken) done);
        stands = stands;
        refused_is = flag;
        empty = c.clear.ensures.items;
      },
      (_, adds, rw c.deref.ensures.value at c.in-Ok-write_whole.ensures.ok),
    )
