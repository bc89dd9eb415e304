use Rattle.std.proofs.Common.{◌++◌, ◌∷◌, arith, refl, []}
use Rattle.std.proofs.lemmas.List.{length_push}
use Rattle.pe_lines.specs.Cutting.{line_of_cut}
use Rattle.pe_output.specs.OutputText.{readings}
use Rattle.pe_session.specs.Session.{history_after_lines}
use Rattle.pe_session.proofs.Texts.{Went-more, Went-none}
use Rattle.pe_session.proofs.Stretches.{next-whole, Cuts-none, Cuts-join}
use Rattle.pe_session.proofs.session.Session.judge_lines.Goals as goal

pub loop-line-init : goal.loop-line-init
loop-line-init c = record { open_still = c.requires.open; room = omega arith; went = ([], Cuts-none _, omega arith, λ duration H h. Went-none duration _ _ H _ _ h) }

pub loop-line-preserved : goal.loop-line-preserved
loop-line-preserved c =
    let (open_still, took) = next-whole c.loop-line.self.cutter c.next_line.follows.lender-at-none c.next_line.result c.in-Some.line c.loop-line.invariant.open_still c.in-Some.is c.next_line.follows.holds-at-none in
    let (done, cuts, number, went) = c.loop-line.invariant.went in
    record {
      open_still = open_still;
      room = omega (arith, took.fewer, c.loop-line.invariant.room);
      went = (
        done ++ line_of_cut c.in-Some.line ∷ [],
        Cuts-join _ done _ _ _ cuts took,
        omega (arith, number, length_push done (line_of_cut c.in-Some.line)),
        λ duration H h. Went-more duration _ _ _ _ H _ _ _ _ _ _ _ done _ number (went duration H h)
            (c.in_ok-refused.ensures.ok duration (history_after_lines duration H (readings done)) (went duration H h).stands) refl,
      );
    }
