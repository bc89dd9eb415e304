use Rattle.std.proofs.Common.{[], subst, arith}
use Rattle.std.proofs.KnownBytes.{Consumes-nil, Appends-nil}
use Rattle.pe_session.specs.Outcome.{IsCutShort}
use Rattle.pe_session.proofs.Outcomes.{cut-now, nothing-yet}
use Rattle.pe_session.proofs.Clauses.{whole-clause, cut-clause, long-clause, complete-clause, complete-long-clause, no-words}
use Rattle.pe_session.proofs.run.run_within.Goals as goal

pub returns-in_default-clause-text : goal.returns-in_default-clause-text
returns-in_default-clause-text g c =
    ([], [], Consumes-nil _, Appends-nil _, subst (IsCutShort c.args.duration [] _) (nothing-yet c.args.duration) (cut-now (record { ended = c.ended_lines_stay.ensures.ended; all = c.ended_lines_stay.ensures.all }) c.args.duration [] _))

pub returns-clause-whole : goal.returns-clause-whole
returns-clause-whole g c = let (taken, wrote, given, put, w) = rw c.new.ensures.stands.lasts at c.stream.ensures.text in whole-clause c.args.duration _ _ _ _ _ _ taken wrote given put w

pub returns-clause-cut_short : goal.returns-clause-cut_short
returns-clause-cut_short g c = let (taken, wrote, given, put, w) = rw c.new.ensures.stands.lasts at c.stream.ensures.text in cut-clause c.args.duration _ _ _ _ _ _ taken wrote given put w

pub returns-clause-too_long : goal.returns-clause-too_long
returns-clause-too_long g c = let (taken, wrote, given, put, w) = rw c.new.ensures.stands.lasts at c.stream.ensures.text in long-clause c.args.duration _ _ _ _ _ _ taken wrote given put w

pub returns-clause-complete : goal.returns-clause-complete
returns-clause-complete g c = λ same_source same_sink. let (taken, wrote, given, put, w) = rw c.new.ensures.stands.lasts at c.stream.ensures.text in
    complete-clause c.args.duration _ _ _ _ _ _ taken wrote given put w (λ e. let rose = c.stream.ensures.read_fault e in omega arith) (λ e. let rose = c.stream.ensures.write_fault e in omega arith)

pub returns-clause-complete_long : goal.returns-clause-complete_long
returns-clause-complete_long g c = λ same_source same_sink. let (taken, wrote, given, put, w) = rw c.new.ensures.stands.lasts at c.stream.ensures.text in
    complete-long-clause c.args.duration _ _ _ _ _ _ taken wrote given put w (λ e. let rose = c.stream.ensures.read_fault e in omega arith) (λ e. let rose = c.stream.ensures.write_fault e in omega arith)

pub returns-clause-no_words : goal.returns-clause-no_words
returns-clause-no_words g c = let (taken, wrote, given, put, w) = rw c.new.ensures.stands.lasts at c.stream.ensures.text in no-words c.args.duration _ _ _ taken wrote w
