use Rattle.std.proofs.Common.{refl, ◌∙◌}
use Rattle.pe_session.proofs.Words.{script-is-no-run, not-both, one-script, one-summary}
use Rattle.pe_session.proofs.serving.serve.Goals as goal

pub returns-in-Some-clause-generate : goal.returns-in-Some-clause-generate
returns-in-Some-clause-generate g c = λ seed count asks. absurd (not-both c.in-Some.duration _ c.in-Some.is (c.duration_asked.ensures.value ∙ script-is-no-run seed count _ asks))

pub returns-in-Some-script_asked-clause-generate : goal.returns-in-Some-script_asked-clause-generate
returns-in-Some-script_asked-clause-generate g c = λ seed count asks.
    let same = one-script _ _ _ _ _ c.in-Some-script_asked.is (c.script_asked.ensures.found seed count asks) in
    (refl, one-summary _ _ _ _ c.summarise.result _ _ same c.summarise.ensures.summary)

pub returns-in-Some-script_asked-clause-usage : goal.returns-in-Some-script_asked-clause-usage
returns-in-Some-script_asked-clause-usage g c = λ no. absurd (no.no_script _ _ (rw c.in-Some-script_asked.is at c.script_asked.ensures.asked))

pub returns-in-Ok-clause-generate : goal.returns-in-Ok-clause-generate
returns-in-Ok-clause-generate g c = λ seed count asks. absurd (not-both _ _ (c.script_asked.ensures.found seed count asks) c.in-None-script_asked.is)

pub returns-in-Err-clause-generate : goal.returns-in-Err-clause-generate
returns-in-Err-clause-generate g c = λ seed count asks. absurd (not-both _ _ (c.script_asked.ensures.found seed count asks) c.in-None-script_asked.is)
