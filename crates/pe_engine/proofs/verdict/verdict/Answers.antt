use Rattle.std.proofs.Common.{sym, ◌∙◌, ap}
use Rattle.pe_base.specs.Activation.{is_transient}
use Rattle.pe_features.specs.declared.call.Gate.{Gate}
use Rattle.pe_events.specs.declared.reason.Verdict.TheVariants as verdict
use Rattle.pe_rules.specs.Verdicts.{reason_denied, met_by}
use Rattle.pe_engine.proofs.Deciding.{verdict-denied, verdict-allowed}
use Rattle.pe_engine.proofs.verdict.verdict.Goals as goal

pub returns-in-Some : goal.returns-in-Some
returns-in-Some c = λ T f call e is kept.
    verdict-denied c.args.duration T c.args.now c.args.row.now.doc call c.in-Some.reason
    (ap (reason_denied c.args.duration T c.args.now c.args.row.now.doc) (sym e) ∙ sym (c.reason_denied.ensures T f is kept) ∙ c.in-Some.is)

pub returns-in-None : goal.returns-in-None
returns-in-None c = λ T f call e is kept.
    ap verdict.Allowed (c.met_by.ensures ∙ ap (met_by c.args.gate.need) c.transient.ensures ∙ ap (λ (g : Gate). met_by g.need (is_transient c.args.duration c.args.now c.args.row.now.stamp)) e)
    ∙ verdict-allowed c.history_laws.ensures c.args.duration T c.args.now f c.args.row.now call is
    (ap (reason_denied c.args.duration T c.args.now c.args.row.now.doc) (sym e) ∙ sym (c.reason_denied.ensures T f is kept) ∙ c.in-None.is)
