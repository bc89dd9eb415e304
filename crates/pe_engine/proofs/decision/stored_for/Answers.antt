use Rattle.std.proofs.Common.{◌≡◌, Some, option_and_then, sym, ◌∙◌, ap}
use Rattle.pe_rules.specs.History.{clock}
use Rattle.pe_rules.specs.Settings.{pair_for, stored_state}
use Rattle.pe_engine.proofs.decision.stored_for.Goals as goal

pub returns-clause-stored : goal.returns-clause-stored
returns-clause-stored g c = λ T late is settled wanted f named.
    let feature = c.in_ok-feature.feature in
    let d = c.args.row.now.doc in
    let same : feature ≡ f = (let z : Some feature ≡ Some f = sym c.in_ok-feature.was ∙ named in cc) in
    c.stored_at.ensures.stored T (clock T) late is
    ∙ sym (ap (option_and_then (stored_state T c.args.now)) (c.in_ok-key.ensures.pair T settled))
    ∙ ap (λ x. option_and_then (stored_state T c.args.now) (pair_for T d x)) same
