use Rattle.std.proofs.Common.{◌≡◌, ◌∷◌, true, Some, Err, sym, ◌∙◌, ap, subst, true≢false}
use Rattle.std.specs.Prelude.{IsTrue, OnOk}
use Rattle.pe_base.specs.declared.state.State.{State}
use Rattle.pe_store.specs.declared.key.Life.{Life}
use Rattle.pe_store.specs.Entries.{completes_embargo}
use Rattle.pe_store.specs.Pairs.{Pair}
use Rattle.pe_rules.specs.Settings.{Setting, setting_by, holds}
use Rattle.pe_changes.specs.StoreSteps.{IsSet}
use Rattle.pe_engine.specs.Prompting.{setting_for, FitsStore}
use Rattle.pe_engine.specs.StandsFor.{EngineValue}
use Rattle.pe_engine.proofs.engine.Engine.store_decided.Goals as goal

pub unreachable-requires : goal.unreachable-requires
unreachable-requires g c =
    let pair : Pair = (c.args.feature, c.args.key) in
    let none = subst (FitsStore c.args.self.now.store pair) c.in_default.is c.requires.fits in
    let embargo = subst (λ (v : EngineValue). completes_embargo v.store pair ≡ true) c.self.view_is (c.in-Err-Full.ensures.full.0 (ap Err c.in-Err-Full.field-0-is)).0 in
    true≢false (sym embargo ∙ none)

pub store_setting-requires : goal.store_setting-requires
store_setting-requires g c = record { room = subst (FitsStore c.args.self.now.store (c.args.feature, c.args.key)) c.in-Some.is c.requires.fits }

pub returns-clause-set : goal.returns-clause-set
returns-clause-set g c = λ x decided.
    let pair : Pair = (c.args.feature, c.args.key) in
    let was = c.in-Some.is in
    let state-was = c.in-Some.state-is in
    let life-was = c.in-Some.life-is in
    let state : x.0 ≡ c.in-Some.state = cc in
    let life : x.1 ≡ c.in-Some.life = cc in
    let same : setting_for pair x ≡ setting_for pair (c.in-Some.state, c.in-Some.life) = ap (λ (q : State). setting_for pair (q, x.1)) state ∙ ap (λ (q : Life). setting_for pair (c.in-Some.state, q)) life in
    subst (λ (y : Setting). OnOk c.store_setting.result (IsSet y c.args.self.now.store c.store_setting.new.self.store)) (sym same) c.store_setting.ensures.set

pub returns-clause-changes : goal.returns-clause-changes
returns-clause-changes g c = λ T s x decided made lasts stored statuses governed.
    let pair : Pair = (c.args.feature, c.args.key) in
    let was = c.in-Some.is in
    let state-was = c.in-Some.state-is in
    let life-was = c.in-Some.life-is in
    let state : x.0 ≡ c.in-Some.state = cc in
    let life : x.1 ≡ c.in-Some.life = cc in
    let same : setting_for pair x ≡ setting_for pair (c.in-Some.state, c.in-Some.life) = ap (λ (q : State). setting_for pair (q, x.1)) state ∙ ap (λ (q : Life). setting_for pair (c.in-Some.state, q)) life in
    c.store_setting.ensures.changes T s (subst (λ (y : Setting). setting_by s.time s.event T ≡ Some y) same made) (subst (λ (l : Life). IsTrue (holds (s ∷ T) c.args.now l)) life lasts) stored statuses governed
