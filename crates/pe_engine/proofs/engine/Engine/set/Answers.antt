use Rattle.std.proofs.Common.{[], ◌∷◌, ◌++◌, Some, None, Ok, Err, refl, sym, ◌∙◌, ap, subst, true≢false}
use Rattle.std.specs.Option.{option_or}
use Rattle.pe_store.specs.Pairs.{Pair}
use Rattle.pe_store.specs.declared.key.Life.{Life}
use Rattle.pe_events.specs.declared.cause.Cause.TheVariants as cause
use Rattle.pe_events.specs.declared.event.Event.TheVariants as event
use Rattle.pe_rules.specs.History.{some_if}
use Rattle.pe_rules.specs.Replies.{replied}
use Rattle.pe_changes.specs.StoreSteps.{IsSet}
use Rattle.pe_engine.specs.declared.engine.Made.TheVariants as made
use Rattle.pe_engine.specs.Giving.{GivesPair}
use Rattle.pe_engine.specs.Replying.{timed}
use Rattle.pe_engine.specs.StandsFor.{EngineValue}
use Rattle.pe_engine.proofs.Answering.{replied-for}
use Rattle.pe_engine.proofs.CausesParts.{first-time, then-other, no-object}
use Rattle.pe_engine.proofs.Settings.{setting_at, words-set, store-set, pair-refused, paired, has-set, BringsSetting, set-reply}
use Rattle.pe_engine.proofs.engine.Engine.set.Goals as goal

pub returns-in_err-next : goal.returns-in_err-next
returns-in_err-next g c = λ H s. replied-for _ H _ _ c.from_residual.result c.from_residual.ensures.1 (first-time _ _ _ _ (c.in_err-next.ensures.cause H s))

pub returns-in-Err : goal.returns-in-Err
returns-in-Err g c = λ H s.
    let e = c.args.self.now in
    let T = replied e.duration H in
    let x = event.SetState c.args.feature.now c.args.first.now c.args.second.now c.args.state c.args.span in
    let gives = subst (λ f. GivesPair f c.args.first.now c.args.second.now (Err c.in-Err.refusal)) c.as_slice.ensures
    (subst (λ o. GivesPair c.as_slice.result.now o c.args.second.now (Err c.in-Err.refusal)) c.as_slice-2.ensures c.in-Err.ensures) in
    pair-refused e H (timed c.args.now x) c.args.feature.now c.args.first.now c.args.second.now c.in-Err.refusal gives
    (λ why is. then-other T c.args.now x (c.in_ok-next.ensures.none H s) (no-object T x refl) ∙ words-set T c.args.now c.args.feature.now c.args.first.now c.args.second.now c.args.state c.args.span why is)

pub returns-then-exceeds_store : goal.returns-then-exceeds_store
returns-then-exceeds_store g c = λ H s.
    let e = c.args.self.now in
    let T = replied e.duration H in
    let x = event.SetState c.args.feature.now c.args.first.now c.args.second.now c.args.state c.args.span in
    let pair : Pair = (c.in-Ok.pair.0, c.in-Ok.pair.1) in
    let gives = subst (λ f. GivesPair f c.args.first.now c.args.second.now (Ok c.in-Ok.pair)) c.as_slice.ensures
    (subst (λ o. GivesPair c.as_slice.result.now o c.args.second.now (Ok c.in-Ok.pair)) c.as_slice-2.ensures c.in-Ok.ensures) in
    record {
      first = then-other T c.args.now x (c.in_ok-next.ensures.none H s) (no-object T x refl)
          ∙ store-set T c.args.now c.args.feature.now c.args.first.now c.args.second.now c.args.state c.args.span pair gives.0 (gives.1 ∙ ap Some (sym (paired c.in-Ok.pair)))
          ∙ ap (λ b. option_or (some_if b cause.LimitStore) None) (sym (c.exceeds_store.ensures.limit H s) ∙ c.if-exceeds_store.true);
      kept = refl;
    }

pub returns : goal.returns
returns g c = λ H s.
    let e = c.args.self.now in
    let T = replied e.duration H in
    let now = c.args.now in
    let x = event.SetState c.args.feature.now c.args.first.now c.args.second.now c.args.state c.args.span in
    let laws = c.engine_laws.ensures in
    let p = c.pass.new.self in
    let u = c.note.new.self in
    let w = c.store_setting.new.self in
    let S = w.store in
    let pair : Pair = (c.in-Ok.pair.0, c.in-Ok.pair.1) in
    let y = setting_at now pair c.args.state c.args.span in
    let gives = subst (λ f. GivesPair f c.args.first.now c.args.second.now (Ok c.in-Ok.pair)) c.as_slice.ensures
    (subst (λ o. GivesPair c.as_slice.result.now o c.args.second.now (Ok c.in-Ok.pair)) c.as_slice-2.ensures c.in-Ok.ensures) in
    let named = gives.1 ∙ ap Some (sym (paired c.in-Ok.pair)) in
    let none = then-other T now x (c.in_ok-next.ensures.none H s) (no-object T x refl)
    ∙ store-set T now c.args.feature.now c.args.first.now c.args.second.now c.args.state c.args.span pair gives.0 named
    ∙ ap (λ b. option_or (some_if b cause.LimitStore) None) (sym (c.exceeds_store.ensures.limit H s) ∙ c.if-exceeds_store.false) in
    let set : IsSet y p.store S = subst (λ (l : Life). IsSet (record { pair = pair; state = c.args.state; life = l }) p.store S) c.life_for-life.ensures c.in_ok-after.ensures.set in
    let has = has-set e p u S now y c.in_ok-before.ensures.rest
    (c.in_ok-note.ensures.ok ∙ ap (λ (v : EngineValue). record v { clock = now; made = v.made ++ made.Nothing ∷ [] }) c.in_ok-after.ensures.rest) set in
    set-reply laws e p u S H now c.args.feature.now c.args.first.now c.args.second.now c.args.state c.args.span pair c.in_ok-before.before c.in_ok-after.after
    s (c.in_ok-before.ensures.passed H s c.in_ok-next.ensures.late) c.in_ok-before.ensures.rest has c.requires.span none named
    (λ t. subst (λ (l : Life). BringsSetting p t now (record { pair = pair; state = c.args.state; life = l }) c.in_ok-after.after) c.life_for-life.ensures
    (λ U made lasts kept statuses governed. c.in_ok-after.ensures.changes U t made lasts kept statuses governed))

pub store_setting-requires : goal.store_setting-requires
store_setting-requires g c = record { room = λ full. absurd (true≢false (sym (c.exceeds_store.ensures.room c.args.now c.pass.new.self.store c.in_ok-before.ensures.lapsed full) ∙ c.if-exceeds_store.false)) }
