use Rattle.std.proofs.Common.{◌≡◌, ◌+◌, ◌&&◌, ◌==◌, nat_le, true, false, option_and_then, sym, ◌∙◌, ap, subst}
use Rattle.pe_base.specs.declared.limits.TheConstants.{EMBARGO_DISMISSALS}
use Rattle.pe_store.specs.Entries.{dismissals_of, entry_of}
use Rattle.pe_rules.specs.Replies.{replied}
use Rattle.pe_rules.specs.Settings.{is_undecided, dismissals, stored_state}
use Rattle.pe_store.specs.Pairs.{Pair}
use Rattle.pe_changes.specs.Parts.{IsStore}
use Rattle.pe_engine.specs.StandsFor.{EngineValue}
use Rattle.pe_engine.specs.Using.{state_at}
use Rattle.pe_engine.proofs.Prompted.{embargo-is}
use Rattle.pe_engine.proofs.Storing.{embargo-later, reaches}
use Rattle.pe_engine.proofs.engine.Engine.is_embargo.Goals as goal

pub returns-then-not-is_undecided-clause-embargo : goal.returns-then-not-is_undecided-clause-embargo
returns-then-not-is_undecided-clause-embargo g c = λ H s late.
    let e = c.args.self.now in
    let T = replied e.duration H in
    let pair : Pair = (c.args.feature, c.args.key.now) in
    let decided : is_undecided (stored_state T c.args.now pair) ≡ false = ap is_undecided (sym (c.stored_at.ensures.stored T e.clock late (subst (λ (v : EngineValue). IsStore T e.clock v.store) (sym c.self.view_is) s.steps.store))) ∙ sym c.is_undecided.ensures ∙ c.if-not-is_undecided.true in
    sym (embargo-is c.engine_laws.ensures.history T c.args.now pair ∙ ap (λ b. b && dismissals T pair + 1 == EMBARGO_DISMISSALS) decided)

pub returns-clause-embargo : goal.returns-clause-embargo
returns-clause-embargo g c = λ H s late.
    let e = c.args.self.now in
    let T = replied e.duration H in
    let pair : Pair = (c.args.feature, c.args.key.now) in
    let undecided : is_undecided (stored_state T c.args.now pair) ≡ true = ap is_undecided (sym (c.stored_at.ensures.stored T e.clock late (subst (λ (v : EngineValue). IsStore T e.clock v.store) (sym c.self.view_is) s.steps.store))) ∙ sym c.is_undecided.ensures ∙ c.if-not-is_undecided.false in
    let count : c.dismissals.result ≡ dismissals T pair = c.dismissals.ensures.count ∙ ap (λ (v : EngineValue). dismissals_of v.store pair) c.self.view_is ∙ s.steps.store.dismissals pair in
    ap (λ n. n + 1 == EMBARGO_DISMISSALS) count ∙ sym (embargo-is c.engine_laws.ensures.history T c.args.now pair ∙ ap (λ b. b && dismissals T pair + 1 == EMBARGO_DISMISSALS) undecided)

pub returns-then-not-is_undecided-clause-later : goal.returns-then-not-is_undecided-clause-later
returns-then-not-is_undecided-clause-later g c = λ later is.
    let e = c.args.self.now in
    let pair : Pair = (c.args.feature, c.args.key.now) in
    let found = ap is_undecided (sym (c.stored_at.ensures.entry ∙ ap (λ (v : EngineValue). option_and_then (state_at c.args.now) (entry_of v.store.entries pair)) c.self.view_is)) ∙ sym c.is_undecided.ensures ∙ c.if-not-is_undecided.true in
    sym (embargo-later c.args.now e.store later pair is ∙ ap (λ b. b && nat_le EMBARGO_DISMISSALS (dismissals_of e.store pair + 1)) found)

pub returns-clause-later : goal.returns-clause-later
returns-clause-later g c = λ later is.
    let e = c.args.self.now in
    let pair : Pair = (c.args.feature, c.args.key.now) in
    let found = ap is_undecided (sym (c.stored_at.ensures.entry ∙ ap (λ (v : EngineValue). option_and_then (state_at c.args.now) (entry_of v.store.entries pair)) c.self.view_is)) ∙ sym c.is_undecided.ensures ∙ c.if-not-is_undecided.false in
    let count : c.dismissals.result ≡ dismissals_of e.store pair = c.dismissals.ensures.count ∙ ap (λ (v : EngineValue). dismissals_of v.store pair) c.self.view_is in
    reaches c.dismissals.result c.dismissals.ensures.few ∙ ap (λ n. nat_le EMBARGO_DISMISSALS (n + 1)) count
    ∙ sym (embargo-later c.args.now e.store later pair is ∙ ap (λ b. b && nat_le EMBARGO_DISMISSALS (dismissals_of e.store pair + 1)) found)
