use Rattle.std.proofs.Common.{◌≡◌, Some, option_map, option_and_then, sym, ◌∙◌, ap, subst}
use Rattle.std.specs.Option.{option_copied}
use Rattle.pe_store.specs.Pairs.{Pair}
use Rattle.pe_store.specs.declared.key.Key.{Key}
use Rattle.pe_rules.specs.Embedders.{page, page_of_frame}
use Rattle.pe_rules.specs.Replies.{replied}
use Rattle.pe_rules.specs.Settings.{pair_for, stored_state}
use Rattle.pe_changes.specs.Parts.{IsStore}
use Rattle.pe_engine.specs.StandsFor.{EngineValue}
use Rattle.pe_engine.proofs.Look.{page-of}
use Rattle.pe_engine.proofs.Queried.{some-injective}
use Rattle.pe_engine.proofs.engine.Engine.asking.Goals as goal

pub returns-clause-asks : goal.returns-clause-asks
returns-clause-asks g c = λ H f name s at named.
    let T = replied c.args.self.now.duration H in
    let row = c.row-row.result.now in
    let shown = c.row-row.ensures.shown H f s at in
    let kept : pair_for T row.doc c.args.feature ≡ Some (c.args.feature, c.unwrap-key.result.now) =
    c.key_for.ensures.pair T shown.row.settled ∙ ap (λ o. option_map (λ (k : Key). (c.args.feature, k)) (option_copied o)) c.unwrap-key.ensures in
    record {
      shown = shown.document;
      named = named;
      paged = some-injective (page_of_frame T f) (page T row.doc) c.page_of-page.result (page-of T f row.doc shown.document) (c.page_of-page.ensures H f s at);
      paired = kept ∙ ap (λ (k : Key). Some (c.args.feature, k)) (sym c.in_ok-key.ensures);
    }

pub returns-clause-state : goal.returns-clause-state
returns-clause-state g c = λ H f s late at.
    let e = c.args.self.now in
    let T = replied e.duration H in
    let row = c.row-row.result.now in
    let shown = c.row-row.ensures.shown H f s at in
    let kept : pair_for T row.doc c.args.feature ≡ Some (c.args.feature, c.unwrap-key.result.now) =
    c.key_for.ensures.pair T shown.row.settled ∙ ap (λ o. option_map (λ (k : Key). (c.args.feature, k)) (option_copied o)) c.unwrap-key.ensures in
    c.permission_state-state.ensures T c.args.now shown.row.settled (c.stored_at-stored.ensures.stored T e.clock late (subst (λ (v : EngineValue). IsStore T e.clock v.store) (sym c.self.view_is) s.steps.store) ∙ ap (option_and_then (stored_state T c.args.now)) (sym kept))
