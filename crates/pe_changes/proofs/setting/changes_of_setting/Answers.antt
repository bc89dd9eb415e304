use Rattle.std.proofs.Common.{◌++◌, None, List, Option, flat_map, unwrap_or, sym, ◌∙◌, ap}
use Rattle.pe_base.specs.declared.state.State.{State}
use Rattle.pe_base.specs.declared.state.State.TheVariants as state
use Rattle.pe_events.specs.declared.answer.Change.{Change}
use Rattle.pe_status.specs.Registry.{later_under}
use Rattle.pe_changes.specs.Gathered.{change_from}
use Rattle.pe_changes.specs.Parts.{is_silent}
use Rattle.pe_changes.proofs.After.{set-at}
use Rattle.pe_changes.proofs.Governing.{silent-blocked}
use Rattle.pe_changes.proofs.Stored.{stored-is}
use Rattle.pe_changes.proofs.setting.changes_of_setting.Goals as goal

pub returns-clause-changes : goal.returns-clause-changes
returns-clause-changes g c T s x made pair after lasts is stand governed =
    let silent = is_silent g.D.Numbered.doc_no g.D.Governed.blocks_feature c.args.frames.now.entries in
    let live = c.args.statuses.now.live in
    let laws = c.history_laws.ensures in
    c.in_ok-append_changes.ensures.list
    ∙ ap (λ (xs : List Change). xs ++ flat_map (change_from silent c.args.now c.stored_or_prompt-before.result c.args.after) (later_under (c.args.feature, c.args.key.now) None live)) c.new-changes.ensures.items
    ∙ ap (λ (b : State). flat_map (change_from silent c.args.now b c.args.after) (later_under (c.args.feature, c.args.key.now) None live))
    (c.stored_or_prompt-before.ensures.value ∙ ap (λ (o : Option State). unwrap_or o state.Prompt) (stored-is laws T c.args.now c.args.store.now (c.args.feature, c.args.key.now) is))
    ∙ sym (set-at laws c.same_pairs_are_one.ensures s T c.args.now silent live x (c.args.feature, c.args.key.now) c.args.after pair after made lasts stand.live stand.paired
    (silent-blocked T g.D.Numbered.doc_no g.D.Governed.blocks_feature c.args.frames.now.entries live governed))
