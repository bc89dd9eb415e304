use Rattle.std.proofs.Common.{◌++◌, None, List, flat_map, sym, ◌∙◌, ap, append-nil}
use Rattle.pe_events.specs.declared.answer.Change.{Change}
use Rattle.pe_status.specs.Registry.{later_under}
use Rattle.pe_status.specs.declared.registered.Registered.{Registered}
use Rattle.pe_changes.specs.Gathered.{change_to}
use Rattle.pe_changes.specs.Parts.{is_silent}
use Rattle.pe_changes.proofs.Turns.{from-same, from-other}
use Rattle.pe_changes.proofs.walking.append_changes.Goals as goal

pub returns-then-is_same-clause-list : goal.returns-then-is_same-clause-list
returns-then-is_same-clause-list g c =
    let silent = is_silent g.D.Numbered.doc_no g.D.Governed.blocks_feature c.args.frames.now.entries in
    sym (append-nil c.args.changes.now.items)
    ∙ ap (λ (xs : List Change). c.args.changes.now.items ++ xs)
    (sym (from-same silent c.args.time c.args.before c.args.after (later_under (c.args.feature, c.args.key.now) None c.args.statuses.now.live) (sym c.if-is_same.ensures)))

pub returns-clause-list : goal.returns-clause-list
returns-clause-list g c =
    let silent = is_silent g.D.Numbered.doc_no g.D.Governed.blocks_feature c.args.frames.now.entries in
    let before = c.args.changes.now.items in
    c.in_ok-append_walked.ensures.list
    ∙ ap (λ (rs : List Registered). before ++ flat_map (change_to silent c.args.time c.args.after) rs) c.walk-walk.ensures.value
    ∙ ap (λ (xs : List Change). before ++ xs)
    (sym (from-other silent c.args.time c.args.before c.args.after (later_under (c.args.feature, c.args.key.now) None c.args.statuses.now.live) (sym c.if-is_same.ensures)))
