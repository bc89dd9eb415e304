use Rattle.std.proofs.Common.{sym, ◌∙◌}
use Rattle.pe_changes.specs.Parts.{is_silent}
use Rattle.pe_changes.proofs.Turns.{to-silent, to-heard}
use Rattle.pe_changes.proofs.walking.append_change.Goals as goal

pub returns-then-is_silent-clause-list : goal.returns-then-is_silent-clause-list
returns-then-is_silent-clause-list g c =
    to-silent (is_silent g.D.Numbered.doc_no g.D.Governed.blocks_feature c.args.frames.now.entries) c.args.time c.args.after c.args.status.now c.args.changes.now.items (sym c.if-is_silent.ensures.value)

pub returns-clause-list : goal.returns-clause-list
returns-clause-list g c =
    c.in_ok-push.ensures.items
    ∙ to-heard (is_silent g.D.Numbered.doc_no g.D.Governed.blocks_feature c.args.frames.now.entries) c.args.time c.args.after c.args.status.now c.args.changes.now.items (sym c.if-is_silent.ensures.value)
