use Rattle.std.proofs.Common.{◌++◌, List, flat_map, length, sym, ◌∙◌, ap, arith}
use Rattle.pe_status.specs.declared.registered.Registered.{Registered}
use Rattle.pe_changes.specs.Gathered.{change_to}
use Rattle.pe_changes.specs.Parts.{is_silent}
use Rattle.pe_changes.proofs.Turns.{turn-more}
use Rattle.pe_changes.proofs.walking.append_walked.Goals as goal

pub loop-status-preserved : goal.loop-status-preserved
loop-status-preserved g c =
    let f = change_to (is_silent g.D.Numbered.doc_no g.D.Governed.blocks_feature c.args.frames.now.entries) c.args.time c.args.after in
    let done = c.loop-status.changes.items in
    let fewer = ap length c.in-Some.ensures.steps in
    let cost = c.append_change.ensures.cost in
    let was = c.loop-status.invariant.1 in (
      turn-more f c.in-Some.status.now c.next.new.self done c.append_change.new.changes.items (c.args.changes.now.items ++ flat_map f c.args.walk) c.in_ok-append_change.ensures.list
          (ap (λ (rs : List Registered). done ++ flat_map f rs) (sym c.in-Some.ensures.steps) ∙ c.loop-status.invariant.0),
      omega (arith, fewer, cost, was),
    )
