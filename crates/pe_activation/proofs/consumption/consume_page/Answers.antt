use Rattle.std.proofs.Common.{sym, ◌∙◌}
use Rattle.pe_frames.specs.Forest.{entry_of}
use Rattle.pe_frames.specs.Walk.{changed_under, changed_page}
use Rattle.pe_activation.specs.Consuming.{leaves}
use Rattle.pe_activation.proofs.Wrote.{of_page}
use Rattle.pe_activation.proofs.consumption.consume_page.Goals as goal

pub returns-clause-entries : goal.returns-clause-entries
returns-clause-entries g c =
    let old = c.args.frames.now.entries in
    let change = leaves g.D.Activatable.stamp_of g.D.Activatable.with_stamp g.D.Activatable.with_second c.args.what in
    of_page (entry_of old c.args.h) c.in-Some.top (sym c.top.ensures ∙ c.in-Some.is) (changed_under change old) (changed_page change old) c.consume_under.new.frames.entries c.consume_under.ensures.entries
    (c.is_changed_in_tree_order.ensures.page change c.args.h)
