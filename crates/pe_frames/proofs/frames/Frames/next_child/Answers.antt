use Rattle.std.proofs.Common.{◌≡◌, None, [], ap, ◌∙◌, sym, subst}
use Rattle.std.specs.Option.{option_map}
use Rattle.pe_frames.specs.Forest.{Forest, entry_of}
use Rattle.pe_frames.specs.Order.{next_child_of}
use Rattle.pe_frames.specs.Kept.{kept, entries_in, standing_in}
use Rattle.pe_frames.proofs.Standings.{no-entry, stands-at}
use Rattle.pe_frames.proofs.Kin.{parent-dead, child-first}
use Rattle.pe_frames.proofs.frames.Frames.next_child.Goals as goal

pub returns-in_err-here-clause-value : goal.returns-in_err-here-clause-value
returns-in_err-here-clause-value g c =
    let xs = kept c.self.inside.rows c.self.inside.order.items [] in
    let is = c.self.invariant.forest in
    let p = c.args.parent in
    let value = subst (λ (f : Forest _). c.standing.result ≡ option_map (standing_in f.entries p) (entry_of f.entries p)) (sym c.self.view_is) c.standing.ensures.value in
    let none = no-entry (entries_in xs) p c.standing.result c.in_err-here.was value in
    c.from_residual.ensures ∙ sym (parent-dead xs is.nodes is.apart p none c.args.after) ∙ ap (λ f. next_child_of f.entries p c.args.after) c.self.view_is

pub returns-in-None-clause-value : goal.returns-in-None-clause-value
returns-in-None-clause-value g c =
    let xs = kept c.self.inside.rows c.self.inside.order.items [] in
    let is = c.self.invariant.forest in
    let p = c.args.parent in
    let value = subst (λ (f : Forest _). c.standing.result ≡ option_map (standing_in f.entries p) (entry_of f.entries p)) (sym c.self.view_is) c.standing.ensures.value in
    let at = stands-at (entries_in xs) p c.standing.result c.in_ok-here.here c.in_ok-here.was value in
    ap (λ x. x.links.first) at.is
    ∙ child-first xs is.nodes is.apart p at.entry
    ∙ ap (λ f. next_child_of f.entries p None) c.self.view_is
    ∙ ap (next_child_of c.args.self.now.entries p) (sym c.in-None.is)
