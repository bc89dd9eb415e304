use Rattle.std.proofs.Common.{◌≡◌, [], ap, ◌∙◌, sym, subst, true≢false}
use Rattle.std.specs.Option.{option_map}
use Rattle.pe_frames.specs.Forest.{Forest, entry_of}
use Rattle.pe_frames.specs.Order.{after, child_handles}
use Rattle.pe_frames.specs.Kept.{kept, entries_in, standing_in}
use Rattle.pe_frames.proofs.Standings.{no-entry, stands-at}
use Rattle.pe_frames.proofs.Kin.{child-dead, child-other, child-later}
use Rattle.pe_frames.proofs.frames.Frames.child_behind.Goals as goal

pub returns-in_err-here : goal.returns-in_err-here
returns-in_err-here g c =
    let xs = kept c.self.inside.rows c.self.inside.order.items [] in
    let is = c.self.invariant.forest in
    let k = c.args.child in
    let p = c.args.parent in
    let value = subst (λ (f : Forest _). c.standing.result ≡ option_map (standing_in f.entries k) (entry_of f.entries k)) (sym c.self.view_is) c.standing.ensures.value in
    let none = no-entry (entries_in xs) k c.standing.result c.in_err-here.was value in
    c.from_residual.ensures ∙ sym (child-dead xs is.nodes is.apart p k none) ∙ ap (λ f. after k (child_handles f.entries p)) c.self.view_is

pub returns-then-not-names : goal.returns-then-not-names
returns-then-not-names g c =
    let xs = kept c.self.inside.rows c.self.inside.order.items [] in
    let is = c.self.invariant.forest in
    let k = c.args.child in
    let p = c.args.parent in
    let value = subst (λ (f : Forest _). c.standing.result ≡ option_map (standing_in f.entries k) (entry_of f.entries k)) (sym c.self.view_is) c.standing.ensures.value in
    let at = stands-at (entries_in xs) k c.standing.result c.in_ok-here.here c.in_ok-here.was value in
    sym (child-other xs is.nodes is.apart p k at.entry at.found (λ q. true≢false (sym (c.names.ensures.1 (ap (λ x. x.parent) at.is ∙ q)) ∙ c.if-not-names.true))) ∙ ap (λ f. after k (child_handles f.entries p)) c.self.view_is

pub returns : goal.returns
returns g c =
    let xs = kept c.self.inside.rows c.self.inside.order.items [] in
    let is = c.self.invariant.forest in
    let k = c.args.child in
    let p = c.args.parent in
    let value = subst (λ (f : Forest _). c.standing.result ≡ option_map (standing_in f.entries k) (entry_of f.entries k)) (sym c.self.view_is) c.standing.ensures.value in
    let at = stands-at (entries_in xs) k c.standing.result c.in_ok-here.here c.in_ok-here.was value in
    ap (λ x. x.links.later) at.is ∙ child-later xs is.nodes is.apart p k at.entry (sym (ap (λ x. x.parent) at.is) ∙ c.names.ensures.0 c.if-not-names.false) ∙ ap (λ f. after k (child_handles f.entries p)) c.self.view_is
