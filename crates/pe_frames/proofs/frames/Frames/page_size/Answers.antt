use Rattle.std.specs.Prelude.{IfSome, ◌≤◌}
use Rattle.pe_base.specs.declared.limits.TheConstants.{FRAME_LIMIT}
use Rattle.std.proofs.Common.{◌≡◌, Some, ap, ◌∙◌, sym, subst}
use Rattle.std.specs.Option.{option_map, option_copied}
use Rattle.pe_frames.specs.Forest.{Forest, entry_of, top_of, page_size}
use Rattle.pe_frames.proofs.Sizes.{PageRow-live}
use Rattle.pe_frames.proofs.frames.Frames.page_size.Goals as goal

pub returns-in_err-get : goal.returns-in_err-get
returns-in_err-get g c =
    let k = c.in_ok-top.top in
    let top = subst (λ (f : Forest _). option_map top_of (entry_of f.entries c.args.h) ≡ Some k) (sym c.self.view_is) (sym c.top.ensures ∙ c.in_ok-top.was) in
    let page = PageRow-live c.self.inside.rows c.self.inside.order.items c.self.inside.pages c.self.invariant.forest c.args.h k top in
    let found = sym (ap option_copied c.in_err-get.was) ∙ c.get.ensures ∙ page.found in
    absurd cc

pub returns-clause-value : goal.returns-clause-value
returns-clause-value g c =
    let k = c.in_ok-top.top in
    let top = subst (λ (f : Forest _). option_map top_of (entry_of f.entries c.args.h) ≡ Some k) (sym c.self.view_is) (sym c.top.ensures ∙ c.in_ok-top.was) in
    let page = PageRow-live c.self.inside.rows c.self.inside.order.items c.self.inside.pages c.self.invariant.forest c.args.h k top in
    let found = sym (ap option_copied c.in_ok-get.was) ∙ c.get.ensures ∙ page.found in
    ap (option_map (λ r. r.size)) found ∙ sym page.size ∙ ap (λ f. option_map (λ e. page_size f.entries (top_of e)) (entry_of f.entries c.args.h)) c.self.view_is

pub returns-clause-within : goal.returns-clause-within
returns-clause-within g c =
    let k = c.in_ok-top.top in
    let top = subst (λ (f : Forest _). option_map top_of (entry_of f.entries c.args.h) ≡ Some k) (sym c.self.view_is) (sym c.top.ensures ∙ c.in_ok-top.was) in
    let page = PageRow-live c.self.inside.rows c.self.inside.order.items c.self.inside.pages c.self.invariant.forest c.args.h k top in
    let found = sym (ap option_copied c.in_ok-get.was) ∙ c.get.ensures ∙ page.found in
    subst (λ o. IfSome (option_map (λ r. r.size) o) (λ n. n ≤ FRAME_LIMIT)) (sym found) page.within
