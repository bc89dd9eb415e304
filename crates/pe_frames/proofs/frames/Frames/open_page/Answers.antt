use Rattle.std.proofs.Common.{[], ◌∷◌, ◌++◌, arith, ap, ◌∙◌, sym, subst, refl}
use Rattle.pe_frames.specs.declared.row.Row.{Row}
use Rattle.pe_frames.specs.declared.node.Node.{Node}
use Rattle.pe_frames.specs.Forest.{Gives, StayDead}
use Rattle.pe_frames.specs.Kept.{forest_in}
use Rattle.pe_frames.proofs.Topped.{Opens, IsForest-top, IsSwept-top, entries-top, new-top, Gives-top, StayDead-top}
use Rattle.pe_frames.proofs.frames.Frames.open_page.Goals as goal

pub invariant_of-self-2 : goal.invariant_of-self-2
invariant_of-self-2 g c =
    let s = c.self.inside.rows in
    let mid = c.put_row.new.rows in
    let t = c.name_top.new.rows in
    let order = c.self.inside.order.items in
    let h = c.in-Ok.h in
    let row : Row _ = record { node = c.top.result; size = 1; links = c.behind.result } in
    let opens : Opens s mid t h c.args.frame c.args.doc row = record {
      new = c.in-Ok.ensures.new;
      given = c.in-Ok.ensures.given;
      fresh = c.in-Ok.ensures.generation;
      slots = c.in-Ok.ensures.slots;
      taken = c.in-Ok.ensures.updates;
      node = ap (λ (n : Node _). record n { top = h }) c.top.ensures;
      links = c.behind.ensures;
      one = refl;
      alone = c.name_top.ensures.alone;
      written = c.name_top.ensures.written;
    } in
    let few = c.self.invariant.forest.few in
    rw (c.push_reserved.ensures.items, c.reserve.ensures.items)
    (record {
      forest = IsForest-top s mid t order c.self.inside.pages c.self.invariant.forest h c.args.frame c.args.doc row opens (omega arith);
      swept = IsSwept-top s mid t order c.self.inside.pages c.self.invariant.forest h c.args.frame c.args.doc row opens c.self.inside.dead c.self.invariant.swept;
    })

pub returns-clause-entries : goal.returns-clause-entries
returns-clause-entries g c =
    let s = c.self.inside.rows in
    let mid = c.put_row.new.rows in
    let t = c.name_top.new.rows in
    let order = c.self.inside.order.items in
    let h = c.in-Ok.h in
    let row : Row _ = record { node = c.top.result; size = 1; links = c.behind.result } in
    let opens : Opens s mid t h c.args.frame c.args.doc row = record {
      new = c.in-Ok.ensures.new;
      given = c.in-Ok.ensures.given;
      fresh = c.in-Ok.ensures.generation;
      slots = c.in-Ok.ensures.slots;
      taken = c.in-Ok.ensures.updates;
      node = ap (λ (n : Node _). record n { top = h }) c.top.ensures;
      links = c.behind.ensures;
      one = refl;
      alone = c.name_top.ensures.alone;
      written = c.name_top.ensures.written;
    } in
    rw (c.push_reserved.ensures.items, c.reserve.ensures.items, ← c.self.view_is)
    (entries-top s mid t order c.self.inside.pages c.self.invariant.forest h c.args.frame c.args.doc row opens)

pub returns-clause-new : goal.returns-clause-new
returns-clause-new g c =
    let s = c.self.inside.rows in
    let mid = c.put_row.new.rows in
    let t = c.name_top.new.rows in
    let order = c.self.inside.order.items in
    let h = c.in-Ok.h in
    let row : Row _ = record { node = c.top.result; size = 1; links = c.behind.result } in
    let opens : Opens s mid t h c.args.frame c.args.doc row = record {
      new = c.in-Ok.ensures.new;
      given = c.in-Ok.ensures.given;
      fresh = c.in-Ok.ensures.generation;
      slots = c.in-Ok.ensures.slots;
      taken = c.in-Ok.ensures.updates;
      node = ap (λ (n : Node _). record n { top = h }) c.top.ensures;
      links = c.behind.ensures;
      one = refl;
      alone = c.name_top.ensures.alone;
      written = c.name_top.ensures.written;
    } in
    rw (← c.self.view_is) (new-top s mid t order c.self.inside.pages c.self.invariant.forest h c.args.frame c.args.doc row opens)

pub returns-clause-marks : goal.returns-clause-marks
returns-clause-marks g c =
    let s = c.self.inside.rows in
    let mid = c.put_row.new.rows in
    let t = c.name_top.new.rows in
    let order = c.self.inside.order.items in
    let h = c.in-Ok.h in
    let row : Row _ = record { node = c.top.result; size = 1; links = c.behind.result } in
    let opens : Opens s mid t h c.args.frame c.args.doc row = record {
      new = c.in-Ok.ensures.new;
      given = c.in-Ok.ensures.given;
      fresh = c.in-Ok.ensures.generation;
      slots = c.in-Ok.ensures.slots;
      taken = c.in-Ok.ensures.updates;
      node = ap (λ (n : Node _). record n { top = h }) c.top.ensures;
      links = c.behind.ensures;
      one = refl;
      alone = c.name_top.ensures.alone;
      written = c.name_top.ensures.written;
    } in
    let gives = Gives-top s mid t order c.self.inside.pages c.self.invariant.forest h c.args.frame c.args.doc row opens in
    rw (← c.self.view_is) (subst (λ hs. Gives (forest_in s order) (forest_in t hs) h) (sym (c.push_reserved.ensures.items ∙ ap (λ hs. hs ++ h ∷ []) c.reserve.ensures.items)) gives)

pub returns-clause-dead : goal.returns-clause-dead
returns-clause-dead g c =
    let s = c.self.inside.rows in
    let mid = c.put_row.new.rows in
    let t = c.name_top.new.rows in
    let order = c.self.inside.order.items in
    let h = c.in-Ok.h in
    let row : Row _ = record { node = c.top.result; size = 1; links = c.behind.result } in
    let opens : Opens s mid t h c.args.frame c.args.doc row = record {
      new = c.in-Ok.ensures.new;
      given = c.in-Ok.ensures.given;
      fresh = c.in-Ok.ensures.generation;
      slots = c.in-Ok.ensures.slots;
      taken = c.in-Ok.ensures.updates;
      node = ap (λ (n : Node _). record n { top = h }) c.top.ensures;
      links = c.behind.ensures;
      one = refl;
      alone = c.name_top.ensures.alone;
      written = c.name_top.ensures.written;
    } in
    let stay = StayDead-top s mid t order c.self.inside.pages c.self.invariant.forest h c.args.frame c.args.doc row opens in
    rw (← c.self.view_is) (subst (λ hs. StayDead (forest_in s order) (forest_in t hs)) (sym (c.push_reserved.ensures.items ∙ ap (λ hs. hs ++ h ∷ []) c.reserve.ensures.items)) stay)
