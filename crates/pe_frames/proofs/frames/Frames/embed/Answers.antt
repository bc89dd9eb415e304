use Rattle.std.proofs.Common.{◌≡◌, ◌≢◌, ◌+◌, [], ◌∷◌, ◌++◌, ap, ◌∙◌, sym, subst}
use Rattle.std.specs.Prelude.{IsSomeAnd}
use Rattle.pe_frames.specs.declared.row.Row.{Row}
use Rattle.pe_frames.specs.Forest.{Forest, Gives, StayDead, page_size, entry_of, top_of, depth_of}
use Rattle.pe_frames.specs.Order.{head_of}
use Rattle.pe_frames.specs.Neighbours.{children_newest_first}
use Rattle.pe_frames.specs.Kept.{kept, entries_in, forest_in}
use Rattle.pe_frames.proofs.Below.{below-of}
use Rattle.pe_frames.proofs.Embedded.{Embeds, top-live, top-room, parent-live, last-live, makes-below, IsForest-below, IsSwept-below, entries-below, new-below, Gives-below, StayDead-below}
use Rattle.pe_frames.proofs.frames.Frames.embed.Goals as goal

pub grow_page-requires-clause-live : goal.grow_page-requires-clause-live
grow_page-requires-clause-live g c =
    let s = c.self.inside.rows in
    let mid = c.put_row.new.rows in
    let order = c.self.inside.order.items in
    let p = c.args.parent in
    let place = c.in_ok-place.place in
    let h = c.in-Ok.h in
    let row : Row _ = record { node = c.below-node.result; size = 0; links = c.behind-links.result } in
    let embeds : Embeds s mid order p place h c.args.frame c.args.doc row = record {
      below = below-of (entries_in (kept s order [])) p place (subst (λ (f : Forest _). IsSomeAnd (entry_of f.entries p) (λ e. place ≡ record { top = top_of e; depth = depth_of e + 1; last = head_of (children_newest_first f.entries p) })) (sym c.self.view_is) c.in_ok-place.ensures.place);
      room = subst (λ (f : Forest _). page_size f.entries place.top ≢ 256) (sym c.self.view_is) c.in_ok-place.ensures.room;
      deep = c.in_ok-place.ensures.depth;
      new = c.in-Ok.ensures.new;
      given = c.in-Ok.ensures.given;
      fresh = c.in-Ok.ensures.generation;
      slots = c.in-Ok.ensures.slots;
      taken = c.in-Ok.ensures.updates;
      node = c.below-node.ensures;
      links = c.behind-links.ensures;
    } in
    top-live s mid order c.self.inside.pages c.self.invariant.forest p place h c.args.frame c.args.doc row embeds

pub grow_page-requires-clause-room : goal.grow_page-requires-clause-room
grow_page-requires-clause-room g c =
    let s = c.self.inside.rows in
    let mid = c.put_row.new.rows in
    let order = c.self.inside.order.items in
    let p = c.args.parent in
    let place = c.in_ok-place.place in
    let h = c.in-Ok.h in
    let row : Row _ = record { node = c.below-node.result; size = 0; links = c.behind-links.result } in
    let embeds : Embeds s mid order p place h c.args.frame c.args.doc row = record {
      below = below-of (entries_in (kept s order [])) p place (subst (λ (f : Forest _). IsSomeAnd (entry_of f.entries p) (λ e. place ≡ record { top = top_of e; depth = depth_of e + 1; last = head_of (children_newest_first f.entries p) })) (sym c.self.view_is) c.in_ok-place.ensures.place);
      room = subst (λ (f : Forest _). page_size f.entries place.top ≢ 256) (sym c.self.view_is) c.in_ok-place.ensures.room;
      deep = c.in_ok-place.ensures.depth;
      new = c.in-Ok.ensures.new;
      given = c.in-Ok.ensures.given;
      fresh = c.in-Ok.ensures.generation;
      slots = c.in-Ok.ensures.slots;
      taken = c.in-Ok.ensures.updates;
      node = c.below-node.ensures;
      links = c.behind-links.ensures;
    } in
    top-room s mid order c.self.inside.pages c.self.invariant.forest p place h c.args.frame c.args.doc row embeds

pub link-requires-clause-parent : goal.link-requires-clause-parent
link-requires-clause-parent g c =
    let s = c.self.inside.rows in
    let mid = c.put_row.new.rows in
    let order = c.self.inside.order.items in
    let p = c.args.parent in
    let place = c.in_ok-place.place in
    let h = c.in-Ok.h in
    let row : Row _ = record { node = c.below-node.result; size = 0; links = c.behind-links.result } in
    let embeds : Embeds s mid order p place h c.args.frame c.args.doc row = record {
      below = below-of (entries_in (kept s order [])) p place (subst (λ (f : Forest _). IsSomeAnd (entry_of f.entries p) (λ e. place ≡ record { top = top_of e; depth = depth_of e + 1; last = head_of (children_newest_first f.entries p) })) (sym c.self.view_is) c.in_ok-place.ensures.place);
      room = subst (λ (f : Forest _). page_size f.entries place.top ≢ 256) (sym c.self.view_is) c.in_ok-place.ensures.room;
      deep = c.in_ok-place.ensures.depth;
      new = c.in-Ok.ensures.new;
      given = c.in-Ok.ensures.given;
      fresh = c.in-Ok.ensures.generation;
      slots = c.in-Ok.ensures.slots;
      taken = c.in-Ok.ensures.updates;
      node = c.below-node.ensures;
      links = c.behind-links.ensures;
    } in
    parent-live s mid order c.self.inside.pages c.self.invariant.forest p place h c.args.frame c.args.doc row embeds c.grow_page.new.rows c.grow_page.ensures.alone c.grow_page.ensures.written

pub link-requires-clause-last : goal.link-requires-clause-last
link-requires-clause-last g c =
    let s = c.self.inside.rows in
    let mid = c.put_row.new.rows in
    let order = c.self.inside.order.items in
    let p = c.args.parent in
    let place = c.in_ok-place.place in
    let h = c.in-Ok.h in
    let row : Row _ = record { node = c.below-node.result; size = 0; links = c.behind-links.result } in
    let embeds : Embeds s mid order p place h c.args.frame c.args.doc row = record {
      below = below-of (entries_in (kept s order [])) p place (subst (λ (f : Forest _). IsSomeAnd (entry_of f.entries p) (λ e. place ≡ record { top = top_of e; depth = depth_of e + 1; last = head_of (children_newest_first f.entries p) })) (sym c.self.view_is) c.in_ok-place.ensures.place);
      room = subst (λ (f : Forest _). page_size f.entries place.top ≢ 256) (sym c.self.view_is) c.in_ok-place.ensures.room;
      deep = c.in_ok-place.ensures.depth;
      new = c.in-Ok.ensures.new;
      given = c.in-Ok.ensures.given;
      fresh = c.in-Ok.ensures.generation;
      slots = c.in-Ok.ensures.slots;
      taken = c.in-Ok.ensures.updates;
      node = c.below-node.ensures;
      links = c.behind-links.ensures;
    } in
    last-live s mid order c.self.inside.pages c.self.invariant.forest p place h c.args.frame c.args.doc row embeds c.grow_page.new.rows c.grow_page.ensures.alone c.grow_page.ensures.written

pub invariant_of-self-2 : goal.invariant_of-self-2
invariant_of-self-2 g c =
    let s = c.self.inside.rows in
    let mid = c.put_row.new.rows in
    let order = c.self.inside.order.items in
    let p = c.args.parent in
    let place = c.in_ok-place.place in
    let h = c.in-Ok.h in
    let row : Row _ = record { node = c.below-node.result; size = 0; links = c.behind-links.result } in
    let embeds : Embeds s mid order p place h c.args.frame c.args.doc row = record {
      below = below-of (entries_in (kept s order [])) p place (subst (λ (f : Forest _). IsSomeAnd (entry_of f.entries p) (λ e. place ≡ record { top = top_of e; depth = depth_of e + 1; last = head_of (children_newest_first f.entries p) })) (sym c.self.view_is) c.in_ok-place.ensures.place);
      room = subst (λ (f : Forest _). page_size f.entries place.top ≢ 256) (sym c.self.view_is) c.in_ok-place.ensures.room;
      deep = c.in_ok-place.ensures.depth;
      new = c.in-Ok.ensures.new;
      given = c.in-Ok.ensures.given;
      fresh = c.in-Ok.ensures.generation;
      slots = c.in-Ok.ensures.slots;
      taken = c.in-Ok.ensures.updates;
      node = c.below-node.ensures;
      links = c.behind-links.ensures;
    } in
    rw (c.push_reserved.ensures.items, c.reserve.ensures.items)
    (record {
      forest = IsForest-below s mid order c.self.inside.pages c.self.invariant.forest p place h c.args.frame c.args.doc row embeds c.grow_page.new.rows c.grow_page.ensures.alone c.grow_page.ensures.written c.link.new.rows c.link.ensures;
      swept = IsSwept-below s mid order c.self.inside.pages c.self.invariant.forest p place h c.args.frame c.args.doc row embeds c.grow_page.new.rows c.grow_page.ensures.alone c.grow_page.ensures.written c.link.new.rows c.link.ensures c.self.inside.dead c.self.invariant.swept;
    })

pub returns-clause-entries : goal.returns-clause-entries
returns-clause-entries g c =
    let s = c.self.inside.rows in
    let mid = c.put_row.new.rows in
    let order = c.self.inside.order.items in
    let p = c.args.parent in
    let place = c.in_ok-place.place in
    let h = c.in-Ok.h in
    let row : Row _ = record { node = c.below-node.result; size = 0; links = c.behind-links.result } in
    let embeds : Embeds s mid order p place h c.args.frame c.args.doc row = record {
      below = below-of (entries_in (kept s order [])) p place (subst (λ (f : Forest _). IsSomeAnd (entry_of f.entries p) (λ e. place ≡ record { top = top_of e; depth = depth_of e + 1; last = head_of (children_newest_first f.entries p) })) (sym c.self.view_is) c.in_ok-place.ensures.place);
      room = subst (λ (f : Forest _). page_size f.entries place.top ≢ 256) (sym c.self.view_is) c.in_ok-place.ensures.room;
      deep = c.in_ok-place.ensures.depth;
      new = c.in-Ok.ensures.new;
      given = c.in-Ok.ensures.given;
      fresh = c.in-Ok.ensures.generation;
      slots = c.in-Ok.ensures.slots;
      taken = c.in-Ok.ensures.updates;
      node = c.below-node.ensures;
      links = c.behind-links.ensures;
    } in
    rw (c.push_reserved.ensures.items, c.reserve.ensures.items, ← c.self.view_is)
    (entries-below s mid order c.self.inside.pages c.self.invariant.forest p place h c.args.frame c.args.doc row embeds c.grow_page.new.rows c.grow_page.ensures.alone c.grow_page.ensures.written c.link.new.rows c.link.ensures)

pub returns-clause-made : goal.returns-clause-made
returns-clause-made g c =
    let s = c.self.inside.rows in
    let mid = c.put_row.new.rows in
    let order = c.self.inside.order.items in
    let p = c.args.parent in
    let place = c.in_ok-place.place in
    let h = c.in-Ok.h in
    let row : Row _ = record { node = c.below-node.result; size = 0; links = c.behind-links.result } in
    let embeds : Embeds s mid order p place h c.args.frame c.args.doc row = record {
      below = below-of (entries_in (kept s order [])) p place (subst (λ (f : Forest _). IsSomeAnd (entry_of f.entries p) (λ e. place ≡ record { top = top_of e; depth = depth_of e + 1; last = head_of (children_newest_first f.entries p) })) (sym c.self.view_is) c.in_ok-place.ensures.place);
      room = subst (λ (f : Forest _). page_size f.entries place.top ≢ 256) (sym c.self.view_is) c.in_ok-place.ensures.room;
      deep = c.in_ok-place.ensures.depth;
      new = c.in-Ok.ensures.new;
      given = c.in-Ok.ensures.given;
      fresh = c.in-Ok.ensures.generation;
      slots = c.in-Ok.ensures.slots;
      taken = c.in-Ok.ensures.updates;
      node = c.below-node.ensures;
      links = c.behind-links.ensures;
    } in
    let makes = makes-below s mid order c.self.inside.pages c.self.invariant.forest p place h c.args.frame c.args.doc row embeds c.grow_page.new.rows c.grow_page.ensures.alone c.grow_page.ensures.written c.link.new.rows c.link.ensures in
    rw (← c.self.view_is) makes.made

pub returns-clause-new : goal.returns-clause-new
returns-clause-new g c =
    let s = c.self.inside.rows in
    let mid = c.put_row.new.rows in
    let order = c.self.inside.order.items in
    let p = c.args.parent in
    let place = c.in_ok-place.place in
    let h = c.in-Ok.h in
    let row : Row _ = record { node = c.below-node.result; size = 0; links = c.behind-links.result } in
    let embeds : Embeds s mid order p place h c.args.frame c.args.doc row = record {
      below = below-of (entries_in (kept s order [])) p place (subst (λ (f : Forest _). IsSomeAnd (entry_of f.entries p) (λ e. place ≡ record { top = top_of e; depth = depth_of e + 1; last = head_of (children_newest_first f.entries p) })) (sym c.self.view_is) c.in_ok-place.ensures.place);
      room = subst (λ (f : Forest _). page_size f.entries place.top ≢ 256) (sym c.self.view_is) c.in_ok-place.ensures.room;
      deep = c.in_ok-place.ensures.depth;
      new = c.in-Ok.ensures.new;
      given = c.in-Ok.ensures.given;
      fresh = c.in-Ok.ensures.generation;
      slots = c.in-Ok.ensures.slots;
      taken = c.in-Ok.ensures.updates;
      node = c.below-node.ensures;
      links = c.behind-links.ensures;
    } in
    rw (← c.self.view_is) (new-below s mid order c.self.inside.pages c.self.invariant.forest p place h c.args.frame c.args.doc row embeds c.grow_page.new.rows c.grow_page.ensures.alone c.grow_page.ensures.written c.link.new.rows c.link.ensures)

pub returns-clause-marks : goal.returns-clause-marks
returns-clause-marks g c =
    let s = c.self.inside.rows in
    let mid = c.put_row.new.rows in
    let order = c.self.inside.order.items in
    let p = c.args.parent in
    let place = c.in_ok-place.place in
    let h = c.in-Ok.h in
    let row : Row _ = record { node = c.below-node.result; size = 0; links = c.behind-links.result } in
    let embeds : Embeds s mid order p place h c.args.frame c.args.doc row = record {
      below = below-of (entries_in (kept s order [])) p place (subst (λ (f : Forest _). IsSomeAnd (entry_of f.entries p) (λ e. place ≡ record { top = top_of e; depth = depth_of e + 1; last = head_of (children_newest_first f.entries p) })) (sym c.self.view_is) c.in_ok-place.ensures.place);
      room = subst (λ (f : Forest _). page_size f.entries place.top ≢ 256) (sym c.self.view_is) c.in_ok-place.ensures.room;
      deep = c.in_ok-place.ensures.depth;
      new = c.in-Ok.ensures.new;
      given = c.in-Ok.ensures.given;
      fresh = c.in-Ok.ensures.generation;
      slots = c.in-Ok.ensures.slots;
      taken = c.in-Ok.ensures.updates;
      node = c.below-node.ensures;
      links = c.behind-links.ensures;
    } in
    let gives = Gives-below s mid order c.self.inside.pages c.self.invariant.forest p place h c.args.frame c.args.doc row embeds c.grow_page.new.rows c.grow_page.ensures.alone c.grow_page.ensures.written c.link.new.rows c.link.ensures in
    rw (← c.self.view_is) (subst (λ hs. Gives (forest_in s order) (forest_in c.link.new.rows hs) h) (sym (c.push_reserved.ensures.items ∙ ap (λ hs. hs ++ h ∷ []) c.reserve.ensures.items)) gives)

pub returns-clause-dead : goal.returns-clause-dead
returns-clause-dead g c =
    let s = c.self.inside.rows in
    let mid = c.put_row.new.rows in
    let order = c.self.inside.order.items in
    let p = c.args.parent in
    let place = c.in_ok-place.place in
    let h = c.in-Ok.h in
    let row : Row _ = record { node = c.below-node.result; size = 0; links = c.behind-links.result } in
    let embeds : Embeds s mid order p place h c.args.frame c.args.doc row = record {
      below = below-of (entries_in (kept s order [])) p place (subst (λ (f : Forest _). IsSomeAnd (entry_of f.entries p) (λ e. place ≡ record { top = top_of e; depth = depth_of e + 1; last = head_of (children_newest_first f.entries p) })) (sym c.self.view_is) c.in_ok-place.ensures.place);
      room = subst (λ (f : Forest _). page_size f.entries place.top ≢ 256) (sym c.self.view_is) c.in_ok-place.ensures.room;
      deep = c.in_ok-place.ensures.depth;
      new = c.in-Ok.ensures.new;
      given = c.in-Ok.ensures.given;
      fresh = c.in-Ok.ensures.generation;
      slots = c.in-Ok.ensures.slots;
      taken = c.in-Ok.ensures.updates;
      node = c.below-node.ensures;
      links = c.behind-links.ensures;
    } in
    let stay = StayDead-below s mid order c.self.inside.pages c.self.invariant.forest p place h c.args.frame c.args.doc row embeds c.grow_page.new.rows c.grow_page.ensures.alone c.grow_page.ensures.written c.link.new.rows c.link.ensures in
    rw (← c.self.view_is) (subst (λ hs. StayDead (forest_in s order) (forest_in c.link.new.rows hs)) (sym (c.push_reserved.ensures.items ∙ ap (λ hs. hs ++ h ∷ []) c.reserve.ensures.items)) stay)
