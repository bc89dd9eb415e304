use Rattle.std.proofs.Common.{◌+◌, ◌-◌, IsSome, [], ◌∷◌, ◌++◌, arith, ap, ◌∙◌, sym, subst}
use Rattle.pe_frames.specs.Forest.{Forest, StayDead, entry_of}
use Rattle.pe_frames.specs.Order.{closed, docs_under}
use Rattle.pe_frames.specs.Neighbours.{docs_at}
use Rattle.pe_frames.specs.Kept.{forest_in}
use Rattle.pe_frames.proofs.Closing.{leaves-at, once-left, few-left, pages-left, earlier-left, later-left, parent-left, docs-left, page-left_lives, page-left_large, IsForest-left, dead-left, entries-left, StayDead-left, IsDead-left}
use Rattle.pe_frames.proofs.frames.Frames.close.Goals as goal

pub take_all-requires-clause-once : goal.take_all-requires-clause-once
take_all-requires-clause-once g c =
    let s = c.self.inside.rows in
    let order = c.self.inside.order.items in
    let pages = c.self.inside.pages in
    let is = c.self.invariant.forest in
    let h = c.args.h in
    let here = c.in-Some.here in
    let below = c.deref.result.now in
    let at = leaves-at s order c.args.self.now c.self.view_is h c.standing.result here c.in-Some.is c.standing.ensures.value below c.in-Ok.leaving.0.items c.in-Ok.ensures.handles c.deref.ensures.value in
    once-left s order pages is h here below at

pub unlink-requires-clause-earlier : goal.unlink-requires-clause-earlier
unlink-requires-clause-earlier g c =
    let s = c.self.inside.rows in
    let order = c.self.inside.order.items in
    let pages = c.self.inside.pages in
    let is = c.self.invariant.forest in
    let h = c.args.h in
    let here = c.in-Some.here in
    let below = c.deref.result.now in
    let at = leaves-at s order c.args.self.now c.self.view_is h c.standing.result here c.in-Some.is c.standing.ensures.value below c.in-Ok.leaving.0.items c.in-Ok.ensures.handles c.deref.ensures.value in
    earlier-left s order pages is h here below at c.take_one.new.rows c.take_all.new.rows c.take_one.ensures.rows c.take_all.ensures.rows

pub unlink-requires-clause-later : goal.unlink-requires-clause-later
unlink-requires-clause-later g c =
    let s = c.self.inside.rows in
    let order = c.self.inside.order.items in
    let pages = c.self.inside.pages in
    let is = c.self.invariant.forest in
    let h = c.args.h in
    let here = c.in-Some.here in
    let below = c.deref.result.now in
    let at = leaves-at s order c.args.self.now c.self.view_is h c.standing.result here c.in-Some.is c.standing.ensures.value below c.in-Ok.leaving.0.items c.in-Ok.ensures.handles c.deref.ensures.value in
    later-left s order pages is h here below at c.take_one.new.rows c.take_all.new.rows c.take_one.ensures.rows c.take_all.ensures.rows

pub unlink-requires-clause-parent : goal.unlink-requires-clause-parent
unlink-requires-clause-parent g c =
    let s = c.self.inside.rows in
    let order = c.self.inside.order.items in
    let pages = c.self.inside.pages in
    let is = c.self.invariant.forest in
    let h = c.args.h in
    let here = c.in-Some.here in
    let below = c.deref.result.now in
    let at = leaves-at s order c.args.self.now c.self.view_is h c.standing.result here c.in-Some.is c.standing.ensures.value below c.in-Ok.leaving.0.items c.in-Ok.ensures.handles c.deref.ensures.value in
    parent-left s order pages is h here below at c.take_one.new.rows c.take_all.new.rows c.take_one.ensures.rows c.take_all.ensures.rows

pub overflow_cast-len : goal.overflow_cast-len
overflow_cast-len g c =
    let s = c.self.inside.rows in
    let order = c.self.inside.order.items in
    let pages = c.self.inside.pages in
    let is = c.self.invariant.forest in
    let h = c.args.h in
    let here = c.in-Some.here in
    let below = c.deref.result.now in
    let at = leaves-at s order c.args.self.now c.self.view_is h c.standing.result here c.in-Some.is c.standing.ensures.value below c.in-Ok.leaving.0.items c.in-Ok.ensures.handles c.deref.ensures.value in
    let len = c.len.ensures in
    let same = c.deref.ensures.len in
    let few = few-left s order pages is h here below at in
    omega (arith, len, same, few)

pub overflow_add-len : goal.overflow_add-len
overflow_add-len g c =
    let s = c.self.inside.rows in
    let order = c.self.inside.order.items in
    let pages = c.self.inside.pages in
    let is = c.self.invariant.forest in
    let h = c.args.h in
    let here = c.in-Some.here in
    let below = c.deref.result.now in
    let at = leaves-at s order c.args.self.now c.self.view_is h c.standing.result here c.in-Some.is c.standing.ensures.value below c.in-Ok.leaving.0.items c.in-Ok.ensures.handles c.deref.ensures.value in
    let len = c.len.ensures in
    let same = c.deref.ensures.len in
    let few = few-left s order pages is h here below at in
    omega (arith, len, same, few)

pub shrink_page-requires-clause-live : goal.shrink_page-requires-clause-live
shrink_page-requires-clause-live g c =
    let s = c.self.inside.rows in
    let order = c.self.inside.order.items in
    let pages = c.self.inside.pages in
    let is = c.self.invariant.forest in
    let h = c.args.h in
    let here = c.in-Some.here in
    let below = c.deref.result.now in
    let at = leaves-at s order c.args.self.now c.self.view_is h c.standing.result here c.in-Some.is c.standing.ensures.value below c.in-Ok.leaving.0.items c.in-Ok.ensures.handles c.deref.ensures.value in
    let len = c.len.ensures in
    let same = c.deref.ensures.len in
    page-left_lives s order pages is h here below at c.take_one.new.rows c.take_all.new.rows c.take_one.ensures.rows c.take_all.ensures.rows c.unlink.new.rows c.unlink.ensures c.page.result c.page.ensures (c.len.result + 1) (omega (arith, len, same))

pub shrink_page-requires-clause-size : goal.shrink_page-requires-clause-size
shrink_page-requires-clause-size g c =
    let s = c.self.inside.rows in
    let order = c.self.inside.order.items in
    let pages = c.self.inside.pages in
    let is = c.self.invariant.forest in
    let h = c.args.h in
    let here = c.in-Some.here in
    let below = c.deref.result.now in
    let at = leaves-at s order c.args.self.now c.self.view_is h c.standing.result here c.in-Some.is c.standing.ensures.value below c.in-Ok.leaving.0.items c.in-Ok.ensures.handles c.deref.ensures.value in
    let len = c.len.ensures in
    let same = c.deref.ensures.len in
    page-left_large s order pages is h here below at c.take_one.new.rows c.take_all.new.rows c.take_one.ensures.rows c.take_all.ensures.rows c.unlink.new.rows c.unlink.ensures c.page.result c.page.ensures (c.len.result + 1) (omega (arith, len, same))

pub overflow_sub-self : goal.overflow_sub-self
overflow_sub-self g c =
    let s = c.self.inside.rows in
    let order = c.self.inside.order.items in
    let pages = c.self.inside.pages in
    let is = c.self.invariant.forest in
    let h = c.args.h in
    let here = c.in-Some.here in
    let below = c.deref.result.now in
    let at = leaves-at s order c.args.self.now c.self.view_is h c.standing.result here c.in-Some.is c.standing.ensures.value below c.in-Ok.leaving.0.items c.in-Ok.ensures.handles c.deref.ensures.value in
    let gone = pages-left s order pages is h here below at in
    let many = c.pages.ensures in
    omega (arith, gone, many)

pub invariant_of-self : goal.invariant_of-self
invariant_of-self g c =
    let s = c.self.inside.rows in
    let order = c.self.inside.order.items in
    let pages = c.self.inside.pages in
    let is = c.self.invariant.forest in
    let h = c.args.h in
    let here = c.in-Some.here in
    let below = c.deref.result.now in
    let at = leaves-at s order c.args.self.now c.self.view_is h c.standing.result here c.in-Some.is c.standing.ensures.value below c.in-Ok.leaving.0.items c.in-Ok.ensures.handles c.deref.ensures.value in
    let len = c.len.ensures in
    let same = c.deref.ensures.len in
    let gone = pages-left s order pages is h here below at in
    let many = c.pages.ensures in
    record {
      forest =
          IsForest-left s order pages is h here below at c.take_one.new.rows c.take_all.new.rows c.take_one.ensures.rows c.take_all.ensures.rows
          c.unlink.new.rows c.unlink.ensures c.page.result c.page.ensures (c.len.result + 1) (omega (arith, len, same))
          c.shrink_page.new.rows c.shrink_page.ensures c.sweep.new.order.items c.sweep.ensures.sweeps (c.self.inside.pages - c.pages.result) (omega (arith, gone, many));
      swept = c.sweep.ensures.swept;
    }

pub sweep-requires : goal.sweep-requires
sweep-requires g c =
    let s = c.self.inside.rows in
    let order = c.self.inside.order.items in
    let pages = c.self.inside.pages in
    let is = c.self.invariant.forest in
    let h = c.args.h in
    let here = c.in-Some.here in
    let below = c.deref.result.now in
    let at = leaves-at s order c.args.self.now c.self.view_is h c.standing.result here c.in-Some.is c.standing.ensures.value below c.in-Ok.leaving.0.items c.in-Ok.ensures.handles c.deref.ensures.value in
    let len = c.len.ensures in
    let again = c.len-2.ensures in
    let same = c.deref.ensures.len in
    let dead = dead-left s order pages is h here below at c.take_one.new.rows c.take_all.new.rows c.take_one.ensures.rows c.take_all.ensures.rows
    c.unlink.new.rows c.unlink.ensures c.page.result c.page.ensures (c.len.result + 1) (omega (arith, len, same))
    c.shrink_page.new.rows c.shrink_page.ensures c.self.inside.dead c.self.invariant.swept in
    omega (arith, dead, len, again)

pub returns-clause-entries : goal.returns-clause-entries
returns-clause-entries g c =
    let s = c.self.inside.rows in
    let order = c.self.inside.order.items in
    let pages = c.self.inside.pages in
    let is = c.self.invariant.forest in
    let h = c.args.h in
    let here = c.in-Some.here in
    let below = c.deref.result.now in
    let at = leaves-at s order c.args.self.now c.self.view_is h c.standing.result here c.in-Some.is c.standing.ensures.value below c.in-Ok.leaving.0.items c.in-Ok.ensures.handles c.deref.ensures.value in
    let len = c.len.ensures in
    let same = c.deref.ensures.len in
    entries-left s order pages is h here below at c.take_one.new.rows c.take_all.new.rows c.take_one.ensures.rows c.take_all.ensures.rows
    c.unlink.new.rows c.unlink.ensures c.page.result c.page.ensures (c.len.result + 1) (omega (arith, len, same))
    c.shrink_page.new.rows c.shrink_page.ensures c.sweep.new.order.items c.sweep.ensures.sweeps
    ∙ ap (λ (f : Forest _). closed h f.entries) c.self.view_is

pub returns-clause-documents : goal.returns-clause-documents
returns-clause-documents g c =
    let s = c.self.inside.rows in
    let order = c.self.inside.order.items in
    let pages = c.self.inside.pages in
    let is = c.self.invariant.forest in
    let h = c.args.h in
    let here = c.in-Some.here in
    let below = c.deref.result.now in
    let at = leaves-at s order c.args.self.now c.self.view_is h c.standing.result here c.in-Some.is c.standing.ensures.value below c.in-Ok.leaving.0.items c.in-Ok.ensures.handles c.deref.ensures.value in
    c.take_all.ensures.docs
    ∙ ap (λ ds. ds ++ docs_at c.take_one.new.rows below) (c.take_one.ensures.docs ∙ ap (λ ds. ds ++ docs_at s (h ∷ [])) c.in-Ok.ensures.documents)
    ∙ docs-left s order pages is h here below at c.take_one.new.rows c.take_all.new.rows c.take_one.ensures.rows c.take_all.ensures.rows
    ∙ ap (λ (f : Forest _). docs_under f.entries h) c.self.view_is

pub returns-clause-dead : goal.returns-clause-dead
returns-clause-dead g c =
    let s = c.self.inside.rows in
    let order = c.self.inside.order.items in
    let pages = c.self.inside.pages in
    let is = c.self.invariant.forest in
    let h = c.args.h in
    let here = c.in-Some.here in
    let below = c.deref.result.now in
    let at = leaves-at s order c.args.self.now c.self.view_is h c.standing.result here c.in-Some.is c.standing.ensures.value below c.in-Ok.leaving.0.items c.in-Ok.ensures.handles c.deref.ensures.value in
    let len = c.len.ensures in
    let same = c.deref.ensures.len in
    subst (λ (f : Forest _). StayDead f (forest_in c.shrink_page.new.rows c.sweep.new.order.items)) c.self.view_is
    (StayDead-left s order pages is h here below at c.take_one.new.rows c.take_all.new.rows c.take_one.ensures.rows c.take_all.ensures.rows
    c.unlink.new.rows c.unlink.ensures c.page.result c.page.ensures (c.len.result + 1) (omega (arith, len, same))
    c.shrink_page.new.rows c.shrink_page.ensures c.sweep.new.order.items c.sweep.ensures.sweeps)

pub returns-clause-gone : goal.returns-clause-gone
returns-clause-gone g c =
    let s = c.self.inside.rows in
    let order = c.self.inside.order.items in
    let pages = c.self.inside.pages in
    let is = c.self.invariant.forest in
    let h = c.args.h in
    let here = c.in-Some.here in
    let below = c.deref.result.now in
    let at = leaves-at s order c.args.self.now c.self.view_is h c.standing.result here c.in-Some.is c.standing.ensures.value below c.in-Ok.leaving.0.items c.in-Ok.ensures.handles c.deref.ensures.value in
    let len = c.len.ensures in
    let same = c.deref.ensures.len in
    λ k some none. IsDead-left s order pages is h here below at c.take_one.new.rows c.take_all.new.rows c.take_one.ensures.rows c.take_all.ensures.rows
    c.unlink.new.rows c.unlink.ensures c.page.result c.page.ensures (c.len.result + 1) (omega (arith, len, same))
    c.shrink_page.new.rows c.shrink_page.ensures c.sweep.new.order.items c.sweep.ensures.sweeps k (subst (λ (f : Forest _). IsSome (entry_of f.entries k)) (sym c.self.view_is) some) none
