use Rattle.std.proofs.Common.{◌≡◌, IsSome, Some, [], ◌∷◌, ◌++◌, arith, ap, ◌∙◌, sym, subst, refl, is_some}
use Rattle.pe_arena.specs.Slots.{live}
use Rattle.pe_frames.specs.Forest.{Forest, StayDead, entry_of}
use Rattle.pe_frames.specs.Order.{navigated, docs_under}
use Rattle.pe_frames.specs.Neighbours.{docs_at}
use Rattle.pe_frames.specs.Kept.{forest_in}
use Rattle.pe_frames.proofs.Writes.{if_some}
use Rattle.pe_frames.proofs.Cuts.{Sweeps-none}
use Rattle.pe_frames.proofs.Closing.{leaves-at, once-left, few-left}
use Rattle.pe_frames.proofs.Navigated.{row-at, live-here, top-lives, top-large, docs-navigated, IsForest-navigated, dead-navigated, entries-navigated, marks-navigated, made-navigated, StayDead-navigated, IsDead-navigated}
use Rattle.pe_frames.proofs.frames.Frames.navigate.Goals as goal

pub renew-requires : goal.renew-requires
renew-requires g c =
    let s = c.self.inside.rows in
    let order = c.self.inside.order.items in
    let pages = c.self.inside.pages in
    let is = c.self.invariant.forest in
    let h = c.args.h in
    let here = c.in-Some.here in
    live-here s order pages is c.args.self.now c.self.view_is h c.standing.result here c.in-Some.is c.standing.ensures.value

pub take_all-requires-clause-once : goal.take_all-requires-clause-once
take_all-requires-clause-once g c =
    let s = c.self.inside.rows in
    let order = c.self.inside.order.items in
    let pages = c.self.inside.pages in
    let is = c.self.invariant.forest in
    let h = c.args.h in
    let here = c.in-Some.here in
    let below = c.deref.result.now in
    let at = leaves-at s order c.args.self.now c.self.view_is h c.standing.result here c.in-Some.is c.standing.ensures.value below c.in-Ok.leaving.0.items c.in-Ok.ensures.handles c.deref.ensures.value in
    once-left s order pages is h here below at

pub overflow_cast-len : goal.overflow_cast-len
overflow_cast-len g c =
    let s = c.self.inside.rows in
    let order = c.self.inside.order.items in
    let pages = c.self.inside.pages in
    let is = c.self.invariant.forest in
    let h = c.args.h in
    let here = c.in-Some.here in
    let below = c.deref.result.now in
    let at = leaves-at s order c.args.self.now c.self.view_is h c.standing.result here c.in-Some.is c.standing.ensures.value below c.in-Ok.leaving.0.items c.in-Ok.ensures.handles c.deref.ensures.value in
    let len = c.len.ensures in
    let same = c.deref.ensures.len in
    let few = few-left s order pages is h here below at in
    omega (arith, len, same, few)

pub shrink_page-requires-clause-live : goal.shrink_page-requires-clause-live
shrink_page-requires-clause-live g c =
    let s = c.self.inside.rows in
    let order = c.self.inside.order.items in
    let pages = c.self.inside.pages in
    let is = c.self.invariant.forest in
    let h = c.args.h in
    let here = c.in-Some.here in
    let below = c.deref.result.now in
    let at = leaves-at s order c.args.self.now c.self.view_is h c.standing.result here c.in-Some.is c.standing.ensures.value below c.in-Ok.leaving.0.items c.in-Ok.ensures.handles c.deref.ensures.value in
    let row = row-at s order pages is h (ap is_some at.found) in
    top-lives s order pages is h here below at c.args.doc row.row row.found c.renew.ensures.alone c.renew.new.rows c.take_all.new.rows c.renew.ensures.rows c.take_all.ensures.rows
    (Some here.top) refl

pub shrink_page-requires-clause-size : goal.shrink_page-requires-clause-size
shrink_page-requires-clause-size g c =
    let s = c.self.inside.rows in
    let order = c.self.inside.order.items in
    let pages = c.self.inside.pages in
    let is = c.self.invariant.forest in
    let h = c.args.h in
    let here = c.in-Some.here in
    let below = c.deref.result.now in
    let at = leaves-at s order c.args.self.now c.self.view_is h c.standing.result here c.in-Some.is c.standing.ensures.value below c.in-Ok.leaving.0.items c.in-Ok.ensures.handles c.deref.ensures.value in
    let row = row-at s order pages is h (ap is_some at.found) in
    let len = c.len.ensures in
    let same = c.deref.ensures.len in
    top-large s order pages is h here below at c.args.doc row.row row.found c.renew.ensures.alone c.renew.new.rows c.take_all.new.rows c.renew.ensures.rows c.take_all.ensures.rows
    (Some here.top) refl c.len.result (omega (arith, len, same))

pub invariant_of-self : goal.invariant_of-self
invariant_of-self g c =
    let s = c.self.inside.rows in
    let order = c.self.inside.order.items in
    let pages = c.self.inside.pages in
    let is = c.self.invariant.forest in
    let h = c.args.h in
    let here = c.in-Some.here in
    let below = c.deref.result.now in
    let at = leaves-at s order c.args.self.now c.self.view_is h c.standing.result here c.in-Some.is c.standing.ensures.value below c.in-Ok.leaving.0.items c.in-Ok.ensures.handles c.deref.ensures.value in
    let row = row-at s order pages is h (ap is_some at.found) in
    let len = c.len.ensures in
    let same = c.deref.ensures.len in
    record {
      forest =
          IsForest-navigated s order pages is h here below at c.args.doc row.row row.found c.renew.ensures.alone c.renew.new.rows c.take_all.new.rows c.renew.ensures.rows c.take_all.ensures.rows
          (Some here.top) refl c.len.result (omega (arith, len, same)) c.shrink_page.new.rows c.shrink_page.ensures c.sweep.new.order.items c.sweep.ensures.sweeps;
      swept = c.sweep.ensures.swept;
    }

pub sweep-requires : goal.sweep-requires
sweep-requires g c =
    let s = c.self.inside.rows in
    let order = c.self.inside.order.items in
    let pages = c.self.inside.pages in
    let is = c.self.invariant.forest in
    let h = c.args.h in
    let here = c.in-Some.here in
    let below = c.deref.result.now in
    let at = leaves-at s order c.args.self.now c.self.view_is h c.standing.result here c.in-Some.is c.standing.ensures.value below c.in-Ok.leaving.0.items c.in-Ok.ensures.handles c.deref.ensures.value in
    let row = row-at s order pages is h (ap is_some at.found) in
    let len = c.len.ensures in
    let again = c.len-2.ensures in
    let same = c.deref.ensures.len in
    let dead = dead-navigated s order pages is h here below at c.args.doc row.row row.found c.renew.ensures.alone c.renew.new.rows c.take_all.new.rows c.renew.ensures.rows c.take_all.ensures.rows
    (Some here.top) refl c.len.result (omega (arith, len, same)) c.shrink_page.new.rows c.shrink_page.ensures order (Sweeps-none c.shrink_page.new.rows order) c.self.inside.dead c.self.invariant.swept in
    omega (arith, dead, len, again)

pub returns-clause-entries : goal.returns-clause-entries
returns-clause-entries g c =
    let s = c.self.inside.rows in
    let order = c.self.inside.order.items in
    let pages = c.self.inside.pages in
    let is = c.self.invariant.forest in
    let h = c.args.h in
    let here = c.in-Some.here in
    let below = c.deref.result.now in
    let at = leaves-at s order c.args.self.now c.self.view_is h c.standing.result here c.in-Some.is c.standing.ensures.value below c.in-Ok.leaving.0.items c.in-Ok.ensures.handles c.deref.ensures.value in
    let row = row-at s order pages is h (ap is_some at.found) in
    let len = c.len.ensures in
    let same = c.deref.ensures.len in
    entries-navigated s order pages is h here below at c.args.doc row.row row.found c.renew.ensures.alone c.renew.new.rows c.take_all.new.rows c.renew.ensures.rows c.take_all.ensures.rows
    (Some here.top) refl c.len.result (omega (arith, len, same)) c.shrink_page.new.rows c.shrink_page.ensures c.sweep.new.order.items c.sweep.ensures.sweeps
    ∙ ap (λ (f : Forest _). navigated h c.args.doc f.entries) c.self.view_is

pub returns-clause-documents : goal.returns-clause-documents
returns-clause-documents g c =
    let s = c.self.inside.rows in
    let order = c.self.inside.order.items in
    let pages = c.self.inside.pages in
    let is = c.self.invariant.forest in
    let h = c.args.h in
    let here = c.in-Some.here in
    let below = c.deref.result.now in
    let at = leaves-at s order c.args.self.now c.self.view_is h c.standing.result here c.in-Some.is c.standing.ensures.value below c.in-Ok.leaving.0.items c.in-Ok.ensures.handles c.deref.ensures.value in
    let row = row-at s order pages is h (ap is_some at.found) in
    let old = if_some (λ x. c.renew.result ≡ x.node.doc) (live s h) row.row row.found c.renew.ensures.old in
    c.take_all.ensures.docs
    ∙ ap (λ ds. ds ++ docs_at c.renew.new.rows below) (c.push_reserved.ensures.items ∙ ap (λ ds. ds ++ c.renew.result ∷ []) c.in-Ok.ensures.documents ∙ ap (λ d. d ∷ []) old)
    ∙ docs-navigated s order pages is h here below at c.args.doc row.row row.found c.renew.ensures.alone c.renew.new.rows c.take_all.new.rows c.renew.ensures.rows c.take_all.ensures.rows
    ∙ ap (λ (f : Forest _). docs_under f.entries h) c.self.view_is

pub returns-clause-made : goal.returns-clause-made
returns-clause-made g c =
    let s = c.self.inside.rows in
    let order = c.self.inside.order.items in
    let pages = c.self.inside.pages in
    let is = c.self.invariant.forest in
    let h = c.args.h in
    let here = c.in-Some.here in
    let below = c.deref.result.now in
    let at = leaves-at s order c.args.self.now c.self.view_is h c.standing.result here c.in-Some.is c.standing.ensures.value below c.in-Ok.leaving.0.items c.in-Ok.ensures.handles c.deref.ensures.value in
    let row = row-at s order pages is h (ap is_some at.found) in
    let len = c.len.ensures in
    let same = c.deref.ensures.len in
    made-navigated s order pages is h here below at c.args.doc row.row row.found c.renew.ensures.alone c.renew.new.rows c.take_all.new.rows c.renew.ensures.rows c.take_all.ensures.rows
    (Some here.top) refl c.len.result (omega (arith, len, same)) c.shrink_page.new.rows c.shrink_page.ensures c.sweep.new.order.items c.sweep.ensures.sweeps
    ∙ ap (λ (f : Forest _). f.made) c.self.view_is

pub returns-clause-marks : goal.returns-clause-marks
returns-clause-marks g c =
    let s = c.self.inside.rows in
    let order = c.self.inside.order.items in
    let pages = c.self.inside.pages in
    let is = c.self.invariant.forest in
    let h = c.args.h in
    let here = c.in-Some.here in
    let below = c.deref.result.now in
    let at = leaves-at s order c.args.self.now c.self.view_is h c.standing.result here c.in-Some.is c.standing.ensures.value below c.in-Ok.leaving.0.items c.in-Ok.ensures.handles c.deref.ensures.value in
    let row = row-at s order pages is h (ap is_some at.found) in
    let len = c.len.ensures in
    let same = c.deref.ensures.len in
    marks-navigated s order pages is h here below at c.args.doc row.row row.found c.renew.ensures.alone c.renew.new.rows c.take_all.new.rows c.renew.ensures.rows c.take_all.ensures.rows
    (Some here.top) refl c.len.result (omega (arith, len, same)) c.shrink_page.new.rows c.shrink_page.ensures c.sweep.new.order.items c.sweep.ensures.sweeps
    ∙ ap (λ (f : Forest _). f.marks) c.self.view_is

pub returns-clause-dead : goal.returns-clause-dead
returns-clause-dead g c =
    let s = c.self.inside.rows in
    let order = c.self.inside.order.items in
    let pages = c.self.inside.pages in
    let is = c.self.invariant.forest in
    let h = c.args.h in
    let here = c.in-Some.here in
    let below = c.deref.result.now in
    let at = leaves-at s order c.args.self.now c.self.view_is h c.standing.result here c.in-Some.is c.standing.ensures.value below c.in-Ok.leaving.0.items c.in-Ok.ensures.handles c.deref.ensures.value in
    let row = row-at s order pages is h (ap is_some at.found) in
    let len = c.len.ensures in
    let same = c.deref.ensures.len in
    subst (λ (f : Forest _). StayDead f (forest_in c.shrink_page.new.rows c.sweep.new.order.items)) c.self.view_is
    (StayDead-navigated s order pages is h here below at c.args.doc row.row row.found c.renew.ensures.alone c.renew.new.rows c.take_all.new.rows c.renew.ensures.rows c.take_all.ensures.rows
    (Some here.top) refl c.len.result (omega (arith, len, same)) c.shrink_page.new.rows c.shrink_page.ensures c.sweep.new.order.items c.sweep.ensures.sweeps)

pub returns-clause-gone : goal.returns-clause-gone
returns-clause-gone g c =
    let s = c.self.inside.rows in
    let order = c.self.inside.order.items in
    let pages = c.self.inside.pages in
    let is = c.self.invariant.forest in
    let h = c.args.h in
    let here = c.in-Some.here in
    let below = c.deref.result.now in
    let at = leaves-at s order c.args.self.now c.self.view_is h c.standing.result here c.in-Some.is c.standing.ensures.value below c.in-Ok.leaving.0.items c.in-Ok.ensures.handles c.deref.ensures.value in
    let row = row-at s order pages is h (ap is_some at.found) in
    let len = c.len.ensures in
    let same = c.deref.ensures.len in
    λ k some none. IsDead-navigated s order pages is h here below at c.args.doc row.row row.found c.renew.ensures.alone c.renew.new.rows c.take_all.new.rows c.renew.ensures.rows c.take_all.ensures.rows
    (Some here.top) refl c.len.result (omega (arith, len, same)) c.shrink_page.new.rows c.shrink_page.ensures c.sweep.new.order.items c.sweep.ensures.sweeps k (subst (λ (f : Forest _). IsSome (entry_of f.entries k)) (sym c.self.view_is) some) none
