use Rattle.std.proofs.Common.{◌≡◌, ◌≤◌, ◌+◌, ◌*◌, refl, true, ◌||◌, ◌&&◌, Option, length, is_some, sym, ap, subst, ◌∙◌}
use Rattle.std.specs.Prelude.{IfSome, IsTrue, filter}
use Rattle.pe_frames.specs.Forest.{Entry, depth_of, entry_of, has_handle, is_under, path_of}
use Rattle.pe_activation.specs.Notifying.{activated, is_notified, is_related, notified}
use Rattle.pe_activation.proofs.Notified.{activated-again, has-top, notified-cost, notified-count, notified-entries, of_each, of_some, on-its-path, still-live}
use Rattle.pe_activation.proofs.notification.notify.Goals as goal

pub activate_upward-upward-requires : goal.activate_upward-upward-requires
activate_upward-upward-requires g c =
    record { live = has-top (entry_of c.args.frames.now.entries c.args.h) c.top.result c.is_none.result c.top.ensures c.is_none.ensures c.if-is_none.false }

pub activate_below-below-requires : goal.activate_below-below-requires
activate_below-below-requires g c =
    let old = c.args.frames.now.entries in
    let h = c.args.h in
    let set = g.D.Activatable.with_stamp in
    let now = c.args.now in
    let on_path = λ (x : Entry _). has_handle x.handle (path_of old h) in
    let there = ap (λ es. entry_of es h) c.activate_upward-upward.ensures.entries ∙ c.is_a_tree.ensures.found on_path (activated set now) h in
    record {
      live = ap is_some there ∙ still-live _ (entry_of old h) (has-top (entry_of old h) c.top.result c.is_none.result c.top.ensures c.is_none.ensures c.if-is_none.false);
      before = subst (λ (o : Option (Entry _)). IfSome o (λ e. activated set now e ≡ e.doc)) (sym there) (activated-again g.D.Activatable.stamp_of set g.met.D.Activatable.stamp_is_a_field now on_path (entry_of old h) (on-its-path old h));
    }

pub returns-clause-entries : goal.returns-clause-entries
returns-clause-entries g c =
    let old = c.args.frames.now in
    let h = c.args.h in
    let same = g.D.Activatable.is_same_origin in
    let set = g.D.Activatable.with_stamp in
    let now = c.args.now in
    let new = c.activate_below-below.new.frames in
    of_each (λ e. new.entries ≡ notified same set now h e old.entries) (entry_of old.entries h)
    (λ e f. notified-entries g.D.Activatable.stamp_of set g.met.D.Activatable.stamp_is_a_field now same (λ s d x. ((g.met.D.Activatable.origin_stays s d x).0, (g.met.D.Activatable.origin_stays s d x).1)) h old c.activate_upward-upward.new.frames new c.is_a_tree.ensures.found c.activate_upward-upward.ensures.entries e f c.activate_below-below.ensures.entries)

pub returns-clause-count : goal.returns-clause-count
returns-clause-count g c =
    let old = c.args.frames.now in
    let h = c.args.h in
    let same = g.D.Activatable.is_same_origin in
    let set = g.D.Activatable.with_stamp in
    let now = c.args.now in
    let new = c.activate_below-below.new.frames in
    of_each (λ e. c.activate_upward-upward.result + c.activate_below-below.result ≡ length (filter (is_notified same h e) old.entries)) (entry_of old.entries h)
    (λ e f. notified-count g.D.Activatable.stamp_of set g.met.D.Activatable.stamp_is_a_field now same (λ s d x. ((g.met.D.Activatable.origin_stays s d x).0, (g.met.D.Activatable.origin_stays s d x).1)) h old c.activate_upward-upward.new.frames new c.is_a_tree.ensures.found c.activate_upward-upward.ensures.entries e f
    c.activate_upward-upward.result c.activate_below-below.result c.activate_upward-upward.ensures.count c.activate_below-below.ensures.count
    (of_some (λ y. IsTrue (same e.doc y.doc) → length (filter (λ x. is_under x.handle y || (is_under h x && same e.doc x.doc)) old.entries) + 1 ≡ depth_of y + length (filter (λ x. is_under h x && same e.doc x.doc) old.entries)) (entry_of old.entries h) e f
    (c.is_climbed_by_parents.ensures.related h (λ x. same e.doc x.doc)) (g.met.D.Activatable.same_as_itself e.doc)))

pub returns-clause-cost : goal.returns-clause-cost
returns-clause-cost g c =
    let old = c.args.frames.now in
    let h = c.args.h in
    let same = g.D.Activatable.is_same_origin in
    let set = g.D.Activatable.with_stamp in
    let now = c.args.now in
    let new = c.activate_below-below.new.frames in
    of_each (λ e. c.activate_below-below.new.steps ≤ c.args.steps.now + 3 * length (filter (is_related h e) old.entries)) (entry_of old.entries h)
    (λ e f. notified-cost g.D.Activatable.stamp_of set g.met.D.Activatable.stamp_is_a_field now same (λ s d x. ((g.met.D.Activatable.origin_stays s d x).0, (g.met.D.Activatable.origin_stays s d x).1)) h old c.activate_upward-upward.new.frames new c.is_a_tree.ensures.found c.activate_upward-upward.ensures.entries e f
    c.args.steps.now c.activate_upward-upward.new.steps c.activate_below-below.new.steps c.activate_upward-upward.ensures.cost c.activate_below-below.ensures.cost
    (c.is_a_tree.ensures.written (λ (x : Entry _). has_handle x.handle (path_of old.entries h)) (activated set now) h) (c.is_counted_in_tree_order.ensures.all h)
    (of_some (λ y. IsTrue true → length (filter (λ x. is_under x.handle y || (is_under h x && true)) old.entries) + 1 ≡ depth_of y + length (filter (λ x. is_under h x && true) old.entries)) (entry_of old.entries h) e f
    (c.is_climbed_by_parents.ensures.related h (λ x. true)) refl))
