use Rattle.std.proofs.Common.{◌≡◌, ◌<◌, ◌∷◌, [], Option, length, length-append, sym, ap, subst, ◌∙◌, arith}
use Rattle.std.specs.Prelude.{IfSome, IsTrue, map}
use Rattle.pe_frames.specs.Forest.{Entry, entry_of, has_handle, is_under, with_document, with_doc}
use Rattle.pe_frames.specs.Order.{after, handles_under}
use Rattle.pe_frames.specs.Walk.{visited, changed_to}
use Rattle.pe_activation.specs.Consuming.{leaving, leaves}
use Rattle.pe_activation.proofs.Following.{left, left-less}
use Rattle.pe_activation.proofs.Wrote.{wrote, lives}
use Rattle.pe_activation.proofs.consumption.consume_under.Goals as goal

pub loop-following-init : goal.loop-following-init
loop-following-init g c =
    let old = c.args.frames.now in
    let change = leaving g.D.Activatable.stamp_of g.D.Activatable.with_stamp g.D.Activatable.with_second c.args.what in
    let w = wrote (entry_of old.entries c.args.root) c.requires.live old c.consume_at.new.frames c.args.root change (changed_to (λ (e : Entry _). change e.doc) old.entries c.args.root c.args.root) c.consume_at.ensures.written (c.is_changed_in_tree_order.ensures.first (λ (e : Entry _). change e.doc) c.args.root) in
    let one = ap length (c.is_visited_in_tree_order.ensures.first c.args.root c.requires.live) in
    let cost = c.consume_at.ensures.cost in
    record {
      at = c.args.root;
      walked = record { listed = c.is_visited_in_tree_order.ensures.root c.args.root c.requires.live; so_far = omega (arith, one, cost); entries = w.0; marks = w.1; made = w.2 };
      following = sym c.preorder_following-following.ensures.value;
    }

pub loop-following-preserved : goal.loop-following-preserved
loop-following-preserved g c =
    let old = c.args.frames.now in
    let change = leaving g.D.Activatable.stamp_of g.D.Activatable.with_stamp g.D.Activatable.with_second c.args.what in
    let changes = leaves g.D.Activatable.stamp_of g.D.Activatable.with_stamp g.D.Activatable.with_second c.args.what in
    let root = c.args.root in
    let at = c.loop-following.invariant.at in
    let here = c.loop-following.invariant.walked in
    let next = c.in-Some.next in
    let same = ap (λ es. handles_under es root) here.entries ∙ c.is_a_tree.ensures.written (λ (x : Entry _). has_handle x.handle (visited at (handles_under old.entries root))) changes root in
    let behind = c.loop-following.invariant.following ∙ c.in-Some.is in
    let listed = c.is_visited_in_tree_order.ensures.listed root at next behind in
    let live = lives (entry_of old.entries next) (λ e. IsTrue (is_under root e)) ((c.is_a_tree.ensures.under root next).0 listed) in
    let still = ap (λ es. entry_of es next) here.entries ∙ c.is_changed_in_tree_order.ensures.unvisited changes root at next behind in
    let w = wrote (entry_of old.entries next) live c.loop-following.frames c.consume_at-in-Some.new.frames next change (changed_to changes old.entries root next)
    (subst (λ (o : Option (Entry _)). IfSome o (λ e. c.consume_at-in-Some.new.frames ≡ with_doc c.loop-following.frames next (change e.doc))) still c.consume_at-in-Some.ensures.written)
    (subst (λ es. IfSome (entry_of old.entries next) (λ e. map (with_document next (change e.doc)) es ≡ changed_to changes old.entries root next)) (sym here.entries) (c.is_changed_in_tree_order.ensures.next changes root at next behind)) in
    let more = ap length (c.is_visited_in_tree_order.ensures.next root at next behind) ∙ length-append (visited at (handles_under old.entries root)) (next ∷ []) in
    let was = here.so_far in
    let cost = c.consume_at-in-Some.ensures.cost in
    record {
      at = next;
      walked = record { listed = listed; so_far = omega (arith, more, was, cost); entries = w.0; marks = w.1 ∙ here.marks; made = w.2 ∙ here.made };
      following = ap (after next) (sym same) ∙ sym c.preorder_following-following-in-Some.ensures.value;
    }

pub loop-following-smaller : goal.loop-following-smaller
loop-following-smaller g c =
    let old = c.args.frames.now in
    let changes = leaves g.D.Activatable.stamp_of g.D.Activatable.with_stamp g.D.Activatable.with_second c.args.what in
    let root = c.args.root in
    let at = c.loop-following.invariant.at in
    let here = c.loop-following.invariant.walked in
    let next = c.in-Some.next in
    let hs = handles_under old.entries root in
    let same = ap (λ es. handles_under es root) here.entries ∙ c.is_a_tree.ensures.written (λ (x : Entry _). has_handle x.handle (visited at hs)) changes root in
    let then = ap (after next) (sym same) ∙ sym c.preorder_following-following-in-Some.ensures.value in
    subst (λ (o : Option _). left c.preorder_following-following-in-Some.result hs < left o hs) (sym c.in-Some.is)
    (left-less hs next c.preorder_following-following-in-Some.result (c.is_visited_in_tree_order.ensures.within root next)
    (λ h q. ap length (c.is_visited_in_tree_order.ensures.next root next h (then ∙ q)) ∙ length-append (visited next hs) (h ∷ [])))
