use Rattle.std.proofs.Common.{◌≡◌, ◌<◌, ◌∷◌, [], cond, refl, Option, length, length-append, sym, ap, subst, ◌∙◌, arith}
use Rattle.std.specs.Prelude.{IfSome, IsTrue, map}
use Rattle.pe_frames.specs.Forest.{Entry, entry_of, has_handle, is_under, with_document, with_doc}
use Rattle.pe_frames.specs.Order.{after, handles_under, in_tree_order}
use Rattle.pe_frames.specs.Walk.{visited, changed_to}
use Rattle.pe_activation.specs.Notifying.{activated, activated_where, is_same_as}
use Rattle.pe_activation.proofs.Following.{left, left-less}
use Rattle.pe_activation.proofs.Wrote.{lives}
use Rattle.pe_activation.proofs.Notified.{count-push, count-under, count_at, doc_at, passes_at, kept, left-first, root-same, same-self, stepped}
use Rattle.pe_activation.proofs.notification.activate_below.Goals as goal

pub loop-following-init : goal.loop-following-init
loop-following-init g c =
    let old = c.args.frames.now in
    let set = g.D.Activatable.with_stamp in
    let root = c.args.root in
    let test = is_same_as g.D.Activatable.is_same_origin (entry_of old.entries root) in
    let alone = c.is_visited_in_tree_order.ensures.first root c.requires.live in
    let one = ap length alone in
    let counted = ap (count_at test old.entries) alone ∙ ap (λ b. length (cond b (root ∷ []) [])) (same-self g.D.Activatable.is_same_origin g.met.D.Activatable.same_as_itself (entry_of old.entries root) c.requires.live) in
    record {
      at = root;
      walked = record {
        listed = c.is_visited_in_tree_order.ensures.root root c.requires.live;
        counted = sym counted;
        few = omega (arith, one);
        so_far = omega (arith, one);
        entries = left-first set c.args.now test (entry_of old.entries root) c.requires.live old.entries (changed_to (activated_where test set c.args.now) old.entries root root) root (c.is_changed_in_tree_order.ensures.first (activated_where test set c.args.now) root) c.requires.before (kept old.entries c.is_changed_in_tree_order.ensures.one root);
        marks = refl;
        made = refl;
      };
      following = sym c.preorder_following-following.ensures.value;
    }

pub loop-following-preserved : goal.loop-following-preserved
loop-following-preserved g c =
    let old = c.args.frames.now in
    let set = g.D.Activatable.with_stamp in
    let now = c.args.now in
    let root = c.args.root in
    let at = c.loop-following.invariant.at in
    let next = c.in-Some.next in
    let cur = c.loop-following.frames in
    let new = c.activate_where_same-count.new.frames in
    let same = g.D.Activatable.is_same_origin in
    let test = is_same_as same (entry_of old.entries root) in
    let changes = activated_where test set now in
    let here = c.loop-following.invariant.walked in
    let before = λ (x : Entry _). has_handle x.handle (visited at (handles_under old.entries root)) in
    let as_before = ap (λ es. handles_under es root) here.entries ∙ c.is_a_tree.ensures.written before changes root in
    let behind = c.loop-following.invariant.following ∙ c.in-Some.is in
    let listed = c.is_visited_in_tree_order.ensures.listed root at next behind in
    let live = lives (entry_of old.entries next) (λ e. IsTrue (is_under root e)) ((c.is_a_tree.ensures.under root next).0 listed) in
    let still = ap (λ es. entry_of es next) here.entries ∙ c.is_changed_in_tree_order.ensures.unvisited changes root at next behind in
    let root_now = ap (λ es. entry_of es root) here.entries ∙ c.is_a_tree.ensures.found before changes root in
    let agree : (d : _) → is_same_as same (entry_of cur.entries root) d ≡ test d = λ d. ap (λ o. is_same_as same o d) root_now ∙ root-same set now same before test (entry_of old.entries root) c.requires.before d in
    let step = stepped set now test (is_same_as same (entry_of cur.entries root)) agree (entry_of old.entries next) live cur new next (changed_to changes old.entries root next) c.activate_where_same-count.result
    (subst (λ (o : Option (Entry _)). IfSome o (λ x. new ≡ cond (is_same_as same (entry_of cur.entries root) x.doc) (with_doc cur next (activated set now x)) cur)) still c.activate_where_same-count.ensures.written)
    (subst (λ (o : Option (Entry _)). IfSome o (λ x. c.activate_where_same-count.result ≡ cond (is_same_as same (entry_of cur.entries root) x.doc) 1 0)) still c.activate_where_same-count.ensures.count)
    (subst (λ es. IfSome (entry_of old.entries next) (λ e. map (with_document next (changes e)) es ≡ changed_to changes old.entries root next)) (sym here.entries) (c.is_changed_in_tree_order.ensures.next changes root at next behind))
    (subst (λ es. IfSome (entry_of old.entries next) (λ e. changes e ≡ e.doc → es ≡ changed_to changes old.entries root next)) (sym here.entries) (c.is_changed_in_tree_order.ensures.skipped changes root at next behind)) in
    let reached = c.is_visited_in_tree_order.ensures.next root at next behind in
    let more = ap length reached ∙ length-append (visited at (handles_under old.entries root)) (next ∷ []) in
    let pushed = ap (count_at test old.entries) reached ∙ count-push (λ k. passes_at test (doc_at old.entries k)) (visited at (handles_under old.entries root)) next in
    let counted = here.counted in
    let few = here.few in
    let was = here.so_far in
    let one = step.count in
    let within = c.activate_where_same-count.ensures.within in
    let cost = c.activate_where_same-count.ensures.cost in
    record {
      at = next;
      walked = record {
        listed = listed;
        counted = omega (arith, counted, pushed, one);
        few = omega (arith, few, more, within);
        so_far = omega (arith, was, more, cost);
        entries = step.entries;
        marks = step.marks ∙ here.marks;
        made = step.made ∙ here.made;
      };
      following = ap (after next) (sym as_before) ∙ sym c.preorder_following-following-in-Some.ensures.value;
    }

pub loop-following-smaller : goal.loop-following-smaller
loop-following-smaller g c =
    let old = c.args.frames.now in
    let root = c.args.root in
    let at = c.loop-following.invariant.at in
    let next = c.in-Some.next in
    let changes = activated_where (is_same_as g.D.Activatable.is_same_origin (entry_of old.entries root)) g.D.Activatable.with_stamp c.args.now in
    let here = c.loop-following.invariant.walked in
    let hs = handles_under old.entries root in
    let as_before = ap (λ es. handles_under es root) here.entries ∙ c.is_a_tree.ensures.written (λ (x : Entry _). has_handle x.handle (visited at hs)) changes root in
    let then = ap (after next) (sym as_before) ∙ sym c.preorder_following-following-in-Some.ensures.value in
    subst (λ (o : Option _). left c.preorder_following-following-in-Some.result hs < left o hs) (sym c.in-Some.is)
    (left-less hs next c.preorder_following-following-in-Some.result (c.is_visited_in_tree_order.ensures.within root next)
    (λ h q. ap length (c.is_visited_in_tree_order.ensures.next root next h (then ∙ q)) ∙ length-append (visited next hs) (h ∷ [])))

pub returns-clause-entries : goal.returns-clause-entries
returns-clause-entries g c =
    let old = c.args.frames.now in
    let root = c.args.root in
    let at = c.loop-following.invariant.at in
    let changes = activated_where (is_same_as g.D.Activatable.is_same_origin (entry_of old.entries root)) g.D.Activatable.with_stamp c.args.now in
    let here = c.loop-following.invariant.walked in
    let ended = c.loop-following.invariant.following ∙ c.in_default.is in
    here.entries ∙ c.is_changed_in_tree_order.ensures.last changes root at here.listed ended

pub returns-clause-count : goal.returns-clause-count
returns-clause-count g c =
    let old = c.args.frames.now in
    let root = c.args.root in
    let at = c.loop-following.invariant.at in
    let test = is_same_as g.D.Activatable.is_same_origin (entry_of old.entries root) in
    let here = c.loop-following.invariant.walked in
    let ended = c.loop-following.invariant.following ∙ c.in_default.is in
    let all = c.is_visited_in_tree_order.ensures.last root at here.listed ended in
    here.counted
    ∙ ap (count_at test old.entries) all
    ∙ count-under test old.entries (handles_under old.entries root) (in_tree_order old.entries root) (c.is_a_tree.ensures.documents root)
    ∙ c.is_counted_in_tree_order.ensures.counted root (λ x. test x.doc)

pub returns-clause-within : goal.returns-clause-within
returns-clause-within g c =
    let root = c.args.root in
    let at = c.loop-following.invariant.at in
    let here = c.loop-following.invariant.walked in
    let ended = c.loop-following.invariant.following ∙ c.in_default.is in
    let all = c.is_visited_in_tree_order.ensures.last root at here.listed ended in
    let few = here.few in let long = ap length all in let limit = c.is_counted_in_tree_order.ensures.few root in omega (arith, few, long, limit)

pub returns-clause-cost : goal.returns-clause-cost
returns-clause-cost g c =
    let root = c.args.root in
    let at = c.loop-following.invariant.at in
    let here = c.loop-following.invariant.walked in
    let ended = c.loop-following.invariant.following ∙ c.in_default.is in
    let all = c.is_visited_in_tree_order.ensures.last root at here.listed ended in
    let was = here.so_far in let long = ap length all in omega (arith, was, long)

pub overflow_add-count : goal.overflow_add-count
overflow_add-count g c =
    let root = c.args.root in
    let few = c.loop-following.invariant.walked.few in
    let within = c.is_visited_in_tree_order.ensures.within root c.loop-following.invariant.at in
    let limit = c.is_counted_in_tree_order.ensures.few root in
    let one = c.activate_where_same-count.ensures.within in
    omega (arith, few, within, limit, one)
