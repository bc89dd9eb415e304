use Rattle.std.proofs.Common.{◌≡◌, ◌++◌, ◌∷◌, [], append_assoc, Option, refl, length, length-append, sym, ap, subst, ◌∙◌, arith}
use Rattle.std.specs.Prelude.{IfSome, IsSome, map}
use Rattle.std.specs.Option.{option_and_then}
use Rattle.std.proofs.lemmas.List.{append-nil}
use Rattle.pe_base.specs.declared.input.Stamp.TheVariants as stamp
use Rattle.pe_base.specs.declared.limits.TheConstants.{DEPTH_LIMIT}
use Rattle.pe_frames.specs.Forest.{Entry, entry_of, has_handle, parent_of, path_of, with_doc, with_document}
use Rattle.pe_frames.specs.Walk.{changed_where}
use Rattle.pe_activation.specs.Notifying.{activated}
use Rattle.pe_activation.proofs.Wrote.{lives-on, wrote}
use Rattle.pe_activation.proofs.Notified.{activated_in, again, first-written, parent-same, path-long, path-top}
use Rattle.pe_activation.proofs.notification.activate_upward.Goals as goal

pub loop-parent-init : goal.loop-parent-init
loop-parent-init g c =
    let old = c.args.frames.now in
    let set = g.D.Activatable.with_stamp in
    let h = c.args.h in
    let w = wrote (entry_of old.entries h) c.requires.live old c.activate_at.new.frames h (set (stamp.At c.args.now)) (activated_in set c.args.now (h ∷ []) old.entries) c.activate_at.ensures.written (first-written old.entries c.is_changed_in_tree_order.ensures.one (activated set c.args.now) h) in
    let cost = c.activate_at.ensures.cost in
    record { passed = []; live = c.requires.live; path = sym (append-nil (path_of old.entries h)); entries = w.0; marks = w.1; made = w.2; counted = refl; so_far = omega (arith, cost) }

pub activate_at-requires-in-Some : goal.activate_at-requires-in-Some
activate_at-requires-in-Some g c =
    let old = c.args.frames.now in
    let set = g.D.Activatable.with_stamp in
    let now = c.args.now in
    let at = c.loop-parent.at in
    let p = c.in-Some.parent in
    let here = c.loop-parent.invariant in
    let before = λ (x : Entry _). has_handle x.handle (at ∷ here.passed) in
    let found = ap (λ es. entry_of es at) here.entries ∙ c.is_a_tree.ensures.found before (activated set now) at in
    let parent = sym (ap (option_and_then parent_of) found ∙ parent-same before (activated set now) (entry_of old.entries at)) ∙ sym c.parent.ensures ∙ c.in-Some.is in
    let there = ap (λ es. entry_of es p) here.entries ∙ c.is_a_tree.ensures.found before (activated set now) p in
    subst IsSome (sym there) (lives-on (entry_of old.entries p) (changed_where before (activated set now)) (c.is_climbed_by_parents.ensures.live at p parent))

pub loop-parent-preserved : goal.loop-parent-preserved
loop-parent-preserved g c =
    let old = c.args.frames.now in
    let set = g.D.Activatable.with_stamp in
    let now = c.args.now in
    let at = c.loop-parent.at in
    let p = c.in-Some.parent in
    let here = c.loop-parent.invariant in
    let before = λ (x : Entry _). has_handle x.handle (at ∷ here.passed) in
    let found = ap (λ es. entry_of es at) here.entries ∙ c.is_a_tree.ensures.found before (activated set now) at in
    let parent = sym (ap (option_and_then parent_of) found ∙ parent-same before (activated set now) (entry_of old.entries at)) ∙ sym c.parent.ensures ∙ c.in-Some.is in
    let live = c.is_climbed_by_parents.ensures.live at p parent in
    let there = ap (λ es. entry_of es p) here.entries ∙ c.is_a_tree.ensures.found before (activated set now) p in
    let w = again g.D.Activatable.stamp_of set g.met.D.Activatable.stamp_is_a_field now before (entry_of old.entries p) c.loop-parent.frames c.activate_at-in-Some.new.frames p (activated_in set now (p ∷ (at ∷ here.passed)) old.entries) live
    (subst (λ (o : Option (Entry _)). IfSome o (λ e. c.activate_at-in-Some.new.frames ≡ with_doc c.loop-parent.frames p (activated set now e))) there c.activate_at-in-Some.ensures.written)
    (subst (λ es. IfSome (entry_of old.entries p) (λ e. map (with_document p (activated set now e)) es ≡ activated_in set now (p ∷ (at ∷ here.passed)) old.entries)) (sym here.entries) (c.is_changed_in_tree_order.ensures.one before (activated set now) p)) in
    let path = here.path ∙ ap (λ ks. ks ++ here.passed) (c.is_climbed_by_parents.ensures.path at p parent) ∙ append_assoc (path_of old.entries p) (at ∷ []) here.passed in
    let cost = c.activate_at-in-Some.ensures.cost in
    let counted = here.counted in
    let was = here.so_far in
    record { passed = at ∷ here.passed; live = live; path = path; entries = w.0; marks = w.1 ∙ here.marks; made = w.2 ∙ here.made; counted = omega (arith, counted); so_far = omega (arith, was, cost) }

pub loop-parent-smaller : goal.loop-parent-smaller
loop-parent-smaller g c =
    let old = c.args.frames.now in
    let set = g.D.Activatable.with_stamp in
    let now = c.args.now in
    let at = c.loop-parent.at in
    let p = c.in-Some.parent in
    let here = c.loop-parent.invariant in
    let before = λ (x : Entry _). has_handle x.handle (at ∷ here.passed) in
    let found = ap (λ es. entry_of es at) here.entries ∙ c.is_a_tree.ensures.found before (activated set now) at in
    let parent = sym (ap (option_and_then parent_of) found ∙ parent-same before (activated set now) (entry_of old.entries at)) ∙ sym c.parent.ensures ∙ c.in-Some.is in
    let long = ap length (c.is_climbed_by_parents.ensures.path at p parent) ∙ length-append (path_of old.entries p) (at ∷ []) in
    omega (arith, long)

pub returns-clause-entries : goal.returns-clause-entries
returns-clause-entries g c =
    let old = c.args.frames.now in
    let set = g.D.Activatable.with_stamp in
    let now = c.args.now in
    let at = c.loop-parent.at in
    let here = c.loop-parent.invariant in
    let before = λ (x : Entry _). has_handle x.handle (at ∷ here.passed) in
    let found = ap (λ es. entry_of es at) here.entries ∙ c.is_a_tree.ensures.found before (activated set now) at in
    let parent = sym (ap (option_and_then parent_of) found ∙ parent-same before (activated set now) (entry_of old.entries at)) ∙ sym c.parent.ensures ∙ c.in_default.is in
    let whole = here.path ∙ ap (λ ks. ks ++ here.passed) (path-top (entry_of old.entries at) at here.live parent (c.is_climbed_by_parents.ensures.top at)) in
    here.entries ∙ ap (λ ks. activated_in set now ks old.entries) (sym whole)

pub returns-clause-count : goal.returns-clause-count
returns-clause-count g c =
    let old = c.args.frames.now in
    let set = g.D.Activatable.with_stamp in
    let now = c.args.now in
    let at = c.loop-parent.at in
    let here = c.loop-parent.invariant in
    let before = λ (x : Entry _). has_handle x.handle (at ∷ here.passed) in
    let found = ap (λ es. entry_of es at) here.entries ∙ c.is_a_tree.ensures.found before (activated set now) at in
    let parent = sym (ap (option_and_then parent_of) found ∙ parent-same before (activated set now) (entry_of old.entries at)) ∙ sym c.parent.ensures ∙ c.in_default.is in
    let whole = here.path ∙ ap (λ ks. ks ++ here.passed) (path-top (entry_of old.entries at) at here.live parent (c.is_climbed_by_parents.ensures.top at)) in
    let long = ap length whole in let counted = here.counted in omega (arith, long, counted)

pub returns-clause-cost : goal.returns-clause-cost
returns-clause-cost g c =
    let old = c.args.frames.now in
    let set = g.D.Activatable.with_stamp in
    let now = c.args.now in
    let at = c.loop-parent.at in
    let here = c.loop-parent.invariant in
    let before = λ (x : Entry _). has_handle x.handle (at ∷ here.passed) in
    let found = ap (λ es. entry_of es at) here.entries ∙ c.is_a_tree.ensures.found before (activated set now) at in
    let parent = sym (ap (option_and_then parent_of) found ∙ parent-same before (activated set now) (entry_of old.entries at)) ∙ sym c.parent.ensures ∙ c.in_default.is in
    let whole = here.path ∙ ap (λ ks. ks ++ here.passed) (path-top (entry_of old.entries at) at here.live parent (c.is_climbed_by_parents.ensures.top at)) in
    let long = ap length whole in let was = here.so_far in omega (arith, long, was)

pub returns-clause-within : goal.returns-clause-within
returns-clause-within g c =
    let old = c.args.frames.now in
    let set = g.D.Activatable.with_stamp in
    let now = c.args.now in
    let at = c.loop-parent.at in
    let here = c.loop-parent.invariant in
    let before = λ (x : Entry _). has_handle x.handle (at ∷ here.passed) in
    let found = ap (λ es. entry_of es at) here.entries ∙ c.is_a_tree.ensures.found before (activated set now) at in
    let parent = sym (ap (option_and_then parent_of) found ∙ parent-same before (activated set now) (entry_of old.entries at)) ∙ sym c.parent.ensures ∙ c.in_default.is in
    let whole = here.path ∙ ap (λ ks. ks ++ here.passed) (path-top (entry_of old.entries at) at here.live parent (c.is_climbed_by_parents.ensures.top at)) in
    let long = ap length whole in let counted = here.counted in let depth = path-long (entry_of old.entries c.args.h) DEPTH_LIMIT (c.is_climbed_by_parents.ensures.depth c.args.h) in omega (arith, long, counted, depth)

pub overflow_add-count : goal.overflow_add-count
overflow_add-count g c =
    let old = c.args.frames.now in
    let here = c.loop-parent.invariant in
    let counted = here.counted in
    let long = ap length here.path ∙ length-append (path_of old.entries c.loop-parent.at) here.passed in
    let depth = path-long (entry_of old.entries c.args.h) DEPTH_LIMIT (c.is_climbed_by_parents.ensures.depth c.args.h) in
    omega (arith, counted, long, depth)
