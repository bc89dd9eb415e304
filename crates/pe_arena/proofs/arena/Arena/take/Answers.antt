use Rattle.std.proofs.Common.{◌≡◌, ◌+◌, ◌<◌, Some, None, IsSome, length, length-set, length-append, ap, ◌∙◌, arith, refl, sym, subst, true≢false, ◌∷◌, [], ◌++◌}
use Rattle.std.proofs.lemmas.List.{length-map, get_or_default}
use Rattle.pe_arena.specs.declared.arena.Row.{Row}
use Rattle.pe_arena.specs.Slots.{Slots, live}
use Rattle.pe_arena.specs.Rows.{row_at, slot_of}
use Rattle.pe_arena.proofs.Lists.{not_below, times-push_same, times-push_other}
use Rattle.pe_arena.proofs.Kept.{Changed-set, IsArena-remove, not_listed, once-free, once-retired}
use Rattle.pe_arena.proofs.Seen.{view_of, live-within, seen-emptied}
use Rattle.pe_arena.proofs.arena.Arena.take.Goals as goal

pub invariant_of-self : goal.invariant_of-self
invariant_of-self g c =
    let is = c.self.invariant in
    let rows = c.self.inside.rows.items in
    let i = c.args.h.slot in
    let view = view_of c.self.inside.values rows c.self.inside.limit c.self.inside.first c.self.inside.made in
    let here : IsSome (live view c.args.h) = subst (λ (v : Slots _). IsSome (live v c.args.h)) (sym c.self.view_is) c.requires in
    let n = length-map rows (slot_of c.self.inside.values) in
    let lt : i < length rows = omega (arith, live-within view c.args.h here, n) in
    let row = get_or_default rows i _ _ lt ∙ sym c.index-row.ensures in
    let at : (row_at rows i).key ≡ Some c.unwrap.result = ap (λ r. r.key) row ∙ c.unwrap.ensures in
    let k = c.unwrap.result in
    let up = c.remove-value.ensures.updates in
    let r : Row = record { generation = c.index-row.result.now.generation; key = None } in
    let wide = length-set rows i r in
    let more = length-append c.self.inside.free.items (i ∷ []) in
    rw c.push_reserved.ensures.items (IsArena-remove c.self.inside.values c.remove-value.new.self k up rows c.self.inside.free.items _ _ _ is i at r refl _ (Changed-set rows i r lt)
    (c.self.inside.free.items ++ i ∷ [])
    (times-push_same i c.self.inside.free.items ∙ ap (λ x. x + 1) (not_listed c.self.inside.values c.remove-value.new.self k up rows c.self.inside.free.items _ _ _ is i at) ∙ sym (once-free r (record { empty = refl; left = c.has_next_generation.ensures.0 c.if-has_next_generation.true })))
    (λ j ne. times-push_other i j c.self.inside.free.items ne)
    _ (omega (arith, is.within)) (omega (arith, is.counted)) (omega (arith, is.spare, c.remove-value.ensures.len)) (omega (arith, is.roomy, c.push_reserved.ensures.capacity)))

pub invariant_of-self-else-has_next_generation :
    goal.invariant_of-self-else-has_next_generation
invariant_of-self-else-has_next_generation g c =
    let is = c.self.invariant in
    let rows = c.self.inside.rows.items in
    let i = c.args.h.slot in
    let view = view_of c.self.inside.values rows c.self.inside.limit c.self.inside.first c.self.inside.made in
    let here : IsSome (live view c.args.h) = subst (λ (v : Slots _). IsSome (live v c.args.h)) (sym c.self.view_is) c.requires in
    let n = length-map rows (slot_of c.self.inside.values) in
    let lt : i < length rows = omega (arith, live-within view c.args.h here, n) in
    let row = get_or_default rows i _ _ lt ∙ sym c.index-row.ensures in
    let at : (row_at rows i).key ≡ Some c.unwrap.result = ap (λ r. r.key) row ∙ c.unwrap.ensures in
    let k = c.unwrap.result in
    let up = c.remove-value.ensures.updates in
    let r : Row = record { generation = c.index-row.result.now.generation; key = None } in
    let wide = length-set rows i r in
    IsArena-remove c.self.inside.values c.remove-value.new.self k up rows c.self.inside.free.items _ _ _ is i at r refl _ (Changed-set rows i r lt)
    c.self.inside.free.items
    (not_listed c.self.inside.values c.remove-value.new.self k up rows c.self.inside.free.items _ _ _ is i at ∙ sym (once-retired r (not_below _ _ (λ p. true≢false (sym (c.has_next_generation.ensures.1 p) ∙ c.if-has_next_generation.false)))))
    (λ j ne. refl)
    _ (omega (arith, is.within)) (omega (arith, is.counted)) (omega (arith, is.spare, c.remove-value.ensures.len)) (omega (arith, is.roomy))

pub returns-then-has_next_generation-clause-slots :
    goal.returns-then-has_next_generation-clause-slots
returns-then-has_next_generation-clause-slots g c =
    let is = c.self.invariant in
    let rows = c.self.inside.rows.items in
    let i = c.args.h.slot in
    let view = view_of c.self.inside.values rows c.self.inside.limit c.self.inside.first c.self.inside.made in
    let here : IsSome (live view c.args.h) = subst (λ (v : Slots _). IsSome (live v c.args.h)) (sym c.self.view_is) c.requires in
    let n = length-map rows (slot_of c.self.inside.values) in
    let lt : i < length rows = omega (arith, live-within view c.args.h here, n) in
    let row = get_or_default rows i _ _ lt ∙ sym c.index-row.ensures in
    let at : (row_at rows i).key ≡ Some c.unwrap.result = ap (λ r. r.key) row ∙ c.unwrap.ensures in
    rw (← c.self.view_is) (ap (λ ss. record { slots = ss; limit = c.self.inside.limit; first = c.self.inside.first; made = c.self.inside.made })
    (seen-emptied _ _ c.unwrap.result c.remove-value.ensures.updates _ _ _ _ _ is i at lt c.index-row.result.now.generation c.self.inside.first (sym (ap (λ r. r.generation) row))))

pub returns-else-has_next_generation-clause-slots :
    goal.returns-else-has_next_generation-clause-slots
returns-else-has_next_generation-clause-slots g c =
    let is = c.self.invariant in
    let rows = c.self.inside.rows.items in
    let i = c.args.h.slot in
    let view = view_of c.self.inside.values rows c.self.inside.limit c.self.inside.first c.self.inside.made in
    let here : IsSome (live view c.args.h) = subst (λ (v : Slots _). IsSome (live v c.args.h)) (sym c.self.view_is) c.requires in
    let n = length-map rows (slot_of c.self.inside.values) in
    let lt : i < length rows = omega (arith, live-within view c.args.h here, n) in
    let row = get_or_default rows i _ _ lt ∙ sym c.index-row.ensures in
    let at : (row_at rows i).key ≡ Some c.unwrap.result = ap (λ r. r.key) row ∙ c.unwrap.ensures in
    rw (← c.self.view_is) (ap (λ ss. record { slots = ss; limit = c.self.inside.limit; first = c.self.inside.first; made = c.self.inside.made })
    (seen-emptied _ _ c.unwrap.result c.remove-value.ensures.updates _ _ _ _ _ is i at lt c.index-row.result.now.generation c.self.inside.first (sym (ap (λ r. r.generation) row))))
