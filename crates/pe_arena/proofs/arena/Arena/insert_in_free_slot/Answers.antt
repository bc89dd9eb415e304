use Rattle.std.proofs.Common.{◌≡◌, ◌+◌, Some, None, length, length-append, length-set, ap, ◌∙◌, arith, refl, sym, subst, set, map, get_or, List, nat_eq, ◌∷◌, [], ◌++◌}
use Rattle.std.specs.Option.{option_to_list}
use Rattle.std.proofs.lemmas.List.{get_or_default}
use Rattle.std.proofs.lemmas.List.Sums.{count_by-le-length}
use Rattle.slab.specs.Slab.{Slab}
use Rattle.pe_arena.specs.declared.arena.Row.{Row}
use Rattle.pe_arena.specs.Slots.{Slot, Slots, HasFree, put}
use Rattle.pe_arena.specs.Rows.{row_at, slot_of, times, no_row}
use Rattle.pe_arena.proofs.Lists.{times-push_same, times-push_other}
use Rattle.pe_arena.proofs.Kept.{Changed-set, IsArena-insert, IsArena-grown, IsFreeRow-once, once-le}
use Rattle.pe_arena.proofs.Seen.{view_of, free_within, free-listed, listed-free, seen-again, slot-made}
use Rattle.pe_arena.proofs.arena.Arena.insert_in_free_slot.Goals as goal

pub unwrap-slot-requires : goal.unwrap-slot-requires
unwrap-slot-requires g c =
    let view = view_of c.self.inside.values c.self.inside.rows.items c.self.inside.limit c.self.inside.first c.self.inside.made in
    let some : HasFree view = subst (λ (v : Slots _). HasFree v) (sym c.self.view_is) c.requires.some in
    let once = free-listed c.self.inside.values c.self.inside.rows.items c.self.inside.free.items _ _ _ _ _ c.self.invariant some.0 some.1 in
    let most = count_by-le-length (nat_eq some.0) c.self.inside.free.items in
    c.pop.ensures.variant.1 (omega (arith, once, most))

pub index-requires : goal.index-requires
index-requires g c =
    let free = c.self.inside.free.items in
    let left = c.pop.new.self.items in
    let i = c.unwrap-slot.result in
    let split : free ≡ left ++ i ∷ [] = c.pop.ensures.items ∙ ap (λ o. left ++ option_to_list o) c.unwrap-slot.ensures in
    let listed : times i free ≡ times i left + 1 = ap (times i) split ∙ times-push_same i left in
    let once = c.self.invariant.listed i in
    omega (arith, free_within c.self.inside.rows.items i ((IsFreeRow-once (row_at c.self.inside.rows.items i) (omega arith)).left))

pub overflow_add-generation : goal.overflow_add-generation
overflow_add-generation g c =
    let rows = c.self.inside.rows.items in
    let free = c.self.inside.free.items in
    let left = c.pop.new.self.items in
    let i = c.unwrap-slot.result in
    let split : free ≡ left ++ i ∷ [] = c.pop.ensures.items ∙ ap (λ o. left ++ option_to_list o) c.unwrap-slot.ensures in
    let listed : times i free ≡ times i left + 1 = ap (times i) split ∙ times-push_same i left in
    let once = c.self.invariant.listed i in
    let more = (IsFreeRow-once (row_at rows i) (omega arith)).left in
    let lt = free_within rows i more in
    let row = get_or_default rows i no_row _ lt ∙ sym c.index.ensures in
    omega (arith, more, ap (λ r. r.generation) row)

pub index_mut-requires : goal.index_mut-requires
index_mut-requires g c =
    let free = c.self.inside.free.items in
    let left = c.pop.new.self.items in
    let i = c.unwrap-slot.result in
    let split : free ≡ left ++ i ∷ [] = c.pop.ensures.items ∙ ap (λ o. left ++ option_to_list o) c.unwrap-slot.ensures in
    let listed : times i free ≡ times i left + 1 = ap (times i) split ∙ times-push_same i left in
    let once = c.self.invariant.listed i in
    omega (arith, free_within c.self.inside.rows.items i ((IsFreeRow-once (row_at c.self.inside.rows.items i) (omega arith)).left))

pub invariant_of-self-2 : goal.invariant_of-self-2
invariant_of-self-2 g c =
    let rows = c.self.inside.rows.items in
    let free = c.self.inside.free.items in
    let left = c.pop.new.self.items in
    let i = c.unwrap-slot.result in
    let split : free ≡ left ++ i ∷ [] = c.pop.ensures.items ∙ ap (λ o. left ++ option_to_list o) c.unwrap-slot.ensures in
    let listed : times i free ≡ times i left + 1 = ap (times i) split ∙ times-push_same i left in
    let is = IsArena-grown c.self.inside.values c.reserve.new.self rows free _ _ _ c.reserve.ensures.rest_kept c.self.invariant in
    let once = is.listed i in
    let lt = free_within rows i ((IsFreeRow-once (row_at rows i) (omega arith)).left) in
    let most = once-le (row_at rows i) in
    let gone : times i left ≡ 0 = omega (arith, listed, once, most) in
    let r : Row = record { generation = c.index.result.now.generation + 1; key = Some c.insert_reserved-key.result } in
    let wide = length-set rows i r in
    let more = ap length split ∙ length-append left (i ∷ []) in
    rw c.holding.ensures (IsArena-insert c.reserve.new.self c.insert_reserved-key.new.self c.insert_reserved-key.result c.args.value c.insert_reserved-key.ensures.updates c.insert_reserved-key.ensures.was_vacant
    rows free _ _ _ is i r refl (set rows i r) (Changed-set rows i r lt) left gone (λ j ne. sym (ap (times j) split ∙ times-push_other i j left ne)) _ _
    (omega (arith, wide, is.within)) (omega (arith, wide, is.counted)) (omega (arith, wide, more, is.spare, c.insert_reserved-key.ensures.len)) (omega (arith, wide, is.roomy, c.pop.ensures.capacity)))

pub returns-clause-slot : goal.returns-clause-slot
returns-clause-slot g c =
    let free = c.self.inside.free.items in
    let left = c.pop.new.self.items in
    let i = c.unwrap-slot.result in
    let split : free ≡ left ++ i ∷ [] = c.pop.ensures.items ∙ ap (λ o. left ++ option_to_list o) c.unwrap-slot.ensures in
    let listed : times i free ≡ times i left + 1 = ap (times i) split ∙ times-push_same i left in
    rw (← c.self.view_is) (listed-free c.self.inside.values c.self.inside.rows.items free _ _ _ _ _ c.self.invariant i (omega (arith, listed)))

pub returns-clause-generation : goal.returns-clause-generation
returns-clause-generation g c =
    let rows = c.self.inside.rows.items in
    let free = c.self.inside.free.items in
    let left = c.pop.new.self.items in
    let i = c.unwrap-slot.result in
    let split : free ≡ left ++ i ∷ [] = c.pop.ensures.items ∙ ap (λ o. left ++ option_to_list o) c.unwrap-slot.ensures in
    let listed : times i free ≡ times i left + 1 = ap (times i) split ∙ times-push_same i left in
    let once = c.self.invariant.listed i in
    let lt = free_within rows i ((IsFreeRow-once (row_at rows i) (omega arith)).left) in
    let row = get_or_default rows i no_row _ lt ∙ sym c.index.ensures in
    rw (← c.self.view_is) (sym (ap (λ x. x.mark) (slot-made c.self.inside.values rows i _ lt) ∙ ap (λ r. r.generation + 1) row))

pub returns-clause-slots : goal.returns-clause-slots
returns-clause-slots g c =
    let rows = c.self.inside.rows.items in
    let free = c.self.inside.free.items in
    let left = c.pop.new.self.items in
    let i = c.unwrap-slot.result in
    let split : free ≡ left ++ i ∷ [] = c.pop.ensures.items ∙ ap (λ o. left ++ option_to_list o) c.unwrap-slot.ensures in
    let listed : times i free ≡ times i left + 1 = ap (times i) split ∙ times-push_same i left in
    let is = IsArena-grown c.self.inside.values c.reserve.new.self rows free _ _ _ c.reserve.ensures.rest_kept c.self.invariant in
    let once = is.listed i in
    let lt = free_within rows i ((IsFreeRow-once (row_at rows i) (omega arith)).left) in
    let row = get_or_default rows i no_row _ lt ∙ sym c.index.ensures in
    let seen = seen-again c.reserve.new.self c.insert_reserved-key.new.self c.insert_reserved-key.result c.args.value c.insert_reserved-key.ensures.updates c.insert_reserved-key.ensures.was_vacant
    rows free _ _ _ is i c.index.result.now.generation c.self.inside.first lt (sym (ap (λ r. r.generation) row)) in
    rw (← c.self.view_is, c.holding.ensures) (ap (λ ss. record { slots = ss; limit = c.self.inside.limit; first = c.self.inside.first; made = c.self.inside.made + 1 }) (subst (λ (xs : List (Slot _)). map (slot_of c.insert_reserved-key.new.self) (set rows i (record { generation = c.index.result.now.generation + 1; key = Some c.insert_reserved-key.result })) ≡ put xs i (record { mark = (get_or xs i (record { mark = c.self.inside.first; value = None })).mark + 1; value = Some c.args.value })) (ap (λ (x : Slab _). map (slot_of x) rows) c.reserve.ensures.rest_kept) seen))
