use Rattle.std.proofs.Common.{◌≡◌, ◌+◌, inr, Some, None, length, length-append, ap, ◌∙◌, arith, refl, sym, subst, map, get_or, List, ◌∷◌, [], ◌++◌}
use Rattle.std.proofs.lemmas.List.{length-map}
use Rattle.slab.specs.Slab.{Slab}
use Rattle.pe_arena.specs.declared.arena.Row.{Row}
use Rattle.pe_arena.specs.Slots.{Slot, put}
use Rattle.pe_arena.specs.Rows.{slot_of, free_once, no_row}
use Rattle.pe_arena.proofs.Lists.{when_ok}
use Rattle.pe_arena.proofs.Kept.{Changed-push, IsArena-insert, IsArena-grown, once-retired}
use Rattle.pe_arena.proofs.Seen.{seen-new, get_or-past}
use Rattle.pe_arena.proofs.arena.Arena.insert_in_new_slot.Goals as goal

pub invariant_of-self-2 : goal.invariant_of-self-2
invariant_of-self-2 g c =
    let rows = c.self.inside.rows.items in
    let free = c.self.inside.free.items in
    let is = IsArena-grown c.self.inside.values c.make_room.new.values rows free _ _ _ c.make_room.ensures.values c.self.invariant in
    let r : Row = record { generation = c.self.inside.first; key = Some c.insert_reserved-key.result } in
    let more = length-append rows (r ∷ []) in
    let gone = is.listed (length rows) ∙ ap free_once (get_or-past rows (length rows) no_row refl) ∙ once-retired no_row (omega arith) in
    let same = ap length c.make_room.ensures.rows in
    let listable = when_ok c.make_room.result (sym c.is_err.ensures.value ∙ c.if-is_err.false) c.make_room.ensures.for_free in
    rw (c.push_reserved.ensures.items, c.holding.ensures, c.make_room.ensures.rows, c.make_room.ensures.free) (
    IsArena-insert c.make_room.new.values c.insert_reserved-key.new.self c.insert_reserved-key.result c.args.value c.insert_reserved-key.ensures.updates c.insert_reserved-key.ensures.was_vacant
    rows free _ _ _ is (length rows) r refl (rows ++ r ∷ []) (Changed-push rows r) free gone (λ j ne. refl) _ _
    (omega (arith, more, is.within)) (omega (arith, more, is.counted)) (omega (arith, more, is.spare, c.insert_reserved-key.ensures.len)) (omega (arith, more, listable, same)))

pub returns-clause-slots : goal.returns-clause-slots
returns-clause-slots g c =
    let rows = c.self.inside.rows.items in
    let free = c.self.inside.free.items in
    let is = IsArena-grown c.self.inside.values c.make_room.new.values rows free _ _ _ c.make_room.ensures.values c.self.invariant in
    let n : c.len-slot.result ≡ length rows = omega arith in
    let seen = seen-new c.make_room.new.values c.insert_reserved-key.new.self c.insert_reserved-key.result c.args.value c.insert_reserved-key.ensures.updates c.insert_reserved-key.ensures.was_vacant
    rows free _ _ _ is c.len-slot.result c.self.inside.first n in
    rw (← c.self.view_is, c.push_reserved.ensures.items, c.holding.ensures, c.make_room.ensures.rows) (ap (λ ss. record { slots = ss; limit = c.self.inside.limit; first = c.self.inside.first; made = c.self.inside.made + 1 }) (subst (λ (xs : List (Slot _)). map (slot_of c.insert_reserved-key.new.self) (rows ++ record { generation = c.self.inside.first; key = Some c.insert_reserved-key.result } ∷ []) ≡ put xs c.len-slot.result (record { mark = (get_or xs c.len-slot.result (record { mark = c.self.inside.first; value = None })).mark + 1; value = Some c.args.value })) (ap (λ (x : Slab _). map (slot_of x) rows) c.make_room.ensures.values) seen))

pub returns-clause-slot : goal.returns-clause-slot
returns-clause-slot g c =
    let n : c.len-slot.result ≡ length c.self.inside.rows.items = omega arith in
    let wide : c.len-slot.result ≡ length c.args.self.now.slots = rw (← c.self.view_is) (n ∙ sym (length-map c.self.inside.rows.items (slot_of c.self.inside.values))) in
    inr (c.requires.none, wide)

pub returns-clause-generation : goal.returns-clause-generation
returns-clause-generation g c =
    let n : c.len-slot.result ≡ length c.self.inside.rows.items = omega arith in
    rw (← c.self.view_is) (sym (ap (λ (x : Slot _). x.mark) (get_or-past (map (slot_of c.self.inside.values) c.self.inside.rows.items) c.len-slot.result (record { mark = c.self.inside.first; value = None }) (n ∙ sym (length-map c.self.inside.rows.items (slot_of c.self.inside.values))))))
