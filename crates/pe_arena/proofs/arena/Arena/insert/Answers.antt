use Rattle.std.proofs.Common.{◌≡◌, ◌<◌, inl, arith, vec_len}
use Rattle.std.proofs.lemmas.Bool.Decides.{nat_tests}
use Rattle.std.proofs.lemmas.Result.{IfOk-weaker}
use Rattle.pe_arena.specs.Slots.{HasFree, HasNoFree, IsNext}
use Rattle.pe_arena.proofs.Lists.{empty_list}
use Rattle.pe_arena.proofs.Live.{insert-new, insert-given, insert-updates, insert-dead}
use Rattle.pe_arena.proofs.Seen.{HasFree-seen, HasNoFree-seen}
use Rattle.pe_arena.proofs.arena.Arena.insert.Goals as goal

pub insert_in_new_slot-requires-clause-none : goal.insert_in_new_slot-requires-clause-none
insert_in_new_slot-requires-clause-none g c =
    let n : vec_len c.self.inside.free ≡ 0 = grind (arith, nat_tests, c.if-is_empty.ensures) in
    let none = empty_list c.self.inside.free.items (omega arith) in
    rw (← c.self.view_is) (HasNoFree-seen c.self.inside.values c.self.inside.rows.items c.self.inside.free.items _ _ _ _ _ c.self.invariant none)

pub insert_in_free_slot-requires-clause-some : goal.insert_in_free_slot-requires-clause-some
insert_in_free_slot-requires-clause-some g c =
    let n : 0 < vec_len c.self.inside.free = grind (arith, nat_tests, c.if-is_empty.ensures) in
    rw (← c.self.view_is) (HasFree-seen c.self.inside.values c.self.inside.rows.items c.self.inside.free.items _ _ _ _ _ c.self.invariant (omega arith))

pub returns-then-is_empty-clause-full : goal.returns-then-is_empty-clause-full
returns-then-is_empty-clause-full g c =
    let n : vec_len c.self.inside.free ≡ 0 = grind (arith, nat_tests, c.if-is_empty.ensures) in
    let none = empty_list c.self.inside.free.items (omega arith) in
    let unfree : HasNoFree c.args.self.now = rw (← c.self.view_is) (HasNoFree-seen c.self.inside.values c.self.inside.rows.items c.self.inside.free.items _ _ _ _ _ c.self.invariant none) in
    (λ e. (c.insert_in_new_slot.ensures.full.0 e, unfree), λ f. c.insert_in_new_slot.ensures.full.1 f.0)

pub returns-else-is_empty-clause-full : goal.returns-else-is_empty-clause-full
returns-else-is_empty-clause-full g c =
    let n : 0 < vec_len c.self.inside.free = grind (arith, nat_tests, c.if-is_empty.ensures) in
    let some : HasFree c.args.self.now = rw (← c.self.view_is) (HasFree-seen c.self.inside.values c.self.inside.rows.items c.self.inside.free.items _ _ _ _ _ c.self.invariant (omega arith)) in
    (λ e. absurd (c.insert_in_free_slot.ensures.full e), λ f. absurd (f.1 some.0 some.1))

pub returns-then-is_empty-clause-updates : goal.returns-then-is_empty-clause-updates
returns-then-is_empty-clause-updates g c =
    let is = c.insert_in_new_slot.ensures in
    insert-updates c.insert_in_new_slot.result c.args.self.now c.insert_in_new_slot.new.self c.args.value is.slot is.generation is.slots

pub returns-then-is_empty-clause-dead : goal.returns-then-is_empty-clause-dead
returns-then-is_empty-clause-dead g c =
    let is = c.insert_in_new_slot.ensures in
    insert-dead c.insert_in_new_slot.result c.args.self.now c.insert_in_new_slot.new.self c.args.value is.slot is.generation is.slots is.err

pub returns-else-is_empty-clause-updates : goal.returns-else-is_empty-clause-updates
returns-else-is_empty-clause-updates g c =
    let is = c.insert_in_free_slot.ensures in
    let next = IfOk-weaker c.insert_in_free_slot.result _ (λ h. IsNext c.args.self.now h.slot) (λ h e. inl e) is.slot in
    insert-updates c.insert_in_free_slot.result c.args.self.now c.insert_in_free_slot.new.self c.args.value next is.generation is.slots

pub returns-else-is_empty-clause-dead : goal.returns-else-is_empty-clause-dead
returns-else-is_empty-clause-dead g c =
    let is = c.insert_in_free_slot.ensures in
    let next = IfOk-weaker c.insert_in_free_slot.result _ (λ h. IsNext c.args.self.now h.slot) (λ h e. inl e) is.slot in
    insert-dead c.insert_in_free_slot.result c.args.self.now c.insert_in_free_slot.new.self c.args.value next is.generation is.slots is.err

pub returns-then-is_empty-clause-new : goal.returns-then-is_empty-clause-new
returns-then-is_empty-clause-new g c = insert-new c.insert_in_new_slot.result c.args.self.now c.insert_in_new_slot.ensures.generation

pub returns-else-is_empty-clause-new : goal.returns-else-is_empty-clause-new
returns-else-is_empty-clause-new g c = insert-new c.insert_in_free_slot.result c.args.self.now c.insert_in_free_slot.ensures.generation

pub returns-then-is_empty-clause-given : goal.returns-then-is_empty-clause-given
returns-then-is_empty-clause-given g c =
    let is = c.insert_in_new_slot.ensures in
    insert-given c.insert_in_new_slot.result c.args.self.now c.insert_in_new_slot.new.self c.args.value is.slot is.generation is.slots

pub returns-else-is_empty-clause-given : goal.returns-else-is_empty-clause-given
returns-else-is_empty-clause-given g c =
    let is = c.insert_in_free_slot.ensures in
    let next = IfOk-weaker c.insert_in_free_slot.result _ (λ h. IsNext c.args.self.now h.slot) (λ h e. inl e) is.slot in
    insert-given c.insert_in_free_slot.result c.args.self.now c.insert_in_free_slot.new.self c.args.value next is.generation is.slots
