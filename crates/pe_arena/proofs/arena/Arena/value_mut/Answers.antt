use Rattle.std.proofs.Common.{◌≡◌, ◌<◌, Some, IsSome, length, ap, ◌∙◌, arith, refl, sym, subst}
use Rattle.std.specs.Option.{option_copied_mut}
use Rattle.std.proofs.lemmas.List.{length-map, get_or_default}
use Rattle.slab.specs.Slab.{get}
use Rattle.pe_arena.specs.Slots.{Slots, live}
use Rattle.pe_arena.specs.Rows.{row_at, slot_of}
use Rattle.pe_arena.proofs.Seen.{view_of, live-within, cond-value, seen-written, seen-value}
use Rattle.pe_arena.proofs.arena.Arena.value_mut.Goals as goal

pub returns : goal.returns
returns g c =
    let is = c.self.invariant in
    let view = view_of c.self.inside.values c.self.inside.rows.items c.self.inside.limit c.self.inside.first c.self.inside.made in
    let here : IsSome (live view c.args.h) = subst (λ (v : Slots _). IsSome (live v c.args.h)) (sym c.self.view_is) c.requires in
    let n = length-map c.self.inside.rows.items (slot_of c.self.inside.values) in
    let lt : c.args.h.slot < length c.self.inside.rows.items = omega (arith, live-within view c.args.h here, n) in
    let at : (row_at c.self.inside.rows.items c.args.h.slot).key ≡ Some c.unwrap-key.result =
    ap (λ r. r.key) (get_or_default c.self.inside.rows.items c.args.h.slot _ _ lt ∙ sym c.index.ensures) ∙ c.unwrap-key.ensures in
    let value : get c.self.inside.values c.unwrap-key.result ≡ Some c.unwrap.result.now = sym c.get_mut.ensures.value ∙ ap option_copied_mut c.unwrap.ensures in (
      (
        refl,
        λ w. rw (← c.self.view_is) (ap (λ ss. record { slots = ss; limit = c.self.inside.limit; first = c.self.inside.first; made = c.self.inside.made })
            (seen-written _ _ _ _ _ _ is c.args.h.slot c.unwrap-key.result at lt w c.self.inside.first)),
      ),
      record {
        lends = tt;
        value = rw (← c.self.view_is) (cond-value _ _ here ∙ seen-value _ _ _ _ _ _ is c.args.h.slot c.unwrap-key.result at lt c.self.inside.first ∙ value);
      },
    )
