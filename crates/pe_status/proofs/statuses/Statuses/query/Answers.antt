use Rattle.std.proofs.Common.{◌≡◌, ◌∙◌, sym, ap, subst, ℕ, List, ◌≤◌, arith, ◌++◌, ◌∷◌, []}
use Rattle.pe_status.specs.declared.giving.Given.{Given}
use Rattle.pe_status.specs.Registry.{Registry, AreBelow}
use Rattle.pe_status.specs.Kept.{IsIndex, live_rows}
use Rattle.pe_status.specs.Places.{value_at}
use Rattle.pe_base.specs.declared.limits.TheConstants.{EVENT_LIMIT}
use Rattle.pe_status.proofs.Seen.{unowned, alike-index, entered-index, entered-live}
use Rattle.pe_status.proofs.LookUps.{entered-found, entered-count, entered-next}
use Rattle.pe_status.proofs.statuses.Statuses.query.Goals as goal

items-are : (c : goal.After-push_reserved) → c.push_reserved.new.self.items ≡ c.self.inside.given.items ++ record { no = c.args.no; pair = c.in-Ok.pair } ∷ []
items-are c =
    c.push_reserved.ensures.items ∙ ap (λ (gs : List Given). gs ++ record { no = c.get-2.result; pair = c.in-Ok.pair } ∷ []) c.reserve.ensures.items
    ∙ ap (λ (m : ℕ). c.self.inside.given.items ++ record { no = m; pair = c.in-Ok.pair } ∷ []) c.get-2.ensures.value

pub enter-requires-clause-unowned : goal.enter-requires-clause-unowned
enter-requires-clause-unowned c = unowned c.self.inside.given.items c.self.inside.index c.self.invariant c.args.doc.doc c.args.no (subst (λ (s : Registry). AreBelow c.args.no s.given) (sym c.self.view_is) c.requires)

pub invariant_of-self-in_default : goal.invariant_of-self-in_default
invariant_of-self-in_default c =
    subst (λ (gs : List Given). IsIndex gs c.enter.new.index) (sym c.reserve.ensures.items) (alike-index c.self.inside.given.items c.self.inside.index c.enter.new.index c.self.invariant c.in_default.ensures.err)

pub invariant_of-self-2 : goal.invariant_of-self-2
invariant_of-self-2 c =
    entered-index c.same_pairs_are_one.ensures c.self.inside.given.items c.self.inside.index c.enter.new.index c.self.invariant
    (record { no = c.args.no; page = c.args.page; doc = c.args.doc; feature = c.args.feature; key = c.args.key }) c.in-Ok.pair
    (subst (λ (s : Registry). AreBelow c.args.no s.given) (sym c.self.view_is) c.requires) (subst (λ (m : ℕ). m ≤ EVENT_LIMIT) c.get-2.ensures.value c.get-2.ensures.high)
    (let few = c.self.invariant.few c.args.page in let is = c.get.ensures in let other = c.if-get-eq-STATUS_LIMIT.false in omega (arith, few, is, other)) c.in-Ok.ensures.group c.in-Ok.ensures.with c.push_reserved.new.self.items (items-are c)

pub returns-clause-live : goal.returns-clause-live
returns-clause-live c =
    entered-live c.same_pairs_are_one.ensures c.self.inside.given.items c.self.inside.index c.enter.new.index c.self.invariant
    (record { no = c.args.no; page = c.args.page; doc = c.args.doc; feature = c.args.feature; key = c.args.key }) c.in-Ok.pair
    (subst (λ (s : Registry). AreBelow c.args.no s.given) (sym c.self.view_is) c.requires) (subst (λ (m : ℕ). m ≤ EVENT_LIMIT) c.get-2.ensures.value c.get-2.ensures.high)
    (let few = c.self.invariant.few c.args.page in let is = c.get.ensures in let other = c.if-get-eq-STATUS_LIMIT.false in omega (arith, few, is, other)) c.in-Ok.ensures.group c.in-Ok.ensures.with c.args.self.now c.self.view_is c.push_reserved.new.self.items (items-are c)

pub returns-clause-found : goal.returns-clause-found
returns-clause-found c =
    entered-found c.self.inside.given.items c.self.inside.index c.self.invariant c.args.self.now c.self.view_is
    (record { no = c.args.no; page = c.args.page; doc = c.args.doc; feature = c.args.feature; key = c.args.key })
    (live_rows (value_at c.enter.new.index.rows) c.push_reserved.new.self.items) c.requires (returns-clause-live c)

pub returns-clause-count : goal.returns-clause-count
returns-clause-count c =
    entered-count (record { no = c.args.no; page = c.args.page; doc = c.args.doc; feature = c.args.feature; key = c.args.key }) c.args.self.now.live
    (live_rows (value_at c.enter.new.index.rows) c.push_reserved.new.self.items) (returns-clause-live c)

pub returns-clause-next : goal.returns-clause-next
returns-clause-next c =
    entered-next c.self.inside.given.items c.self.inside.index c.self.invariant c.args.self.now c.self.view_is c.args.no c.in-Ok.pair c.push_reserved.new.self.items c.requires (items-are c)
