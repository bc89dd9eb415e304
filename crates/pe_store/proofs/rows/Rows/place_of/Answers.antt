use Rattle.std.proofs.Common.{◌≡◌, sym, subst, None}
use Rattle.std.specs.Map.{values_of}
use Rattle.pe_store.specs.Entries.{entry_of}
use Rattle.pe_store.specs.Numbers.{number_of}
use Rattle.pe_store.specs.Places.{PlacedEntries}
use Rattle.pe_store.proofs.Results.{if-none}
use Rattle.pe_store.proofs.RowChanges.{found-none, has-row}
use Rattle.pe_store.proofs.rows.Rows.place_of.Goals as goal

pub returns-in_err-serial-clause-none : goal.returns-in_err-serial-clause-none
returns-in_err-serial-clause-none c =
    let none : number_of c.self.inside.serials (c.args.feature, c.args.key.now) ≡ None = sym c.in_err-serial.ensures in
    if-none c.from_residual.result
    (subst (λ (rows : PlacedEntries). entry_of (values_of rows) (c.args.feature, c.args.key.now) ≡ None) c.self.view_is
    (found-none c.same_pairs_are_one.ensures c.self.inside.map.entries c.self.inside.serials c.self.inside.endings.moments.keys c.self.inside.endings.pages.keys c.self.inside.next c.self.invariant
    (c.args.feature, c.args.key.now) none))

pub returns-clause-some : goal.returns-clause-some
returns-clause-some c =
    has-row c.same_pairs_are_one.ensures c.self.inside.map.entries c.args.self.now c.self.inside.serials c.self.inside.endings.moments.keys c.self.inside.endings.pages.keys c.self.inside.next c.self.invariant
    c.self.view_is (c.args.feature, c.args.key.now) c.in_ok-serial.serial c.index.result (sym c.in_ok-serial.ensures) c.index.ensures.number
