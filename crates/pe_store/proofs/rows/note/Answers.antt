use Rattle.std.proofs.Common.{refl, subst, Some}
use Rattle.pe_store.specs.declared.key.Key.{Key}
use Rattle.pe_store.specs.Entries.{pair_of}
use Rattle.pe_store.specs.Numbers.{IsChangedFor}
use Rattle.pe_store.proofs.Results.{on-err}
use Rattle.pe_store.proofs.RowChanges.{changed-to-none, changed-back}
use Rattle.pe_store.proofs.rows.note.Goals as goal

pub returns-in_err-key-clause-serials_kept : goal.returns-in_err-key-clause-serials_kept
returns-in_err-key-clause-serials_kept c =
    on-err c.from_residual.result (λ none. changed-to-none c.same_pairs_are_one.ensures (pair_of c.args.entry.now) c.args.serials.now c.args.serials.now refl none)

pub returns-in_err-put-clause-serials_kept : goal.returns-in_err-put-clause-serials_kept
returns-in_err-put-clause-serials_kept c =
    on-err c.from_residual-in_err-put.result (λ none. changed-to-none c.same_pairs_are_one.ensures (pair_of c.args.entry.now) c.args.serials.now c.put.new.self c.in_err-put.ensures.err none)

pub returns-then-is_err-clause-serials_kept : goal.returns-then-is_err-clause-serials_kept
returns-then-is_err-clause-serials_kept c none =
    changed-back (pair_of c.args.entry.now) (Some c.args.place.serial) c.args.serials.now c.put.new.self c.remove.new.self
    (subst (λ (k : Key). IsChangedFor (c.args.entry.now.feature, k) (Some c.args.place.serial) c.args.serials.now c.put.new.self) c.in_ok-key.ensures c.in_ok-put.ensures.ok) c.remove.ensures
