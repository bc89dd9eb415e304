use Rattle.std.proofs.Common.{◌≡◌, ℕ, length}
use Rattle.pe_allowlist.specs.DeclaredLists.{expressions_at}
use Rattle.pe_allowlist.proofs.lists.put_expressions.Given as goal

abbrev pub invariant-loop : goal.invariant-loop
invariant-loop l = record {
  kept : (k : ℕ) → expressions_at l.rows.items k ≡ expressions_at l.fn.rows.items k;
  counted : length l.rows.items ≡ l.counter;
}
