-- The words to open so that declared policies compute on literals.
use Rattle.std.specs.Prelude.{⊤}
use Rattle.pe_fields.proofs.OnLiterals.{dictionary_on_literals}
use Rattle.pe_allowlist.proofs.OnLiterals.{allowlists_on_literals}
use Rattle.pe_header.specs.DeclaredPolicy.{with_bare, list_of_value, declared_policy}

-- what an answer unfolds to compute these definitions on a literal
unfoldable pub declared_on_literals : ⊤
unfolding dictionary_on_literals allowlists_on_literals with_bare list_of_value declared_policy
declared_on_literals = tt
