-- The words to open so that denials and inherited values compute on literals.
use Rattle.std.specs.Prelude.{⊤}
use Rattle.pe_allowlist.proofs.OnLiterals.{allowlists_on_literals}
use Rattle.pe_policy.specs.Links.{pair_test, own_test}
use Rattle.pe_policy.specs.Denials.{first_failing, denial}
use Rattle.pe_policy.specs.InheritedPolicy.{child_value, inherited_below, inherited_value, value_for}

-- what an answer unfolds to compute these definitions on a literal
unfoldable pub denials_on_literals : ⊤
unfolding allowlists_on_literals pair_test own_test first_failing denial child_value inherited_below inherited_value value_for
denials_on_literals = tt
