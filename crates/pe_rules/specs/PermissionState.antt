-- The permission state of a feature for a document.
-- Permissions, "get the current permission state"; HTML Standard, "allowed to use", comes before what is stored.
-- That the default permission state of every feature is prompt is this project's own.
use Rattle.std.specs.Prelude.{ℕ, not, ◌||◌, is_some, unwrap_or, option_and_then, if◌then◌else◌}
use Rattle.pe_base.specs.declared.state.State.{State}
use Rattle.pe_base.specs.declared.state.State.TheVariants as state
use Rattle.pe_features.specs.declared.feature.Feature.{Feature}
use Rattle.pe_rules.specs.History.{RepliedHistory}
use Rattle.pe_rules.specs.Origins.{is_secure}
use Rattle.pe_rules.specs.Denials.{why_denied}
use Rattle.pe_rules.specs.Settings.{pair_for, stored_state}

-- denied outside a secure context, denied where the policy denies it, else what is stored, else prompt
unfoldable pub permission_state : RepliedHistory → ℕ → ℕ → Feature → State
permission_state T now d feature =
    if not (is_secure T d) || is_some (why_denied T feature d) then state.Denied
    else unwrap_or (option_and_then (stored_state T now) (pair_for T d feature)) state.Prompt
