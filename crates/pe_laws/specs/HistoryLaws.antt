-- All laws of the definitions over the history, in one record.
use Rattle.pe_laws.specs.ActivationLaws.{ActivationLaws}
use Rattle.pe_laws.specs.AttributesLaws.{AttributesLaws}
use Rattle.pe_laws.specs.CausesLaws.{CausesLaws}
use Rattle.pe_laws.specs.ChangesLaws.{ChangesLaws}
use Rattle.pe_laws.specs.CurrentLaws.{CurrentLaws}
use Rattle.pe_laws.specs.DelegationLaws.{DelegationLaws}
use Rattle.pe_laws.specs.DenialsLaws.{DenialsLaws}
use Rattle.pe_laws.specs.EffectsLaws.{EffectsLaws}
use Rattle.pe_laws.specs.EmbeddersLaws.{EmbeddersLaws}
use Rattle.pe_laws.specs.EntriesLaws.{EntriesLaws}
use Rattle.pe_laws.specs.HistoryActivationLaws.{HistoryActivationLaws}
use Rattle.pe_laws.specs.MakingLaws.{MakingLaws}
use Rattle.pe_laws.specs.NumberingLaws.{NumberingLaws}
use Rattle.pe_laws.specs.OriginsLaws.{OriginsLaws}
use Rattle.pe_laws.specs.PermissionStateLaws.{PermissionStateLaws}
use Rattle.pe_laws.specs.PromptsLaws.{PromptsLaws}
use Rattle.pe_laws.specs.SettingsLaws.{SettingsLaws}
use Rattle.pe_laws.specs.StatusesLaws.{StatusesLaws}
use Rattle.pe_laws.specs.StepLaws.{StepLaws}
use Rattle.pe_laws.specs.TreeLaws.{TreeLaws}

-- what holds of every history
pub record HistoryLaws : Type 0 where
  pub steps : StepLaws
  pub numbering : NumberingLaws
  pub attributes : AttributesLaws
  pub making : MakingLaws
  pub embedders : EmbeddersLaws
  pub current : CurrentLaws
  pub tree : TreeLaws
  pub origins : OriginsLaws
  pub denials : DenialsLaws
  pub activation : ActivationLaws
  pub history_activation : HistoryActivationLaws
  pub settings : SettingsLaws
  pub entries : EntriesLaws
  pub states : PermissionStateLaws
  pub changes : ChangesLaws
  pub prompts : PromptsLaws
  pub causes : CausesLaws
  pub statuses : StatusesLaws
  pub delegation : DelegationLaws
  pub effects : EffectsLaws
