use Rattle.pe_laws.proofs.all.history_laws.Goals as goal

pub returns : goal.returns
returns c = record {
  steps = c.step_laws.ensures;
  numbering = c.numbering_laws.ensures;
  attributes = c.attributes_laws.ensures;
  making = c.making_laws.ensures;
  embedders = c.embedders_laws.ensures;
  current = c.current_laws.ensures;
  tree = c.tree_laws.ensures;
  origins = c.origins_laws.ensures;
  denials = c.denials_laws.ensures;
  activation = c.activation_laws.ensures;
  history_activation = c.history_activation_laws.ensures;
  settings = c.settings_laws.ensures;
  entries = c.entries_laws.ensures;
  states = c.permission_state_laws.ensures;
  changes = c.changes_laws.ensures;
  prompts = c.prompts_laws.ensures;
  causes = c.causes_laws.ensures;
  statuses = c.statuses_laws.ensures;
  delegation = c.delegation_laws.ensures;
  effects = c.effects_laws.ensures;
}
