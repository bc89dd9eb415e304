use Rattle.pe_engine.proofs.laws.engine_laws.Goals as goal

pub returns : goal.returns
returns c = record { history = c.history_laws.ensures; stores = c.store_steps.ensures; statuses = c.status_steps.ensures; prompts = c.prompt_steps.ensures; messages = c.message_steps.ensures }
