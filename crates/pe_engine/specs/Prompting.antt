-- What a request asks for, and what an answer to a prompt does.
-- Permissions, "request permission to use"; the embargo is this project's own.
use Rattle.std.specs.Prelude.{◌≡◌, ℕ, false, List, [], ◌∷◌, ◌++◌, ◌≢◌, Option, Some, None, IfSome, option_map}
use Rattle.pe_base.specs.declared.state.State.{State}
use Rattle.pe_base.specs.declared.state.State.TheVariants as state
use Rattle.pe_arena.specs.declared.handle.DocRef.{DocRef}
use Rattle.pe_features.specs.declared.feature.Feature.{Feature}
use Rattle.pe_store.specs.declared.key.Key.{Key}
use Rattle.pe_store.specs.declared.key.Life.{Life}
use Rattle.pe_store.specs.declared.key.Life.TheVariants as life
use Rattle.pe_store.specs.Entries.{StoreValue, IsFull, completes_embargo}
use Rattle.pe_store.specs.Pairs.{Pair}
use Rattle.pe_prompts.specs.declared.queue.Prompt.{Prompt}
use Rattle.pe_prompts.specs.Queues.{pending_of, asked_of, HasAsked}
use Rattle.pe_events.specs.declared.answer.Answer.{Answer}
use Rattle.pe_events.specs.declared.answer.Answer.TheVariants as answer
use Rattle.pe_events.specs.declared.event.Event.TheVariants as event
use Rattle.pe_events.specs.declared.event.EventLife.{EventLife}
use Rattle.pe_events.specs.declared.event.Outcome.{Outcome}
use Rattle.pe_rules.specs.History.{RepliedHistory}
use Rattle.pe_rules.specs.PermissionState.{permission_state}
use Rattle.pe_rules.specs.Settings.{Setting, prompt_pair, setting_by}
use Rattle.pe_requests.specs.PromptSteps.{IsAsking, answer_of_asked}
use Rattle.pe_engine.specs.declared.engine.Made.{Made}
use Rattle.pe_engine.specs.declared.engine.Made.TheVariants as made
use Rattle.pe_engine.specs.StandsFor.{EngineValue}

-- ---- requests

-- what a request makes that joins this prompt, or none
abbrev pub made_by_request : Option ℕ → Made
made_by_request None = made.Prompt
made_by_request (Some joined) = made.Nothing

-- the prompt that one request makes
abbrev pub asked_by : ℕ → Pair → DocRef → Prompt
asked_by page pair asker = record { page = page; feature = pair.0; key = pair.1; waiting = asker ∷ [] }

-- a request of a page for the pair was put to the prompt that it joins, or to the one of this number that it makes, and that is what it is answered; it is noted what it made at this time
pub record HasPrompted (old new : EngineValue) (now number page : ℕ) (pair : Pair) (asker : DocRef) (said : Answer) : Type 0 where
  pub rest : new ≡ record old { clock = now; made = old.made ++ made_by_request (pending_of old.prompts page pair) ∷ []; prompts = new.prompts }
  pub asked : HasAsked old.prompts new.prompts (asked_by page pair asker) asker (asked_of number (pending_of old.prompts page pair))
  pub says : said ≡ answer_of_asked (asked_of number (pending_of old.prompts page pair))

-- a request was answered that found this state: it is told, or the request was put to a prompt
abbrev pub HasAnswered : State → EngineValue → EngineValue → ℕ → ℕ → ℕ → Pair → DocRef → Answer → Type 0
HasAnswered state.Prompt old new now number page pair asker said = HasPrompted old new now number page pair asker said
HasAnswered found old new now number page pair asker said = (said ≡ answer.Stated found) × (new ≡ record old { clock = now; made = old.made ++ made.Nothing ∷ [] })

-- ---- answers

-- the setting of a pair to a state for a life
abbrev pub setting_for : Pair → State × Life → Setting
setting_for pair x = record { pair = pair; state = x.0; life = x.1 }

-- an answer at this time sets this for the pair of its prompt, or nothing; what it sets holds at the time at least
pub record IsDecided (T : RepliedHistory) (now k : ℕ) (out : Outcome) (given : EventLife) (pair : Pair) (set : Option (State × Life)) : Type 0 where
  pub pair_is : prompt_pair T k ≡ Some pair
  pub setting : setting_by now (event.Answered k out given) T ≡ option_map (setting_for pair) set
  pub lasts : IfSome set (λ x. x.1 ≢ life.Until 0)

-- the store has its place for what an answer decided for the pair: room for the setting, and a dismissal is no embargo
abbrev pub FitsStore : StoreValue → Pair → Option (State × Life) → Type 0
FitsStore store pair (Some x) = IsFull store.entries pair → ⊥
FitsStore store pair None = completes_embargo store pair ≡ false
