-- A new engine stands for no events.
use Rattle.std.proofs.Common.{◌≡◌, ℕ, zero, suc, false, [], Option, Some, None, refl}
use Rattle.pe_arena.specs.declared.handle.Handle.{Handle}
use Rattle.pe_store.specs.Entries.{StoreValue, dismissals_of}
use Rattle.pe_store.specs.Pairs.{Pair}
use Rattle.pe_rules.specs.History.{clock, newest_answer, all_answers, answers_newest_first}
use Rattle.pe_rules.specs.Numbering.{is_frame, frames_made}
use Rattle.pe_rules.specs.Replies.{replied, is_regular}
use Rattle.pe_engine.specs.Laws.{EngineLaws}
use Rattle.pe_engine.specs.Objects.{handle_at}
use Rattle.pe_engine.specs.StandsFor.{EngineValue, StandsFor}

-- an engine with no events, and with this store
abbrev pub no_events : ℕ → StoreValue → EngineValue
no_events duration store = record {
  duration = duration;
  clock = 0;
  failed = false;
  made = [];
  frames = record { entries = []; marks = []; made = 0 };
  store = store;
  statuses = record { live = []; given = [] };
  prompts = record { given = []; pages = [] };
  messages = record { waiting = []; given = [] };
}

none-at : (f : ℕ) → handle_at [] f ≡ None
none-at zero = refl
none-at (suc n) = refl

pub starts : EngineLaws → (duration : ℕ) (store : StoreValue) → store.entries ≡ [] → ((pair : Pair) → dismissals_of store pair ≡ 0) → StandsFor (no_events duration store) []
unfolding is_regular replied clock newest_answer all_answers answers_newest_first is_frame frames_made
starts laws duration store entries dismissals = record {
  regular = refl;
  steps = record {
    working = refl;
    clock = refl;
    tree = record {
      count = refl;
      frames = λ f. rw (none-at f) refl;
      live = refl;
      nodes = tt;
      given = λ f h e. let z : ◌≡◌ {A = Option Handle} None (Some h) = none f h e in cc;
      apart = λ f g h a b. let z : ◌≡◌ {A = Option Handle} None (Some h) = none f h a in cc;
    };
    store = laws.stores.start store entries dismissals;
    statuses = laws.statuses.start;
    named = tt;
    prompts = laws.prompts.start;
    messages = laws.messages.start;
    addressed = tt;
  };
}
  where
    none : (f : ℕ) (h : Handle) → handle_at [] f ≡ Some h → ◌≡◌ {A = Option Handle} None (Some h)
    none zero h e = e
    none (suc n) h e = e
