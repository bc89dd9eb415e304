-- What an engine stands for.
-- This project's own: the one relation between the engine and the list of accepted events.
-- The engine keeps no event; what it keeps is what the definitions say of them.
use Rattle.std.specs.Prelude.{◌≡◌, ℕ, Bool, false, List, IsTrue, Some}
use Rattle.pe_frames.specs.Forest.{Forest}
use Rattle.pe_store.specs.Entries.{StoreValue}
use Rattle.pe_prompts.specs.Queues.{Queues}
use Rattle.pe_status.specs.declared.registered.Registered.{Registered}
use Rattle.pe_status.specs.Registry.{Registry}
use Rattle.pe_delegation.specs.Posted.{Posted}
use Rattle.pe_rules.specs.History.{RepliedHistory, History, clock}
use Rattle.pe_rules.specs.Making.{frame_of}
use Rattle.pe_rules.specs.Replies.{replied, is_regular}
use Rattle.pe_laws.specs.StatusesLaws.{Each}
use Rattle.pe_changes.specs.Parts.{IsStore, IsStatuses}
use Rattle.pe_requests.specs.Parts.{IsPrompts}
use Rattle.pe_messages.specs.Parts.{IsMessages, AreAddressed}
use Rattle.pe_engine.specs.declared.row.Row.{Row}
use Rattle.pe_engine.specs.declared.engine.Made.{Made}
use Rattle.pe_engine.specs.Objects.{handle_at}
use Rattle.pe_engine.specs.Tree.{IsTree}

-- what an engine is: the duration of transient activation in milliseconds, the time of the last accepted event, whether memory wanted, what each event made, the tree of frames, the permission store, the permission statuses, the prompts, and the delegating messages
pub record EngineValue : Type 0 where
  pub duration : ℕ
  pub clock : ℕ
  pub failed : Bool
  pub made : List Made
  pub frames : Forest Row
  pub store : StoreValue
  pub statuses : Registry
  pub prompts : Queues
  pub messages : Posted

-- the status names the frame of its document by its handle
abbrev pub IsNamed : RepliedHistory → List Made → Registered → Type 0
IsNamed T ms r = handle_at ms (frame_of T r.doc.doc) ≡ Some r.doc.at

-- the engine stands for these steps, and its store at a moment: the clock, or a later time up to which its entries have lapsed while an event takes effect
pub record StandsForSteps (e : EngineValue) (T : RepliedHistory) (moment : ℕ) : Type 0 where
  pub working : e.failed ≡ false
  pub clock : e.clock ≡ clock T
  pub tree : IsTree T e.made e.frames
  pub store : IsStore T moment e.store
  pub statuses : IsStatuses T e.statuses
  pub named : Each (IsNamed T e.made) e.statuses.live
  pub prompts : IsPrompts T e.prompts
  pub messages : IsMessages T e.messages
  pub addressed : AreAddressed T (handle_at e.made) e.messages.waiting

-- the engine stands for the history, each event of which was accepted after those before it, and its store at a moment
pub record StandsForAt (e : EngineValue) (H : History) (moment : ℕ) : Type 0 where
  pub regular : IsTrue (is_regular e.duration H)
  pub steps : StandsForSteps e (replied e.duration H) moment

-- the engine stands for the history
abbrev pub StandsFor : EngineValue → History → Type 0
StandsFor e H = StandsForAt e H e.clock
