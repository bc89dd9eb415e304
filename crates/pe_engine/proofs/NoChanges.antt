-- Replies to plain events, and to events that are refused.
use Rattle.std.proofs.Common.{◌≡◌, ℕ, ◌≤◌, [], ◌∷◌, Ok, sym, ◌∙◌, ap, subst, arith}
use Rattle.std.specs.Global.{Vec}
use Rattle.std.proofs.lemmas.Bool.Decides.{nat_tests}
use Rattle.pe_events.specs.declared.answer.Answer.{Answer}
use Rattle.pe_events.specs.declared.answer.Change.{Change}
use Rattle.pe_events.specs.Timed.{Timed}
use Rattle.pe_rules.specs.History.{StepAnswer, Step, RepliedHistory, History, clock}
use Rattle.pe_rules.specs.Changes.{changes_after}
use Rattle.pe_rules.specs.Replies.{replied, step_answer}
use Rattle.pe_changes.specs.Parts.{IsStore, IsStatuses, AreGoverned}
use Rattle.pe_requests.specs.Parts.{IsPrompts}
use Rattle.pe_messages.specs.Parts.{IsMessages, AreAddressed}
use Rattle.pe_engine.specs.Objects.{handle_at}
use Rattle.pe_engine.specs.declared.replies.Replies.{Replies}
use Rattle.pe_engine.specs.declared.row.Row.{Row}
use Rattle.pe_engine.specs.Laws.{EngineLaws}
use Rattle.pe_engine.specs.Replying.{IsAcceptance, IsReplied}
use Rattle.pe_engine.specs.Rows.{blocks}
use Rattle.pe_laws.specs.StatusesLaws.{Each}
use Rattle.pe_engine.specs.Tree.{IsTree}
use Rattle.pe_engine.specs.StandsFor.{EngineValue, IsNamed, StandsForSteps, StandsForAt, StandsFor}
use Rattle.pe_engine.specs.Stepping.{IsReplyBy, IsReply}
use Rattle.pe_engine.proofs.Accepted.{step_of, IsPlain, plain-is, documents-within}
use Rattle.pe_engine.proofs.Governing.{all-governed, governed-before}
use Rattle.pe_engine.proofs.Passed.{BringsChanges, LeavesStore}

pub reply-accepted : (old new : EngineValue) (H : History) (e : Timed) (reply : Replies) → IsReplied old new H e (Ok reply) → IsReply old new H e reply
reply-accepted old new H e reply is = subst (IsReplyBy old new H e reply) (sym is.0) is.1

-- at the clock the store stands for the steps that were accepted before already
pub still : (e w : EngineValue) (H : History) (x : Timed) (said : Answer) (now : ℕ) → StandsFor e H → IsAcceptance e w H x said → now ≡ e.clock → IsStore (replied e.duration H) now w.store
still e w H x said now s is at = subst (λ t. IsStore (replied e.duration H) t w.store) (sym at) (subst (IsStore (replied e.duration H) e.clock) (sym is.store) s.steps.store)

module _ (laws : EngineLaws) where
  -- a plain event that was answered, once the time has passed
  pub accepted-late : (e w u : EngineValue) (H : History) (x : Timed) (said : Answer) (before after : Vec Change) → StandsFor e H → IsAcceptance e w H x said
      → u ≡ record w { store = u.store } → BringsChanges w x.time before → LeavesStore w x.time u.store → after.items ≡ []
      → IsReplied e u H x (Ok (record { before = before; answer = said; after = after }))
  accepted-late e w u H x said before after s is rest brings leaves empty = (
    is.faultless,
    record {
      says = is.says;
      before = brings T in-time store statuses (governed-before laws.history step T w.frames.entries w.statuses.live (documents-within laws T w.statuses statuses) governed);
      after = empty ∙ sym (ap (λ U. changes_after T U x.time) told ∙ laws.history.changes.none_after step T x.time (quiet.sets item) (quiet.dismisses item) (quiet.ends item));
      duration = ap (λ (v : EngineValue). v.duration) rest ∙ is.duration;
      stands = subst (λ (v : EngineValue). StandsForAt v (x ∷ H) v.clock) (sym rest) (record {
        regular = is.stands.regular;
        steps = subst (λ U. StandsForSteps (record w { store = u.store }) U w.clock) (sym told-now) (record {
          working = is.stands.steps.working;
          clock = is.stands.steps.clock ∙ ap clock told-now;
          tree = subst (λ U. IsTree U w.made w.frames) told-now is.stands.steps.tree;
          store = subst (λ t. IsStore (step ∷ T) t u.store) (sym clocked) (laws.stores.quiet step T x.time u.store (quiet.sets item) (quiet.dismisses item) (quiet.ends item) (leaves T in-time store));
          statuses = subst (λ U. IsStatuses U w.statuses) told-now is.stands.steps.statuses;
          named = subst (λ U. Each (IsNamed U w.made) w.statuses.live) told-now is.stands.steps.named;
          prompts = subst (λ U. IsPrompts U w.prompts) told-now is.stands.steps.prompts;
          messages = subst (λ U. IsMessages U w.messages) told-now is.stands.steps.messages;
          addressed = subst (λ U. AreAddressed U (handle_at w.made) w.messages.waiting) told-now is.stands.steps.addressed;
        });
      });
    },
  )
    where
      T : RepliedHistory
      T = replied e.duration H

      item : StepAnswer
      item = step_answer e.duration T x.time x.event

      step : Step
      step = step_of x item

      quiet : IsPlain x.event
      quiet = plain-is x.event is.plain

      told : replied e.duration (x ∷ H) ≡ step ∷ T
      told = laws.history.steps.told_step e.duration x H

      told-now : replied w.duration (x ∷ H) ≡ step ∷ T
      told-now = ap (λ d. replied d (x ∷ H)) is.duration ∙ told

      clocked : w.clock ≡ x.time
      clocked = is.stands.steps.clock ∙ ap clock told-now ∙ laws.history.steps.clock_step step T

      in-time : clock T ≤ x.time
      in-time = let back = (laws.history.causes.accepted T x.time x.event is.faultless).in_time in grind (arith, nat_tests)

      store : IsStore T (clock T) w.store
      store = subst (IsStore T (clock T)) (sym is.store) (subst (λ t. IsStore T t e.store) s.steps.clock s.steps.store)

      statuses : IsStatuses T w.statuses
      statuses = subst (IsStatuses T) (sym is.statuses) s.steps.statuses

      governed : AreGoverned (step ∷ T) (λ (y : Row). y.doc) blocks w.frames.entries w.statuses.live
      governed = subst (λ U. AreGoverned U (λ (y : Row). y.doc) blocks w.frames.entries w.statuses.live) told-now
          (all-governed laws.history w.duration (x ∷ H) w.made w.frames w.statuses is.stands.regular is.stands.steps.tree is.stands.steps.statuses is.stands.steps.named)
