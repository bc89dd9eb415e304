-- What an answer to `policy` says of the chain of documents.
use Rattle.std.proofs.Common.{◌≡◌, ◌⊎◌, ℕ, Bool, true, false, not, List, [], ◌∷◌, Option, Some, None, Result, Ok, Err, IfOk, is_some, is_none, inl, inr, refl, sym, ◌∙◌, ap, subst, cond, true≢false}
use Rattle.std.specs.Prelude.{option_map, option_and_then}
use Rattle.std.specs.Option.{option_or}
use Rattle.pe_base.specs.declared.denial.Denial.{Denial}
use Rattle.pe_features.specs.declared.feature.Feature.{Feature}
use Rattle.pe_features.specs.Features.{feature_named, default_of}
use Rattle.pe_origin.specs.declared.origin.Origin.{Origin}
use Rattle.pe_allowlist.specs.Lists.{is_policy_controlled}
use Rattle.pe_policy.specs.Links.{ChainDocument, pair_test, end_of_chain}
use Rattle.pe_policy.specs.Denials.{first_failing, denial}
use Rattle.pe_policy.specs.InheritedPolicy.{value_by_declared, inherited_value, inherited_below, value_for}
use Rattle.pe_events.specs.declared.answer.Answer.TheVariants as answer
use Rattle.pe_events.specs.declared.cause.Cause.{Cause}
use Rattle.pe_events.specs.declared.event.Event.{Event}
use Rattle.pe_events.specs.declared.event.Event.TheVariants as event
use Rattle.pe_events.specs.declared.reason.Reason.TheVariants as reason
use Rattle.pe_rules.specs.History.{RepliedHistory, History}
use Rattle.pe_rules.specs.Current.{document_in}
use Rattle.pe_rules.specs.Denials.{chain_documents, why_denied}
use Rattle.pe_rules.specs.InheritedPolicy.{inherited, is_enabled_for, is_enabled}
use Rattle.pe_rules.specs.Causes.{cause_of, lacks_default}
use Rattle.pe_rules.specs.Replies.{answer_of, answer_of_denial, answer_or_done}
use Rattle.pe_laws.specs.HistoryLaws.{HistoryLaws}
use Rattle.pe_engine.specs.declared.replies.Replies.{Replies}
use Rattle.pe_engine.specs.Causes.{time_cause, named_cause, other_cause}
use Rattle.pe_engine.specs.StandsFor.{EngineValue}
use Rattle.pe_engine.specs.Replying.{timed, steps_of}
use Rattle.pe_engine.specs.Stepping.{IsReplyBy, IsReply}
use Rattle.pe_engine.specs.Promises.{NoTestFails, IsFirstFailing, IsAllowedBelow, IsDeniedBelow, IsAllowedIn, IsDeniedIn}
use Rattle.pe_engine.proofs.CausesParts.{parts}
use Rattle.pe_engine.proofs.VerbAnswers.{feature-policy}

-- ---- the tests of a chain

none-both : {A : Type 0} (a b : Option A) → option_or a b ≡ None → (a ≡ None) × (b ≡ None)
none-both None b h = (refl, h)
none-both (Some x) b h = cc

some-either : {A : Type 0} (a b : Option A) (x : A) → option_or a b ≡ Some x → (a ≡ Some x) ⊎ ((a ≡ None) × (b ≡ Some x))
some-either None b x h = inr (refl, h)
some-either (Some y) b x h = inl h

none-fails : (f : Feature) (links : List ChainDocument) → first_failing f links ≡ None → NoTestFails f links
unfolding first_failing
none-fails f [] h = tt
none-fails f (last ∷ []) h = h
none-fails f (embedder ∷ child ∷ rest) h =
    let both = none-both (pair_test f embedder child) (first_failing f (child ∷ rest)) h in
    (both.0, none-fails f (child ∷ rest) both.1)

fails-first : (f : Feature) (links : List ChainDocument) (x : Denial) → first_failing f links ≡ Some x → IsFirstFailing f x links
unfolding first_failing
fails-first f [] x h = cc
fails-first f (last ∷ []) x h = h
fails-first f (embedder ∷ child ∷ rest) x h =
    elim (some-either (pair_test f embedder child) (first_failing f (child ∷ rest)) x h) [ inl here ↦ inl here | inr later ↦ inr (later.0, fails-first f (child ∷ rest) x later.1) ]

-- a value for an origin is Enabled only where the inherited one is
value-inherits : (f : Feature) (links : List ChainDocument) (o : Origin) → value_for f links o ≡ true → inherited_value f links ≡ true
unfolding value_for inherited_value
value-inherits f [] o h = refl
value-inherits f (top ∷ rest) o h = by_test (inherited_below f true top rest) (value_by_declared ((end_of_chain top rest).declared f) o) h
  where
    by_test : (b x : Bool) → cond (not b) false x ≡ true → b ≡ true
    by_test true x h = refl
    by_test false x h = absurd (true≢false (sym h))

enabled-inherits : (T : RepliedHistory) (f : Feature) (d : ℕ) → is_enabled T f d ≡ true → inherited T f d ≡ true
unfolding is_enabled is_enabled_for inherited
enabled-inherits T f d h = value-inherits f (chain_documents T d) _ h

-- ---- a document

not-none : {A : Type 0} (o : Option A) → is_none o ≡ false → is_some o ≡ true
not-none None h = absurd (true≢false h)
not-none (Some x) h = refl

not-enabled : (b : Bool) → (b ≡ true → ⊥) → b ≡ false
not-enabled true h = absurd (h refl)
not-enabled false h = refl

first-of : (T : RepliedHistory) (f : Feature) (d : ℕ) (o : Option Denial) → is_policy_controlled f ≡ true → why_denied T f d ≡ o → first_failing f (chain_documents T d) ≡ o
unfolding why_denied denial
first-of T f d o controlled h = rw controlled at h

uncontrolled : (T : RepliedHistory) (f : Feature) (d : ℕ) (x : Denial) → why_denied T f d ≡ Some x → is_policy_controlled f ≡ true
unfolding why_denied denial
uncontrolled T f d x h = by_test (is_policy_controlled f) h
  where
    by_test : (b : Bool) → cond b (first_failing f (chain_documents T d)) None ≡ Some x → b ≡ true
    by_test true h = refl
    by_test false h = cc

module _ (laws : HistoryLaws) where
  allowed-below : (T : RepliedHistory) (f : Feature) (d : ℕ) → is_policy_controlled f ≡ true → why_denied T f d ≡ None → IsAllowedBelow T d f
  allowed-below T f d controlled none = record {
    passes = none-fails f (chain_documents T d) (first-of T f d None controlled none);
    inherits = enabled-inherits T f d ((laws.denials.denied_is_not_enabled T f d controlled).0 none);
  }

  denied-below : (T : RepliedHistory) (f : Feature) (d : ℕ) (x : Denial) → why_denied T f d ≡ Some x → IsDeniedBelow T d f x
  denied-below T f d x some =
      let controlled = uncontrolled T f d x some in
      record {
        fails = fails-first f (chain_documents T d) x (first-of T f d (Some x) controlled some);
        disabled = not-enabled (is_enabled T f d) (λ enabled. let none = (laws.denials.denied_is_not_enabled T f d controlled).1 enabled in cc);
      }

  -- ---- the answer

  -- an accepted question is of a policy-controlled feature
  controlled-by : (T : RepliedHistory) (now frame : ℕ) (name : List ℕ) (f : Feature) → cause_of T now (event.PolicyOf frame name) ≡ None → feature_named name ≡ Some f → is_policy_controlled f ≡ true
  controlled-by T now frame name f accepted named = by_test (lacks_default name) refl (ap (λ o. is_none (option_and_then default_of o)) named)
    where
      other : other_cause T now (event.PolicyOf frame name) ≡ None
      other = (none-both (named_cause T (event.PolicyOf frame name)) _ (none-both (time_cause T now) _ (sym (parts T now (event.PolicyOf frame name)) ∙ accepted)).1).1

      by_test : (b : Bool) → lacks_default name ≡ b → lacks_default name ≡ is_none (default_of f) → is_policy_controlled f ≡ true
      by_test true is same = let some = feature-policy T now frame name is in let none = other in cc
      by_test false is same = not-none (default_of f) (sym same ∙ is)

  allowed-in : (T : RepliedHistory) (frame : ℕ) (name : List ℕ) (o : Option ℕ) (p : Option Feature) → document_in T frame ≡ o → feature_named name ≡ p → ((f : Feature) → p ≡ Some f → is_policy_controlled f ≡ true)
      → answer_or_done (option_and_then (λ d. option_map (λ f. answer_of_denial (why_denied T f d)) p) o) ≡ answer.Allowed → IsAllowedIn T frame name
  allowed-in T frame name None p shown named controlled is = cc
  allowed-in T frame name (Some d) None shown named controlled is = cc
  allowed-in T frame name (Some d) (Some f) shown named controlled is = (d, f, record { shown = shown; named = named }, allowed-below T f d (controlled f refl) (by_denial (why_denied T f d) is))
    where
      by_denial : (o : Option Denial) → answer_of_denial o ≡ answer.Allowed → o ≡ None
      by_denial None h = refl
      by_denial (Some x) h = cc

  denied-in : (T : RepliedHistory) (frame : ℕ) (name : List ℕ) (x : Denial) (o : Option ℕ) (p : Option Feature) → document_in T frame ≡ o → feature_named name ≡ p
      → answer_or_done (option_and_then (λ d. option_map (λ f. answer_of_denial (why_denied T f d)) p) o) ≡ answer.Denied (reason.Policy x) → IsDeniedIn T frame name x
  denied-in T frame name x None p shown named is = cc
  denied-in T frame name x (Some d) None shown named is = cc
  denied-in T frame name x (Some d) (Some f) shown named is = (d, f, record { shown = shown; named = named }, denied-below T f d x (by_denial (why_denied T f d) is))
    where
      by_denial : (o : Option Denial) → answer_of_denial o ≡ answer.Denied (reason.Policy x) → o ≡ Some x
      by_denial None h = cc
      by_denial (Some y) h = let same : y ≡ x = cc in ap Some same

  answer-allowed : (duration : ℕ) (T : RepliedHistory) (now frame : ℕ) (name : List ℕ) → cause_of T now (event.PolicyOf frame name) ≡ None → answer_of duration T now (event.PolicyOf frame name) ≡ answer.Allowed → IsAllowedIn T frame name
  unfolding answer_of
  answer-allowed duration T now frame name accepted is = allowed-in T frame name (document_in T frame) (feature_named name) refl refl (λ f named. controlled-by T now frame name f accepted named) is

  answer-denied : (duration : ℕ) (T : RepliedHistory) (now frame : ℕ) (name : List ℕ) (x : Denial) → answer_of duration T now (event.PolicyOf frame name) ≡ answer.Denied (reason.Policy x) → IsDeniedIn T frame name x
  unfolding answer_of
  answer-denied duration T now frame name x is = denied-in T frame name x (document_in T frame) (feature_named name) refl refl is

  allowed-by-cause : (old new : EngineValue) (H : History) (now frame : ℕ) (name : List ℕ) (reply : Replies) (c : Option Cause) → cause_of (steps_of old H) now (event.PolicyOf frame name) ≡ c
      → IsReplyBy old new H (record { time = now; event = event.PolicyOf frame name }) reply c → reply.answer ≡ answer.Allowed → IsAllowedIn (steps_of old H) frame name
  allowed-by-cause old new H now frame name reply None first is allowed = answer-allowed old.duration (steps_of old H) now frame name first (sym is.says ∙ allowed)
  allowed-by-cause old new H now frame name reply (Some why) first is allowed = let no = sym is.says ∙ allowed in cc

  pub reply-allowed : (old new : EngineValue) (H : History) (now frame : ℕ) (name : List ℕ) (reply : Replies) → IsReply old new H (record { time = now; event = event.PolicyOf frame name }) reply → reply.answer ≡ answer.Allowed
      → IsAllowedIn (steps_of old H) frame name
  reply-allowed old new H now frame name reply is allowed = allowed-by-cause old new H now frame name reply _ refl is allowed

  denied-by-cause : (old new : EngineValue) (H : History) (now frame : ℕ) (name : List ℕ) (reply : Replies) (x : Denial) (c : Option Cause) → cause_of (steps_of old H) now (event.PolicyOf frame name) ≡ c
      → IsReplyBy old new H (record { time = now; event = event.PolicyOf frame name }) reply c → reply.answer ≡ answer.Denied (reason.Policy x) → IsDeniedIn (steps_of old H) frame name x
  denied-by-cause old new H now frame name reply x None first is denied = answer-denied old.duration (steps_of old H) now frame name x (sym is.says ∙ denied)
  denied-by-cause old new H now frame name reply x (Some why) first is denied = let no = sym is.says ∙ denied in cc

  pub reply-denied : (old new : EngineValue) (H : History) (now frame : ℕ) (name : List ℕ) (reply : Replies) (x : Denial) → IsReply old new H (record { time = now; event = event.PolicyOf frame name }) reply
      → reply.answer ≡ answer.Denied (reason.Policy x) → IsDeniedIn (steps_of old H) frame name x
  reply-denied old new H now frame name reply x is denied = denied-by-cause old new H now frame name reply x _ refl is denied

  -- ---- the clauses of a step

  pub clause-allowed : {E : Type 0} (r : Result Replies E) (old new : EngineValue) (H : History) (now : ℕ) (e : Event) (frame : ℕ) (name : List ℕ) → e ≡ event.PolicyOf frame name
      → IfOk r (IsReply old new H (timed now e)) → IfOk r (λ reply. reply.answer ≡ answer.Allowed → IsAllowedIn (steps_of old H) frame name)
  clause-allowed (Ok reply) old new H now e frame name is replied_is = λ allowed.
      reply-allowed old new H now frame name reply (subst (λ v. IsReply old new H (timed now v) reply) is replied_is) allowed
  clause-allowed (Err x) old new H now e frame name is replied_is = tt

  pub clause-denied : {E : Type 0} (r : Result Replies E) (old new : EngineValue) (H : History) (now : ℕ) (e : Event) (frame : ℕ) (name : List ℕ) (why : Denial) → e ≡ event.PolicyOf frame name
      → IfOk r (IsReply old new H (timed now e)) → IfOk r (λ reply. reply.answer ≡ answer.Denied (reason.Policy why) → IsDeniedIn (steps_of old H) frame name why)
  clause-denied (Ok reply) old new H now e frame name why is replied_is = λ denied.
      reply-denied old new H now frame name reply why (subst (λ v. IsReply old new H (timed now v) reply) is replied_is) denied
  clause-denied (Err x) old new H now e frame name why is replied_is = tt
