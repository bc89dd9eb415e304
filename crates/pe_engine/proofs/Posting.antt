-- Posts.
use Rattle.std.proofs.Common.{◌≡◌, ℕ, ◌+◌, Bool, true, false, not, ◌==◌, List, [], ◌∷◌, ◌++◌, length, Option, Some, None, Ok, Err, is_some, option_map, if◌then◌else◌, refl, sym, ◌∙◌, ap, subst}
use Rattle.std.specs.Prelude.{IsSome}
use Rattle.std.specs.Global.{Vec}
use Rattle.pe_base.specs.declared.denial.Denial.{Denial}
use Rattle.pe_base.specs.Activation.{is_transient}
use Rattle.pe_arena.specs.declared.handle.Handle.{Handle}
use Rattle.pe_features.specs.declared.capability.Capability.{Capability}
use Rattle.pe_features.specs.Capabilities.{capability_named, feature_of}
use Rattle.pe_frames.specs.declared.node.Node.{Node}
use Rattle.pe_frames.specs.Forest.{Entry, Forest, entry_of, node_in, node_of, top_of}
use Rattle.pe_frames.specs.Walk.{changed_page}
use Rattle.pe_activation.specs.Stamps.{consumed}
use Rattle.pe_delegation.specs.declared.message.Message.{Message}
use Rattle.pe_delegation.specs.Posted.{Posted}
use Rattle.pe_events.specs.Timed.{Timed}
use Rattle.pe_events.specs.declared.answer.Answer.TheVariants as answer
use Rattle.pe_events.specs.declared.answer.Change.{Change}
use Rattle.pe_events.specs.declared.cause.Cause.TheVariants as cause
use Rattle.pe_events.specs.declared.event.Event.TheVariants as event
use Rattle.pe_events.specs.declared.reason.Reason.{Reason}
use Rattle.pe_events.specs.declared.reason.Reason.TheVariants as reason
use Rattle.pe_rules.specs.History.{Replied, RepliedHistory, History}
use Rattle.pe_rules.specs.Numbering.{is_frame, makes_message}
use Rattle.pe_rules.specs.Embedders.{page, page_of_frame}
use Rattle.pe_rules.specs.Current.{document_in, is_live}
use Rattle.pe_rules.specs.Denials.{why_denied}
use Rattle.pe_rules.specs.Activation.{has_transient}
use Rattle.pe_rules.specs.Settings.{setting_named, setting_by}
use Rattle.pe_rules.specs.Causes.{cause_of, names_unknown, names_settled, names_closed, names_not_shown, is_no_origin, has_bad_url, has_bad_feature, has_bad_call, has_bad_capability, names_other_page, exceeds_pages, exceeds_depth, exceeds_frames, exceeds_statuses, exceeds_pending, exceeds_store}
use Rattle.pe_rules.specs.Replies.{answer_of, answer_of_post, post_reason, replied}
use Rattle.pe_laws.specs.HistoryLaws.{HistoryLaws}
use Rattle.pe_messages.specs.Parts.{IsPost}
use Rattle.pe_engine.specs.declared.engine.Made.TheVariants as made
use Rattle.pe_engine.specs.declared.refusal.Refusal.{Refusal}
use Rattle.pe_engine.specs.declared.refusal.Refusal.TheVariants as refusal
use Rattle.pe_engine.specs.declared.row.Row.{Row}
use Rattle.pe_engine.specs.Causes.{named_cause, other_cause}
use Rattle.pe_engine.specs.Laws.{EngineLaws}
use Rattle.pe_engine.specs.Objects.{handle_at}
use Rattle.pe_engine.specs.Giving.{GivesOriginOrNone}
use Rattle.pe_engine.specs.Posting.{HasPosted}
use Rattle.pe_engine.specs.Rows.{IsRow, IsShown}
use Rattle.pe_engine.specs.Replying.{timed, steps_of, IsChecked, HasPassed, IsReplied}
use Rattle.pe_engine.specs.StandsFor.{EngineValue, StandsFor}
use Rattle.pe_engine.specs.Tree.{IsTree}
use Rattle.pe_engine.proofs.Accepted.{step_of}
use Rattle.pe_engine.proofs.CommonCauses.{some-of}
use Rattle.pe_engine.proofs.Consumed.{kept-post-consumed, kept-post-silent}
use Rattle.pe_engine.proofs.Handles.{grows}
use Rattle.pe_engine.proofs.Look.{node-at, live-at, no-handle, page-at, page-of}
use Rattle.pe_engine.proofs.Messaging.{message-reply}

-- ---- the causes of its words, of its page and of the limit

module _ (T : RepliedHistory) (now sender target : ℕ) (named : Option (List ℕ)) (name : List ℕ) where
  pub url-post : is_no_origin named ≡ true → other_cause T now (event.Post sender target named name) ≡ Some cause.Url
  unfolding other_cause has_bad_url
  url-post bad = rw bad refl

  pub capability-post : is_no_origin named ≡ false → capability_named name ≡ None → other_cause T now (event.Post sender target named name) ≡ Some cause.Capability
  unfolding other_cause has_bad_url has_bad_feature has_bad_call has_bad_capability
  capability-post good none = rw (good, none) refl

  pub page-post : (c : Capability) (a b : ℕ) → is_no_origin named ≡ false → capability_named name ≡ Some c → page_of_frame T sender ≡ Some a → page_of_frame T target ≡ Some b → (a == b) ≡ false
      → other_cause T now (event.Post sender target named name) ≡ Some cause.OtherPage
  unfolding other_cause has_bad_url has_bad_feature has_bad_call has_bad_capability names_other_page
  page-post c a b good is from to apart = rw (good, is, from, to, apart) refl

  pub limit-post : (c : Capability) (a b : ℕ) → is_no_origin named ≡ false → capability_named name ≡ Some c → page_of_frame T sender ≡ Some a → page_of_frame T target ≡ Some b → (a == b) ≡ true
      → exceeds_pending T now (event.Post sender target named name) ≡ true → other_cause T now (event.Post sender target named name) ≡ Some cause.LimitPending
  unfolding other_cause has_bad_url has_bad_feature has_bad_call has_bad_capability names_other_page exceeds_pages exceeds_depth exceeds_frames exceeds_statuses
  limit-post c a b good is from to same full = rw (full, good, is, from, to, same) refl

  pub other-post : (c : Capability) (a b : ℕ) → is_no_origin named ≡ false → capability_named name ≡ Some c → page_of_frame T sender ≡ Some a → page_of_frame T target ≡ Some b → (a == b) ≡ true
      → exceeds_pending T now (event.Post sender target named name) ≡ false → other_cause T now (event.Post sender target named name) ≡ None
  unfolding other_cause has_bad_url has_bad_feature has_bad_call has_bad_capability names_other_page exceeds_pages exceeds_depth exceeds_frames exceeds_statuses exceeds_store setting_named setting_by
  other-post c a b good is from to same few = rw (few, good, is, from, to, same) refl

pub origin-checked : (A : Type 0) (engine : EngineValue) (H : History) (e : Timed) (word : Option (List ℕ)) (r : Refusal) → GivesOriginOrNone word (Err r)
    → (is_no_origin word ≡ true → cause_of (steps_of engine H) e.time e.event ≡ Some cause.Url) → IsChecked {A = A} engine H e (Err r)
origin-checked A engine H e word (refusal.For why) gives first = first gives.0 ∙ ap Some (sym gives.1)
origin-checked A engine H e word refusal.Memory gives first = tt

-- ---- the causes of the frames that it names

module _ (T : RepliedHistory) (sender target : ℕ) (named : Option (List ℕ)) (name : List ℕ) where
  pub sender-unknown : is_frame T sender ≡ false → named_cause T (event.Post sender target named name) ≡ Some cause.Unknown
  unfolding named_cause names_unknown
  sender-unknown none = rw none refl

  pub target-unknown : is_frame T sender ≡ true → is_frame T target ≡ false → named_cause T (event.Post sender target named name) ≡ Some cause.Unknown
  unfolding named_cause names_unknown
  target-unknown made none = rw (made, none) refl

  pub sender-closed : is_frame T sender ≡ true → is_frame T target ≡ true → is_live T sender ≡ false → named_cause T (event.Post sender target named name) ≡ Some cause.Closed
  unfolding named_cause names_unknown names_settled names_closed
  sender-closed made there gone = rw (made, there, gone) refl

  pub target-closed : is_frame T sender ≡ true → is_frame T target ≡ true → is_live T sender ≡ true → is_live T target ≡ false → named_cause T (event.Post sender target named name) ≡ Some cause.Closed
  unfolding named_cause names_unknown names_settled names_closed
  target-closed made there live gone = rw (made, there, live, gone) refl

  pub both-live : is_frame T sender ≡ true → is_frame T target ≡ true → is_live T sender ≡ true → is_live T target ≡ true → named_cause T (event.Post sender target named name) ≡ None
  unfolding named_cause names_unknown names_settled names_closed names_not_shown
  both-live made there live also = rw (made, there, live, also) refl

module _ (laws : HistoryLaws) (e : EngineValue) (H : History) (sender target : ℕ) (named : Option (List ℕ)) (name : List ℕ) (s : StandsFor e H) where
  is-made : (f : ℕ) (h : Handle) → handle_at e.made f ≡ Some h → is_frame (replied e.duration H) f ≡ true
  is-made f h at = s.steps.tree.frames f ∙ ap is_some at

  is-live-by : (f : ℕ) (h : Handle) (b : Bool) → handle_at e.made f ≡ Some h → is_some (entry_of e.frames.entries h) ≡ b → is_live (replied e.duration H) f ≡ b
  is-live-by f h b at there = sym (live-at laws (replied e.duration H) e.made e.frames f h s.steps.tree at) ∙ there

  pub from-unknown : handle_at e.made sender ≡ None → named_cause (replied e.duration H) (event.Post sender target named name) ≡ Some cause.Unknown
  from-unknown none = sender-unknown (replied e.duration H) sender target named name (no-handle laws (replied e.duration H) e.made e.frames sender s.steps.tree none)

  pub to-unknown : (h : Handle) → handle_at e.made sender ≡ Some h → handle_at e.made target ≡ None → named_cause (replied e.duration H) (event.Post sender target named name) ≡ Some cause.Unknown
  to-unknown h from none = target-unknown (replied e.duration H) sender target named name (is-made sender h from) (no-handle laws (replied e.duration H) e.made e.frames target s.steps.tree none)

  pub from-closed : (h k : Handle) → handle_at e.made sender ≡ Some h → handle_at e.made target ≡ Some k → is_some (entry_of e.frames.entries h) ≡ false
      → named_cause (replied e.duration H) (event.Post sender target named name) ≡ Some cause.Closed
  from-closed h k from to gone = sender-closed (replied e.duration H) sender target named name (is-made sender h from) (is-made target k to) (is-live-by sender h false from gone)

  pub to-closed : (h k : Handle) → handle_at e.made sender ≡ Some h → handle_at e.made target ≡ Some k → is_some (entry_of e.frames.entries h) ≡ true → is_some (entry_of e.frames.entries k) ≡ false
      → named_cause (replied e.duration H) (event.Post sender target named name) ≡ Some cause.Closed
  to-closed h k from to live gone = target-closed (replied e.duration H) sender target named name (is-made sender h from) (is-made target k to) (is-live-by sender h true from live) (is-live-by target k false to gone)

  pub both-there : (h k : Handle) → handle_at e.made sender ≡ Some h → handle_at e.made target ≡ Some k → is_some (entry_of e.frames.entries h) ≡ true → is_some (entry_of e.frames.entries k) ≡ true
      → named_cause (replied e.duration H) (event.Post sender target named name) ≡ None
  both-there h k from to live also = both-live (replied e.duration H) sender target named name (is-made sender h from) (is-made target k to) (is-live-by sender h true from live) (is-live-by target k true to also)

-- ---- the tests of a post

pub reason-policy : (duration : ℕ) (T : RepliedHistory) (now d : ℕ) (word name : List ℕ) (c : Capability) (why : Denial) → capability_named name ≡ Some c → Some why ≡ why_denied T (feature_of c) d
    → Some (reason.Policy why) ≡ post_reason duration T now d (Some word) name
unfolding post_reason
reason-policy duration T now d word name c why is denied = rw (is, sym denied) refl

pub reason-transient : (duration : ℕ) (T : RepliedHistory) (now d : ℕ) (word name : List ℕ) (c : Capability) (b : Bool) → capability_named name ≡ Some c → None ≡ why_denied T (feature_of c) d → has_transient duration T now d ≡ b
    → post_reason duration T now d (Some word) name ≡ (if not b then Some reason.NoTransient else None)
unfolding post_reason
reason-transient duration T now d word name c true is allowed active = rw (is, sym allowed, active) refl
reason-transient duration T now d word name c false is allowed active = rw (is, sym allowed, active) refl

pub reason-any : (duration : ℕ) (T : RepliedHistory) (now d : ℕ) (name : List ℕ) → post_reason duration T now d None name ≡ Some reason.TargetAny
unfolding post_reason
reason-any duration T now d name = refl

pub post-answer : (duration : ℕ) (T : RepliedHistory) (now sender target d : ℕ) (named : Option (List ℕ)) (name : List ℕ) (o : Option Reason) → document_in T sender ≡ Some d → post_reason duration T now d named name ≡ o
    → answer_of duration T now (event.Post sender target named name) ≡ answer_of_post (length T + 1) o
unfolding answer_of
post-answer duration T now sender target d named name o shown is = rw (shown, is) refl

-- the row that a frame shows is of the document in it
pub same-document : (T : RepliedHistory) (f d : ℕ) (x : Row) → IsShown T f x → document_in T f ≡ Some d → x.doc ≡ d
same-document T f d x is shown = let z : Some x.doc ≡ Some d = sym is.document ∙ shown in cc

-- the document of a live frame
pub sender-shown : (e : EngineValue) (H : History) (f : ℕ) (h : Handle) → StandsFor e H → handle_at e.made f ≡ Some h → IsSome (entry_of e.frames.entries h) → (d : ℕ) × (document_in (replied e.duration H) f ≡ Some d)
sender-shown e H f h s at live =
    let T = replied e.duration H in
    let (y, there) = some-of (entry_of e.frames.entries h) live in
    let (frame, node) = node-at T e.made e.frames f h y s.steps.tree at there in
    (y.doc.doc, ap (document_in T) (sym frame) ∙ node.document)

-- the transient activation of the document of a row
pub transient-at : (laws : HistoryLaws) (duration : ℕ) (T : RepliedHistory) (now f d : ℕ) (x : Row) → IsRow T f x → x.doc ≡ d → has_transient duration T now d ≡ is_transient duration now x.stamp
transient-at laws duration T now f d x is same =
    subst (λ k. has_transient duration T now k ≡ is_transient duration now x.stamp) same (laws.activation.transient_by_stamp duration T now x.doc ∙ ap (is_transient duration now) (sym is.stamp))

-- the words of a post that names an origin, and of one that names none
pub word-of : {A : Type 0} (named : Option (List ℕ)) (origin : Option A) (x : A) → origin ≡ Some x → is_some origin ≡ is_some named → (word : List ℕ) × (named ≡ Some word)
word-of None origin x is worded = let z : true ≡ false = ap is_some (sym is) ∙ worded in cc
word-of (Some word) origin x is worded = (word, refl)

pub no-word : {A : Type 0} (named : Option (List ℕ)) (origin : Option A) → origin ≡ None → is_some origin ≡ is_some named → named ≡ None
no-word None origin is worded = refl
no-word (Some word) origin is worded = let z : false ≡ true = ap is_some (sym is) ∙ worded in cc

-- ---- the replies

module _ (laws : EngineLaws) where
  pub denied-reply : (e p u : EngineValue) (H : History) (now sender target : ℕ) (named : Option (List ℕ)) (name : List ℕ) (why : Reason) (before after : Vec Change) → StandsFor e H → HasPassed e p H now before
      → p ≡ record e { store = p.store } → u ≡ record p { clock = now; made = p.made ++ made.Nothing ∷ [] }
      → cause_of (replied e.duration H) now (event.Post sender target named name) ≡ None → answer_of e.duration (replied e.duration H) now (event.Post sender target named name) ≡ answer.Denied why → after.items ≡ []
      → IsReplied e u H (timed now (event.Post sender target named name)) (Ok (record { before = before; answer = answer.Denied why; after = after }))
  denied-reply e p u H now sender target named name why before after stands passed p_is u_is none says empty =
      message-reply laws e p u H x made.Nothing e.frames e.messages (answer.Denied why) before after refl stands passed p_is
      (u_is ∙ ap (λ (v : EngineValue). record p { clock = now; made = p.made ++ made.Nothing ∷ []; frames = v.frames; messages = v.messages }) p_is) none (sym says)
      (kept-post-silent laws.history now sender target named name (Replied (answer_of e.duration T now x.event)) T e.made e.frames unmade stands.steps.tree)
      (laws.messages.quiet e.duration H x e.messages unmade refl stands.steps.messages)
      (laws.messages.addressed_quiet (step_of x (Replied (answer_of e.duration T now x.event))) T (handle_at e.made) (handle_at (e.made ++ made.Nothing ∷ [])) e.messages stands.steps.messages (grows e.made made.Nothing) stands.steps.addressed)
      empty
    where
      T : RepliedHistory
      T = replied e.duration H

      x : Timed
      x = timed now (event.Post sender target named name)

      unmade : makes_message (Replied (answer_of e.duration T now x.event)) ≡ false
      unmade = ap (λ a. makes_message (Replied a)) says

  pub posted-reply : (e p u : EngineValue) (H : History) (now sender target number : ℕ) (named : Option (List ℕ)) (name : List ℕ) (h : Handle) (y : Entry Row) (m : Message) (frames : Forest Row) (before after : Vec Change)
      → StandsFor e H → HasPassed e p H now before → p ≡ record e { store = p.store } → HasPosted (record p { frames = frames }) u now number m
      → cause_of (replied e.duration H) now (event.Post sender target named name) ≡ None → answer_of e.duration (replied e.duration H) now (event.Post sender target named name) ≡ answer.MessageMade number
      → IsPost (replied e.duration H) sender target named name m → handle_at e.made target ≡ Some m.target.at
      → handle_at e.made sender ≡ Some h → entry_of e.frames.entries h ≡ Some y
      → frames.entries ≡ changed_page (consumed (λ (r : Row). r.stamp) (λ t (r : Row). record r { stamp = t })) e.frames.entries (top_of y) → frames.marks ≡ e.frames.marks → after.items ≡ []
      → IsReplied e u H (timed now (event.Post sender target named name)) (Ok (record { before = before; answer = answer.MessageMade number; after = after }))
  posted-reply e p u H now sender target number named name h y m frames before after stands passed p_is has none says post at from here entries marks empty =
      message-reply laws e p u H x made.Message frames u.messages (answer.MessageMade number) before after refl stands passed p_is has.rest none (sym says)
      (subst (λ a. IsTree (step_of x (Replied a) ∷ T) (e.made ++ made.Message ∷ []) frames) (sym says) (kept-post-consumed laws.history now sender target number named name T e.made e.frames frames h y from here entries marks stands.steps.tree))
      (laws.messages.posted e.duration H x sender target named name number m e.messages u.messages stands.regular refl post says stands.steps.messages waiting (has.given ∙ ap (λ (q : Posted). q.given ++ number ∷ []) messages))
      (laws.messages.addressed_posted (step_of x (Replied (answer_of e.duration T now x.event))) T (handle_at e.made) (handle_at (e.made ++ made.Message ∷ [])) target number m e.messages u.messages stands.steps.messages
      (grows e.made made.Message) post.document at stands.steps.addressed waiting)
      empty
    where
      T : RepliedHistory
      T = replied e.duration H

      x : Timed
      x = timed now (event.Post sender target named name)

      messages : p.messages ≡ e.messages
      messages = ap (λ (v : EngineValue). v.messages) p_is

      waiting : u.messages.waiting ≡ e.messages.waiting ++ (number, m) ∷ []
      waiting = has.waiting ∙ ap (λ (q : Posted). q.waiting ++ (number, m) ∷ []) messages
