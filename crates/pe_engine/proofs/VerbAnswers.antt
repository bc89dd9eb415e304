-- What each verb is answered, by what the engine keeps of the document.
use Rattle.std.proofs.Common.{◌≡◌, ℕ, Bool, true, false, not, ◌||◌, nat_le, List, length, map, Option, Some, None, Err, is_some, is_none, option_map, refl, sym, ◌∙◌, ap, subst, cond}
use Rattle.pe_base.specs.declared.limits.TheConstants.{PAGE_LIMIT, DEPTH_LIMIT, FRAME_LIMIT}
use Rattle.pe_base.specs.declared.denial.Denial.{Denial}
use Rattle.pe_base.specs.declared.input.InputKind.{InputKind}
use Rattle.pe_base.specs.Activation.{triggers, is_sticky, is_transient, is_history_active}
use Rattle.pe_features.specs.declared.feature.Feature.{Feature}
use Rattle.pe_features.specs.Features.{feature_named, all_features, default_of}
use Rattle.pe_arena.specs.declared.handle.Handle.{Handle}
use Rattle.pe_frames.specs.declared.node.Node.{Node}
use Rattle.pe_frames.specs.Forest.{Entry, page_count, page_size, depth_of, top_of, entry_of, node_in}
use Rattle.pe_origin.specs.declared.place.Place.{Place}
use Rattle.pe_origin.specs.Places.{place_at}
use Rattle.pe_events.specs.declared.answer.Answer.TheVariants as answer
use Rattle.pe_events.specs.declared.cause.Cause.{Cause}
use Rattle.pe_events.specs.declared.cause.Cause.TheVariants as cause
use Rattle.pe_events.specs.declared.event.AttrName.{AttrName}
use Rattle.pe_events.specs.declared.event.AttrName.TheVariants as attr
use Rattle.pe_events.specs.declared.event.Event.TheVariants as event
use Rattle.pe_events.specs.Timed.{Timed}
use Rattle.pe_events.specs.declared.reason.Reason.TheVariants as reason
use Rattle.pe_rules.specs.History.{Replied, RepliedHistory, History}
use Rattle.pe_rules.specs.Embedders.{depth}
use Rattle.pe_rules.specs.Current.{document_in}
use Rattle.pe_rules.specs.Origins.{place_or_none}
use Rattle.pe_rules.specs.Denials.{why_denied, is_allowed}
use Rattle.pe_rules.specs.Activation.{activated_count}
use Rattle.pe_rules.specs.Settings.{setting_named, setting_by}
use Rattle.pe_rules.specs.Causes.{cause_of, lacks_default, is_no_url, has_bad_url, has_bad_feature, has_bad_call, has_bad_capability, names_other_page, count_in_page, live_frames, live_pages, exceeds_pages, exceeds_depth, exceeds_frames, exceeds_statuses, exceeds_pending, exceeds_store}
use Rattle.pe_rules.specs.Replies.{answer_of, answer_of_denial, answer_of_history_action, step_answer, replied}
use Rattle.pe_laws.specs.HistoryLaws.{HistoryLaws}
use Rattle.pe_engine.specs.declared.row.Row.{Row}
use Rattle.pe_engine.specs.declared.refusal.Refusal.{Refusal}
use Rattle.pe_engine.specs.declared.refusal.Refusal.TheVariants as refusal
use Rattle.pe_engine.specs.Causes.{other_cause}
use Rattle.pe_engine.specs.Embedding.{limit_cause}
use Rattle.pe_engine.specs.Objects.{handle_at}
use Rattle.pe_engine.specs.Giving.{GivesPlace, GivesPlaceOrNone, GivesAttribute, is_bad_value}
use Rattle.pe_engine.specs.Replying.{steps_of, IsAnswer, IsChecked}
use Rattle.pe_engine.specs.Rows.{IsShown}
use Rattle.pe_engine.specs.StandsFor.{EngineValue, StandsFor}
use Rattle.pe_engine.proofs.Accepted.{IsSilent}
use Rattle.pe_engine.proofs.Look.{pages-at, node-at, depth-at, size-at}

-- ---- the other causes

pub other-close : (T : RepliedHistory) (now f : ℕ) → other_cause T now (event.Close f) ≡ None
unfolding other_cause has_bad_url has_bad_feature has_bad_call has_bad_capability names_other_page exceeds_pages exceeds_depth exceeds_frames exceeds_statuses exceeds_pending exceeds_store setting_named setting_by
other-close T now f = refl

pub other-tick : (T : RepliedHistory) (now : ℕ) → other_cause T now event.Tick ≡ None
unfolding other_cause has_bad_url has_bad_feature has_bad_call has_bad_capability names_other_page exceeds_pages exceeds_depth exceeds_frames exceeds_statuses exceeds_pending exceeds_store setting_named setting_by
other-tick T now = refl

pub other-state : (T : RepliedHistory) (now f : ℕ) → other_cause T now (event.Ask f) ≡ None
unfolding other_cause has_bad_url has_bad_feature has_bad_call has_bad_capability names_other_page exceeds_pages exceeds_depth exceeds_frames exceeds_statuses exceeds_pending exceeds_store setting_named setting_by
other-state T now f = refl

pub other-history : (T : RepliedHistory) (now f : ℕ) → other_cause T now (event.History f) ≡ None
unfolding other_cause has_bad_url has_bad_feature has_bad_call has_bad_capability names_other_page exceeds_pages exceeds_depth exceeds_frames exceeds_statuses exceeds_pending exceeds_store setting_named setting_by
other-history T now f = refl

pub other-input : (T : RepliedHistory) (now f : ℕ) (kind : InputKind) → other_cause T now (event.Input f kind) ≡ None
unfolding other_cause has_bad_url has_bad_feature has_bad_call has_bad_capability names_other_page exceeds_pages exceeds_depth exceeds_frames exceeds_statuses exceeds_pending exceeds_store setting_named setting_by
other-input T now f kind = refl

pub other-features : (T : RepliedHistory) (now f : ℕ) → other_cause T now (event.Features f) ≡ None
unfolding other_cause has_bad_url has_bad_feature has_bad_call has_bad_capability names_other_page exceeds_pages exceeds_depth exceeds_frames exceeds_statuses exceeds_pending exceeds_store setting_named setting_by
other-features T now f = refl

pub other-policy : (T : RepliedHistory) (now f : ℕ) (name : List ℕ) → lacks_default name ≡ false → other_cause T now (event.PolicyOf f name) ≡ None
unfolding other_cause has_bad_url has_bad_feature has_bad_call has_bad_capability names_other_page exceeds_pages exceeds_depth exceeds_frames exceeds_statuses exceeds_pending exceeds_store setting_named setting_by
other-policy T now f name some = rw some refl

pub feature-policy : (T : RepliedHistory) (now f : ℕ) (name : List ℕ) → lacks_default name ≡ true → other_cause T now (event.PolicyOf f name) ≡ Some cause.Feature
unfolding other_cause has_bad_url has_bad_feature
feature-policy T now f name none = rw none refl

pub other-attr : (T : RepliedHistory) (now f : ℕ) (name : AttrName) (value : Option (List ℕ)) → has_bad_url (event.Attr f name value) ≡ false → other_cause T now (event.Attr f name value) ≡ None
unfolding other_cause has_bad_feature has_bad_call has_bad_capability names_other_page exceeds_pages exceeds_depth exceeds_frames exceeds_statuses exceeds_pending exceeds_store setting_named setting_by
other-attr T now f name value good = rw good refl

pub url-attr : (T : RepliedHistory) (now f : ℕ) (name : AttrName) (value : Option (List ℕ)) → has_bad_url (event.Attr f name value) ≡ true → other_cause T now (event.Attr f name value) ≡ Some cause.Url
unfolding other_cause
url-attr T now f name value bad = rw bad refl

pub bad-value : (f : ℕ) (name : AttrName) (value : Option (List ℕ)) → is_bad_value name value ≡ has_bad_url (event.Attr f name value)
unfolding has_bad_url
bad-value f attr.Src value = refl
bad-value f attr.Srcdoc value = refl
bad-value f attr.Allow value = refl
bad-value f attr.Sandbox value = refl
bad-value f attr.Fullscreen value = refl

pub url-open : (T : RepliedHistory) (now : ℕ) (url : List ℕ) (header : Option (List ℕ)) → place_at url ≡ None → other_cause T now (event.OpenPage url header) ≡ Some cause.Url
unfolding other_cause has_bad_url
url-open T now url header none = rw none refl

pub pages-open : (T : RepliedHistory) (now : ℕ) (url : List ℕ) (header : Option (List ℕ)) (place : Place) → place_at url ≡ Some place → nat_le PAGE_LIMIT (length (live_pages T)) ≡ true
    → other_cause T now (event.OpenPage url header) ≡ Some cause.LimitPages
unfolding other_cause has_bad_url has_bad_feature has_bad_call has_bad_capability names_other_page exceeds_pages
pages-open T now url header place is full = rw (is, full) refl

pub other-open : (T : RepliedHistory) (now : ℕ) (url : List ℕ) (header : Option (List ℕ)) (place : Place) → place_at url ≡ Some place → nat_le PAGE_LIMIT (length (live_pages T)) ≡ false
    → other_cause T now (event.OpenPage url header) ≡ None
unfolding other_cause has_bad_url has_bad_feature has_bad_call has_bad_capability names_other_page exceeds_pages exceeds_depth exceeds_frames exceeds_statuses exceeds_pending exceeds_store setting_named setting_by
other-open T now url header place is few = rw (is, few) refl

-- ---- answers

pub policy-answer : (duration : ℕ) (T : RepliedHistory) (now f d : ℕ) (name : List ℕ) (feature : Feature) → document_in T f ≡ Some d → feature_named name ≡ Some feature
    → answer_of duration T now (event.PolicyOf f name) ≡ answer_of_denial (why_denied T feature d)
unfolding answer_of
policy-answer duration T now f d name feature shown named = rw (shown, named) refl

pub features-answer : (duration : ℕ) (T : RepliedHistory) (now f d : ℕ) → document_in T f ≡ Some d → answer_of duration T now (event.Features f) ≡ answer.Names (map (is_allowed T d) all_features)
unfolding answer_of
features-answer duration T now f d shown = rw shown refl

pub done-close : (duration : ℕ) (T : RepliedHistory) (now f : ℕ) → answer_of duration T now (event.Close f) ≡ answer.Done
unfolding answer_of
done-close duration T now f = refl

pub done-attr : (duration : ℕ) (T : RepliedHistory) (now f : ℕ) (name : AttrName) (value : Option (List ℕ)) → answer_of duration T now (event.Attr f name value) ≡ answer.Done
unfolding answer_of
done-attr duration T now f name value = refl

pub done-tick : (duration : ℕ) (T : RepliedHistory) (now : ℕ) → answer_of duration T now event.Tick ≡ answer.Done
unfolding answer_of
done-tick duration T now = refl

-- an input of a kind that does not trigger, and of one that does
pub ignored-input : (duration : ℕ) (T : RepliedHistory) (now f : ℕ) (kind : InputKind) → triggers kind ≡ false → answer_of duration T now (event.Input f kind) ≡ answer.Ignored
unfolding answer_of
ignored-input duration T now f kind h = ap (λ b. cond b (answer.Activated (activated_count (event.Input f kind) T)) answer.Ignored) h

pub activated-input : (duration : ℕ) (T : RepliedHistory) (now f : ℕ) (kind : InputKind) → triggers kind ≡ true → answer_of duration T now (event.Input f kind) ≡ answer.Activated (activated_count (event.Input f kind) T)
unfolding answer_of
activated-input duration T now f kind h = ap (λ b. cond b (answer.Activated (activated_count (event.Input f kind) T)) answer.Ignored) h

module _ (laws : HistoryLaws) where
  pub state-answer : (duration : ℕ) (T : RepliedHistory) (now f : ℕ) (x : Row) → IsShown T f x → answer_of duration T now (event.Ask f) ≡ answer.Activity (is_sticky x.stamp) (is_transient duration now x.stamp)
  unfolding answer_of
  state-answer duration T now f x shown = rw (shown.document, laws.activation.sticky_by_stamp T x.doc, laws.activation.transient_by_stamp duration T now x.doc, sym shown.row.stamp) refl

  pub history-answer : (duration : ℕ) (T : RepliedHistory) (now f : ℕ) (x : Row) → IsShown T f x → answer_of duration T now (event.History f) ≡ answer_of_history_action (is_history_active x.stamp x.second)
  unfolding answer_of
  history-answer duration T now f x shown = rw (shown.document, laws.history_activation.active_by_stamps T x.doc, sym shown.row.stamp, sym shown.row.second) refl

  -- the pages of the tree are the live ones
  pub pages-kept : (e : EngineValue) (H : History) → StandsFor e H → page_count e.frames.entries ≡ length (live_pages (replied e.duration H))
  pages-kept e H s = pages-at (replied e.duration H) e.made e.frames (laws.tree.tree e.duration H s.regular) s.steps.tree

-- ---- refused words

pub place-refused : (old : EngineValue) (H : History) (e : Timed) (url : List ℕ) (r : Refusal) → GivesPlace url (Err r)
    → (place_at url ≡ None → cause_of (steps_of old H) e.time e.event ≡ Some cause.Url) → IsAnswer old old H e (Err r)
place-refused old H e url (refusal.For why) gives first = record { first = first gives.0 ∙ ap Some (sym gives.1); kept = refl }
place-refused old H e url refusal.Memory gives first = tt

pub attribute-refused : (old : EngineValue) (H : History) (e : Timed) (name : AttrName) (value : Option (List ℕ)) (r : Refusal) → GivesAttribute name value (Err r)
    → (is_bad_value name value ≡ true → cause_of (steps_of old H) e.time e.event ≡ Some cause.Url) → IsAnswer old old H e (Err r)
attribute-refused old H e name value (refusal.For why) gives first = record { first = first gives.0 ∙ ap Some (sym gives.1); kept = refl }
attribute-refused old H e name value refusal.Memory gives first = tt

-- ---- a history action that is denied

pub silent-history : (duration : ℕ) (T : RepliedHistory) (now f : ℕ) → answer_of duration T now (event.History f) ≡ answer.Denied reason.NoHistory → IsSilent (event.History f) (step_answer duration T now (event.History f))
silent-history duration T now f is =
    subst (λ a. IsSilent (event.History f) (Replied a)) (sym is) (record { frames = refl; documents = refl; ends = refl; activates = refl; consumes = refl; acts = refl; delivers = refl; spends = refl; gives = refl })

-- ---- words

-- the place of a URL that is given
pub place-given : (o : Option (List ℕ)) (url : List ℕ) (place : Place) → o ≡ Some url → place_at url ≡ Some place → (is_no_url o ≡ false) × (Some place ≡ option_map place_or_none o)
unfolding place_or_none
place-given o url place is at = (rw (is, at) refl, rw (is, at) refl)

-- a feature that is not policy-controlled
pub not-allowed : (T : RepliedHistory) (d : ℕ) (f : Feature) → is_some (default_of f) ≡ false → false ≡ is_allowed T d f
unfolding is_allowed
not-allowed T d f none = rw none refl

-- one that is, by whether something denies it
pub allowed-by : (T : RepliedHistory) (d : ℕ) (f : Feature) (o : Option Denial) (r : Bool) → is_some (default_of f) ≡ true → o ≡ why_denied T f d → is_some o ≡ not r → r ≡ is_allowed T d f
unfolding is_allowed
allowed-by T d f o r some is tested = rw (some, sym is) (by_test o r tested)
  where
    by_test : (o : Option Denial) (r : Bool) → is_some o ≡ not r → r ≡ is_none o
    by_test None true h = refl
    by_test None false h = cc
    by_test (Some x) true h = cc
    by_test (Some x) false h = refl

-- ---- an embedding

pub url-embed : (T : RepliedHistory) (now parent : ℕ) (src place allow sandbox : Option (List ℕ)) (fullscreen srcdoc : Bool) (header : Option (List ℕ)) → (is_no_url src || is_no_url place) ≡ true
    → other_cause T now (event.Embed parent src place allow sandbox fullscreen srcdoc header) ≡ Some cause.Url
unfolding other_cause has_bad_url
url-embed T now parent src place allow sandbox fullscreen srcdoc header bad = rw bad refl

pub limit-embed : (T : RepliedHistory) (now parent : ℕ) (src place allow sandbox : Option (List ℕ)) (fullscreen srcdoc : Bool) (header : Option (List ℕ)) → is_no_url src ≡ false → is_no_url place ≡ false
    → other_cause T now (event.Embed parent src place allow sandbox fullscreen srcdoc header) ≡ limit_cause (depth T parent) (count_in_page T parent (live_frames T))
unfolding other_cause has_bad_url has_bad_feature has_bad_call has_bad_capability names_other_page exceeds_pages exceeds_depth exceeds_frames exceeds_statuses exceeds_pending exceeds_store setting_named setting_by
limit-embed T now parent src place allow sandbox fullscreen srcdoc header good fine = rw (good, fine) refl

pub place-checked : (A : Type 0) (engine : EngineValue) (H : History) (e : Timed) (url : Option (List ℕ)) (r : Refusal) → GivesPlaceOrNone url (Err r)
    → (is_no_url url ≡ true → cause_of (steps_of engine H) e.time e.event ≡ Some cause.Url) → IsChecked {A = A} engine H e (Err r)
place-checked A engine H e url (refusal.For why) gives first = first gives.0 ∙ ap Some (sym gives.1)
place-checked A engine H e url refusal.Memory gives first = tt

pub second-bad : (a b : Bool) → b ≡ true → (a || b) ≡ true
second-bad true b h = refl
second-bad false b h = h

pub limit-depth : (d n : ℕ) → nat_le DEPTH_LIMIT d ≡ true → Some cause.LimitDepth ≡ limit_cause d n
limit-depth d n h = rw h refl

pub limit-frames : (d n : ℕ) → nat_le DEPTH_LIMIT d ≡ false → nat_le FRAME_LIMIT n ≡ true → Some cause.LimitFrames ≡ limit_cause d n
limit-frames d n h k = rw (h, k) refl

pub limit-none : (d n : ℕ) → nat_le DEPTH_LIMIT d ≡ false → nat_le FRAME_LIMIT n ≡ false → ◌≡◌ {A = Option Cause} None (limit_cause d n)
limit-none d n h k = rw (h, k) refl

-- the depth and the size of its page that the tree tells of a live frame
pub limits-at : (e : EngineValue) (H : History) (f : ℕ) (h : Handle) (x : Entry Row) → StandsFor e H → handle_at e.made f ≡ Some h → entry_of e.frames.entries h ≡ Some x
    → (depth_of x ≡ depth (replied e.duration H) f) × (page_size e.frames.entries (top_of x) ≡ count_in_page (replied e.duration H) f (live_frames (replied e.duration H)))
limits-at e H f h x s at found =
    let T = replied e.duration H in
    let (frame, node) = node-at T e.made e.frames f h x s.steps.tree at found in
    (depth-at T e.made x node ∙ ap (depth T) frame, size-at T e.made e.frames x s.steps.tree node ∙ ap (λ g. count_in_page T g (live_frames T)) frame)

pub node-depth : (o : Option (Entry Row)) (n : Node Row) (x : Entry Row) → option_map node_in o ≡ Some n → o ≡ Some x → depth_of x ≡ n.depth
node-depth None n x z is = cc
node-depth (Some y) n x z is = let i : node_in y ≡ n = cc in let j : y ≡ x = cc in ap depth_of (sym j) ∙ ap (λ (m : Node Row). m.depth) i

pub size-found : (es : List (Entry Row)) (h : Handle) (x : Entry Row) (n : ℕ) → entry_of es h ≡ Some x → option_map (λ y. page_size es (top_of y)) (entry_of es h) ≡ Some n → page_size es (top_of x) ≡ n
size-found es h x n found is = let z : Some (page_size es (top_of x)) ≡ Some n = sym (ap (option_map (λ y. page_size es (top_of y))) found) ∙ is in cc

-- what a check refuses, the event is refused for
pub checked-refused : (A : Type 0) (engine : EngineValue) (H : History) (e : Timed) (r : Refusal) → IsChecked {A = A} engine H e (Err r) → IsAnswer engine engine H e (Err r)
checked-refused A engine H e (refusal.For why) first = record { first = first; kept = refl }
checked-refused A engine H e refusal.Memory first = tt

-- the document of an entry that is found
pub doc-of : (o : Option (Entry Row)) (r : Row) (y : Entry Row) → option_map (λ x. x.doc) o ≡ Some r → o ≡ Some y → y.doc ≡ r
doc-of None r y is found = cc
doc-of (Some x) r y is found = let i : x ≡ y = cc in let j : x.doc ≡ r = cc in ap (λ (z : Entry Row). z.doc) (sym i) ∙ j
