-- Permission statuses that are made and dropped.
use Rattle.std.proofs.Common.{◌≡◌, ℕ, suc, ◌+◌, ◌<◌, ◌≤◌, Bool, true, false, not, nat_le, ◌==◌, List, [], ◌∷◌, ◌++◌, length, Option, Some, None, Ok, Bor, IsTrue, IsSome, is_some, is_none, unwrap_or, option_map, if◌then◌else◌, refl, sym, ◌∙◌, ap, subst, arith, length-append}
use Rattle.std.specs.Prelude.{IfSome, IsSomeAnd}
use Rattle.std.specs.Option.{option_copied}
use Rattle.std.specs.Global.{Vec}
use Rattle.std.specs.List.{list_any}
use Rattle.std.proofs.lemmas.Bool.Decides.{Decides-eqb}
use Rattle.pe_base.specs.declared.limits.TheConstants.{STATUS_LIMIT}
use Rattle.pe_base.specs.declared.state.State.{State}
use Rattle.pe_arena.specs.declared.handle.Handle.{Handle}
use Rattle.pe_features.specs.declared.feature.Feature.{Feature}
use Rattle.pe_features.specs.Features.{feature_named}
use Rattle.pe_frames.specs.declared.node.Node.{Node}
use Rattle.pe_frames.specs.Forest.{Entry, Forest, entry_of, node_in, node_of, top_of}
use Rattle.pe_status.specs.declared.registered.Registered.{Registered}
use Rattle.pe_status.specs.declared.registered.ReleaseFault.{ReleaseFault}
use Rattle.pe_status.specs.declared.registered.ReleaseFault.TheVariants as fault
use Rattle.pe_status.specs.Registry.{Registry, status_of, was_given, count_of_page, release_fault, without}
use Rattle.pe_events.specs.declared.answer.Answer.TheVariants as answer
use Rattle.pe_events.specs.declared.answer.Change.{Change}
use Rattle.pe_events.specs.declared.cause.Cause.TheVariants as cause
use Rattle.pe_events.specs.declared.event.Event.TheVariants as event
use Rattle.pe_events.specs.Timed.{Timed}
use Rattle.pe_rules.specs.History.{Step, RepliedHistory, History}
use Rattle.pe_rules.specs.Numbering.{is_status}
use Rattle.pe_rules.specs.Making.{frame_of}
use Rattle.pe_rules.specs.Embedders.{page, page_of_frame}
use Rattle.pe_rules.specs.Current.{document_in, is_live}
use Rattle.pe_rules.specs.PermissionState.{permission_state}
use Rattle.pe_rules.specs.Settings.{setting_named, setting_by}
use Rattle.pe_rules.specs.Statuses.{status_by, live_statuses}
use Rattle.pe_rules.specs.Causes.{cause_of, lacks_key, names_unknown, names_settled, names_closed, names_not_shown, has_bad_url, has_bad_feature, has_bad_call, has_bad_capability, names_other_page, count_in_page, page_statuses, exceeds_pages, exceeds_depth, exceeds_frames, exceeds_statuses, exceeds_pending, exceeds_store}
use Rattle.pe_rules.specs.Replies.{answer_of, replied, step_answer, is_regular}
use Rattle.pe_laws.specs.HistoryLaws.{HistoryLaws}
use Rattle.pe_laws.specs.StatusesLaws.{Each}
use Rattle.pe_changes.specs.Parts.{status_of_row, IsStore, IsStatuses}
use Rattle.pe_engine.specs.declared.engine.Made.{Made}
use Rattle.pe_engine.specs.declared.engine.Made.TheVariants as made
use Rattle.pe_engine.specs.declared.row.Row.{Row}
use Rattle.pe_engine.specs.Causes.{named_cause, other_cause}
use Rattle.pe_engine.specs.Changing.{HasNoted}
use Rattle.pe_engine.specs.Laws.{EngineLaws}
use Rattle.pe_engine.specs.Objects.{handle_at}
use Rattle.pe_engine.specs.Registering.{status_of_document, HasRegistered}
use Rattle.pe_engine.specs.Replying.{timed, HasPassed, IsReplied}
use Rattle.pe_engine.specs.Rows.{IsRow, IsShown}
use Rattle.pe_engine.specs.StandsFor.{EngineValue, IsNamed, StandsFor}
use Rattle.pe_engine.specs.Tree.{IsNode, IsTree}
use Rattle.pe_engine.proofs.Accepted.{step_of, documents-within, named-stays, queues-stay}
use Rattle.pe_engine.proofs.CommonCauses.{some-of}
use Rattle.pe_engine.proofs.Kept.{kept-silent}
use Rattle.pe_engine.proofs.Lists.{each-kept, each-append}
use Rattle.pe_engine.proofs.Look.{node-at, live-at, page-at, page-of}
use Rattle.pe_engine.proofs.Passed.{applied-reply}
use Rattle.pe_engine.proofs.TopDocuments.{chain-some, top-is}

-- ---- the causes

pub feature-query : (T : RepliedHistory) (now f : ℕ) (name : List ℕ) → lacks_key name ≡ true → other_cause T now (event.Query f name) ≡ Some cause.Feature
unfolding other_cause has_bad_url has_bad_feature
feature-query T now f name none = rw none refl

pub limit-query : (T : RepliedHistory) (now f : ℕ) (name : List ℕ) → lacks_key name ≡ false → nat_le STATUS_LIMIT (count_in_page T f (page_statuses T)) ≡ true → other_cause T now (event.Query f name) ≡ Some cause.LimitStatuses
unfolding other_cause has_bad_url has_bad_feature has_bad_call has_bad_capability names_other_page exceeds_pages exceeds_depth exceeds_frames exceeds_statuses
limit-query T now f name some full = rw (some, full) refl

pub other-query : (T : RepliedHistory) (now f : ℕ) (name : List ℕ) → lacks_key name ≡ false → nat_le STATUS_LIMIT (count_in_page T f (page_statuses T)) ≡ false → other_cause T now (event.Query f name) ≡ None
unfolding other_cause has_bad_url has_bad_feature has_bad_call has_bad_capability names_other_page exceeds_pages exceeds_depth exceeds_frames exceeds_statuses exceeds_pending exceeds_store setting_named setting_by
other-query T now f name some few = rw (some, few) refl

pub other-drop : (T : RepliedHistory) (now k : ℕ) → other_cause T now (event.DropStatus k) ≡ None
unfolding other_cause has_bad_url has_bad_feature has_bad_call has_bad_capability names_other_page exceeds_pages exceeds_depth exceeds_frames exceeds_statuses exceeds_pending exceeds_store setting_named setting_by
other-drop T now k = refl

pub status-unknown : (T : RepliedHistory) (k : ℕ) → is_status T k ≡ false → named_cause T (event.DropStatus k) ≡ Some cause.Unknown
unfolding named_cause names_unknown
status-unknown T k unmade = rw unmade refl

status-closed : (T : RepliedHistory) (k : ℕ) → is_status T k ≡ true → list_any (λ x. x.number == k) (live_statuses T) ≡ false → named_cause T (event.DropStatus k) ≡ Some cause.Closed
unfolding named_cause names_unknown names_settled names_closed
status-closed T k made dead = rw (made, dead) refl

status-live : (T : RepliedHistory) (k : ℕ) → is_status T k ≡ true → list_any (λ x. x.number == k) (live_statuses T) ≡ true → named_cause T (event.DropStatus k) ≡ None
unfolding named_cause names_unknown names_settled names_closed names_not_shown
status-live T k made live = rw (made, live) refl

-- ---- the answers

pub query-answer : (duration : ℕ) (T : RepliedHistory) (now f d : ℕ) (name : List ℕ) (feature : Feature) → document_in T f ≡ Some d → feature_named name ≡ Some feature
    → answer_of duration T now (event.Query f name) ≡ answer.StatusMade (length T + 1) (permission_state T now d feature)
unfolding answer_of
query-answer duration T now f d name feature shown named = rw (shown, named) refl

pub drop-answer : (duration : ℕ) (T : RepliedHistory) (now k : ℕ) → answer_of duration T now (event.DropStatus k) ≡ answer.Done
unfolding answer_of
drop-answer duration T now k = refl

-- ---- the page

-- the document of a row that is found is the one that its frame shows
shown-entry : (T : RepliedHistory) (ms : List Made) (v : Forest Row) (f : ℕ) (h : Handle) (row : Row) → IsTree T ms v → handle_at ms f ≡ Some h → option_map (λ x. x.doc) (entry_of v.entries h) ≡ Some row → IsShown T f row
shown-entry T ms v f h row st at found = by_entry (entry_of v.entries h) refl found
  where
    by_entry : (o : Option (Entry Row)) → entry_of v.entries h ≡ o → option_map (λ x. x.doc) o ≡ Some row → IsShown T f row
    by_entry None is z = cc
    by_entry (Some x) is z =
        let same : x.doc ≡ row = cc in
        let (frame, node) = node-at T ms v f h x st at is in record {
          document = ap (document_in T) (sym frame) ∙ node.document ∙ ap (λ (y : Row). Some y.doc) same;
          row = subst (λ y. IsRow T f y) same (subst (λ g. IsRow T g x.doc) frame node.row);
        }

-- the top frame of the page of a live frame
pub top-found : (es : List (Entry Row)) (h top : Handle) (x : Entry Row) (o : Option Handle) → entry_of es h ≡ Some x → o ≡ option_map top_of (entry_of es h) → o ≡ Some top → top ≡ top_of x
top-found es h top x o found is was = let z : Some top ≡ Some (top_of x) = sym was ∙ is ∙ ap (option_map top_of) found in cc

-- it is live
pub top-live : (es : List (Entry Row)) (h top : Handle) (x : Entry Row) (o : Option (Bor (Node Row))) → entry_of es h ≡ Some x → top ≡ top_of x
    → IfSome (entry_of es h) (λ e. IsSomeAnd (entry_of es (top_of e)) (λ t. top_of t ≡ top_of e)) → option_copied o ≡ node_of es top → IsSome o
top-live es h top x o found same lives is = by_node o (ap is_some is ∙ ap (λ k. is_some (node_of es k)) same ∙ by_entry (entry_of es (top_of x)) there)
  where
    there : IsSomeAnd (entry_of es (top_of x)) (λ t. top_of t ≡ top_of x)
    there = subst (λ o. IfSome o (λ e. IsSomeAnd (entry_of es (top_of e)) (λ t. top_of t ≡ top_of e))) found lives

    by_entry : (y : Option (Entry Row)) → IsSomeAnd y (λ t. top_of t ≡ top_of x) → is_some (option_map node_in y) ≡ true
    by_entry None z = absurd z
    by_entry (Some y) z = refl

    by_node : (n : Option (Bor (Node Row))) → is_some (option_copied n) ≡ true → IsSome n
    by_node None z = z
    by_node (Some n) z = refl

module _ (laws : HistoryLaws) where
  -- the page of a document that a frame shows is live
  page-live : (duration : ℕ) (H : History) (ms : List Made) (x : Entry Row) → IsTrue (is_regular duration H) → IsNode (replied duration H) ms x → is_live (replied duration H) (page (replied duration H) x.doc.doc) ≡ true
  unfolding is_live page
  page-live duration H ms x regular node =
      let T = replied duration H in
      let d = x.doc.doc in
      let policy = node.row.settled.policy in
      let (current, frame, least, most) = laws.current.document_in_frame T x.frame d node.document in
      let (c, cs, is) = chain-some T d policy.top policy.rest policy.chained in
      let above = (laws.tree.tree duration H regular).above_current d c current (rw (is, (Decides-eqb c c).1 refl) refl) in
      ap (λ t. is_some (document_in T (frame_of T t))) (top-is T d c cs is) ∙ ap is_some (laws.current.shown_in_frame duration H c regular above)

  -- the frame of the topmost handle above a live frame is that of its page
  pub page-found : (e : EngineValue) (H : History) (f : ℕ) (h : Handle) (x : Entry Row) → StandsFor e H → handle_at e.made f ≡ Some h → entry_of e.frames.entries h ≡ Some x
      → (m : Node Row) × (node_of e.frames.entries (top_of x) ≡ Some m) × (page_of_frame (replied e.duration H) f ≡ Some m.frame)
  page-found e H f h x s at is =
      let T = replied e.duration H in
      let (frame, node) = node-at T e.made e.frames f h x s.steps.tree at is in
      let g = page T x.doc.doc in
      let top : handle_at e.made g ≡ Some (top_of x) = page-at T e.made x node in
      let (y, there) = some-of (entry_of e.frames.entries (top_of x)) (live-at laws T e.made e.frames g (top_of x) s.steps.tree top ∙ page-live e.duration H e.made x s.regular node) in
      let (same, other) = node-at T e.made e.frames g (top_of x) y s.steps.tree top there in (
        node_in y,
        ap (option_map node_in) there,
        page-of T f x.doc.doc (ap (document_in T) (sym frame) ∙ node.document) ∙ ap Some (sym same),
      )

pub some-injective : {A : Type 0} (o : Option A) (x y : A) → o ≡ Some x → o ≡ Some y → x ≡ y
some-injective o x y p q = let z : Some x ≡ Some y = sym p ∙ q in cc

-- ---- the replies

module _ (laws : EngineLaws) where
  pub statuses-counted : (e : EngineValue) (H : History) (f top : ℕ) → StandsFor e H → page_of_frame (replied e.duration H) f ≡ Some top
      → count_of_page top e.statuses.live ≡ count_in_page (replied e.duration H) f (page_statuses (replied e.duration H))
  statuses-counted e H f top s is =
      let T = replied e.duration H in
      laws.statuses.counted T e.statuses top s.steps.statuses ∙ sym (ap (λ o. unwrap_or (option_map (λ t. length (page_statuses T t)) o) 0) is)

  -- why a status is not found
  module _ (T : RepliedHistory) (registry : Registry) (k : ℕ) (is : IsStatuses T registry) where
    fault-by : (given live : Bool) → was_given registry.given k ≡ given → is_some (status_of registry.live k) ≡ live → (o : Option ReleaseFault) → o ≡ release_fault registry k
        → o ≡ (if given then (if not live then Some fault.Closed else None) else Some fault.Unknown)
    fault-by given live g l o z = z ∙ by_found (status_of registry.live k) l ∙ ap (λ b. if b then (if not live then Some fault.Closed else None) else Some fault.Unknown) g
      where
        by_found : (found : Option Registered) → is_some found ≡ live → (if was_given registry.given k then (if is_none found then Some fault.Closed else None) else Some fault.Unknown)
            ≡ (if was_given registry.given k then (if not live then Some fault.Closed else None) else Some fault.Unknown)
        by_found None h = rw (← h) refl
        by_found (Some r) h = rw (← h) refl

    by-fault : (o : Option ReleaseFault) → o ≡ release_fault registry k → (given live : Bool) → was_given registry.given k ≡ given → is_some (status_of registry.live k) ≡ live
        → o ≡ (if given then (if not live then Some fault.Closed else None) else Some fault.Unknown)
    by-fault o z given live g l = fault-by given live g l o z

    pub fault-unknown : Some fault.Unknown ≡ release_fault registry k → named_cause T (event.DropStatus k) ≡ Some cause.Unknown
    fault-unknown z = by_tests (was_given registry.given k) refl (is_some (status_of registry.live k)) refl
      where
        by_tests : (given : Bool) → was_given registry.given k ≡ given → (live : Bool) → is_some (status_of registry.live k) ≡ live → named_cause T (event.DropStatus k) ≡ Some cause.Unknown
        by_tests false g live l = status-unknown T k (sym (is.given k) ∙ g)
        by_tests true g true l = let i = by-fault (Some fault.Unknown) z true true g l in cc
        by_tests true g false l = let i = by-fault (Some fault.Unknown) z true false g l in cc

    pub fault-closed : Some fault.Closed ≡ release_fault registry k → named_cause T (event.DropStatus k) ≡ Some cause.Closed
    fault-closed z = by_tests (was_given registry.given k) refl (is_some (status_of registry.live k)) refl
      where
        by_tests : (given : Bool) → was_given registry.given k ≡ given → (live : Bool) → is_some (status_of registry.live k) ≡ live → named_cause T (event.DropStatus k) ≡ Some cause.Closed
        by_tests false g live l = let i = by-fault (Some fault.Closed) z false live g l in cc
        by_tests true g true l = let i = by-fault (Some fault.Closed) z true true g l in cc
        by_tests true g false l = status-closed T k (sym (is.given k) ∙ g) (sym (laws.statuses.there T registry k is) ∙ l)

    pub fault-none : None ≡ release_fault registry k → named_cause T (event.DropStatus k) ≡ None
    fault-none z = by_tests (was_given registry.given k) refl (is_some (status_of registry.live k)) refl
      where
        by_tests : (given : Bool) → was_given registry.given k ≡ given → (live : Bool) → is_some (status_of registry.live k) ≡ live → named_cause T (event.DropStatus k) ≡ None
        by_tests false g live l = let i = by-fault None z false live g l in cc
        by_tests true g true l = status-live T k (sym (is.given k) ∙ g) (sym (laws.statuses.there T registry k is) ∙ l)
        by_tests true g false l = let i = by-fault None z true false g l in cc

  -- a number that no position of the history has is that of no status
  pub beyond-unknown : (e : EngineValue) (H : History) (k : ℕ) → StandsFor e H → ((1 ≤ k) → (k ≤ length e.made) → ⊥) → named_cause (replied e.duration H) (event.DropStatus k) ≡ Some cause.Unknown
  beyond-unknown e H k s none = status-unknown T k (by_test (is_status T k) refl)
    where
      T : RepliedHistory
      T = replied e.duration H

      by_test : (b : Bool) → is_status T k ≡ b → is_status T k ≡ false
      by_test false q = q
      by_test true q = let (least, most) = laws.history.numbering.status_within T k q in absurd (none least (subst (λ n. k ≤ n) (sym s.steps.tree.count) most))

  -- a query that is accepted
  pub query-reply : (e p n u : EngineValue) (H : History) (now f : ℕ) (name : List ℕ) (number top : ℕ) (h : Handle) (feature : Feature) (state : State) (before after : Vec Change)
      → StandsFor e H → HasPassed e p H now before → p ≡ record e { store = p.store } → n ≡ record p { clock = now; made = p.made ++ made.Status ∷ [] } → HasRegistered n u number top h feature state
      → cause_of (replied e.duration H) now (event.Query f name) ≡ None → number ≡ length e.made + 1 → handle_at e.made f ≡ Some h → feature_named name ≡ Some feature
      → page_of_frame (replied e.duration H) f ≡ Some top → after.items ≡ []
      → IsReplied e u H (timed now (event.Query f name)) (Ok (record { before = before; answer = answer.StatusMade number state; after = after }))
  query-reply e p n u H now f name number top h feature state before after stands passed p_is n_is has none number_is at named paged empty =
      applied-reply laws e p u H x made.Status (answer.StatusMade number state) before after stands passed none says noted (record {
        tree = rw (noted.made, frames) (kept-silent laws.history s T e.made made.Status e.frames refl refl refl refl refl refl refl refl refl refl stands.steps.tree);
        store = subst (IsStore (s ∷ T) now) (sym store) (laws.stores.quiet s T now p.store refl refl refl stored);
        queues = queues-stay laws e u H x made.Status e.clock refl refl stands prompts messages noted.made;
        statuses = laws.statuses.made e.duration H s r e.statuses u.statuses stands.regular made-by (has.paired T shown.row.settled) (some-injective (page_of_frame T f) (page T has.row.doc) top (page-of T f has.row.doc shown.document) paged)
            stands.steps.statuses live given;
        named = subst (Each (IsNamed (s ∷ T) u.made)) (sym live) (rw noted.made (named-stays laws s T e.made made.Status (e.statuses.live ++ r ∷ [])
            (each-append (λ (y : Registered). y.doc.doc ≤ length T) e.statuses.live (r ∷ []) (documents-within laws T e.statuses stands.steps.statuses) (within, tt))
            (each-append (IsNamed T e.made) e.statuses.live (r ∷ []) stands.steps.named (ap (handle_at e.made) in-frame ∙ at, tt))));
      }) (empty ∙ sym (laws.history.changes.none_after s T now refl refl refl))
    where
      T : RepliedHistory
      T = replied e.duration H

      x : Timed
      x = timed now (event.Query f name)

      s : Step
      s = step_of x (step_answer e.duration T now (event.Query f name))

      r : Registered
      r = status_of_document number top h has.row feature has.key

      shown : IsShown T f has.row
      shown = shown-entry T e.made e.frames f h has.row stands.steps.tree at
          (ap (λ (v : EngineValue). option_map (λ (y : Entry Row). y.doc) (entry_of v.frames.entries h)) (sym p_is) ∙ ap (λ (v : EngineValue). option_map (λ (y : Entry Row). y.doc) (entry_of v.frames.entries h)) (sym n_is) ∙ has.found)

      within : has.row.doc ≤ length T
      within = let (current, frame, least, most) = laws.history.current.document_in_frame T f has.row.doc shown.document in most

      in-frame : frame_of T has.row.doc ≡ f
      in-frame = let (current, frame, least, most) = laws.history.current.document_in_frame T f has.row.doc shown.document in frame

      numbered : number ≡ length T + 1
      numbered = number_is ∙ ap (λ k. k + 1) stands.steps.tree.count

      stored : IsStore T now p.store
      stored = subst (λ d. IsStore (replied d H) now p.store) (ap (λ (v : EngineValue). v.duration) p_is) passed.stands.steps.store

      clocked : n.clock ≡ now
      clocked = ap (λ (v : EngineValue). v.clock) n_is

      says : answer.StatusMade number state ≡ answer_of e.duration T now (event.Query f name)
      says = ap (answer.StatusMade number) (has.state_is T shown.row.settled (subst (λ t. IsStore T t n.store) (sym clocked) (subst (IsStore T now) (sym (ap (λ (v : EngineValue). v.store) n_is)) stored)))
          ∙ ap (λ t. answer.StatusMade number (permission_state T t has.row.doc feature)) clocked
          ∙ ap (λ k. answer.StatusMade k (permission_state T now has.row.doc feature)) numbered
          ∙ sym (query-answer e.duration T now f has.row.doc name feature shown.document named)

      made-by : status_by (event.Query f name) T (suc (length T)) ≡ Some (status_of_row r)
      made-by = rw (shown.document, named) (ap (λ k. Some (record { number = k; document = has.row.doc; feature = feature })) (let i = numbered in let j : suc (length T) ≡ number = omega arith in j))

      noted : HasNoted e u now made.Status
      noted = record {
        duration = ap (λ (v : EngineValue). v.duration) has.rest ∙ ap (λ (v : EngineValue). v.duration) n_is ∙ ap (λ (v : EngineValue). v.duration) p_is;
        failed = ap (λ (v : EngineValue). v.failed) has.rest ∙ ap (λ (v : EngineValue). v.failed) n_is ∙ ap (λ (v : EngineValue). v.failed) p_is;
        clock = ap (λ (v : EngineValue). v.clock) has.rest ∙ ap (λ (v : EngineValue). v.clock) n_is;
        made = ap (λ (v : EngineValue). v.made) has.rest ∙ ap (λ (v : EngineValue). v.made) n_is ∙ ap (λ (v : EngineValue). v.made ++ made.Status ∷ []) p_is;
      }

      frames : u.frames ≡ e.frames
      frames = ap (λ (v : EngineValue). v.frames) has.rest ∙ ap (λ (v : EngineValue). v.frames) n_is ∙ ap (λ (v : EngineValue). v.frames) p_is

      store : u.store ≡ p.store
      store = ap (λ (v : EngineValue). v.store) has.rest ∙ ap (λ (v : EngineValue). v.store) n_is

      prompts : u.prompts ≡ e.prompts
      prompts = ap (λ (v : EngineValue). v.prompts) has.rest ∙ ap (λ (v : EngineValue). v.prompts) n_is ∙ ap (λ (v : EngineValue). v.prompts) p_is

      messages : u.messages ≡ e.messages
      messages = ap (λ (v : EngineValue). v.messages) has.rest ∙ ap (λ (v : EngineValue). v.messages) n_is ∙ ap (λ (v : EngineValue). v.messages) p_is

      before-is : n.statuses ≡ e.statuses
      before-is = ap (λ (v : EngineValue). v.statuses) n_is ∙ ap (λ (v : EngineValue). v.statuses) p_is

      live : u.statuses.live ≡ e.statuses.live ++ r ∷ []
      live = has.live ∙ ap (λ (q : Registry). q.live ++ r ∷ []) before-is

      given : u.statuses.given ≡ e.statuses.given ++ r.no ∷ []
      given = has.given ∙ ap (λ (q : Registry). q.given ++ number ∷ []) before-is

  -- a drop that is accepted
  pub drop-reply : (e p u : EngineValue) (H : History) (now k : ℕ) (registry : Registry) (before after : Vec Change)
      → StandsFor e H → HasPassed e p H now before → p ≡ record e { store = p.store } → registry.live ≡ without k e.statuses.live → registry.given ≡ e.statuses.given
      → u ≡ record p { clock = now; made = p.made ++ made.Nothing ∷ []; statuses = registry }
      → cause_of (replied e.duration H) now (event.DropStatus k) ≡ None → after.items ≡ []
      → IsReplied e u H (timed now (event.DropStatus k)) (Ok (record { before = before; answer = answer.Done; after = after }))
  unfolding without
  drop-reply e p u H now k registry before after stands passed p_is live given u_is none empty =
      applied-reply laws e p u H x made.Nothing answer.Done before after stands passed none (sym (drop-answer e.duration T now k)) noted (record {
        tree = rw (noted.made, frames) (kept-silent laws.history s T e.made made.Nothing e.frames refl refl refl refl refl refl refl refl refl refl stands.steps.tree);
        store = subst (IsStore (s ∷ T) now) (sym store) (laws.stores.quiet s T now p.store refl refl refl stored);
        queues = queues-stay laws e u H x made.Nothing e.clock refl refl stands prompts messages noted.made;
        statuses = subst (IsStatuses (s ∷ T)) (sym statuses) (laws.statuses.dropped s T k e.statuses registry refl stands.steps.statuses live given);
        named = subst (λ (q : Registry). Each (IsNamed (s ∷ T) u.made) q.live) (sym statuses) (subst (Each (IsNamed (s ∷ T) u.made)) (sym live)
            (each-kept (IsNamed (s ∷ T) u.made) (IsNamed (s ∷ T) u.made) (λ r. not (r.no == k)) e.statuses.live (λ r n z. n)
            (rw noted.made (named-stays laws s T e.made made.Nothing e.statuses.live (documents-within laws T e.statuses stands.steps.statuses) stands.steps.named))));
      }) (empty ∙ sym (laws.history.changes.none_after s T now refl refl refl))
    where
      T : RepliedHistory
      T = replied e.duration H

      x : Timed
      x = timed now (event.DropStatus k)

      s : Step
      s = step_of x (step_answer e.duration T now (event.DropStatus k))

      stored : IsStore T now p.store
      stored = subst (λ d. IsStore (replied d H) now p.store) (ap (λ (v : EngineValue). v.duration) p_is) passed.stands.steps.store

      noted : HasNoted e u now made.Nothing
      noted = record {
        duration = ap (λ (v : EngineValue). v.duration) u_is ∙ ap (λ (v : EngineValue). v.duration) p_is;
        failed = ap (λ (v : EngineValue). v.failed) u_is ∙ ap (λ (v : EngineValue). v.failed) p_is;
        clock = ap (λ (v : EngineValue). v.clock) u_is;
        made = ap (λ (v : EngineValue). v.made) u_is ∙ ap (λ (v : EngineValue). v.made ++ made.Nothing ∷ []) p_is;
      }

      frames : u.frames ≡ e.frames
      frames = ap (λ (v : EngineValue). v.frames) u_is ∙ ap (λ (v : EngineValue). v.frames) p_is

      store : u.store ≡ p.store
      store = ap (λ (v : EngineValue). v.store) u_is

      prompts : u.prompts ≡ e.prompts
      prompts = ap (λ (v : EngineValue). v.prompts) u_is ∙ ap (λ (v : EngineValue). v.prompts) p_is

      messages : u.messages ≡ e.messages
      messages = ap (λ (v : EngineValue). v.messages) u_is ∙ ap (λ (v : EngineValue). v.messages) p_is

      statuses : u.statuses ≡ registry
      statuses = ap (λ (v : EngineValue). v.statuses) u_is
