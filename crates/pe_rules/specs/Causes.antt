-- Why an event is refused: the causes in order, each by cases on the event.
-- The causes, their order and the limits are this project's own.
-- The causes of a line that is no event come before these and are told by the reading of lines.
use Rattle.std.specs.Prelude.{ℕ, Bool, true, false, not, ◌&&◌, ◌||◌, ◌==◌, nat_le, nat_lt, List, [], ◌∷◌, length, map, filter, Option, Some, None, is_some, is_none, unwrap_or, option_map, option_and_then, option_to_list}
use Rattle.std.specs.Option.{option_or}
use Rattle.std.specs.List.{list_any}
use Rattle.pe_base.specs.declared.limits.TheConstants.{EVENT_LIMIT, PAGE_LIMIT, DEPTH_LIMIT, FRAME_LIMIT, STATUS_LIMIT, PENDING_LIMIT, MESSAGE_LIMIT, STORE_LIMIT}
use Rattle.pe_base.specs.declared.state.State.{State}
use Rattle.pe_base.specs.declared.state.State.TheVariants as state
use Rattle.pe_features.specs.declared.feature.KeyKind.{KeyKind}
use Rattle.pe_features.specs.declared.feature.KeyKind.TheVariants as kind
use Rattle.pe_features.specs.Calls.{call_named}
use Rattle.pe_features.specs.Capabilities.{capability_named}
use Rattle.pe_features.specs.Features.{feature_named, default_of, key_of}
use Rattle.pe_origin.specs.Places.{place_at}
use Rattle.pe_events.specs.declared.cause.Cause.{Cause}
use Rattle.pe_events.specs.declared.cause.Cause.TheVariants as cause
use Rattle.pe_events.specs.declared.event.AttrName.TheVariants as attribute
use Rattle.pe_events.specs.declared.event.Event.{Event}
use Rattle.pe_events.specs.declared.event.Event.TheVariants as event
use Rattle.pe_rules.specs.History.{RepliedHistory, some_if, newest_answer, all_answers, clock}
use Rattle.pe_rules.specs.Numbering.{is_frame, is_status, is_prompt, is_message, frames_made, parent_frame}
use Rattle.pe_rules.specs.Embedders.{page, page_of_frame, depth}
use Rattle.pe_rules.specs.Current.{document_in, is_live}
use Rattle.pe_store.specs.Pairs.{Pair, is_same_pair}
use Rattle.pe_rules.specs.Settings.{pair_for, prompt_page, setting_by, has_entry, word_origin}
use Rattle.pe_rules.specs.PermissionState.{permission_state}
use Rattle.pe_rules.specs.Prompts.{is_settled, waiting, shown_prompt, pending, pending_prompt_of}
use Rattle.pe_rules.specs.Delegation.{is_message_settled, waiting_messages}
use Rattle.pe_rules.specs.Statuses.{live_statuses}

-- ---- what an event names

-- the frames that an event names
abbrev pub frames_named : Event → List ℕ
frames_named (event.Embed parent src place allow sandbox fullscreen srcdoc header) = parent ∷ []
frames_named (event.Navigate frame url header) = frame ∷ []
frames_named (event.Attr frame name value) = frame ∷ []
frames_named (event.Close frame) = frame ∷ []
frames_named (event.Input frame kind) = frame ∷ []
frames_named (event.Ask frame) = frame ∷ []
frames_named (event.History frame) = frame ∷ []
frames_named (event.PolicyOf frame feature) = frame ∷ []
frames_named (event.Features frame) = frame ∷ []
frames_named (event.UseCall frame call) = frame ∷ []
frames_named (event.Query frame feature) = frame ∷ []
frames_named (event.Request frame feature) = frame ∷ []
frames_named (event.Post sender target named capability) = sender ∷ target ∷ []
frames_named e = []

-- the event names a status, prompt or message that no event made
abbrev pub names_unknown_object : RepliedHistory → Event → Bool
names_unknown_object T (event.DropStatus status) = not (is_status T status)
names_unknown_object T (event.Answered prompt out given) = not (is_prompt T prompt)
names_unknown_object T (event.Deliver message) = not (is_message T message)
names_unknown_object T e = false

-- a named frame, status, prompt or message was made by no event
unfoldable pub names_unknown : RepliedHistory → Event → Bool
names_unknown T e = list_any (λ f. not (is_frame T f)) (frames_named e) || names_unknown_object T e

-- the named prompt was answered, or a delivery of the named message was accepted
unfoldable pub names_settled : RepliedHistory → Event → Bool
names_settled T (event.Answered prompt out given) = is_settled T prompt
names_settled T (event.Deliver message) = is_message_settled T message
names_settled T e = false

-- the named status is not live, or no request waits for the named prompt
abbrev pub names_closed_object : RepliedHistory → Event → Bool
names_closed_object T (event.DropStatus status) = not (list_any (λ x. x.number == status) (live_statuses T))
names_closed_object T (event.Answered prompt out given) = length (waiting T prompt) == 0
names_closed_object T e = false

-- a named frame is not live, or the named object is closed
unfoldable pub names_closed : RepliedHistory → Event → Bool
names_closed T e = list_any (λ f. not (is_live T f)) (frames_named e) || names_closed_object T e

-- the prompt is the shown one of its page
abbrev pub is_shown : RepliedHistory → ℕ → Bool
is_shown T prompt = unwrap_or (option_map (λ k. k == prompt) (option_and_then (shown_prompt T) (prompt_page T prompt))) false

-- the named prompt is not the shown one
unfoldable pub names_not_shown : RepliedHistory → Event → Bool
names_not_shown T (event.Answered prompt out given) = not (is_shown T prompt)
names_not_shown T e = false

-- ---- the words of an event

-- a URL word that is no URL
abbrev pub is_no_url : Option (List ℕ) → Bool
is_no_url None = false
is_no_url (Some text) = is_none (place_at text)

-- an origin word without a tuple origin
abbrev pub is_no_origin : Option (List ℕ) → Bool
is_no_origin None = false
is_no_origin (Some text) = is_none (word_origin text)

-- a URL word is refused, or an origin word has no tuple origin
unfoldable pub has_bad_url : Event → Bool
has_bad_url (event.OpenPage url header) = is_no_url (Some url)
has_bad_url (event.Embed parent src place allow sandbox fullscreen srcdoc header) = is_no_url src || is_no_url place
has_bad_url (event.Navigate frame url header) = is_no_url (Some url)
has_bad_url (event.Attr frame attribute.Src value) = is_no_url value
has_bad_url (event.SetState feature first second state span) = is_no_origin (Some first) || is_no_origin second
has_bad_url (event.Post sender target named capability) = is_no_origin named
has_bad_url e = false

-- the name is no feature, or one without a default allowlist
abbrev pub lacks_default : List ℕ → Bool
lacks_default name = is_none (option_and_then default_of (feature_named name))

-- the name is no feature, or one without a permission
abbrev pub lacks_key : List ℕ → Bool
lacks_key name = is_none (option_and_then key_of (feature_named name))

-- a key of this kind is not named by one origin, or by two
abbrev pub lacks_origins : Option KeyKind → Bool → Bool
lacks_origins None has_second = true
lacks_origins (Some kind.Single) has_second = has_second
lacks_origins (Some kind.Pair) has_second = not has_second

-- the feature is not in the table, or not one that the verb has a use for
unfoldable pub has_bad_feature : Event → Bool
has_bad_feature (event.PolicyOf frame feature) = lacks_default feature
has_bad_feature (event.Query frame feature) = lacks_key feature
has_bad_feature (event.Request frame feature) = lacks_key feature
has_bad_feature (event.SetState feature first second state span) = lacks_origins (option_and_then key_of (feature_named feature)) (is_some second)
has_bad_feature e = false

-- the call is not in the table
unfoldable pub has_bad_call : Event → Bool
has_bad_call (event.UseCall frame call) = is_none (call_named call)
has_bad_call e = false

-- the capability is not in the table
unfoldable pub has_bad_capability : Event → Bool
has_bad_capability (event.Post sender target named capability) = is_none (capability_named capability)
has_bad_capability e = false

-- the two numbers are one, or neither is there
abbrev pub is_same_number : Option ℕ → Option ℕ → Bool
is_same_number (Some a) (Some b) = a == b
is_same_number None None = true
is_same_number _ _ = false

-- the two frames have different top frames
unfoldable pub names_other_page : RepliedHistory → Event → Bool
names_other_page T (event.Post sender target named capability) = not (is_same_number (page_of_frame T sender) (page_of_frame T target))
names_other_page T e = false

-- ---- limits

-- the live top frames
unfoldable pub live_pages : RepliedHistory → List ℕ
live_pages T = filter (λ f. is_live T f && is_none (parent_frame T f)) (frames_made T)

-- the live frames of a page
unfoldable pub live_frames : RepliedHistory → ℕ → List ℕ
live_frames T top = filter (λ f. is_live T f && is_same_number (page_of_frame T f) (Some top)) (frames_made T)

-- the live statuses of a page
unfoldable pub page_statuses : RepliedHistory → ℕ → List ℕ
page_statuses T top = map (λ x. x.number) (filter (λ x. page T x.document == top) (live_statuses T))

-- how many things the page of a frame has
abbrev pub count_in_page : RepliedHistory → ℕ → (ℕ → List ℕ) → ℕ
count_in_page T f things = unwrap_or (option_map (λ top. length (things top)) (page_of_frame T f)) 0

-- the state that a request finds at a time
unfoldable pub state_found : RepliedHistory → ℕ → ℕ → List ℕ → Option State
state_found T now frame feature = option_and_then (λ d. option_map (permission_state T now d) (feature_named feature)) (document_in T frame)

-- the pending prompt that a request joins
unfoldable pub prompt_to_join : RepliedHistory → ℕ → List ℕ → Option ℕ
prompt_to_join T frame feature = option_and_then (λ d. option_and_then (λ f. option_and_then (pending_prompt_of T (page T d)) (pair_for T d f)) (feature_named feature)) (document_in T frame)

-- the state is prompt
abbrev pub is_prompt_state : Option State → Bool
is_prompt_state (Some state.Prompt) = true
is_prompt_state other = false

-- a page is opened beside as many as there may be
unfoldable pub exceeds_pages : RepliedHistory → Event → Bool
exceeds_pages T (event.OpenPage url header) = nat_le PAGE_LIMIT (length (live_pages T))
exceeds_pages T e = false

-- a frame is embedded in one of the greatest depth
unfoldable pub exceeds_depth : RepliedHistory → Event → Bool
exceeds_depth T (event.Embed parent src place allow sandbox fullscreen srcdoc header) = nat_le DEPTH_LIMIT (depth T parent)
exceeds_depth T e = false

-- a frame is embedded in a page of as many as there may be
unfoldable pub exceeds_frames : RepliedHistory → Event → Bool
exceeds_frames T (event.Embed parent src place allow sandbox fullscreen srcdoc header) = nat_le FRAME_LIMIT (count_in_page T parent (live_frames T))
exceeds_frames T e = false

-- a status is made in a page of as many live ones as there may be
unfoldable pub exceeds_statuses : RepliedHistory → Event → Bool
exceeds_statuses T (event.Query frame feature) = nat_le STATUS_LIMIT (count_in_page T frame (page_statuses T))
exceeds_statuses T e = false

-- a request would make a prompt in a page of as many pending ones as there may be, or a message is posted in one of as many waiting
unfoldable pub exceeds_pending : RepliedHistory → ℕ → Event → Bool
exceeds_pending T now (event.Request frame feature) = is_prompt_state (state_found T now frame feature) && is_none (prompt_to_join T frame feature) && nat_le PENDING_LIMIT (count_in_page T frame (pending T))
exceeds_pending T now (event.Post sender target named capability) = nat_le MESSAGE_LIMIT (count_in_page T sender (waiting_messages T))
exceeds_pending T now e = false

-- the pair was set again, by name or by an embargo, after position k
abbrev pub is_set_since : RepliedHistory → ℕ → Pair → Bool
is_set_since T k pair = is_some (newest_answer (λ s B. option_and_then (λ x. some_if (is_same_pair x.pair pair && nat_lt k (length (s ∷ B))) k) (setting_by s.time s.event B)) T)

-- the pairs that have an entry, each by its last setting
unfoldable pub entries : RepliedHistory → List Pair
entries T = all_answers (λ s B. option_to_list (option_and_then (λ x. some_if (has_entry T x.pair && not (is_set_since T (length (s ∷ B)) x.pair)) x.pair) (setting_by s.time s.event B))) T

-- a setting, also that of an embargo, would make an entry in a store of as many as there may be
unfoldable pub exceeds_store : RepliedHistory → ℕ → Event → Bool
exceeds_store T now e = unwrap_or (option_map (λ x. not (has_entry T x.pair) && nat_le STORE_LIMIT (length (entries T))) (setting_by now e T)) false

-- ---- the first cause

-- the first of the answers that a question gives along a list
abbrev pub first_some : {A B : Type 0} → (A → Option B) → List A → Option B
first_some ask [] = None
first_some ask (x ∷ xs) = let later = first_some ask xs in option_or (ask x) later

-- the first cause that applies to the event at this time
unfoldable pub cause_of : RepliedHistory → ℕ → Event → Option Cause
cause_of T now e = first_some (λ (x : Cause × Bool). some_if x.1 x.0) (
    (cause.LimitEvents, nat_le EVENT_LIMIT (length T))
    ∷ (cause.TimeBack, nat_lt now (clock T))
    ∷ (cause.Unknown, names_unknown T e)
    ∷ (cause.Settled, names_settled T e)
    ∷ (cause.Closed, names_closed T e)
    ∷ (cause.NotShown, names_not_shown T e)
    ∷ (cause.Url, has_bad_url e)
    ∷ (cause.Feature, has_bad_feature e)
    ∷ (cause.Call, has_bad_call e)
    ∷ (cause.Capability, has_bad_capability e)
    ∷ (cause.OtherPage, names_other_page T e)
    ∷ (cause.LimitPages, exceeds_pages T e)
    ∷ (cause.LimitDepth, exceeds_depth T e)
    ∷ (cause.LimitFrames, exceeds_frames T e)
    ∷ (cause.LimitStatuses, exceeds_statuses T e)
    ∷ (cause.LimitPending, exceeds_pending T now e)
    ∷ (cause.LimitStore, exceeds_store T now e)
    ∷ [])
