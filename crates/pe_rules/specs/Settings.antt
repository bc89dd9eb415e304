-- Permission keys, the settings of a pair of feature and key, how long they hold, what is stored, and the embargo.
-- Permissions, "permission store", "permission store entry", "permission key", "lifetime".
-- Lives, the key of `storage-access` and the embargo are this project's own: the third dismissal that counts since the pair's last setting denies it for a span.
use Rattle.std.specs.Prelude.{ℕ, ◌+◌, Bool, true, false, ◌&&◌, nat_le, nat_lt, List, [], ◌∷◌, Option, Some, None, is_some, unwrap_or, option_map, option_and_then, if◌then◌else◌}
use Rattle.std.specs.Option.{option_or}
use Rattle.pe_base.specs.declared.limits.TheConstants.{EMBARGO_DISMISSALS, EMBARGO_SPAN}
use Rattle.pe_base.specs.declared.state.State.{State}
use Rattle.pe_base.specs.declared.state.State.TheVariants as state
use Rattle.pe_features.specs.declared.feature.Feature.{Feature}
use Rattle.pe_features.specs.declared.feature.KeyKind.{KeyKind}
use Rattle.pe_features.specs.declared.feature.KeyKind.TheVariants as kind
use Rattle.pe_features.specs.Features.{feature_named, key_of}
use Rattle.pe_origin.specs.declared.origin.Origin.{Origin}
use Rattle.pe_origin.specs.declared.origin.Origin.TheVariants as origin
use Rattle.pe_store.specs.declared.key.Key.{Key}
use Rattle.pe_store.specs.declared.key.Key.TheVariants as key
use Rattle.pe_store.specs.declared.key.Life.{Life}
use Rattle.pe_store.specs.declared.key.Life.TheVariants as life
use Rattle.pe_store.specs.Pairs.{Pair, is_same_pair}
use Rattle.pe_events.specs.declared.event.Event.{Event}
use Rattle.pe_events.specs.declared.event.Event.TheVariants as event
use Rattle.pe_events.specs.declared.event.EventLife.{EventLife}
use Rattle.pe_events.specs.declared.event.EventLife.TheVariants as given
use Rattle.pe_events.specs.declared.event.Outcome.{Outcome}
use Rattle.pe_events.specs.declared.event.Outcome.TheVariants as outcome
use Rattle.pe_rules.specs.History.{Step, RepliedHistory, some_if, step_at, clock}
use Rattle.pe_rules.specs.Embedders.{top_document, page}
use Rattle.pe_rules.specs.Current.{is_current, document_in}
use Rattle.pe_rules.specs.Origins.{origin_of, place_or_none}

-- the key of a kind, of the origins of a top document and of a document of its page
abbrev pub key_by_kind : KeyKind → Origin → Origin → Key
key_by_kind kind.Single top own = key.One top
key_by_kind kind.Pair top own = key.Pair top own

-- the permission key of a feature for a document; none for a feature without a permission
unfoldable pub key_for : RepliedHistory → ℕ → Feature → Option Key
key_for T d feature = option_map (λ k. key_by_kind k (origin_of T (top_document T d)) (origin_of T d)) (key_of feature)

-- the pair of a feature for a document
unfoldable pub pair_for : RepliedHistory → ℕ → Feature → Option Pair
pair_for T d feature = option_map (λ k. (feature, k)) (key_for T d feature)

-- the document that an event asks a permission for, with the feature
abbrev pub asking : Event → RepliedHistory → Option (ℕ × Feature)
asking (event.Request frame feature) B = option_and_then (λ d. option_map (λ f. (d, f)) (feature_named feature)) (document_in B frame)
asking e B = None

-- the pair of a prompt: that of the document and the feature of its request
unfoldable pub prompt_pair : RepliedHistory → ℕ → Option Pair
prompt_pair T k = option_and_then (λ a. option_and_then (λ q. pair_for a.1 q.0 q.1) (asking a.0.event a.1)) (step_at T k)

-- the page of a prompt: that of its request's document
unfoldable pub prompt_page : RepliedHistory → ℕ → Option ℕ
prompt_page T k = option_and_then (λ a. option_map (λ q. page a.1 q.0) (asking a.0.event a.1)) (step_at T k)

-- a setting of a pair
pub record Setting : Type 0 where
  pub pair : Pair
  pub state : State
  pub life : Life

-- the tuple origin of an origin word
abbrev pub word_origin : List ℕ → Option Origin
word_origin text = option_map origin.Tuple (place_or_none text).tuple

-- the key that one origin word or two name
abbrev pub key_of_words : Origin → Option Origin → Key
key_of_words first None = key.One first
key_of_words first (Some second) = key.Pair first second

-- the life of a setting that is made for a span, or forever
abbrev pub life_for : ℕ → Option ℕ → Life
life_for time None = life.Forever
life_for time (Some ms) = life.Until (time + ms)

-- the life of an answer: of once, while the top document of the prompt's page is current; of no such document, which no accepted answer has, a life that ended
abbrev pub life_of_answer : ℕ → EventLife → Option ℕ → Life
life_of_answer time given.Forever top = life.Forever
life_of_answer time (given.For ms) top = life.Until (time + ms)
life_of_answer time given.Once (Some top) = life.Page top
life_of_answer time given.Once None = life.Until 0

-- the state that an outcome names; a dismissal names none, and what the third in a row stores is the embargo's
abbrev pub stored_by_outcome : Outcome → Option State
stored_by_outcome outcome.Allow = Some state.Granted
stored_by_outcome outcome.Block = Some state.Denied
stored_by_outcome outcome.Dismiss = None

-- the setting that a `set`, or an answer that allows or blocks, makes at this time, after these steps
unfoldable pub setting_named : ℕ → Event → RepliedHistory → Option Setting
setting_named time (event.SetState feature first second state span) B =
    option_and_then (λ f. option_map (λ o. record { pair = (f, key_of_words o (option_and_then word_origin second)); state = state; life = life_for time span }) (word_origin first)) (feature_named feature)
setting_named time (event.Answered prompt out given) B =
    option_and_then (λ state. option_map (λ pair. record { pair = pair; state = state; life = life_of_answer time given (option_and_then (document_in B) (prompt_page B prompt)) }) (prompt_pair B prompt)) (stored_by_outcome out)
setting_named time e B = None

-- a life holds at a time
unfoldable pub holds : RepliedHistory → ℕ → Life → Bool
holds T now life.Forever = true
holds T now (life.Until end) = nat_lt now end
holds T now (life.Page d) = is_current T d

-- ---- dismissals and the embargo

-- what stands for a pair: its last setting, and how many dismissals of it counted since, or ever where there is none
pub record Standing : Type 0 where
  pub last : Option Setting
  pub dismissals : ℕ

-- the state that a last setting stores at a time: its own, while its life holds
unfoldable pub stored_by : RepliedHistory → ℕ → Option Setting → Option State
stored_by T now last = option_and_then (λ x. some_if (holds T now x.life) x.state) last

-- nothing or prompt is stored
abbrev pub is_undecided : Option State → Bool
is_undecided None = true
is_undecided (Some state.Prompt) = true
is_undecided other = false

-- the pair of the prompt that the event dismisses
abbrev pub dismissed_pair : Event → RepliedHistory → Option Pair
dismissed_pair (event.Answered prompt outcome.Dismiss given) B = prompt_pair B prompt
dismissed_pair e B = None

-- a dismissal of a pair counts where nothing or prompt is stored for it at that time
unfoldable pub counts : RepliedHistory → ℕ → Standing → Bool
counts B time before = is_undecided (stored_by B time before.last)

-- the setting of an embargo: denied for its span
abbrev pub embargo : ℕ → Pair → Setting
embargo time pair = record { pair = pair; state = state.Denied; life = life.Until (time + EMBARGO_SPAN) }

-- one more dismissal that counts is an embargo
abbrev pub completes_embargo : Standing → Bool
completes_embargo before = nat_le EMBARGO_DISMISSALS (before.dismissals + 1)

-- what stands for a pair after one more dismissal that counts
abbrev pub after_dismissal : ℕ → Pair → Standing → Standing
after_dismissal time pair before =
    if completes_embargo before then record { last = Some (embargo time pair); dismissals = 0 }
    else record { last = before.last; dismissals = before.dismissals + 1 }

-- the pair is this one
abbrev pub is_pair : Option Pair → Pair → Bool
is_pair named pair = unwrap_or (option_map (λ p. is_same_pair p pair) named) false

-- what stands for a pair after a step that makes no setting of it by name
unfoldable pub after_unnamed : Step → RepliedHistory → Pair → Standing → Standing
after_unnamed s B pair before =
    if is_pair (dismissed_pair s.event B) pair && counts B s.time before then after_dismissal s.time pair before else before

-- what stands for a pair after a step: a setting starts the count anew
unfoldable pub after_step : Step → RepliedHistory → Pair → Standing → Standing
after_step s B pair before =
    unwrap_or (option_map (λ x. record { last = Some x; dismissals = 0 }) (option_and_then (λ x. some_if (is_same_pair x.pair pair) x) (setting_named s.time s.event B))) (after_unnamed s B pair before)

-- what stands for a pair
unfoldable pub standing_of : RepliedHistory → Pair → Standing
standing_of [] pair = record { last = None; dismissals = 0 }
standing_of (s ∷ T) pair = let before = standing_of T pair in after_step s T pair before

-- the last setting of a pair, by name or as an embargo, also where its life ended
unfoldable pub last_setting : RepliedHistory → Pair → Option Setting
last_setting T pair = (standing_of T pair).last

-- how many dismissals of a pair counted since its last setting
unfoldable pub dismissals : RepliedHistory → Pair → ℕ
dismissals T pair = (standing_of T pair).dismissals

-- the embargo that a dismissal of this pair makes at this time, after these steps
unfoldable pub embargo_for : ℕ → RepliedHistory → Pair → Option Setting
embargo_for time B pair = let before = standing_of B pair in some_if (counts B time before && completes_embargo before) (embargo time pair)

-- the setting that the event makes at this time, after these steps: by name, or as an embargo
unfoldable pub setting_by : ℕ → Event → RepliedHistory → Option Setting
setting_by time e B = option_or (setting_named time e B) (option_and_then (embargo_for time B) (dismissed_pair e B))

-- ---- what is stored

-- the stored state of a pair at a time: that of its last setting while its life holds; no earlier setting is looked at
unfoldable pub stored_state : RepliedHistory → ℕ → Pair → Option State
stored_state T now pair = stored_by T now (last_setting T pair)

-- the pair has an entry: something is stored at the clock
unfoldable pub has_entry : RepliedHistory → Pair → Bool
has_entry T pair = is_some (stored_state T (clock T) pair)
