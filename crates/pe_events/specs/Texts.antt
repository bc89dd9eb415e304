-- The lines that are written: answers, refusals and changes.
-- The texts are this project's own format.
-- Each line ends with a line feed.
use Rattle.std.specs.Prelude.{ℕ, Bool, true, false, List, [], ◌∷◌, ◌++◌, map, codes, decimal, zip}
use Rattle.std.specs.List.{concat}
use Rattle.pe_base.specs.declared.denial.Denial.{Denial}
use Rattle.pe_base.specs.declared.denial.LinkRule.{LinkRule}
use Rattle.pe_base.specs.declared.denial.LinkRule.TheVariants as rule
use Rattle.pe_base.specs.declared.state.State.{State}
use Rattle.pe_base.specs.declared.state.State.TheVariants as state
use Rattle.pe_features.specs.declared.feature.Feature.{Feature}
use Rattle.pe_features.specs.Features.{all_features, feature_name}
use Rattle.pe_origin.specs.Origins.{origin_text}
use Rattle.pe_events.specs.declared.answer.Answer.{Answer}
use Rattle.pe_events.specs.declared.answer.Answer.TheVariants as answer
use Rattle.pe_events.specs.declared.answer.Change.{Change}
use Rattle.pe_events.specs.declared.cause.Cause.{Cause}
use Rattle.pe_events.specs.declared.cause.Cause.TheVariants as cause
use Rattle.pe_events.specs.declared.reason.Reason.{Reason}
use Rattle.pe_events.specs.declared.reason.Reason.TheVariants as reason

-- a permission state
abbrev pub state_text : State → List ℕ
state_text state.Granted = codes "granted"
state_text state.Denied = codes "denied"
state_text state.Prompt = codes "prompt"

-- a test of Permissions Policy
abbrev pub rule_text : LinkRule → List ℕ
rule_text rule.EmbedderSelf = codes "embedder-self"
rule_text rule.EmbedderHeader = codes "embedder-header"
rule_text rule.Allow = codes "allow"
rule_text rule.Default = codes "default"
rule_text rule.OwnHeader = codes "own-header"

-- the test that failed, and the document that it names
abbrev pub denial_text : Denial → List ℕ
denial_text denial = rule_text denial.rule ++ codes " d" ++ decimal denial.at

-- why a use, a post, a history action or a question on the policy is denied
abbrev pub reason_text : Reason → List ℕ
reason_text reason.Insecure = codes "insecure"
reason_text (reason.Policy denial) = denial_text denial
reason_text reason.PermissionDenied = codes "permission-denied"
reason_text reason.PermissionPrompt = codes "permission-prompt"
reason_text reason.NoSticky = codes "no-sticky"
reason_text reason.NoTransient = codes "no-transient"
reason_text reason.TargetAny = codes "target-any"
reason_text reason.NoHistory = codes "no-history"

-- why a line is refused
abbrev pub cause_text : Cause → List ℕ
cause_text cause.LineTooLong = codes "line-too-long"
cause_text cause.BadByte = codes "bad-byte"
cause_text cause.Syntax = codes "syntax"
cause_text cause.LimitEvents = codes "limit-events"
cause_text cause.TimeBack = codes "time-back"
cause_text cause.Unknown = codes "unknown"
cause_text cause.Settled = codes "settled"
cause_text cause.Closed = codes "closed"
cause_text cause.NotShown = codes "not-shown"
cause_text cause.Url = codes "url"
cause_text cause.Feature = codes "feature"
cause_text cause.Call = codes "call"
cause_text cause.Capability = codes "capability"
cause_text cause.OtherPage = codes "other-page"
cause_text cause.LimitPages = codes "limit-pages"
cause_text cause.LimitDepth = codes "limit-depth"
cause_text cause.LimitFrames = codes "limit-frames"
cause_text cause.LimitStatuses = codes "limit-statuses"
cause_text cause.LimitPending = codes "limit-pending"
cause_text cause.LimitStore = codes "limit-store"

-- yes or no
abbrev pub yes_or_no : Bool → List ℕ
yes_or_no true = codes "yes"
yes_or_no false = codes "no"

-- a space and the name of a feature that is allowed
abbrev pub allowed_name : Feature → Bool → List ℕ
allowed_name feature true = codes " " ++ feature_name feature
allowed_name feature false = []

-- the names of the features that are allowed, each behind a space
abbrev pub allowed_names : List Bool → List ℕ
allowed_names allowed = concat (map (λ pair. allowed_name pair.0 pair.1) (zip all_features allowed))

-- the words of an answer
unfoldable pub answer_words : Answer → List ℕ
answer_words (answer.FrameMade frame doc origin) = codes "frame f" ++ decimal frame ++ codes " doc d" ++ decimal doc ++ codes " " ++ origin_text origin
answer_words (answer.DocMade doc origin) = codes "doc d" ++ decimal doc ++ codes " " ++ origin_text origin
answer_words answer.Done = codes "ok"
answer_words (answer.Activated count) = codes "activated " ++ decimal count
answer_words answer.Ignored = codes "ignored"
answer_words (answer.Activity sticky transient) = codes "sticky " ++ yes_or_no sticky ++ codes " transient " ++ yes_or_no transient
answer_words answer.Allowed = codes "allowed"
answer_words (answer.Denied why) = codes "denied " ++ reason_text why
answer_words (answer.Names allowed) = codes "features" ++ allowed_names allowed
answer_words (answer.StatusMade status shown) = codes "status s" ++ decimal status ++ codes " " ++ state_text shown
answer_words (answer.Stated found) = state_text found
answer_words (answer.PromptMade prompt) = codes "prompt p" ++ decimal prompt
answer_words (answer.PromptJoined prompt) = codes "joined p" ++ decimal prompt
answer_words (answer.Settled count decided) = codes "settled " ++ decimal count ++ codes " " ++ state_text decided
answer_words (answer.MessageMade message) = codes "message m" ++ decimal message
answer_words answer.Delivered = codes "delivered"
answer_words answer.DroppedGone = codes "dropped gone"
answer_words answer.DroppedOther = codes "dropped other-origin"
answer_words (answer.Refused why) = codes "refused " ++ cause_text why

-- the line of an answer: the number of its script line, a space, its words
unfoldable pub answer_text : ℕ → Answer → List ℕ
answer_text number answer = decimal number ++ codes " " ++ answer_words answer ++ 10 ∷ []

-- the line of a change: `@` and the time, the status, its state
unfoldable pub change_text : Change → List ℕ
change_text change = codes "@" ++ decimal change.time ++ codes " s" ++ decimal change.status ++ codes " " ++ state_text change.state ++ 10 ∷ []
