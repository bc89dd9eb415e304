-- Which events are those of a page.
-- It is this project's own: an event is one of the page in which it acts, or of which it asks.
use Rattle.std.specs.Prelude.{◌≡◌, ℕ, Bool, false, ◌==◌, List, ◌∷◌, length, Option, None, unwrap_or, option_map, option_to_list}
use Rattle.pe_events.specs.declared.event.Event.{Event}
use Rattle.pe_events.specs.declared.event.Event.TheVariants as event
use Rattle.pe_rules.specs.History.{StepAnswer, RepliedHistory, some_if, all_answers}
use Rattle.pe_rules.specs.Embedders.{page, page_of_frame}
use Rattle.pe_rules.specs.Settings.{prompt_page}
use Rattle.pe_rules.specs.Delegation.{message}
use Rattle.pe_rules.specs.Muting.{is_other_page, is_foreign}
use Rattle.pe_laws.specs.StatusesLaws.{status_at}

-- the page of an event: that of the frame that it names, of the sender of a post, of the document of a status, of a prompt or of a message; the opening of a page, a setting and a tick have none
unfoldable pub page_of_event : RepliedHistory → Event → Option ℕ
page_of_event T (event.OpenPage url header) = None
page_of_event T (event.Embed parent src place allow sandbox fullscreen srcdoc header) = page_of_frame T parent
page_of_event T (event.Navigate frame url header) = page_of_frame T frame
page_of_event T (event.Attr frame name value) = page_of_frame T frame
page_of_event T (event.Close frame) = page_of_frame T frame
page_of_event T (event.Input frame kind) = page_of_frame T frame
page_of_event T (event.Ask frame) = page_of_frame T frame
page_of_event T (event.History frame) = page_of_frame T frame
page_of_event T (event.PolicyOf frame feature) = page_of_frame T frame
page_of_event T (event.Features frame) = page_of_frame T frame
page_of_event T (event.UseCall frame call) = page_of_frame T frame
page_of_event T (event.Query frame feature) = page_of_frame T frame
page_of_event T (event.DropStatus status) = option_map (λ x. page T x.document) (status_at T status)
page_of_event T (event.Request frame feature) = page_of_frame T frame
page_of_event T (event.Answered prompt out given) = prompt_page T prompt
page_of_event T (event.SetState feature first second state span) = None
page_of_event T (event.Post sender target named capability) = page_of_frame T sender
page_of_event T (event.Deliver m) = option_map (λ x. x.page) (message T m)
page_of_event T event.Tick = None

-- the event is one of the page
abbrev pub is_of_page : RepliedHistory → ℕ → Event → Bool
is_of_page T top e = unwrap_or (option_map (λ p. p == top) (page_of_event T e)) false

-- what was told of the events of a page, oldest first, each under its position
unfoldable pub page_answers : RepliedHistory → ℕ → List (ℕ × StepAnswer)
page_answers T top = all_answers (λ s B. option_to_list (some_if (is_of_page B top s.event) (length (s ∷ B), s.item))) T

-- the event asks for the user activation of another page
unfoldable pub asks_elsewhere : RepliedHistory → ℕ → Event → Bool
asks_elsewhere T top (event.Ask frame) = is_other_page (page_of_frame T frame) top
asks_elsewhere T top e = false

-- the event is not muted, nor does it ask for the user activation of another page: each event of the page is such a one, and so is each event that changes or reads documents, policies, permissions, statuses or prompts, of any page
pub record IsUnmuted (T : RepliedHistory) (top : ℕ) (e : Event) : Type 0 where
  pub own : is_foreign T top e ≡ false
  pub asked : asks_elsewhere T top e ≡ false
