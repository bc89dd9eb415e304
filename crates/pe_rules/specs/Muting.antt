-- A history with the inputs, uses, posts, deliveries and history actions of other pages muted.
-- It is this project's own: it says what a page can learn of other pages.
-- A muted event leaves a tick at its time.
use Rattle.std.specs.Prelude.{ℕ, Bool, false, not, ◌==◌, [], ◌∷◌, Option, unwrap_or, option_map, if◌then◌else◌}
use Rattle.pe_events.specs.declared.event.Event.{Event}
use Rattle.pe_events.specs.declared.event.Event.TheVariants as event
use Rattle.pe_events.specs.Timed.{Timed}
use Rattle.pe_rules.specs.History.{RepliedHistory, History}
use Rattle.pe_rules.specs.Embedders.{page_of_frame}
use Rattle.pe_rules.specs.Delegation.{message}
use Rattle.pe_rules.specs.Replies.{replied}

-- the page is another one
abbrev pub is_other_page : Option ℕ → ℕ → Bool
is_other_page of_event top = not (unwrap_or (option_map (λ p. p == top) of_event) false)

-- the event is an input, a use, a post, a delivery or a history action of another page
unfoldable pub is_foreign : RepliedHistory → ℕ → Event → Bool
is_foreign T top (event.Input frame kind) = is_other_page (page_of_frame T frame) top
is_foreign T top (event.History frame) = is_other_page (page_of_frame T frame) top
is_foreign T top (event.UseCall frame call) = is_other_page (page_of_frame T frame) top
is_foreign T top (event.Post sender target named capability) = is_other_page (page_of_frame T sender) top
is_foreign T top (event.Deliver m) = is_other_page (option_map (λ x. x.page) (message T m)) top
is_foreign T top e = false

-- the event, or a tick at its time where it is foreign
unfoldable pub muted_event : RepliedHistory → ℕ → Timed → Timed
muted_event T top e = if is_foreign T top e.event then record { time = e.time; event = event.Tick } else e

-- the history with the other pages muted
unfoldable pub muted : ℕ → ℕ → History → History
muted duration top [] = []
muted duration top (e ∷ H) = muted_event (replied duration H) top e ∷ muted duration top H
