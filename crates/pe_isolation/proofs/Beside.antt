-- What a step beside a page does not do: it changes nothing of the page's user activation, of its messages and of what its documents hold by them.
use Rattle.std.proofs.Common.{◌≡◌, ℕ, Bool, true, false, not, ◌&&◌, ◌==◌, IsTrue, List, Option, Some, None, unwrap_or, option_map, option_and_then, refl, sym, ◌∙◌, ap, subst}
use Rattle.pe_base.specs.Activation.{triggers}
use Rattle.pe_features.specs.Capabilities.{capability_named}
use Rattle.pe_features.specs.declared.capability.Capability.{Capability}
use Rattle.pe_events.specs.declared.event.Event.{Event}
use Rattle.pe_events.specs.declared.event.Event.TheVariants as event
use Rattle.pe_base.specs.declared.input.InputKind.{InputKind}
use Rattle.pe_rules.specs.History.{StepAnswer, RepliedHistory, History, some_if}
use Rattle.pe_rules.specs.Numbering.{makes_message, makes_prompt}
use Rattle.pe_rules.specs.Making.{frame_of}
use Rattle.pe_rules.specs.Embedders.{page, page_of_frame}
use Rattle.pe_rules.specs.Current.{is_current, document_in}
use Rattle.pe_rules.specs.Settings.{word_origin}
use Rattle.pe_rules.specs.Activation.{reaches, activates, is_by_transient, is_consuming_call, consumes_by}
use Rattle.pe_rules.specs.HistoryActivation.{is_allowance, consumes_history_by}
use Rattle.pe_rules.specs.Delegation.{Message, message_by, message, is_same_capability, is_delivery_of, is_delivered, hands_over, is_by_delegated, is_call_of, spends}
use Rattle.pe_rules.specs.Replies.{replied, is_regular}
use Rattle.pe_rules.specs.Muting.{is_other_page, is_foreign}
use Rattle.pe_laws.specs.HistoryLaws.{HistoryLaws}
use Rattle.pe_isolation.proofs.Alike.{is_quiet}
use Rattle.pe_isolation.proofs.Quiet.{and-false}
use Rattle.pe_isolation.proofs.Pages.{same-numbers, not-this, other-page, shown-page, reaches-page}
use Rattle.pe_isolation.proofs.Posted.{message-page}

-- the message, where it is one of the page
abbrev pub own : ℕ → Option Message → Option Message
own top o = option_and_then (λ (x : Message). some_if (x.page == top) x) o

-- there is such a message
abbrev pub is_own : ℕ → Option Message → Bool
is_own top o = unwrap_or (option_map (λ (x : Message). x.page == top) o) false

-- what a step beside the page does not do
pub record IsBeside (top : ℕ) (e : Event) (item : StepAnswer) (T : RepliedHistory) : Type 0 where
  pub quiet : is_quiet e ≡ true
  pub silent : makes_prompt item ≡ false
  pub activates : (d : ℕ) → page T d ≡ top → activates e T d ≡ false
  pub consumes : consumes_by e item T top ≡ false
  pub history : consumes_history_by e item T top ≡ false
  pub posts : own top (message_by e T) ≡ None
  pub delivers : (m : ℕ) → is_delivery_of e m ≡ true → is_own top (message T m) ≡ false
  pub hands : (d : ℕ) (capability : Capability) → page T d ≡ top → hands_over e item T d capability ≡ false
  pub spends : (d : ℕ) (capability : Capability) → is_current T d ≡ true → page T d ≡ top → spends e item (frame_of T d) capability ≡ false

-- a tick is beside every page, and so is a question for user activation
pub tick-beside : (top : ℕ) (item : StepAnswer) (T : RepliedHistory) → makes_prompt item ≡ false → IsBeside top event.Tick item T
unfolding activates
tick-beside top item T silent = record {
  quiet = refl;
  silent = silent;
  activates = λ d h. refl;
  consumes = refl;
  history = refl;
  posts = refl;
  delivers = λ m h. cc;
  hands = λ d capability h. refl;
  spends = λ d capability current h. refl;
}

pub ask-beside : (top frame : ℕ) (item : StepAnswer) (T : RepliedHistory) → makes_prompt item ≡ false → IsBeside top (event.Ask frame) item T
unfolding activates
ask-beside top frame item T silent = record {
  quiet = refl;
  silent = silent;
  activates = λ d h. refl;
  consumes = refl;
  history = refl;
  posts = refl;
  delivers = λ m h. cc;
  hands = λ d capability h. refl;
  spends = λ d capability current h. refl;
}

-- ---- messages of other pages

-- what is posted from another page is no message of this one
foreign-post : (top : ℕ) (T : RepliedHistory) (sender target : ℕ) (named : Option (List ℕ)) (capability : List ℕ) → is_other_page (page_of_frame T sender) top ≡ true
    → own top (message_by (event.Post sender target named capability) T) ≡ None
foreign-post top T sender target named capability other = by_target (document_in T target)
  where
    by_name : (d p : ℕ) → (p == top) ≡ false → (o : Option Capability) → own top (option_map (λ c. record { page = p; target = d; origin = option_and_then word_origin named; capability = c }) o) ≡ None
    by_name d p fails None = refl
    by_name d p fails (Some c) = rw fails refl

    by_page : (d : ℕ) (o : Option ℕ) → unwrap_or (option_map (λ p. p == top) o) false ≡ false
        → own top (option_and_then (λ p. option_map (λ c. record { page = p; target = d; origin = option_and_then word_origin named; capability = c }) (capability_named capability)) o) ≡ None
    by_page d None fails = refl
    by_page d (Some p) fails = by_name d p fails (capability_named capability)

    by_target : (o : Option ℕ)
        → own top (option_and_then (λ d. option_and_then (λ p. option_map (λ c. record { page = p; target = d; origin = option_and_then word_origin named; capability = c }) (capability_named capability)) (page_of_frame T sender)) o) ≡ None
    by_target None = refl
    by_target (Some d) = by_page d (page_of_frame T sender) (not-this (page_of_frame T sender) top other)

foreign-message : (top : ℕ) (o : Option Message) → is_other_page (option_map (λ x. x.page) o) top ≡ true → is_own top o ≡ false
foreign-message top None h = refl
foreign-message top (Some x) h = not-this (Some x.page) top h

-- ---- the steps that are muted

module _ (laws : HistoryLaws) (duration top : ℕ) (H : History) (regular : IsTrue (is_regular duration H)) where
  input-other : (frame : ℕ) (kind : InputKind) (d : ℕ) → is_other_page (page_of_frame (replied duration H) frame) top ≡ true → page (replied duration H) d ≡ top → activates (event.Input frame kind) (replied duration H) d ≡ false
  unfolding activates
  input-other frame kind d other here = ap (λ b. triggers kind && b) (by_shown (document_in (replied duration H) frame) refl) ∙ and-false (triggers kind)
    where
      by_reach : (c : ℕ) → document_in (replied duration H) frame ≡ Some c → (b : Bool) → reaches (replied duration H) c d ≡ b → b ≡ false
      by_reach c at true is = absurd (other-page (page (replied duration H) c) (page_of_frame (replied duration H) frame) top (shown-page (replied duration H) frame c at) other (reaches-page laws (replied duration H) c d is ∙ here))
      by_reach c at false is = refl

      by_shown : (o : Option ℕ) → document_in (replied duration H) frame ≡ o → unwrap_or (option_map (λ c. reaches (replied duration H) c d) o) false ≡ false
      by_shown None at = refl
      by_shown (Some c) at = by_reach c at (reaches (replied duration H) c d) refl

  delivery-other : (m d : ℕ) (item : StepAnswer) (capability : Capability) → is_own top (message (replied duration H) m) ≡ false → page (replied duration H) d ≡ top → hands_over (event.Deliver m) item (replied duration H) d capability ≡ false
  delivery-other m d item capability not_own here = ap (λ b. is_delivered item && b) (by_message (message (replied duration H) m) refl not_own) ∙ and-false (is_delivered item)
    where
      by_target : (x : Message) → message (replied duration H) m ≡ Some x → (x.page == top) ≡ false → (b : Bool) → (x.target == d) ≡ b → (b && is_same_capability x.capability capability) ≡ false
      by_target x at other true is =
          let one : x.page ≡ top = message-page laws duration H regular m x at ∙ ap (page (replied duration H)) (same-numbers x.target d is) ∙ here in
          let unlike : (top == top) ≡ false = subst (λ p. (p == top) ≡ false) one other in
          absurd (other-page top (Some top) top refl (ap not unlike) refl)
      by_target x at other false is = refl

      by_message : (o : Option Message) → message (replied duration H) m ≡ o → is_own top o ≡ false → unwrap_or (option_map (λ x. x.target == d && is_same_capability x.capability capability) o) false ≡ false
      by_message None at other = refl
      by_message (Some x) at other = by_target x at other (x.target == d) refl

  use-other : (frame : ℕ) (call : List ℕ) (item : StepAnswer) (d : ℕ) (capability : Capability) → is_other_page (page_of_frame (replied duration H) frame) top ≡ true → is_current (replied duration H) d ≡ true → page (replied duration H) d ≡ top
      → spends (event.UseCall frame call) item (frame_of (replied duration H) d) capability ≡ false
  use-other frame call item d capability other current here = by_frame (frame == frame_of (replied duration H) d) refl
    where
      by_frame : (b : Bool) → (frame == frame_of (replied duration H) d) ≡ b → (is_by_delegated item && b && is_call_of call capability) ≡ false
      by_frame true is =
          let shown : document_in (replied duration H) frame ≡ Some d = ap (document_in (replied duration H)) (same-numbers frame (frame_of (replied duration H) d) is) ∙ laws.current.shown_in_frame duration H d regular current in
          absurd (other-page (page (replied duration H) d) (page_of_frame (replied duration H) frame) top (shown-page (replied duration H) frame d shown) other here)
      by_frame false is = rest (is_by_delegated item)
        where
          rest : (b : Bool) → (b && false && is_call_of call capability) ≡ false
          rest true = refl
          rest false = refl

  none-of : (b : Bool) (o : Option ℕ) → is_other_page o top ≡ true → (b && unwrap_or (option_map (λ p. p == top) o) false) ≡ false
  none-of b o other = ap (λ x. b && x) (not-this o top other) ∙ and-false b

  -- a step that is muted is beside the page
  pub foreign-beside : (e : Event) (item : StepAnswer) → makes_prompt item ≡ false → is_foreign (replied duration H) top e ≡ true → IsBeside top e item (replied duration H)
  unfolding is_foreign activates
  foreign-beside (event.Input frame kind) item silent other = record {
    quiet = refl;
    silent = silent;
    activates = λ d h. input-other frame kind d other h;
    consumes = refl;
    history = refl;
    posts = refl;
    delivers = λ m h. cc;
    hands = λ d capability h. refl;
    spends = λ d capability current h. refl;
  }
  foreign-beside (event.History frame) item silent other = record {
    quiet = refl;
    silent = silent;
    activates = λ d h. refl;
    consumes = refl;
    history = none-of (is_allowance item) (page_of_frame (replied duration H) frame) other;
    posts = refl;
    delivers = λ m h. cc;
    hands = λ d capability h. refl;
    spends = λ d capability current h. refl;
  }
  foreign-beside (event.UseCall frame call) item silent other = record {
    quiet = refl;
    silent = silent;
    activates = λ d h. refl;
    consumes = none-of (is_by_transient item && is_consuming_call call) (page_of_frame (replied duration H) frame) other;
    history = refl;
    posts = refl;
    delivers = λ m h. cc;
    hands = λ d capability h. refl;
    spends = λ d capability current h. use-other frame call item d capability other current h;
  }
  foreign-beside (event.Post sender target named capability) item silent other = record {
    quiet = refl;
    silent = silent;
    activates = λ d h. refl;
    consumes = none-of (makes_message item) (page_of_frame (replied duration H) sender) other;
    history = refl;
    posts = foreign-post top (replied duration H) sender target named capability other;
    delivers = λ m h. cc;
    hands = λ d capability h. refl;
    spends = λ d capability current h. refl;
  }
  foreign-beside (event.Deliver n) item silent other = record {
    quiet = refl;
    silent = silent;
    activates = λ d h. refl;
    consumes = refl;
    history = refl;
    posts = refl;
    delivers = λ m h. ap (λ k. is_own top (message (replied duration H) k)) (sym (same-numbers n m h)) ∙ foreign-message top (message (replied duration H) n) other;
    hands = λ d capability h. delivery-other n d item capability (foreign-message top (message (replied duration H) n) other) h;
    spends = λ d capability current h. refl;
  }
  foreign-beside e item silent other = cc
