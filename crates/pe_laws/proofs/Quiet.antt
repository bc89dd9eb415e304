-- What stays of stamps and of what stands for pairs, where the table of effects says no.
use Rattle.std.proofs.Common.{◌≡◌, ℕ, false, ◌∷◌, None, refl, sym, ◌∙◌, ap}
use Rattle.pe_base.specs.Activation.{is_transient, is_history_active}
use Rattle.pe_store.specs.Pairs.{Pair}
use Rattle.pe_events.specs.declared.event.Event.{Event}
use Rattle.pe_events.specs.declared.event.Event.TheVariants as event
use Rattle.pe_events.specs.declared.event.Outcome.TheVariants as outcome
use Rattle.pe_rules.specs.History.{StepAnswer, Step, RepliedHistory, newest_answer}
use Rattle.pe_rules.specs.Embedders.{page}
use Rattle.pe_rules.specs.Activation.{activates, consumes_by, consumes, last_activation, has_sticky, has_transient, stamp_of}
use Rattle.pe_rules.specs.HistoryActivation.{consumes_history_by, consumes_history, second_stamp_of, has_history_activation}
use Rattle.pe_rules.specs.Settings.{Standing, setting_named, dismissed_pair, setting_by, after_unnamed, after_step, standing_of, last_setting, dismissals}
use Rattle.pe_laws.specs.Effects.{effects}
use Rattle.pe_laws.specs.EffectsLaws.{effects_of}
use Rattle.pe_laws.proofs.Stamps.{stamp-step, transient-by-stamp}
use Rattle.pe_laws.proofs.SecondStamps.{second-step, active-by-stamps}

-- ---- a step that activates nothing, or consumes nothing

activates-by : (e : Event) (item : StepAnswer) (T : RepliedHistory) (d : ℕ) → (effects e item).activates ≡ false → activates e T d ≡ false
unfolding activates
activates-by (event.Input frame kind) item T d h = rw h refl
activates-by e item T d h = refl

pub activates-none : (s : Step) (T : RepliedHistory) (d : ℕ) → (effects_of s).activates ≡ false → activates s.event T d ≡ false
activates-none s T d h = activates-by s.event s.item T d h

consumes-by-none : (e : Event) (item : StepAnswer) (T : RepliedHistory) (top : ℕ) → (effects e item).consumes ≡ false → consumes_by e item T top ≡ false
consumes-by-none (event.UseCall frame call) item T top h = rw h refl
consumes-by-none (event.Post sender target named capability) item T top h = rw h refl
consumes-by-none e item T top h = refl

pub consumes-none : (s : Step) (T : RepliedHistory) (top : ℕ) → (effects_of s).consumes ≡ false → consumes s T top ≡ false
unfolding consumes
consumes-none s T top h = consumes-by-none s.event s.item T top h

pub stamp-stays : (s : Step) (T : RepliedHistory) (d : ℕ) → (effects_of s).activates ≡ false → (effects_of s).consumes ≡ false → stamp_of (s ∷ T) d ≡ stamp_of T d
stamp-stays s T d h g = stamp-step s T d ∙ rw (activates-none s T d h, consumes-none s T (page T d) g) refl

pub transient-stays : (s : Step) (duration : ℕ) (T : RepliedHistory) (now d : ℕ) → (effects_of s).activates ≡ false → (effects_of s).consumes ≡ false
    → has_transient duration (s ∷ T) now d ≡ has_transient duration T now d
transient-stays s duration T now d h g =
    transient-by-stamp duration (s ∷ T) now d ∙ ap (is_transient duration now) (stamp-stays s T d h g) ∙ sym (transient-by-stamp duration T now d)

-- consuming leaves sticky activation
pub sticky-stays : (s : Step) (T : RepliedHistory) (d : ℕ) → (effects_of s).activates ≡ false → has_sticky (s ∷ T) d ≡ has_sticky T d
unfolding has_sticky last_activation newest_answer
sticky-stays s T d h = rw (activates-none s T d h) refl

-- ---- a step that does not act on the history

history-by-none : (e : Event) (item : StepAnswer) (T : RepliedHistory) (top : ℕ) → (effects e item).acts_on_history ≡ false → consumes_history_by e item T top ≡ false
history-by-none (event.History frame) item T top h = rw h refl
history-by-none e item T top h = refl

pub history-none : (s : Step) (T : RepliedHistory) (top : ℕ) → (effects_of s).acts_on_history ≡ false → consumes_history s T top ≡ false
unfolding consumes_history
history-none s T top h = history-by-none s.event s.item T top h

pub second-stays : (s : Step) (T : RepliedHistory) (d : ℕ) → (effects_of s).acts_on_history ≡ false → second_stamp_of (s ∷ T) d ≡ second_stamp_of T d
second-stays s T d h = second-step s T d ∙ rw (history-none s T (page T d) h) refl

pub history-active-stays : (s : Step) (T : RepliedHistory) (d : ℕ) → (effects_of s).activates ≡ false → (effects_of s).consumes ≡ false → (effects_of s).acts_on_history ≡ false
    → has_history_activation (s ∷ T) d ≡ has_history_activation T d
history-active-stays s T d h g k =
    active-by-stamps (s ∷ T) d
    ∙ ap (λ x. is_history_active x (second_stamp_of (s ∷ T) d)) (stamp-stays s T d h g)
    ∙ ap (is_history_active (stamp_of T d)) (second-stays s T d k)
    ∙ sym (active-by-stamps T d)

-- ---- a step that neither sets nor dismisses

unset : (time : ℕ) (e : Event) (item : StepAnswer) (T : RepliedHistory) → (effects e item).sets ≡ false → setting_named time e T ≡ None
unfolding setting_named
unset time (event.SetState feature first second state span) item T h = cc
unset time (event.Answered prompt outcome.Allow given) item T h = cc
unset time (event.Answered prompt outcome.Block given) item T h = cc
unset time e item T h = refl

undismissed : (e : Event) (item : StepAnswer) (T : RepliedHistory) → (effects e item).dismisses ≡ false → dismissed_pair e T ≡ None
undismissed (event.Answered prompt outcome.Dismiss given) item T h = cc
undismissed e item T h = refl

pub named-none : (s : Step) (T : RepliedHistory) → (effects_of s).sets ≡ false → setting_named s.time s.event T ≡ None
named-none s T h = unset s.time s.event s.item T h

pub dismissed-none : (s : Step) (T : RepliedHistory) → (effects_of s).dismisses ≡ false → dismissed_pair s.event T ≡ None
dismissed-none s T h = undismissed s.event s.item T h

pub setting-none : (s : Step) (T : RepliedHistory) → (effects_of s).sets ≡ false → (effects_of s).dismisses ≡ false → setting_by s.time s.event T ≡ None
unfolding setting_by
setting-none s T h g = rw (named-none s T h, dismissed-none s T g) refl

pub standing-stays : (s : Step) (T : RepliedHistory) (p : Pair) → (effects_of s).sets ≡ false → (effects_of s).dismisses ≡ false → standing_of (s ∷ T) p ≡ standing_of T p
unfolding standing_of after_step after_unnamed
standing-stays s T p h g = rw (named-none s T h, dismissed-none s T g) refl

pub last-setting-stays : (s : Step) (T : RepliedHistory) (p : Pair) → (effects_of s).sets ≡ false → (effects_of s).dismisses ≡ false → last_setting (s ∷ T) p ≡ last_setting T p
unfolding last_setting
last-setting-stays s T p h g = ap (λ (x : Standing). x.last) (standing-stays s T p h g)

pub dismissals-stay : (s : Step) (T : RepliedHistory) (p : Pair) → (effects_of s).sets ≡ false → (effects_of s).dismisses ≡ false → dismissals (s ∷ T) p ≡ dismissals T p
unfolding dismissals
dismissals-stay s T p h g = ap (λ (x : Standing). x.dismissals) (standing-stays s T p h g)
