-- The first cause is that of the first part that has one.
use Rattle.std.proofs.Common.{◌≡◌, ℕ, Bool, true, false, not, ◌||◌, nat_le, nat_lt, length, Option, Some, None, refl, ◌∙◌, ap}
use Rattle.std.specs.Option.{option_or}
use Rattle.pe_base.specs.declared.limits.TheConstants.{EVENT_LIMIT}
use Rattle.pe_events.specs.declared.cause.Cause.{Cause}
use Rattle.pe_events.specs.declared.cause.Cause.TheVariants as cause
use Rattle.pe_events.specs.declared.event.Event.{Event}
use Rattle.pe_events.specs.declared.event.Event.TheVariants as event
use Rattle.pe_rules.specs.History.{RepliedHistory, some_if, clock}
use Rattle.pe_rules.specs.Causes.{cause_of, names_unknown, names_settled, names_closed, names_not_shown}
use Rattle.pe_rules.specs.Numbering.{is_frame}
use Rattle.pe_rules.specs.Current.{is_live}
use Rattle.pe_engine.specs.Causes.{time_cause, named_cause, other_cause, frame_named, names_nothing}

-- two tests before others
two : (a b : Bool) (x y : Cause) (rest : Option Cause) → option_or (some_if a x) (option_or (some_if b y) rest) ≡ option_or (option_or (some_if a x) (option_or (some_if b y) None)) rest
two true b x y rest = refl
two false true x y rest = refl
two false false x y rest = refl

four : (a b c d : Bool) (w x y z : Cause) (rest : Option Cause)
    → option_or (some_if a w) (option_or (some_if b x) (option_or (some_if c y) (option_or (some_if d z) rest)))
    ≡ option_or (option_or (some_if a w) (option_or (some_if b x) (option_or (some_if c y) (option_or (some_if d z) None)))) rest
four true b c d w x y z rest = refl
four false true c d w x y z rest = refl
four false false true d w x y z rest = refl
four false false false true w x y z rest = refl
four false false false false w x y z rest = refl

pub parts : (T : RepliedHistory) (now : ℕ) (e : Event) → cause_of T now e ≡ option_or (time_cause T now) (option_or (named_cause T e) (other_cause T now e))
unfolding cause_of time_cause named_cause other_cause
parts T now e =
    two (nat_le EVENT_LIMIT (length T)) (nat_lt now (clock T)) cause.LimitEvents cause.TimeBack _
    ∙ ap (option_or (time_cause T now)) (four (names_unknown T e) (names_settled T e) (names_closed T e) (names_not_shown T e) cause.Unknown cause.Settled cause.Closed cause.NotShown _)

pub first-time : (T : RepliedHistory) (now : ℕ) (e : Event) (why : Cause) → time_cause T now ≡ Some why → cause_of T now e ≡ Some why
first-time T now e why is = parts T now e ∙ ap (λ o. option_or o (option_or (named_cause T e) (other_cause T now e))) is

pub then-named : (T : RepliedHistory) (now : ℕ) (e : Event) (why : Cause) → time_cause T now ≡ None → named_cause T e ≡ Some why → cause_of T now e ≡ Some why
then-named T now e why none is = parts T now e ∙ ap (λ o. option_or o (option_or (named_cause T e) (other_cause T now e))) none ∙ ap (λ o. option_or o (other_cause T now e)) is

pub then-other : (T : RepliedHistory) (now : ℕ) (e : Event) → time_cause T now ≡ None → named_cause T e ≡ None → cause_of T now e ≡ other_cause T now e
then-other T now e none unnamed = parts T now e ∙ ap (λ o. option_or o (option_or (named_cause T e) (other_cause T now e))) none ∙ ap (λ o. option_or o (other_cause T now e)) unnamed

-- ---- the time

pub limit-events : (T : RepliedHistory) (now : ℕ) → nat_le EVENT_LIMIT (length T) ≡ true → time_cause T now ≡ Some cause.LimitEvents
unfolding time_cause
limit-events T now h = rw h refl

pub time-back : (T : RepliedHistory) (now : ℕ) → nat_le EVENT_LIMIT (length T) ≡ false → nat_lt now (clock T) ≡ true → time_cause T now ≡ Some cause.TimeBack
unfolding time_cause
time-back T now few h = rw (few, h) refl

pub in-time : (T : RepliedHistory) (now : ℕ) → nat_le EVENT_LIMIT (length T) ≡ false → nat_lt now (clock T) ≡ false → time_cause T now ≡ None
unfolding time_cause
in-time T now few h = rw (few, h) refl

-- ---- the frame that is named

-- an event that names one frame, and no other object
pub one-frame : (T : RepliedHistory) (e : Event) (f : ℕ) → frame_named e ≡ Some f
    → named_cause T e ≡ option_or (some_if (not (is_frame T f)) cause.Unknown) (option_or (some_if (not (is_live T f)) cause.Closed) None)
unfolding named_cause names_unknown names_settled names_closed names_not_shown
one-frame T e f is = by_event e is
  where
    by_tests : (f g : ℕ) → ◌≡◌ {A = Option ℕ} (Some f) (Some g)
        → option_or (some_if (not (is_frame T f) || false || false) cause.Unknown) (option_or (some_if (not (is_live T f) || false || false) cause.Closed) None)
        ≡ option_or (some_if (not (is_frame T g)) cause.Unknown) (option_or (some_if (not (is_live T g)) cause.Closed) None)
    by_tests f g is = let i : f ≡ g = cc in rw i (both (not (is_frame T g)) (not (is_live T g)))
      where
        both : (a b : Bool) → option_or (some_if (a || false || false) cause.Unknown) (option_or (some_if (b || false || false) cause.Closed) None)
            ≡ option_or (some_if a cause.Unknown) (option_or (some_if b cause.Closed) None)
        both true b = refl
        both false true = refl
        both false false = refl

    by_event : (e : Event) → frame_named e ≡ Some f
        → named_cause T e ≡ option_or (some_if (not (is_frame T f)) cause.Unknown) (option_or (some_if (not (is_live T f)) cause.Closed) None)
    by_event (event.Embed parent src place allow sandbox fullscreen srcdoc header) is = by_tests parent f is
    by_event (event.Navigate frame url header) is = by_tests frame f is
    by_event (event.Attr frame name value) is = by_tests frame f is
    by_event (event.Close frame) is = by_tests frame f is
    by_event (event.Input frame kind) is = by_tests frame f is
    by_event (event.Ask frame) is = by_tests frame f is
    by_event (event.History frame) is = by_tests frame f is
    by_event (event.PolicyOf frame feature) is = by_tests frame f is
    by_event (event.Features frame) is = by_tests frame f is
    by_event (event.UseCall frame call) is = by_tests frame f is
    by_event (event.Query frame feature) is = by_tests frame f is
    by_event (event.Request frame feature) is = by_tests frame f is
    by_event other is = cc

pub frame-unknown : (T : RepliedHistory) (e : Event) (f : ℕ) → frame_named e ≡ Some f → is_frame T f ≡ false → named_cause T e ≡ Some cause.Unknown
frame-unknown T e f is unmade = rw (one-frame T e f is, unmade) refl

pub frame-closed : (T : RepliedHistory) (e : Event) (f : ℕ) → frame_named e ≡ Some f → is_frame T f ≡ true → is_live T f ≡ false → named_cause T e ≡ Some cause.Closed
frame-closed T e f is made dead = rw (one-frame T e f is, made, dead) refl

pub frame-live : (T : RepliedHistory) (e : Event) (f : ℕ) → frame_named e ≡ Some f → is_frame T f ≡ true → is_live T f ≡ true → named_cause T e ≡ None
frame-live T e f is made live = rw (one-frame T e f is, made, live) refl

pub no-object : (T : RepliedHistory) (e : Event) → names_nothing e ≡ true → named_cause T e ≡ None
unfolding named_cause names_unknown names_settled names_closed names_not_shown
no-object T (event.OpenPage url header) is = refl
no-object T (event.SetState feature first second state span) is = refl
no-object T event.Tick is = refl
no-object T other is = cc
