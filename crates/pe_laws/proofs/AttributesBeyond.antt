-- Numbers that are not of a frame yet have no attributes.
use Rattle.std.proofs.Common.{◌≡◌, ◌≢◌, ℕ, suc, ◌<◌, ◌≤◌, Bool, true, false, not, ◌||◌, ◌==◌, [], ◌∷◌, length, None, refl, ◌∙◌, arith, true≢false}
use Rattle.std.proofs.lemmas.Bool.Decides.{nat_tests}
use Rattle.pe_events.specs.declared.event.AttrName.{AttrName}
use Rattle.pe_events.specs.declared.event.Event.{Event}
use Rattle.pe_events.specs.declared.event.Event.TheVariants as event
use Rattle.pe_rules.specs.History.{RepliedHistory, History, newest_answer}
use Rattle.pe_rules.specs.Numbering.{is_frame}
use Rattle.pe_rules.specs.Attributes.{attribute_by, attribute}
use Rattle.pe_rules.specs.Causes.{names_unknown}
use Rattle.pe_rules.specs.Replies.{replied, is_regular}
use Rattle.pe_laws.proofs.Attributes.{attribute-stays}
use Rattle.pe_laws.proofs.Numbering.{frame-within}
use Rattle.pe_laws.proofs.Steps.{regular-step}
use Rattle.pe_laws.proofs.Shown.{accepted-faultless}

beside : (a b : ℕ) → b ≢ a → (a == b) ≡ false
beside a b ne = grind (arith, nat_tests)

-- the frame that an event names was made
named-made : (b : Bool) → (not b || false || false) ≡ false → b ≡ true
named-made true h = refl
named-made false h = absurd (true≢false h)

-- an event that names no frame beyond the steps gives none of them an attribute
gives-none : (e : Event) (T : RepliedHistory) (f : ℕ) (name : AttrName) → ((g : ℕ) → is_frame T g ≡ true → g ≤ length T) → names_unknown T e ≡ false → suc (length T) < f → attribute_by e (suc (length T)) f name ≡ None
unfolding names_unknown
gives-none (event.Attr frame n value) T f name within known beyond =
    let le : frame ≤ length T = within frame (named-made (is_frame T frame) known) in
    let ne : f ≢ frame = omega arith in
    rw (beside frame f ne) refl
gives-none (event.Embed parent src place allow sandbox fullscreen srcdoc header) T f name within known beyond =
    let ne : f ≢ suc (length T) = omega arith in rw (beside (suc (length T)) f ne) refl
gives-none e T f name within known beyond = refl

attribute-start : (f : ℕ) (name : AttrName) → attribute [] f name ≡ None
unfolding attribute newest_answer
attribute-start f name = refl

pub attribute-beyond : (duration : ℕ) (H : History) (f : ℕ) (name : AttrName)
    → is_regular duration H ≡ true → length (replied duration H) < f → attribute (replied duration H) f name ≡ None
unfolding replied
attribute-beyond duration [] f name regular beyond = attribute-start f name
attribute-beyond duration (e ∷ H) f name regular beyond =
    let w = regular-step duration e H regular in
    let fine = accepted-faultless duration H e w.1 in
    let below : length (replied duration H) < f = omega arith in
    attribute-stays _ (replied duration H) f name (gives-none e.event (replied duration H) f name (λ g h. (frame-within (replied duration H) g h).1) fine.known beyond)
    ∙ attribute-beyond duration H f name w.0 below
