-- The attributes of frames, step by step.
use Rattle.std.proofs.Common.{◌≡◌, ℕ, suc, List, ◌∷◌, length, Option, Some, None, unwrap_or, refl, ◌∙◌, ap}
use Rattle.std.specs.Option.{option_or}
use Rattle.pe_events.specs.declared.event.AttrName.{AttrName}
use Rattle.pe_events.specs.declared.event.AttrName.TheVariants.{Src, Srcdoc, Allow, Sandbox, Fullscreen}
use Rattle.pe_rules.specs.History.{Step, RepliedHistory, newest_answer}
use Rattle.pe_rules.specs.Attributes.{attribute_by, attribute, attributes_of}

pub attribute-step : (s : Step) (T : RepliedHistory) (f : ℕ) (name : AttrName)
    → attribute (s ∷ T) f name ≡ unwrap_or (attribute_by s.event (suc (length T)) f name) (attribute T f name)
unfolding attribute newest_answer
attribute-step s T f name = by_given (attribute_by s.event (suc (length T)) f name) (newest_answer (λ s B. attribute_by s.event (length (s ∷ B)) f name) T)
  where
    by_given : (here earlier : Option (Option (List ℕ))) → unwrap_or (option_or here earlier) None ≡ unwrap_or here (unwrap_or earlier None)
    by_given None earlier = refl
    by_given (Some x) earlier = refl

pub attribute-stays : (s : Step) (T : RepliedHistory) (f : ℕ) (name : AttrName) → attribute_by s.event (suc (length T)) f name ≡ None → attribute (s ∷ T) f name ≡ attribute T f name
attribute-stays s T f name none = attribute-step s T f name ∙ ap (λ o. unwrap_or o (attribute T f name)) none

pub attributes-stay : (s : Step) (T : RepliedHistory) (f : ℕ) → ((name : AttrName) → attribute_by s.event (suc (length T)) f name ≡ None) → attributes_of (s ∷ T) f ≡ attributes_of T f
unfolding attributes_of
attributes-stay s T f none =
    rw (
      attribute-stays s T f Src (none Src),
      attribute-stays s T f Srcdoc (none Srcdoc),
      attribute-stays s T f Allow (none Allow),
      attribute-stays s T f Sandbox (none Sandbox),
      attribute-stays s T f Fullscreen (none Fullscreen),
    ) refl
