-- Laws of the attributes of frames: what one step gives, and what it leaves.
use Rattle.std.specs.Prelude.{◌≡◌, ℕ, ◌<◌, IsTrue, ◌∷◌, length, None, unwrap_or}
use Rattle.pe_events.specs.declared.event.AttrName.{AttrName}
use Rattle.pe_rules.specs.History.{Step, RepliedHistory, History}
use Rattle.pe_rules.specs.Attributes.{attribute_by, attribute, attributes_of}
use Rattle.pe_rules.specs.Replies.{replied, is_regular}

-- what holds of the attributes of frames
pub record AttributesLaws : Type 0 where
  -- the attribute that a step gives, else the one before
  pub attribute_step : (s : Step) (T : RepliedHistory) (f : ℕ) (name : AttrName)
      → attribute (s ∷ T) f name ≡ unwrap_or (attribute_by s.event (length (s ∷ T)) f name) (attribute T f name)
  -- a step that gives none leaves it
  pub attribute_stays : (s : Step) (T : RepliedHistory) (f : ℕ) (name : AttrName)
      → attribute_by s.event (length (s ∷ T)) f name ≡ None → attribute (s ∷ T) f name ≡ attribute T f name
  -- a step that gives a frame none leaves all of the frame's
  pub attributes_stay : (s : Step) (T : RepliedHistory) (f : ℕ)
      → ((name : AttrName) → attribute_by s.event (length (s ∷ T)) f name ≡ None) → attributes_of (s ∷ T) f ≡ attributes_of T f
  -- in a regular history a number that is not of a frame yet has none
  pub attribute_beyond : (duration : ℕ) (H : History) (f : ℕ) (name : AttrName) → IsTrue (is_regular duration H) → length (replied duration H) < f → attribute (replied duration H) f name ≡ None
