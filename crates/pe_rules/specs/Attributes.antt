-- The attributes of a frame that are in force.
-- HTML Standard, section 4.8.5 "The iframe element": `src`, `srcdoc`, `allow`, `sandbox`, `allowfullscreen`.
-- They act on the next document that is made in the frame, and never on one that is there.
use Rattle.std.specs.Prelude.{ℕ, Bool, true, false, ◌&&◌, ◌==◌, List, [], ◌∷◌, length, Option, None, is_some, unwrap_or}
use Rattle.pe_events.specs.declared.event.AttrName.{AttrName}
use Rattle.pe_events.specs.declared.event.AttrName.TheVariants.{Src, Srcdoc, Allow, Sandbox, Fullscreen}
use Rattle.pe_events.specs.declared.event.Event.{Event}
use Rattle.pe_events.specs.declared.event.Event.TheVariants as event
use Rattle.pe_rules.specs.History.{RepliedHistory, some_if, newest_answer}

-- the values of a frame's attributes, and which of the two that have none stand
pub record Attributes : Type 0 where
  pub src : Option (List ℕ)
  pub srcdoc : Bool
  pub allow : Option (List ℕ)
  pub sandbox : Option (List ℕ)
  pub fullscreen : Bool

-- no attribute stands
abbrev pub no_attributes : Attributes
no_attributes = record { src = None; srcdoc = false; allow = None; sandbox = None; fullscreen = false }

-- the two names are one
abbrev pub is_same_name : AttrName → AttrName → Bool
is_same_name Src Src = true
is_same_name Srcdoc Srcdoc = true
is_same_name Allow Allow = true
is_same_name Sandbox Sandbox = true
is_same_name Fullscreen Fullscreen = true
is_same_name _ _ = false

-- an attribute of which only matters that it stands, as a text that is there or not
abbrev pub standing : Bool → Option (List ℕ)
standing stands = some_if stands []

-- the attribute that an embedding gives its frame
abbrev pub value_given : AttrName → Attributes → Option (List ℕ)
value_given Src given = given.src
value_given Srcdoc given = standing given.srcdoc
value_given Allow given = given.allow
value_given Sandbox given = given.sandbox
value_given Fullscreen given = standing given.fullscreen

-- what the event at position k makes of the attribute of frame f, where it does: a value, or none
abbrev pub attribute_by : Event → ℕ → ℕ → AttrName → Option (Option (List ℕ))
attribute_by (event.Attr frame name value) k f n = some_if (frame == f && is_same_name name n) value
attribute_by (event.Embed parent src place allow sandbox fullscreen srcdoc header) k f n =
    some_if (k == f) (value_given n (record { src = src; srcdoc = srcdoc; allow = allow; sandbox = sandbox; fullscreen = fullscreen }))
attribute_by e k f n = None

-- the attribute of the frame: that of the last event that gives it one; none in a top frame without such an event
unfoldable pub attribute : RepliedHistory → ℕ → AttrName → Option (List ℕ)
attribute T f n = unwrap_or (newest_answer (λ s B. attribute_by s.event (length (s ∷ B)) f n) T) None

-- the attributes of the frame
unfoldable pub attributes_of : RepliedHistory → ℕ → Attributes
attributes_of T f = record {
  src = attribute T f Src;
  srcdoc = is_some (attribute T f Srcdoc);
  allow = attribute T f Allow;
  sandbox = attribute T f Sandbox;
  fullscreen = is_some (attribute T f Fullscreen);
}
