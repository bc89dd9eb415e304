-- What applying an event changes of an engine.
-- This project's own.
use Rattle.std.specs.Prelude.{◌≡◌, ℕ, List, [], ◌∷◌, ◌++◌}
use Rattle.pe_arena.specs.declared.handle.Handle.{Handle}
use Rattle.pe_frames.specs.Forest.{opened, mark_of, Gives}
use Rattle.pe_engine.specs.declared.attribute.Attribute.{Attribute}
use Rattle.pe_engine.specs.declared.attribute.Attribute.TheVariants.{Src, Srcdoc, Allow, Sandbox, Fullscreen}
use Rattle.pe_engine.specs.declared.engine.Made.{Made}
use Rattle.pe_engine.specs.declared.engine.Made.TheVariants as made
use Rattle.pe_engine.specs.declared.row.Attributes.{Attributes}
use Rattle.pe_engine.specs.declared.row.Row.{Row}
use Rattle.pe_engine.specs.StandsFor.{EngineValue}

-- it is noted that the event at this time made this
pub record HasNoted (old new : EngineValue) (now : ℕ) (thing : Made) : Type 0 where
  pub duration : new.duration ≡ old.duration
  pub failed : new.failed ≡ old.failed
  pub clock : new.clock ≡ now
  pub made : new.made ≡ old.made ++ thing ∷ []

-- it is, and all but the tree is as before
pub record KeepsRest (old new : EngineValue) (now : ℕ) (thing : Made) : Type 0 where
  pub noted : HasNoted old new now thing
  pub store : new.store ≡ old.store
  pub statuses : new.statuses ≡ old.statuses
  pub prompts : new.prompts ≡ old.prompts
  pub messages : new.messages ≡ old.messages

-- a frame of this number was made at a time, below these, with this row
pub record HasOpened (old new : EngineValue) (now : ℕ) (above : List Handle) (number : ℕ) (row : Row) : Type 0 where
  pub handle : Handle
  pub rest : KeepsRest old new now (made.Frame handle)
  pub entries : new.frames.entries ≡ opened handle above number row old.frames.entries
  pub fresh : handle.generation ≡ mark_of old.frames handle.slot
  pub marks : Gives old.frames new.frames handle

-- the attributes, once this one is given
abbrev pub with_attribute : Attribute → Attributes → Attributes
with_attribute (Src place) attributes = record attributes { src = place }
with_attribute (Srcdoc stands) attributes = record attributes { srcdoc = stands }
with_attribute (Allow value) attributes = record attributes { allow = value }
with_attribute (Sandbox value) attributes = record attributes { sandbox = value }
with_attribute (Fullscreen stands) attributes = record attributes { fullscreen = stands }
