-- What consuming leaves of a document, and how far a walk has come that consumes.
-- It is this project's own: one walk serves both kinds of consuming.
use Rattle.std.specs.Prelude.{◌≡◌, ◌+◌, ℕ, length, IsTrue, if◌then◌else◌}
use Rattle.pe_arena.specs.declared.handle.Handle.{Handle}
use Rattle.pe_base.specs.declared.input.Stamp.{Stamp}
use Rattle.pe_base.specs.declared.input.Stamp.TheVariants as stamp
use Rattle.pe_base.specs.Activation.{is_sticky}
use Rattle.pe_frames.specs.Forest.{Entry, Forest, has_handle}
use Rattle.pe_frames.specs.Order.{handles_under}
use Rattle.pe_frames.specs.Walk.{visited, changed_to}
use Rattle.pe_activation.specs.declared.consumption.Consuming.{Consuming}
use Rattle.pe_activation.specs.declared.consumption.Consuming.TheVariants.{Activation, HistoryAction}

module _ {D : Type 0} where
  -- the document, this consumed
  abbrev pub leaving : (D → Stamp) → (Stamp → D → D) → (Stamp → D → D) → Consuming → D → D
  leaving get set set_second Activation d = if is_sticky (get d) then set stamp.Consumed d else d
  leaving get set set_second HistoryAction d = set_second (get d) d

  -- what that makes of a frame
  abbrev pub leaves : (D → Stamp) → (Stamp → D → D) → (Stamp → D → D) → Consuming → Entry D → D
  leaves get set set_second what e = leaving get set set_second what e.doc

  -- the walk changed each frame up to this one, and took one step at each
  pub record IsChangedTo (change : Entry D → D) (old new : Forest D) (root at : Handle) (m n : ℕ) : Type 0 where
    pub listed : IsTrue (has_handle at (handles_under old.entries root))
    pub so_far : n ≡ m + length (visited at (handles_under old.entries root))
    pub entries : new.entries ≡ changed_to change old.entries root at
    pub marks : new.marks ≡ old.marks
    pub made : new.made ≡ old.made
