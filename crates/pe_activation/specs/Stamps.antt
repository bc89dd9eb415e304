-- What the calls of user activation do to the stamps of documents.
-- HTML Standard, "Tracking user activation": "consume user activation", "consume history-action user activation".
-- That a stamp is never, consumed or a time, and the forms of these definitions, are this project's own.
use Rattle.std.specs.Prelude.{◌≡◌, if◌then◌else◌}
use Rattle.pe_base.specs.declared.input.Stamp.{Stamp}
use Rattle.pe_base.specs.declared.input.Stamp.TheVariants as stamp
use Rattle.pe_base.specs.Activation.{is_sticky}
use Rattle.pe_frames.specs.Forest.{Entry}

-- the stamp is a field of a document: what is set is read, setting what is read changes nothing, and the later of two settings counts
pub record IsField {D : Type 0} (get : D → Stamp) (set : Stamp → D → D) : Type 0 where
  pub set_is_read : (s : Stamp) (d : D) → get (set s d) ≡ s
  pub read_is_set : (d : D) → set (get d) d ≡ d
  pub last_counts : (s t : Stamp) (d : D) → set s (set t d) ≡ set s d

module _ {D : Type 0} where
  -- the document, its activation consumed: where its stamp is never, it stays so
  abbrev pub consumed : (D → Stamp) → (Stamp → D → D) → Entry D → D
  consumed get set e = if is_sticky (get e.doc) then set stamp.Consumed e.doc else e.doc

  -- the document, its history-action activation consumed: its second stamp is the first
  abbrev pub history_consumed : (D → Stamp) → (Stamp → D → D) → Entry D → D
  history_consumed get set_second e = set_second (get e.doc) e.doc
