-- What a tree ends as, where a `&mut` to a document is returned.
use Rattle.std.specs.Prelude.{Option}
use Rattle.std.specs.Borrow.{Lends, LendsIf, Fml, RattleType, MutBor}
use Rattle.pe_arena.specs.declared.handle.Handle.{Handle}
use Rattle.pe_frames.specs.declared.node.Numbered.{Ghosts}
use Rattle.pe_frames.specs.Forest.{Forest, with_doc}
use Rattle.pe_frames.specs.contracts.frames.Frames.{the_row}

module _ (D : RattleType) (number : Ghosts D.Denot) (s : MutBor (Forest D.Denot)) (h : Handle) where
  -- the frame ends with the document that was written; where nothing is lent, nothing changes
  abbrev pub lends_doc : Option (MutBor D.Denot) → Fml
  lends_doc r = LendsIf (the_row D number) D s r (with_doc s.now h) s.now

  -- the frame ends with the document that was written
  abbrev pub lends_live : MutBor D.Denot → Fml
  lends_live r = Lends (the_row D number) D s r (with_doc s.now h)
