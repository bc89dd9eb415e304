-- What an arena ends as, where a `&mut` to one of its values is returned.
use Rattle.std.specs.Prelude.{Option}
use Rattle.std.specs.Borrow.{Lends, LendsIf, Fml, RattleType, MutBor}
use Rattle.pe_arena.specs.declared.handle.Handle.{Handle}
use Rattle.pe_arena.specs.Slots.{Slots, with_value}
use Rattle.pe_arena.specs.contracts.arena.Arena as arena

module _ (T : RattleType) (s : MutBor (Slots T.Denot)) (h : Handle) where
  -- the handle's slot ends with what was written
  abbrev pub lends_value : MutBor T.Denot → Fml
  lends_value r = Lends (arena.the_row T) T s r (with_value s.now h.slot)

  -- the handle's slot ends with what was written; where nothing is lent, nothing changes
  abbrev pub lends_get : Option (MutBor T.Denot) → Fml
  lends_get r = LendsIf (arena.the_row T) T s r (with_value s.now h.slot) s.now
