-- What the tree and the list of made things stand for.
-- This project's own.
-- The frames of the tree are the live ones, newest first; each stands under the handle of its number, with the handles of the frames of its document's chain.
use Rattle.std.specs.Prelude.{◌≡◌, ℕ, ◌<◌, List, map, filter, length, Some, is_some}
use Rattle.pe_arena.specs.declared.handle.Handle.{Handle}
use Rattle.pe_frames.specs.Forest.{Entry, Forest, path, mark_of}
use Rattle.pe_rules.specs.History.{RepliedHistory}
use Rattle.pe_rules.specs.Numbering.{is_frame, frames_made}
use Rattle.pe_rules.specs.Current.{frames_above, document_in, is_live}
use Rattle.pe_laws.specs.StatusesLaws.{Each}
use Rattle.pe_engine.specs.declared.row.Row.{Row}
use Rattle.pe_engine.specs.declared.engine.Made.{Made}
use Rattle.pe_engine.specs.Objects.{handle_at, Apart}
use Rattle.pe_engine.specs.Rows.{IsRow}

-- a live frame
pub record IsNode (T : RepliedHistory) (ms : List Made) (e : Entry Row) : Type 0 where
  pub handle : handle_at ms e.frame ≡ Some e.handle
  pub document : document_in T e.frame ≡ Some e.doc.doc
  pub path : map (handle_at ms) (frames_above T e.doc.doc) ≡ map Some (path e)
  pub row : IsRow T e.frame e.doc

-- the tree and what each event made stand for these steps
pub record IsTree (T : RepliedHistory) (ms : List Made) (v : Forest Row) : Type 0 where
  pub count : length ms ≡ length T
  pub frames : (f : ℕ) → is_frame T f ≡ is_some (handle_at ms f)
  pub live : map (λ e. e.frame) v.entries ≡ filter (is_live T) (frames_made T)
  pub nodes : Each (IsNode T ms) v.entries
  pub given : (f : ℕ) (h : Handle) → handle_at ms f ≡ Some h → h.generation < mark_of v h.slot
  pub apart : Apart ms
