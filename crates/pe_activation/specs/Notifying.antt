-- What an input activates.
-- HTML Standard, "Tracking user activation": "activation notification".
use Rattle.std.specs.Prelude.{ℕ, Bool, false, ◌||◌, ◌&&◌, List, map, Option, None, Some, if◌then◌else◌}
use Rattle.pe_arena.specs.declared.handle.Handle.{Handle}
use Rattle.pe_base.specs.declared.input.Stamp.{Stamp}
use Rattle.pe_base.specs.declared.input.Stamp.TheVariants as stamp
use Rattle.pe_frames.specs.Forest.{Entry, is_under}
use Rattle.pe_frames.specs.Walk.{changed_where}

module _ {D : Type 0} where
  -- the document, activated at this time
  abbrev pub activated : (Stamp → D → D) → ℕ → Entry D → D
  activated set now e = set (stamp.At now) e.doc

  -- whether an input in the named frame activates the document of the other: that is the frame itself or stands above it, or it stands below it and is same origin with it
  abbrev pub is_notified : (D → D → Bool) → Handle → Entry D → Entry D → Bool
  is_notified same h e x = is_under x.handle e || (is_under h x && same e.doc x.doc)

  -- the frames, once there was an input in the named one at this time
  abbrev pub notified : (D → D → Bool) → (Stamp → D → D) → ℕ → Handle → Entry D → List (Entry D) → List (Entry D)
  notified same set now h e es = map (changed_where (is_notified same h e) (activated set now)) es

  -- whether the frame is the named one, above it or below it
  abbrev pub is_related : Handle → Entry D → Entry D → Bool
  is_related h e x = is_under x.handle e || is_under h x

  -- whether the document is same origin with that of the frame
  abbrev pub is_same_as : (D → D → Bool) → Option (Entry D) → D → Bool
  is_same_as same None d = false
  is_same_as same (Some e) d = same e.doc d

  -- the document, activated at this time where it passes the test
  abbrev pub activated_where : (D → Bool) → (Stamp → D → D) → ℕ → Entry D → D
  activated_where passes set now e = if passes e.doc then set (stamp.At now) e.doc else e.doc
