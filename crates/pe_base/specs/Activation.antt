-- What an input and a stamp of user activation mean.
-- HTML Standard, "Tracking user activation": "activation triggering input event", "sticky activation", "transient activation", "history-action activation".
-- The kinds of input, and that a stamp is never, consumed or a time, are this project's own; the standard's last activation timestamp is infinity for never, and minus infinity for consumed.
use Rattle.std.specs.Prelude.{ℕ, ◌+◌, Bool, true, false, not, ◌==◌, nat_lt}
use Rattle.pe_base.specs.declared.input.InputKind.{InputKind}
use Rattle.pe_base.specs.declared.input.InputKind.TheVariants as kind
use Rattle.pe_base.specs.declared.input.Stamp.{Stamp}
use Rattle.pe_base.specs.declared.input.Stamp.TheVariants as stamp

-- an activation triggering input event: a key but Escape and those the browser keeps, a mouse button or a mouse going down, a pen or a finger going up, the end of a touch
abbrev pub triggers : InputKind → Bool
triggers kind.Keydown = true
triggers kind.Mousedown = true
triggers kind.PointerdownMouse = true
triggers kind.PointerupPen = true
triggers kind.PointerupTouch = true
triggers kind.Touchend = true
triggers other = false

-- sticky activation: the stamp is not never
abbrev pub is_sticky : Stamp → Bool
is_sticky stamp.Never = false
is_sticky other = true

-- transient activation: the stamp is a time, and younger than the duration
abbrev pub is_transient : ℕ → ℕ → Stamp → Bool
is_transient duration now (stamp.At time) = nat_lt now (time + duration)
is_transient duration now other = false

-- the two stamps are one
abbrev pub is_same_stamp : Stamp → Stamp → Bool
is_same_stamp stamp.Never stamp.Never = true
is_same_stamp stamp.Consumed stamp.Consumed = true
is_same_stamp (stamp.At a) (stamp.At b) = a == b
is_same_stamp _ _ = false

-- history-action activation: the stamp and the second stamp, the copy of it that the last history action took, differ
abbrev pub is_history_active : Stamp → Stamp → Bool
is_history_active first second = not (is_same_stamp first second)
