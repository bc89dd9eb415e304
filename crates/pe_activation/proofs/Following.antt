-- How far a walk has come that looks up what follows a frame before it writes the frame.
use Rattle.std.proofs.Common.{◌≡◌, ℕ, suc, ◌+◌, ◌-◌, ◌<◌, ◌≤◌, List, length, Option, None, Some, refl, arith}
use Rattle.pe_arena.specs.declared.handle.Handle.{Handle}
use Rattle.pe_frames.specs.Walk.{visited}

-- how many frames the walk has left, the one that it comes to next among them
abbrev pub left : Option Handle → List Handle → ℕ
left None hs = 0
left (Some h) hs = suc (length hs) - length (visited h hs)

-- each step of the walk leaves one less
pub left-less : (hs : List Handle) (next : Handle) (following : Option Handle) → length (visited next hs) ≤ length hs → ((h : Handle) → following ≡ Some h → length (visited h hs) ≡ length (visited next hs) + 1) → left following hs < left (Some next) hs
left-less hs next None few more = omega (arith, few)
left-less hs next (Some h) few more = let one = more h refl in omega (arith, few, one)
