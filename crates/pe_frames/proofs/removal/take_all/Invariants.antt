use Rattle.std.proofs.Common.{◌≡◌, ◌≤◌, ◌+◌, ◌++◌, take, vec_len, vec_capacity}
use Rattle.pe_frames.specs.Neighbours.{Removes, docs_at}
use Rattle.pe_frames.proofs.removal.take_all.Given as goal

abbrev pub invariant-loop-h : goal.invariant-loop-h
invariant-loop-h g l =
    Removes l.fn.rows l.rows (take l.h-index l.fn.handles)
    × (l.docs.items ≡ l.fn.docs.items ++ docs_at l.fn.rows (take l.h-index l.fn.handles))
    × (vec_capacity l.docs ≡ vec_capacity l.fn.docs)
    × (vec_len l.docs ≤ vec_len l.fn.docs + l.h-index)
