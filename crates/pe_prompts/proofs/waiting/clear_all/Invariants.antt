use Rattle.std.proofs.Common.{◌≡◌, length}
use Rattle.pe_prompts.specs.Requests.{somes, without, IsWaiting}
use Rattle.pe_prompts.proofs.waiting.clear_all.Given as goal

abbrev pub invariant-loop-place : goal.invariant-loop-place
invariant-loop-place l =
    IsWaiting l.requests.items l.places l.count
    × (without l.doc (somes l.requests.items) ≡ without l.doc (somes l.fn.requests.items))

abbrev pub decreases-loop-place : goal.decreases-loop-place
decreases-loop-place l = length l.places.keys
