use Rattle.std.proofs.Common.{◌≡◌, ℕ, drop}
use Rattle.pe_prompts.specs.Pending.{all_left}
use Rattle.pe_prompts.specs.Kept.{queue_of}
use Rattle.pe_prompts.proofs.prompts.drop_all.Given as goal

abbrev pub invariant-loop-place : goal.invariant-loop-place
invariant-loop-place l = (p : ℕ) → all_left l.doc (drop l.place-index l.places) p (queue_of l.pages p) ≡ all_left l.doc l.places p (queue_of l.initial.pages p)
