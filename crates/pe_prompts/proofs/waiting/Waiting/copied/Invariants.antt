use Rattle.std.proofs.Common.{◌≡◌, take}
use Rattle.pe_prompts.specs.Requests.{somes}
use Rattle.pe_prompts.proofs.waiting.Waiting.copied.Given as goal

abbrev pub invariant-loop-request : goal.invariant-loop-request
invariant-loop-request l = l.waiting.items ≡ somes (take l.request-index l.request-items)
