use Rattle.pe_origin.proofs.SameOrigin.{is_same_origin_decides}
use Rattle.pe_origin.proofs.law.same_origins_are_one.Goals as goal

pub returns : goal.returns
returns c = is_same_origin_decides
