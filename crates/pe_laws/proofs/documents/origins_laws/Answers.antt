use Rattle.pe_laws.proofs.Origins.{origin-other, flag-other, secure-older, origin-newest, flag-newest}
use Rattle.pe_laws.proofs.documents.origins_laws.Goals as goal

pub returns : goal.returns
returns c = record { origin_of_older = origin-other; sandbox_flag_older = flag-other; is_secure_older = secure-older; origin_of_newest = origin-newest; sandbox_flag_newest = flag-newest }
