use Rattle.std.proofs.Common.{rules}
use Rattle.std.proofs.lemmas.Fn.{always_returns_same}
use Rattle.pe_status.proofs.Searching.{searched-found, searched-none}
use Rattle.pe_status.proofs.giving.pair_given.Goals as goal

pub returns-in-Ok : goal.returns-in-Ok
returns-in-Ok c = searched-found c.args.given.now c.args.no c.in-Ok.at _ c.requires c.in-Ok.ensures.bound (c.in-Ok.ensures.position (λ g. g.no) (always_returns_same _ _ _ (λ a r f' k. search rules)))

pub returns-in-Err : goal.returns-in-Err
returns-in-Err c = searched-none c.args.given.now c.args.no c.in-Err.field-0 c.requires (c.in-Err.ensures.position (λ g. g.no) (always_returns_same _ _ _ (λ a r f' k. search rules)))
