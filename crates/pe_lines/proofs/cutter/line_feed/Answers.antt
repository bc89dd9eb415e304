use Rattle.std.proofs.Common.{sym}
use Rattle.std.proofs.lemmas.List.{take_rest}
use Rattle.pe_lines.proofs.Parts.{found_behind, none_behind}
use Rattle.pe_lines.proofs.cutter.line_feed.Goals as goal

pub returns-in-Some : goal.returns-in-Some
returns-in-Some c = found_behind c.args.held.now c.args.at c.args.scanned c.in-Some.count c.requires.ordered c.requires.within c.requires.none (rw take_rest at (sym c.in-Some.ensures))

pub returns-in-None : goal.returns-in-None
returns-in-None c = none_behind c.args.held.now c.args.at c.args.scanned c.requires.ordered c.requires.within c.requires.none (rw take_rest at (sym c.in-None.ensures))
