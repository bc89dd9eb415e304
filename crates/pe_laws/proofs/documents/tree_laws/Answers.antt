use Rattle.pe_laws.proofs.Tops.{page-is-top}
use Rattle.pe_laws.proofs.Tree.{tree}
use Rattle.pe_laws.proofs.documents.tree_laws.Goals as goal

pub returns : goal.returns
returns c = record { tree = tree; page_top = page-is-top }
