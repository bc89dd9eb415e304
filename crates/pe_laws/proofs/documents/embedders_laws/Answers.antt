use Rattle.pe_laws.proofs.Embedders.{chain-other, chain-newest, chain-is, chain-none, above, top-other, top-top, page-older}
use Rattle.pe_laws.proofs.documents.embedders_laws.Goals as goal

pub returns : goal.returns
returns c = record {
  chain_older = chain-other;
  chain_newest = chain-newest;
  chain_is = chain-is;
  chain_none = chain-none;
  above = above;
  top_document_older = top-other;
  top_document_top = top-top;
  page_older = page-older;
}
