use Rattle.pe_laws.proofs.Attributes.{attribute-step, attribute-stays, attributes-stay}
use Rattle.pe_laws.proofs.AttributesBeyond.{attribute-beyond}
use Rattle.pe_laws.proofs.documents.attributes_laws.Goals as goal

pub returns : goal.returns
returns c = record { attribute_step = attribute-step; attribute_stays = attribute-stays; attributes_stay = attributes-stay; attribute_beyond = attribute-beyond }
