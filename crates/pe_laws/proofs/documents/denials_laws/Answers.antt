use Rattle.pe_laws.proofs.Enabled.{denied-enabled}
use Rattle.pe_laws.proofs.Older.{declared-older, container-older, link-older, links-older, why-older}
use Rattle.pe_laws.proofs.Origins.{allowed-older}
use Rattle.pe_laws.proofs.documents.denials_laws.Goals as goal

pub returns : goal.returns
returns c = record {
  declared_older = declared-older;
  container_older = container-older;
  link_older = link-older;
  links_older = links-older;
  why_denied_older = why-older;
  is_allowed_older = allowed-older;
  denied_is_not_enabled = denied-enabled c.denials_are_by_value.ensures;
}
