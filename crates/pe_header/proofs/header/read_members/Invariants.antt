use Rattle.std.proofs.Common.{◌≡◌, ◌-◌, length, drop, is_some, option_map}
use Rattle.pe_features.specs.declared.feature.Feature.{Feature}
use Rattle.pe_features.specs.Features.{feature_name}
use Rattle.pe_fields.specs.Dictionary.{last_of}
use Rattle.pe_allowlist.specs.DeclaredLists.{allowlist_of, list_at}
use Rattle.pe_header.specs.DeclaredPolicy.{list_of_members}
use Rattle.pe_header.specs.Members.{seen_at}
use Rattle.pe_header.proofs.header.read_members.Given as goal

abbrev pub invariant-loop-i : goal.invariant-loop-i
invariant-loop-i l = record {
  seen : (f : Feature) → seen_at l.seen f ≡ is_some (last_of (drop (length l.entries - l.i) l.entries) (feature_name f));
  lists : (f : Feature) → option_map (allowlist_of l.own) (list_at l.lists f) ≡ list_of_members l.own f (drop (length l.entries - l.i) l.entries);
}
