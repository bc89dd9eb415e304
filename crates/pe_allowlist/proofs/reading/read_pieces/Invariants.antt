use Rattle.std.proofs.Common.{◌≡◌, map, take}
use Rattle.pe_features.specs.declared.feature.Feature.{Feature}
use Rattle.pe_allowlist.specs.Lists.{lists_of, NoFeatureTwice}
use Rattle.pe_allowlist.specs.ContainerPolicy.{list_by_pieces}
use Rattle.pe_allowlist.proofs.reading.read_pieces.Given as goal

abbrev pub invariant-loop-piece : goal.invariant-loop-piece
invariant-loop-piece l = record {
  read : (f : Feature) → lists_of l.rows.items f ≡ list_by_pieces l.embedder l.declared f (take l.piece-index (map (λ x. x.now) l.piece-items));
  once : NoFeatureTwice l.rows.items;
}
