-- What the documents of frames say of their statuses.
use Rattle.std.proofs.Common.{◌≡◌, ℕ, Bool, true, List, Option, Some, unwrap_or, ap}
use Rattle.pe_features.specs.declared.feature.Feature.{Feature}
use Rattle.pe_frames.specs.Forest as forest
use Rattle.pe_status.specs.declared.registered.Registered.{Registered}
use Rattle.pe_rules.specs.History.{RepliedHistory}
use Rattle.pe_laws.specs.PermissionStateLaws.{is_blocked}
use Rattle.pe_changes.specs.Parts.{blocked_of, is_silent, AreGoverned}
use Rattle.pe_changes.proofs.Before.{AreBlocked}
use Rattle.pe_changes.proofs.Counts.{each-weaker}

pub silent-blocked : {D : Type 0} (T : RepliedHistory) (number : D → ℕ) (blocks : D → Feature → Bool) (frames : List (forest.Entry D)) (live : List Registered)
    → AreGoverned T number blocks frames live → AreBlocked T (is_silent number blocks frames) live
silent-blocked T number blocks frames live governed =
    each-weaker (λ r. blocked_of number blocks frames r ≡ Some (is_blocked T r.doc.doc r.feature)) (λ r. is_silent number blocks frames r ≡ is_blocked T r.doc.doc r.feature) live
    (λ r h. ap (λ (o : Option Bool). unwrap_or o true) h) governed
