use Rattle.std.proofs.Common.{◌≡◌, ◌∷◌, Err, refl, sym, ap, subst}
use Rattle.std.specs.Prelude.{IfOk}
use Rattle.pe_store.specs.Entries.{IsFull}
use Rattle.pe_changes.specs.Parts.{IsStore, IsStatuses, AreGoverned}
use Rattle.pe_rules.specs.Changes.{changes_after}
use Rattle.pe_engine.specs.declared.row.Row.{Row}
use Rattle.pe_engine.specs.Prompting.{setting_for}
use Rattle.pe_engine.specs.Rows.{blocks}
use Rattle.pe_engine.specs.StandsFor.{EngineValue}
use Rattle.pe_engine.proofs.engine.Engine.store_setting.Goals as goal
use Rattle.pe_engine.proofs.engine.Engine.store_setting.Goals.{in-Ok, in-Err-Memory}

pub unreachable-requires : goal.unreachable-requires
unreachable-requires g c = c.requires.room (subst (λ (v : EngineValue). IsFull v.store.entries (c.args.feature, c.args.key)) c.self.view_is (c.in-Err-Full.ensures.full.0 (ap Err c.in-Err-Full.field-0-is)))

pub returns-clause-changes : goal.returns-clause-changes
returns-clause-changes g c = λ T s made lasts stored statuses governed.
    let back = sym c.self.view_is in
    elim c.match-set.branch [
      | in-Ok w ↦ subst (λ r. IfOk r (λ changes. changes.items ≡ changes_after T (s ∷ T) c.args.now)) (sym w.result-is)
          (c.in_ok-after.ensures.changes T s (setting_for (c.args.feature, c.args.key) (c.args.state, c.args.life)) made refl refl lasts (subst (λ (v : EngineValue). IsStore T c.args.now v.store) back stored)
          (subst (λ (v : EngineValue). IsStatuses T v.statuses) back statuses) (subst (λ (v : EngineValue). AreGoverned T (λ (y : Row). y.doc) blocks v.frames.entries v.statuses.live) back governed))
      | in-Err-Memory w ↦ subst (λ r. IfOk r (λ changes. changes.items ≡ changes_after T (s ∷ T) c.args.now)) (sym w.result-is) tt
    ]
