-- The documents of statuses, in the frames that show them.
use Rattle.std.proofs.Common.{◌≡◌, ℕ, ◌≤◌, Bool, true, false, not, ◌&&◌, ◌||◌, ◌==◌, List, ◌∷◌, length, Option, Some, None, IsTrue, is_some, option_map, option_and_then, if◌then◌else◌, refl, sym, ◌∙◌, ap, subst, true≢false}
use Rattle.std.proofs.lemmas.Bool.Decides.{Decides-eqb}
use Rattle.pe_features.specs.declared.feature.Feature.{Feature}
use Rattle.pe_frames.specs.Forest.{Entry, Forest, entry_of, numbered}
use Rattle.pe_policy.specs.Denials.{denial}
use Rattle.pe_policy.specs.PolicyValue.{row_of}
use Rattle.pe_status.specs.declared.registered.Registered.{Registered}
use Rattle.pe_status.specs.Registry.{Registry}
use Rattle.pe_rules.specs.History.{Step, RepliedHistory, History}
use Rattle.pe_rules.specs.Making.{frame_of}
use Rattle.pe_rules.specs.Current.{is_current, document_in, is_live}
use Rattle.pe_rules.specs.Origins.{is_secure}
use Rattle.pe_rules.specs.Denials.{why_denied}
use Rattle.pe_rules.specs.Statuses.{Status, is_live_status, live_statuses}
use Rattle.pe_rules.specs.Replies.{replied, is_regular}
use Rattle.pe_laws.specs.HistoryLaws.{HistoryLaws}
use Rattle.pe_laws.specs.PermissionStateLaws.{is_blocked}
use Rattle.pe_laws.specs.StatusesLaws.{Each, statuses_made}
use Rattle.pe_changes.specs.Parts.{status_of_row, IsStatuses, blocked_of, AreGoverned}
use Rattle.pe_engine.specs.declared.row.Row.{Row}
use Rattle.pe_engine.specs.declared.engine.Made.{Made}
use Rattle.pe_engine.specs.Rows.{IsSettled, blocks}
use Rattle.pe_engine.specs.Tree.{IsNode, IsTree}
use Rattle.pe_engine.specs.StandsFor.{IsNamed}
use Rattle.pe_engine.proofs.Lists.{each-passed, each-both, each-unmapped, each-all}
use Rattle.pe_engine.proofs.Look.{node-at, live-at}

-- a row knows what its document is denied
pub blocks-is : (T : RepliedHistory) (x : Row) (feature : Feature) → IsSettled T x → blocks x feature ≡ is_blocked T x.doc feature
unfolding is_blocked why_denied
blocks-is T x feature is =
    ap (λ b. not b || is_some (row_of x.policy feature).denial) is.secure
    ∙ ap (λ o. not (is_secure T x.doc) || is_some o) (is.policy.stands.denies feature ∙ ap (denial feature) (sym is.policy.chained))

and-last : (a b : Bool) → (a && b) ≡ true → b ≡ true
and-last true b h = h
and-last false b h = cc

-- a status that is found in the frame that it names
pub record IsFound (T : RepliedHistory) (ms : List Made) (es : List (Entry Row)) (r : Registered) : Type 0 where
  pub entry : Entry Row
  pub at : entry_of es r.doc.at ≡ Some entry
  pub document : entry.doc.doc ≡ r.doc.doc
  pub node : IsNode T ms entry

module _ (laws : HistoryLaws) where
  -- the documents of live statuses are current
  live-current : (T : RepliedHistory) → Each (λ (x : Status). is_current T x.document ≡ true) (live_statuses T)
  unfolding is_live_status
  live-current T =
      subst (Each (λ (x : Status). is_current T x.document ≡ true)) (sym (laws.statuses.live_of_made T))
      (each-passed (λ (x : Status). is_current T x.document ≡ true) (is_live_status T) (statuses_made T) (λ x h. and-last _ (is_current T x.document) h))

  pub statuses-current : (T : RepliedHistory) (statuses : Registry) → IsStatuses T statuses → Each (λ r. is_current T r.doc.doc ≡ true) statuses.live
  statuses-current T statuses is =
      each-unmapped (λ (x : Status). is_current T x.document ≡ true) status_of_row statuses.live (subst (Each (λ (x : Status). is_current T x.document ≡ true)) (sym is.live) (live-current T))

  -- the frame of the handle shows the document
  pub shown-named : (T : RepliedHistory) (ms : List Made) (v : Forest Row) (r : Registered) → IsTree T ms v → IsNamed T ms r → document_in T (frame_of T r.doc.doc) ≡ Some r.doc.doc → IsFound T ms v.entries r
  unfolding is_live
  shown-named T ms v r st named shown = by_entry (entry_of v.entries r.doc.at) refl
    where
      by_entry : (o : Option (Entry Row)) → entry_of v.entries r.doc.at ≡ o → IsFound T ms v.entries r
      by_entry None is = absurd (true≢false (sym (ap is_some shown) ∙ sym (live-at laws T ms v (frame_of T r.doc.doc) r.doc.at st named) ∙ ap is_some is))
      by_entry (Some x) is =
          let (same, node) = node-at T ms v (frame_of T r.doc.doc) r.doc.at x st named is in record {
            entry = x;
            at = is;
            document = let z : Some x.doc.doc ≡ Some r.doc.doc = sym node.document ∙ ap (document_in T) same ∙ shown in cc;
            node = node;
          }

  -- so each live status is found in its frame
  pub each-status : (duration : ℕ) (H : History) (ms : List Made) (v : Forest Row) (statuses : Registry) → IsTrue (is_regular duration H) → IsTree (replied duration H) ms v
      → IsStatuses (replied duration H) statuses → Each (IsNamed (replied duration H) ms) statuses.live → Each (IsFound (replied duration H) ms v.entries) statuses.live
  each-status duration H ms v statuses regular st is named =
      let T = replied duration H in
      each-all (λ r. (is_current T r.doc.doc ≡ true) × IsNamed T ms r) (IsFound T ms v.entries) statuses.live
      (λ r h. shown-named T ms v r st h.1 (laws.current.shown_in_frame duration H r.doc.doc regular h.0))
      (each-both (λ r. is_current T r.doc.doc ≡ true) (IsNamed T ms) statuses.live (statuses-current T statuses is) named)

  -- and the frame knows whether the document is denied the feature
  governed-at : (T : RepliedHistory) (ms : List Made) (es : List (Entry Row)) (r : Registered) → IsFound T ms es r → blocked_of (λ (x : Row). x.doc) blocks es r ≡ Some (is_blocked T r.doc.doc r.feature)
  governed-at T ms es r found =
      let x = found.entry in
      let same : (x.doc.doc == r.doc.doc) ≡ true = (Decides-eqb x.doc.doc r.doc.doc).1 found.document in
      ap (λ o. option_map (λ (y : Row). blocks y r.feature) (option_and_then (λ (e : Entry Row). numbered (λ (y : Row). y.doc) r.doc.doc e.doc) o)) found.at
      ∙ ap (λ b. option_map (λ (y : Row). blocks y r.feature) (if b then Some x.doc else None)) same
      ∙ ap Some (blocks-is T x.doc r.feature found.node.row.settled ∙ ap (λ d. is_blocked T d r.feature) found.document)

  pub all-governed : (duration : ℕ) (H : History) (ms : List Made) (v : Forest Row) (statuses : Registry) → IsTrue (is_regular duration H) → IsTree (replied duration H) ms v
      → IsStatuses (replied duration H) statuses → Each (IsNamed (replied duration H) ms) statuses.live → AreGoverned (replied duration H) (λ (x : Row). x.doc) blocks v.entries statuses.live
  all-governed duration H ms v statuses regular st is named =
      each-all (IsFound (replied duration H) ms v.entries) _ statuses.live (governed-at (replied duration H) ms v.entries) (each-status duration H ms v statuses regular st is named)

  -- what an older document is denied, one step before
  pub governed-before : (s : Step) (T : RepliedHistory) (es : List (Entry Row)) (live : List Registered) → Each (λ r. r.doc.doc ≤ length T) live
      → AreGoverned (s ∷ T) (λ (x : Row). x.doc) blocks es live → AreGoverned T (λ (x : Row). x.doc) blocks es live
  governed-before s T es live within governed =
      each-all (λ r. (r.doc.doc ≤ length T) × (blocked_of (λ (x : Row). x.doc) blocks es r ≡ Some (is_blocked (s ∷ T) r.doc.doc r.feature))) _ live
      (λ r h. h.1 ∙ ap Some (laws.states.blocked_older s T r.doc.doc r.feature h.0))
      (each-both (λ r. r.doc.doc ≤ length T) (λ r. blocked_of (λ (x : Row). x.doc) blocks es r ≡ Some (is_blocked (s ∷ T) r.doc.doc r.feature)) live within governed)
