-- The changes that a step brings by itself, by what is stored before and after it.
use Rattle.std.proofs.Common.{◌≡◌, ℕ, ◌≤◌, Bool, true, false, not, List, [], ◌∷◌, length, map, filter, flat_map, Option, Some, None, unwrap_or, option_map, option_to_list, refl, sym, ◌∙◌, ap, arith, cond, subst, true≢false}
use Rattle.std.specs.Bool.{Decides}
use Rattle.std.proofs.lemmas.List.Folds.{flat_map-map}
use Rattle.pe_base.specs.declared.state.State.{State}
use Rattle.pe_base.specs.declared.state.State.TheVariants as state
use Rattle.pe_events.specs.declared.answer.Change.{Change}
use Rattle.pe_store.specs.Pairs.{Pair, is_same_pair}
use Rattle.pe_status.specs.declared.registered.Registered.{Registered}
use Rattle.pe_status.specs.Registry.{pair_of, is_under, later_under}
use Rattle.pe_rules.specs.History.{Step, RepliedHistory, some_if}
use Rattle.pe_rules.specs.Settings.{Setting, pair_for, setting_by, holds, stored_state}
use Rattle.pe_rules.specs.Statuses.{Status, live_statuses}
use Rattle.pe_rules.specs.Changes.{is_same_state, change_of, change_between, changes_after}
use Rattle.pe_laws.specs.HistoryLaws.{HistoryLaws}
use Rattle.pe_laws.specs.EffectsLaws.{effects_of}
use Rattle.pe_laws.specs.PermissionStateLaws.{is_blocked, state_from}
use Rattle.pe_laws.specs.SettingsLaws.{in_force}
use Rattle.pe_laws.specs.StatusesLaws.{Each, IsKept}
use Rattle.pe_changes.specs.Gathered.{change_from}
use Rattle.pe_changes.specs.Parts.{status_of_row}
use Rattle.pe_changes.proofs.Counts.{flat-same, flat-filter, each-both, each-weaker, each-all, each-unmap}
use Rattle.pe_changes.proofs.Before.{AreBlocked, no-change}
use Rattle.pe_changes.proofs.Lapses.{all-under}
use Rattle.pe_changes.proofs.Stored.{set-in-force, other-in-force}

-- the change of a status between what is stored before and after
abbrev pub change_stored : (Registered → Bool) → ℕ → (Pair → Option State) → (Pair → Option State) → Registered → List Change
change_stored silent now before after r = option_to_list (change_of now (status_of_row r) (state_from (silent r) (before (pair_of r))) (state_from (silent r) (after (pair_of r))))

-- each status shows the pair of its feature for its document
abbrev pub ArePaired : RepliedHistory → List Registered → Type 0
ArePaired T live = Each (λ r. pair_for T r.doc.doc r.feature ≡ Some (pair_of r)) live

pub same-stored : (silent : Registered → Bool) (now : ℕ) (before after : Pair → Option State) (r : Registered) → after (pair_of r) ≡ before (pair_of r) → change_stored silent now before after r ≡ []
same-stored silent now before after r same = ap option_to_list (no-change now (status_of_row r) _ _ (ap (state_from (silent r)) (sym same)))

pub from-stored : (silent : Registered → Bool) (now : ℕ) (r : Registered) (before after : State)
    → option_to_list (change_of now (status_of_row r) (cond (silent r) state.Denied before) (cond (silent r) state.Denied after)) ≡ change_from silent now before after r
from-stored silent now r before after = by_denied (silent r)
  where
    by_same : (b : Bool) → option_to_list {X = Change} (some_if (not b) (record { time = now; status = r.no; state = after })) ≡ cond {A = List Change} b [] (record { time = now; status = r.no; state = after } ∷ [])
    by_same true = refl
    by_same false = refl

    none : (b : Bool) → ◌≡◌ {A = List Change} [] (cond b [] [])
    none true = refl
    none false = refl

    by_denied : (b : Bool) → option_to_list (change_of now (status_of_row r) (cond b state.Denied before) (cond b state.Denied after)) ≡ cond (is_same_state before after) [] (cond b [] (record { time = now; status = r.no; state = after } ∷ []))
    by_denied true = none (is_same_state before after)
    by_denied false = by_same (is_same_state before after)

pub each-passing : {A : Type 0} (P : A → Type 0) (test : A → Bool) → ((x : A) → test x ≡ true → P x) → (xs : List A) → Each P (filter test xs)
each-passing P test f [] = tt
each-passing P test f (x ∷ xs) = by_test (test x) refl (each-passing P test f xs)
  where
    by_test : (b : Bool) → test x ≡ b → Each P (filter test xs) → Each P (cond b (x ∷ filter test xs) (filter test xs))
    by_test true is rest = (f x is, rest)
    by_test false is rest = rest

module _ (laws : HistoryLaws) where
  -- the documents of the statuses that are live after a step were there before it
  pub live-before : (s : Step) (T : RepliedHistory) (live : List Registered) → map status_of_row live ≡ live_statuses (s ∷ T) → Each (λ r. r.doc.doc ≤ length T) live
  live-before s T live same =
      each-unmap (λ (x : Status). x.document ≤ length T) status_of_row live
      (subst (Each (λ (x : Status). x.document ≤ length T)) (sym same)
      (each-weaker (IsKept (s ∷ T)) (λ (x : Status). x.document ≤ length T) (live_statuses (s ∷ T)) (λ x h. omega (arith, h.1, h.3)) (laws.statuses.live_kept (s ∷ T))))

  one-after : (s : Step) (T : RepliedHistory) (now : ℕ) (silent : Registered → Bool) (r : Registered) → r.doc.doc ≤ length T → pair_for T r.doc.doc r.feature ≡ Some (pair_of r)
      → silent r ≡ is_blocked T r.doc.doc r.feature → option_to_list (change_between T (s ∷ T) now (status_of_row r)) ≡ change_stored silent now (stored_state T now) (stored_state (s ∷ T) now) r
  one-after s T now silent r le paired denied =
      ap option_to_list (laws.changes.between_of_pair s T now (status_of_row r) (pair_of r) le paired)
      ∙ ap (λ b. option_to_list (change_of now (status_of_row r) (state_from b (stored_state T now (pair_of r))) (state_from b (stored_state (s ∷ T) now (pair_of r))))) (sym denied)

  pub after-is : (s : Step) (T : RepliedHistory) (now : ℕ) (silent : Registered → Bool) (live : List Registered) → (effects_of s).makes_status ≡ false → map status_of_row live ≡ live_statuses (s ∷ T)
      → ArePaired T live → AreBlocked T silent live → changes_after T (s ∷ T) now ≡ flat_map (change_stored silent now (stored_state T now) (stored_state (s ∷ T) now)) live
  after-is s T now silent live unmade same paired denied =
      laws.changes.after_live s T now unmade
      ∙ ap (flat_map (λ x. option_to_list (change_between T (s ∷ T) now x))) (sym same)
      ∙ flat_map-map (λ x. option_to_list (change_between T (s ∷ T) now x)) status_of_row live
      ∙ flat-same (λ r. option_to_list (change_between T (s ∷ T) now (status_of_row r))) (change_stored silent now (stored_state T now) (stored_state (s ∷ T) now)) live
      (each-weaker _ _ live (λ r h. one-after s T now silent r h.0 h.1.0 h.1.1) (each-both _ _ live (live-before s T live same) (each-both _ _ live paired denied)))

  stored-force : (T U : RepliedHistory) (now : ℕ) (p : Pair) → in_force U now p ≡ in_force T now p → stored_state U now p ≡ stored_state T now p
  stored-force T U now p same = laws.settings.stored_in_force U now p ∙ ap (option_map (λ (x : Setting). x.state)) same ∙ sym (laws.settings.stored_in_force T now p)

  -- the changes that a setting brings are those of the statuses of its pair
  pub set-is : ((p q : Pair) → Decides (is_same_pair p q) (p ≡ q)) → (s : Step) (T : RepliedHistory) (now : ℕ) (silent : Registered → Bool) (live : List Registered) (x : Setting) → setting_by s.time s.event T ≡ Some x
      → holds (s ∷ T) now x.life ≡ true → map status_of_row live ≡ live_statuses T → ArePaired T live → AreBlocked T silent live
      → changes_after T (s ∷ T) now ≡ flat_map (change_from silent now (unwrap_or (stored_state T now x.pair) state.Prompt) x.state) (filter (is_under x.pair) live)
  set-is pairs s T now silent live x made lasts same paired denied =
      let alone = laws.settings.set_alone s T x made in
      let change = change_stored silent now (stored_state T now) (stored_state (s ∷ T) now) in
      after-is s T now silent live alone.0 (same ∙ sym (laws.statuses.live_stay s T alone.0 alone.1 alone.2)) paired denied
      ∙ sym (flat-filter change (is_under x.pair) live (each-all _ live other))
      ∙ flat-same change (change_from silent now (unwrap_or (stored_state T now x.pair) state.Prompt) x.state) (filter (is_under x.pair) live)
      (each-passing (λ r. change r ≡ change_from silent now (unwrap_or (stored_state T now x.pair) state.Prompt) x.state r) (is_under x.pair) here live)
    where
      other : (r : Registered) → is_under x.pair r ≡ false → change_stored silent now (stored_state T now) (stored_state (s ∷ T) now) r ≡ []
      other r out = by_same (is_same_pair x.pair (pair_of r)) refl
        where
          by_same : (b : Bool) → is_same_pair x.pair (pair_of r) ≡ b → change_stored silent now (stored_state T now) (stored_state (s ∷ T) now) r ≡ []
          by_same false k = same-stored silent now (stored_state T now) (stored_state (s ∷ T) now) r (stored-force T (s ∷ T) now (pair_of r) (other-in-force laws s T now x (pair_of r) made k))
          by_same true k =
              let q : x.pair ≡ pair_of r = (pairs x.pair (pair_of r)).0 k in
              let under : is_under x.pair r ≡ true = (pairs (pair_of r) x.pair).1 (sym q) in
              absurd (true≢false (sym under ∙ out))

      here : (r : Registered) → is_under x.pair r ≡ true → change_stored silent now (stored_state T now) (stored_state (s ∷ T) now) r ≡ change_from silent now (unwrap_or (stored_state T now x.pair) state.Prompt) x.state r
      here r in_pair =
          let q : pair_of r ≡ x.pair = (pairs (pair_of r) x.pair).0 in_pair in
          let same : is_same_pair x.pair (pair_of r) ≡ true = (pairs x.pair (pair_of r)).1 (sym q) in
          let after : stored_state (s ∷ T) now (pair_of r) ≡ Some x.state = laws.settings.stored_in_force (s ∷ T) now (pair_of r) ∙ ap (option_map (λ (y : Setting). y.state)) (set-in-force laws s T now x (pair_of r) made lasts same) in
          let before : stored_state T now (pair_of r) ≡ stored_state T now x.pair = ap (stored_state T now) q in
          rw (after, before) (from-stored silent now r (unwrap_or (stored_state T now x.pair) state.Prompt) x.state)

  -- the same, of a pair and a state that are known
  pub set-at : ((p q : Pair) → Decides (is_same_pair p q) (p ≡ q)) → (s : Step) (T : RepliedHistory) (now : ℕ) (silent : Registered → Bool) (live : List Registered) (x : Setting) (pair : Pair) (after : State) → x.pair ≡ pair → x.state ≡ after
      → setting_by s.time s.event T ≡ Some x → holds (s ∷ T) now x.life ≡ true → map status_of_row live ≡ live_statuses T → ArePaired T live → AreBlocked T silent live
      → changes_after T (s ∷ T) now ≡ flat_map (change_from silent now (unwrap_or (stored_state T now pair) state.Prompt) after) (later_under pair None live)
  set-at pairs s T now silent live x pair after e f made lasts same paired denied =
      rw (← e, ← f, all-under x.pair live) (set-is pairs s T now silent live x made lasts same paired denied)
