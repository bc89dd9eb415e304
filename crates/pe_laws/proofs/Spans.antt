-- What time leaves of what is stored, and which changes an event does not bring.
use Rattle.std.proofs.Common.{◌≡◌, ◌≢◌, ℕ, suc, ◌<◌, ◌≤◌, ◌-◌, Bool, true, false, not, ◌==◌, nat_lt, nat_le, List, [], ◌∷◌, ◌++◌, length, filter, flat_map, Option, Some, None, unwrap_or, option_map, option_and_then, option_to_list, refl, sym, ◌∙◌, ap, arith, cond}
use Rattle.std.specs.Bool.{Decides}
use Rattle.std.proofs.lemmas.Bool.Decides.{nat_tests}
use Rattle.pe_base.specs.declared.state.State.{State}
use Rattle.pe_features.specs.declared.feature.Feature.{Feature}
use Rattle.pe_features.specs.Features.{feature_named}
use Rattle.pe_store.specs.declared.key.Life.{Life}
use Rattle.pe_store.specs.declared.key.Life.TheVariants as life
use Rattle.pe_store.specs.Pairs.{Pair, is_same_pair}
use Rattle.pe_events.specs.declared.answer.Change.{Change}
use Rattle.pe_events.specs.declared.event.Event.{Event}
use Rattle.pe_events.specs.declared.event.Event.TheVariants as event
use Rattle.pe_rules.specs.History.{Step, RepliedHistory, some_if, all_answers}
use Rattle.pe_rules.specs.Current.{document_in}
use Rattle.pe_rules.specs.Settings.{Setting, pair_for, setting_by, last_setting, holds, stored_by, stored_state}
use Rattle.pe_rules.specs.PermissionState.{permission_state}
use Rattle.pe_rules.specs.Statuses.{Status, status_by, is_live_status, live_statuses}
use Rattle.pe_rules.specs.Changes.{is_same_state, change_of, change_at, change_between, is_live_in, changes_after}
use Rattle.pe_laws.specs.DueMoments.{MayLapse, ends_at, lapses}
use Rattle.pe_laws.specs.Effects.{effects}
use Rattle.pe_laws.proofs.Lists.{then-same}
use Rattle.pe_laws.proofs.Current.{document-in-below}
use Rattle.pe_laws.proofs.Lapses.{changes-at-lapse, same-state}
use Rattle.pe_laws.proofs.Settings.{last-setting-step}
use Rattle.pe_laws.proofs.Lives.{stored-older}
use Rattle.pe_laws.specs.PermissionStateLaws.{is_blocked, state_from}
use Rattle.pe_laws.proofs.States.{blocked-older, state-blocked, state-of-pair, state-older, state-same-entry, state-by-entry, state-stays}

-- ---- what time leaves of what is stored

holds-until : (T : RepliedHistory) (moment now : ℕ) (l : Life) → ends_at moment l ≡ true → now < moment → holds T now l ≡ true
unfolding holds
holds-until T moment now life.Forever h lt = refl
holds-until T moment now (life.Until end) h lt = grind (arith, nat_tests)
holds-until T moment now (life.Page d) h lt = cc

ended-from : (T : RepliedHistory) (moment now : ℕ) (l : Life) → ends_at moment l ≡ true → moment ≤ now → holds T now l ≡ false
unfolding holds
ended-from T moment now life.Forever h le = cc
ended-from T moment now (life.Until end) h le = grind (arith, nat_tests)
ended-from T moment now (life.Page d) h le = cc

pub stored-before-lapse : (T : RepliedHistory) (moment now : ℕ) (p : Pair) → lapses T moment p ≡ true → now < moment → stored_state T now p ≡ option_map (λ x. x.state) (last_setting T p)
unfolding stored_state stored_by lapses
stored-before-lapse T moment now p h lt = by_last (last_setting T p) h
  where
    by_last : (o : Option Setting) → unwrap_or (option_map (λ x. ends_at moment x.life) o) false ≡ true
        → option_and_then (λ x. some_if (holds T now x.life) x.state) o ≡ option_map (λ x. x.state) o
    by_last None e = cc
    by_last (Some x) e = rw (holds-until T moment now x.life e lt) refl

pub stored-lapsed : (T : RepliedHistory) (moment now : ℕ) (p : Pair) → lapses T moment p ≡ true → moment ≤ now → stored_state T now p ≡ None
unfolding stored_state stored_by lapses
stored-lapsed T moment now p h le = by_last (last_setting T p) h
  where
    by_last : (o : Option Setting) → unwrap_or (option_map (λ x. ends_at moment x.life) o) false ≡ true → option_and_then (λ x. some_if (holds T now x.life) x.state) o ≡ None
    by_last None e = cc
    by_last (Some x) e = rw (ended-from T moment now x.life e le) refl

-- a life that ends at no moment of a span holds at its end where it did before it
holds-between : (T : RepliedHistory) (now later : ℕ) (l : Life) → now ≤ later → ((moment : ℕ) → now < moment → moment ≤ later → ends_at moment l ≡ false) → holds T later l ≡ holds T now l
unfolding holds
holds-between T now later life.Forever le none = refl
holds-between T now later (life.Page d) le none = refl
holds-between T now later (life.Until end) le none = by_tests (nat_lt now end) refl (nat_le end later) refl
  where
    by_tests : (b : Bool) → nat_lt now end ≡ b → (c : Bool) → nat_le end later ≡ c → nat_lt later end ≡ nat_lt now end
    by_tests true before true within =
        let at : (end == end) ≡ false = none end (grind (arith, nat_tests)) (grind (arith, nat_tests)) in
        grind (arith, nat_tests)
    by_tests true before false within = grind (arith, nat_tests)
    by_tests false before c within = grind (arith, nat_tests)

pub stored-between : (T : RepliedHistory) (now later : ℕ) (p : Pair) → now ≤ later → ((moment : ℕ) → now < moment → moment ≤ later → lapses T moment p ≡ false) → stored_state T later p ≡ stored_state T now p
unfolding stored_state stored_by lapses
stored-between T now later p le none = by_last (last_setting T p) none
  where
    by_last : (o : Option Setting) → ((moment : ℕ) → now < moment → moment ≤ later → unwrap_or (option_map (λ x. ends_at moment x.life) o) false ≡ false)
        → option_and_then (λ x. some_if (holds T later x.life) x.state) o ≡ option_and_then (λ x. some_if (holds T now x.life) x.state) o
    by_last None none = refl
    by_last (Some x) none = rw (holds-between T now later x.life le none) refl

pub state-between : (T : RepliedHistory) (now later d : ℕ) (f : Feature) → now ≤ later
    → ((p : Pair) → pair_for T d f ≡ Some p → (moment : ℕ) → now < moment → moment ≤ later → lapses T moment p ≡ false) → permission_state T later d f ≡ permission_state T now d f
state-between T now later d f le none =
    state-by-entry T later d f
    ∙ rw (then-same (stored_state T later) (stored_state T now) (pair_for T d f) (λ p is. stored-between T now later p le (none p is)), state-by-entry T now d f) refl

-- ---- the change of a status at a moment

state-differs : (a b : State) → is_same_state a b ≡ false → a ≢ b
state-differs a b h e = let same : is_same_state a b ≡ true = ap (is_same_state a) (sym e) ∙ same-state a in cc

pub change-lapses : (T : RepliedHistory) (now : ℕ) (x : Status) (c : Change) → change_at T now x ≡ Some c → MayLapse T now x.document x.feature
unfolding change_at
change-lapses T now x c h = changes-at-lapse T now x.document x.feature (state-differs _ _ (by_same (is_same_state (permission_state T (now - 1) x.document x.feature) (permission_state T now x.document x.feature)) h))
  where
    by_same : (b : Bool) → some_if (not b) (record { time = now; status = x.number; state = permission_state T now x.document x.feature }) ≡ Some c → b ≡ false
    by_same true e = cc
    by_same false e = refl

pub change-is : (T : RepliedHistory) (now : ℕ) (x : Status) (c : Change) → change_at T now x ≡ Some c → c ≡ record { time = now; status = x.number; state = permission_state T now x.document x.feature }
unfolding change_at
change-is T now x c h = by_same (not (is_same_state (permission_state T (now - 1) x.document x.feature) (permission_state T now x.document x.feature))) h
  where
    by_same : (b : Bool) → some_if b (record { time = now; status = x.number; state = permission_state T now x.document x.feature }) ≡ Some c
        → c ≡ record { time = now; status = x.number; state = permission_state T now x.document x.feature }
    by_same true e = ap (λ (o : Option Change). unwrap_or o c) (sym e)
    by_same false e = cc

-- ---- the changes that an event does not bring

-- each status of the list is of a document that was made by then
abbrev AreWithin : ℕ → List Status → Type 0
AreWithin n [] = Unit {0}
AreWithin n (x ∷ xs) = (x.document ≤ n) × AreWithin n xs

join-within : (n : ℕ) (xs ys : List Status) → AreWithin n xs → AreWithin n ys → AreWithin (suc n) (xs ++ ys)
join-within n [] [] h g = tt
join-within n [] (y ∷ ys) h g = (omega (arith, g.0), join-within n [] ys tt g.1)
join-within n (x ∷ xs) ys h g = (omega (arith, h.0), join-within n xs ys h.1 g)

filter-within : (n : ℕ) (test : Status → Bool) (xs : List Status) → AreWithin n xs → AreWithin n (filter test xs)
filter-within n test [] h = tt
filter-within n test (x ∷ xs) h = by_test (test x) (filter-within n test xs h.1)
  where
    by_test : (b : Bool) → AreWithin n (filter test xs) → AreWithin n (cond b (x ∷ filter test xs) (filter test xs))
    by_test true rest = (h.0, rest)
    by_test false rest = rest

status-within : (e : Event) (T : RepliedHistory) (k : ℕ) → AreWithin (length T) (option_to_list (status_by e T k))
status-within (event.Query frame feature) T k = by_document (document_in T frame) (document-in-below T frame)
  where
    by_feature : (d : ℕ) → d ≤ length T → (o : Option Feature) → AreWithin (length T) (option_to_list (option_map (λ f. record { number = k; document = d; feature = f }) o))
    by_feature d le None = tt
    by_feature d le (Some f) = (le, tt)

    by_document : (o : Option ℕ) → ((d : ℕ) → o ≡ Some d → d ≤ length T)
        → AreWithin (length T) (option_to_list (option_and_then (λ d. option_map (λ f. record { number = k; document = d; feature = f }) (feature_named feature)) o))
    by_document None below = tt
    by_document (Some d) below = by_feature d (below d refl) (feature_named feature)
status-within e T k = tt

made-within : (T : RepliedHistory) → AreWithin (length T) (all_answers (λ s B. option_to_list (status_by s.event B (length (s ∷ B)))) T)
unfolding all_answers
made-within [] = tt
made-within (s ∷ T) = join-within (length T) (all_answers (λ s B. option_to_list (status_by s.event B (length (s ∷ B)))) T) (option_to_list (status_by s.event T (suc (length T)))) (made-within T) (status-within s.event T (suc (length T)))

live-within : (T : RepliedHistory) → AreWithin (length T) (live_statuses T)
unfolding live_statuses
live-within T = filter-within (length T) (is_live_status T) (all_answers (λ s B. option_to_list (status_by s.event B (length (s ∷ B)))) T) (made-within T)

none-of : (n : ℕ) (give : Status → Option Change) (xs : List Status) → AreWithin n xs → ((x : Status) → x.document ≤ n → give x ≡ None) → flat_map (λ x. option_to_list (give x)) xs ≡ []
none-of n give [] h none = refl
none-of n give (x ∷ xs) h none = rw (none x h.0) (none-of n give xs h.1 none)

pub none-unless-stored : (s : Step) (T : RepliedHistory) (now : ℕ) (x : Status) → x.document ≤ length T
    → ((p : Pair) → pair_for T x.document x.feature ≡ Some p → stored_state (s ∷ T) now p ≡ stored_state T now p) → change_between T (s ∷ T) now x ≡ None
unfolding change_between
none-unless-stored s T now x le same =
    rw (state-same-entry s T now x.document x.feature le same, same-state (permission_state T now x.document x.feature)) refl

pub none-blocked : (s : Step) (T : RepliedHistory) (now : ℕ) (x : Status) → x.document ≤ length T → is_blocked T x.document x.feature ≡ true → change_between T (s ∷ T) now x ≡ None
unfolding change_between
none-blocked s T now x le h =
    rw (
      state-blocked T now x.document x.feature h,
      state-blocked (s ∷ T) now x.document x.feature (blocked-older s T x.document x.feature le ∙ h),
    ) refl

pub between-of-pair : (s : Step) (T : RepliedHistory) (now : ℕ) (x : Status) (p : Pair) → x.document ≤ length T → pair_for T x.document x.feature ≡ Some p
    → change_between T (s ∷ T) now x ≡ change_of now x (state_from (is_blocked T x.document x.feature) (stored_state T now p)) (state_from (is_blocked T x.document x.feature) (stored_state (s ∷ T) now p))
unfolding change_between
between-of-pair s T now x p le is =
    let after : permission_state (s ∷ T) now x.document x.feature ≡ state_from (is_blocked T x.document x.feature) (stored_state (s ∷ T) now p) =
    state-older s T now x.document x.feature le ∙ ap (λ o. state_from (is_blocked T x.document x.feature) (option_and_then (stored_state (s ∷ T) now) o)) is in
    rw (state-of-pair T now x.document x.feature p is, after) refl

module _ (pairs : (p q : Pair) → Decides (is_same_pair p q) (p ≡ q)) where
  pub none-between : (s : Step) (T : RepliedHistory) (now : ℕ) (x : Status) → x.document ≤ length T → (effects s.event s.item).sets ≡ false → (effects s.event s.item).dismisses ≡ false
      → (effects s.event s.item).ends_documents ≡ false → change_between T (s ∷ T) now x ≡ None
  unfolding change_between
  none-between s T now x le sets dismisses h =
      rw (state-stays pairs s T now x.document x.feature le sets dismisses h, same-state (permission_state T now x.document x.feature)) refl

  pub none-after : (s : Step) (T : RepliedHistory) (now : ℕ) → (effects s.event s.item).sets ≡ false → (effects s.event s.item).dismisses ≡ false → (effects s.event s.item).ends_documents ≡ false
      → changes_after T (s ∷ T) now ≡ []
  unfolding changes_after
  none-after s T now sets dismisses h =
      none-of (length T) (change_between T (s ∷ T) now) (filter (is_live_in (s ∷ T)) (live_statuses T)) (filter-within (length T) (is_live_in (s ∷ T)) (live_statuses T) (live-within T))
      (λ x le. none-between s T now x le sets dismisses h)

  pub none-after-unset : (s : Step) (T : RepliedHistory) (now : ℕ) → setting_by s.time s.event T ≡ None → (effects s.event s.item).ends_documents ≡ false → changes_after T (s ∷ T) now ≡ []
  unfolding changes_after
  none-after-unset s T now none h =
      none-of (length T) (change_between T (s ∷ T) now) (filter (is_live_in (s ∷ T)) (live_statuses T)) (filter-within (length T) (is_live_in (s ∷ T)) (live_statuses T) (live-within T))
      (λ x le. none-unless-stored s T now x le (λ p is. stored-older pairs s T now p h (last-setting-step pairs s T p ∙ rw none refl)))
