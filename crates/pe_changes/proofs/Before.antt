-- The changes that entries bring as they end are those of the definitions.
use Rattle.std.proofs.Common.{◌≡◌, ◌≢◌, ℕ, zero, suc, ◌+◌, ◌-◌, ◌<◌, ◌≤◌, Bool, true, false, ◌&&◌, ◌==◌, nat_lt, List, [], ◌∷◌, ◌++◌, flat_map, Option, Some, None, option_map, option_and_then, option_to_list, refl, sym, ◌∙◌, ap, arith, cond, append-nil}
use Rattle.std.specs.List.Sorted.{IsPermutation}
use Rattle.std.proofs.lemmas.Bool.Decides.{nat_tests}
use Rattle.std.proofs.lemmas.List.Folds.{flat_map-map}
use Rattle.pe_base.specs.declared.state.State.{State}
use Rattle.pe_base.specs.declared.state.State.TheVariants as state
use Rattle.pe_events.specs.declared.answer.Change.{Change}
use Rattle.pe_store.specs.declared.entry.Entry.{Entry}
use Rattle.pe_store.specs.declared.key.Life.{Life}
use Rattle.pe_store.specs.declared.key.Life.TheVariants as life
use Rattle.pe_store.specs.Entries.{StoreValue, dismissals_of, entry_of}
use Rattle.pe_store.specs.Pairs.{Pair}
use Rattle.pe_status.specs.declared.registered.Registered.{Registered}
use Rattle.pe_status.specs.Registry.{Registry, pair_of}
use Rattle.pe_rules.specs.History.{RepliedHistory, some_if, clock}
use Rattle.pe_rules.specs.Current.{is_current}
use Rattle.pe_rules.specs.Settings.{Setting, pair_for, holds, stored_by, last_setting, stored_state}
use Rattle.pe_rules.specs.PermissionState.{permission_state}
use Rattle.pe_rules.specs.Statuses.{Status, live_statuses}
use Rattle.pe_rules.specs.Changes.{is_same_state, change_of, numbers_above, change_at, changes_at, changes_before}
use Rattle.pe_laws.specs.HistoryLaws.{HistoryLaws}
use Rattle.pe_laws.specs.PermissionStateLaws.{is_blocked, state_from}
use Rattle.pe_laws.specs.SettingsLaws.{in_force}
use Rattle.pe_laws.specs.StatusesLaws.{Each}
use Rattle.pe_changes.specs.Bags.{count, IsSameBag}
use Rattle.pe_changes.specs.Gathered.{change_from, outlasts, lasting, NoneEnds, change_at_end, change_by_entry, change_by_lapse, AreLapses}
use Rattle.pe_changes.specs.Parts.{entry_by, entry_in, IsStore, status_of_row, IsStatuses}
use Rattle.pe_changes.proofs.Counts.{count-exchange, count-permutation, flat-same, each-both, each-weaker, each-all}
use Rattle.pe_changes.proofs.Order.{IsWeak, ordered-is}
use Rattle.pe_changes.proofs.Ordered.{comes_before, is_same_change, same-change-decides, before-rise}

-- ---- a walk over milliseconds of which one counts

walk-out : {C : Type 0} (f : ℕ → List C) (n from : ℕ) → ((m : ℕ) → from < m → m ≤ from + n → f m ≡ []) → flat_map f (numbers_above from n) ≡ []
unfolding numbers_above
walk-out f zero from none = refl
walk-out f (suc n) from none = rw (none (from + 1) (omega arith) (omega arith)) (walk-out f n (from + 1) (λ m lt le. none m (omega arith) (omega arith)))

walk-in : {C : Type 0} (f : ℕ → List C) (end : ℕ) (n from : ℕ) → from < end → end ≤ from + n → ((m : ℕ) → m ≢ end → f m ≡ []) → flat_map f (numbers_above from n) ≡ f end
unfolding numbers_above
walk-in f end zero from lt le none = absurd (omega arith)
walk-in f end (suc n) from lt le none = by_test (from + 1 == end) refl (λ lt le. walk-in f end n (from + 1) lt le none)
  where
    by_test : (b : Bool) → (from + 1 == end) ≡ b → (from + 1 < end → end ≤ from + 1 + n → flat_map f (numbers_above (from + 1) n) ≡ f end) → f (from + 1) ++ flat_map f (numbers_above (from + 1) n) ≡ f end
    by_test true is rest =
        let e : from + 1 ≡ end = grind (arith, nat_tests) in
        ap (λ xs. f (from + 1) ++ xs) (walk-out f n (from + 1) (λ m lt le. none m (omega arith))) ∙ append-nil (f (from + 1)) ∙ ap f e
    by_test false is rest =
        let differ : from + 1 ≢ end = grind (arith, nat_tests) in
        rw (none (from + 1) differ) (rest (omega arith) (omega arith))

-- ---- the state of a status, by what is stored

same-state : (a : State) → is_same_state a a ≡ true
same-state state.Granted = refl
same-state state.Denied = refl
same-state state.Prompt = refl

pub no-change : (now : ℕ) (x : Status) (a b : State) → a ≡ b → change_of now x a b ≡ None
no-change now x a b e = rw (e, same-state b) refl

-- what a setting, if any, stores at a time
abbrev pub stored_at : RepliedHistory → ℕ → Option Setting → Option State
stored_at T now o = option_and_then (λ (x : Setting). some_if (holds T now x.life) x.state) o

stored-is : (T : RepliedHistory) (now : ℕ) (p : Pair) → stored_state T now p ≡ stored_at T now (last_setting T p)
unfolding stored_state stored_by
stored-is T now p = refl

state-is : HistoryLaws → (T : RepliedHistory) (now : ℕ) (silent : Registered → Bool) (r : Registered) → pair_for T r.doc.doc r.feature ≡ Some (pair_of r) → silent r ≡ is_blocked T r.doc.doc r.feature
    → permission_state T now r.doc.doc r.feature ≡ state_from (silent r) (stored_at T now (last_setting T (pair_of r)))
state-is laws T now silent r keyed blocked =
    laws.states.state_of_pair T now r.doc.doc r.feature (pair_of r) keyed
    ∙ ap (λ b. state_from b (stored_state T now (pair_of r))) (sym blocked)
    ∙ ap (state_from (silent r)) (stored-is T now (pair_of r))

-- ---- one status

module _ (T : RepliedHistory) (to : ℕ) (later : clock T ≤ to) (silent : Registered → Bool) (r : Registered) where
  abbrev change_by : Option Setting → ℕ → List Change
  change_by o now = option_to_list (change_of now (status_of_row r) (state_from (silent r) (stored_at T (now - 1) o)) (state_from (silent r) (stored_at T now o)))

  quiet : (x : Setting) (now : ℕ) → holds T (now - 1) x.life ≡ holds T now x.life → change_by (Some x) now ≡ []
  quiet x now same = ap option_to_list (no-change now (status_of_row r) _ _ (ap (λ b. state_from (silent r) (some_if b x.state)) same))

  turns : (now : ℕ) (b : Bool) (given : State)
      → option_to_list (change_of now (status_of_row r) (cond b state.Denied given) (cond b state.Denied state.Prompt)) ≡ cond (is_same_state given state.Prompt) [] (cond b [] (record { time = now; status = r.no; state = state.Prompt } ∷ []))
  turns now true state.Granted = refl
  turns now true state.Denied = refl
  turns now true state.Prompt = refl
  turns now false state.Granted = refl
  turns now false state.Denied = refl
  turns now false state.Prompt = refl

  ends-here : (x : Setting) (end : ℕ) → x.life ≡ life.Until end → 0 < end → change_by (Some x) end ≡ change_from silent end x.state state.Prompt r
  unfolding holds
  ends-here x end is pos =
      let before : nat_lt (end - 1) end ≡ true = grind (arith, nat_tests) in
      let after : nat_lt end end ≡ false = grind (arith, nat_tests) in
      rw (is, before, after) (turns end (silent r) x.state)

  holds-until : (x : Setting) (end now : ℕ) → x.life ≡ life.Until end → holds T now x.life ≡ nat_lt now end
  unfolding holds
  holds-until x end now is = rw is refl

  quiet-until : (x : Setting) (end now : ℕ) → x.life ≡ life.Until end → now ≢ end → holds T (now - 1) x.life ≡ holds T now x.life
  quiet-until x end now is differ =
      let k : nat_lt (now - 1) end ≡ nat_lt now end = grind (arith, nat_tests) in
      holds-until x end (now - 1) is ∙ k ∙ sym (holds-until x end now is)

  none-lasting : (x : Setting) → ((now : ℕ) → outlasts now x.life ≡ true) → (b : Bool) → change_by_entry to silent r (option_map entry_by (some_if b x)) ≡ []
  none-lasting x lasts false = refl
  none-lasting x lasts true = by_life x.life (lasts to)
    where
      by_life : (l : Life) → outlasts to l ≡ true → change_at_end to silent r x.state l ≡ []
      by_life life.Forever h = refl
      by_life (life.Page d) h = refl
      by_life (life.Until m) h = rw h refl

  at-moment : (given : State) (l : Life) (end : ℕ) → l ≡ life.Until end → (b : Bool) → nat_lt to end ≡ b → change_at_end to silent r given l ≡ cond b [] (change_from silent end given state.Prompt r)
  at-moment given l end is b e = rw (is, e) refl

  until-moment : (x : Setting) (end : ℕ) → x.life ≡ life.Until end → (b : Bool) → nat_lt (clock T) end ≡ b
      → flat_map (change_by (Some x)) (numbers_above (clock T) (to - clock T)) ≡ change_by_entry to silent r (option_map entry_by (some_if b x))
  until-moment x end is false over =
      walk-out (change_by (Some x)) (to - clock T) (clock T) (λ m lt le. quiet x m (quiet-until x end m is (let k : end ≤ clock T = grind (arith, nat_tests) in omega arith)))
  until-moment x end is true running = by_end (nat_lt to end) refl
    where
      by_end : (c : Bool) → nat_lt to end ≡ c → flat_map (change_by (Some x)) (numbers_above (clock T) (to - clock T)) ≡ change_at_end to silent r x.state x.life
      by_end true out =
          walk-out (change_by (Some x)) (to - clock T) (clock T) (λ m lt le. quiet x m (quiet-until x end m is (let k : to < end = grind (arith, nat_tests) in omega arith)))
          ∙ sym (at-moment x.state x.life end is true out)
      by_end false within =
          let lt : clock T < end = grind (arith, nat_tests) in
          let le : end ≤ to = grind (arith, nat_tests) in
          walk-in (change_by (Some x)) end (to - clock T) (clock T) lt (omega arith) (λ m differ. quiet x m (quiet-until x end m is differ))
          ∙ ends-here x end is (omega arith) ∙ sym (at-moment x.state x.life end is false within)

  holds-forever : (x : Setting) (now : ℕ) → x.life ≡ life.Forever → holds T now x.life ≡ true
  unfolding holds
  holds-forever x now is = rw is refl

  holds-page : (x : Setting) (d now : ℕ) → x.life ≡ life.Page d → holds T now x.life ≡ is_current T d
  unfolding holds
  holds-page x d now is = rw is refl

  steady : (x : Setting) → ((now : ℕ) → holds T (now - 1) x.life ≡ holds T now x.life) → ((now : ℕ) → outlasts now x.life ≡ true)
      → flat_map (change_by (Some x)) (numbers_above (clock T) (to - clock T)) ≡ change_by_entry to silent r (option_map entry_by (some_if (holds T (clock T) x.life) x))
  steady x same lasts =
      walk-out (change_by (Some x)) (to - clock T) (clock T) (λ m lt le. quiet x m (same m)) ∙ sym (none-lasting x lasts (holds T (clock T) x.life))

  by-setting : (o : Option Setting) → flat_map (change_by o) (numbers_above (clock T) (to - clock T))
      ≡ change_by_entry to silent r (option_map entry_by (option_and_then (λ (x : Setting). some_if (holds T (clock T) x.life) x) o))
  by-setting None = walk-out (change_by None) (to - clock T) (clock T) (λ m lt le. ap option_to_list (no-change m (status_of_row r) _ _ refl))
  by-setting (Some x) = by_life x.life refl
    where
      by_life : (l : Life) → x.life ≡ l → flat_map (change_by (Some x)) (numbers_above (clock T) (to - clock T)) ≡ change_by_entry to silent r (option_map entry_by (some_if (holds T (clock T) x.life) x))
      by_life life.Forever is = steady x (λ now. holds-forever x (now - 1) is ∙ sym (holds-forever x now is)) (λ now. rw is refl)
      by_life (life.Page d) is = steady x (λ now. holds-page x d (now - 1) is ∙ sym (holds-page x d now is)) (λ now. rw is refl)
      by_life (life.Until end) is = rw (holds-until x end (clock T) is) (until-moment x end is (nat_lt (clock T) end) refl)

  change-is : HistoryLaws → pair_for T r.doc.doc r.feature ≡ Some (pair_of r)
      → silent r ≡ is_blocked T r.doc.doc r.feature
      → (now : ℕ) → option_to_list (change_at T now (status_of_row r)) ≡ change_by (last_setting T (pair_of r)) now
  unfolding change_at
  change-is laws keyed denied now = rw (state-is laws T (now - 1) silent r keyed denied, state-is laws T now silent r keyed denied) refl

  pub one-status : HistoryLaws → (entries : List Entry) → ((p : Pair) → entry_of entries p ≡ entry_in T (clock T) p) → pair_for T r.doc.doc r.feature ≡ Some (pair_of r)
      → silent r ≡ is_blocked T r.doc.doc r.feature
      → flat_map (λ now. option_to_list (change_at T now (status_of_row r))) (numbers_above (clock T) (to - clock T)) ≡ change_by_lapse to silent entries r
  unfolding change_by_lapse entry_in in_force
  one-status laws entries found keyed denied =
      flat-same (λ now. option_to_list (change_at T now (status_of_row r))) (change_by (last_setting T (pair_of r))) (numbers_above (clock T) (to - clock T))
      (each-all (λ now. option_to_list (change_at T now (status_of_row r)) ≡ change_by (last_setting T (pair_of r)) now) (numbers_above (clock T) (to - clock T)) (change-is laws keyed denied))
      ∙ by-setting (last_setting T (pair_of r)) ∙ ap (change_by_entry to silent r) (sym (found (pair_of r)))

-- ---- all statuses

abbrev changes_of : RepliedHistory → ℕ → Status → List Change
changes_of T to x = flat_map (λ now. option_to_list (change_at T now x)) (numbers_above (clock T) (to - clock T))

-- each status is silent where its feature is blocked
abbrev pub AreBlocked : RepliedHistory → (Registered → Bool) → List Registered → Type 0
AreBlocked T silent live = Each (λ r. silent r ≡ is_blocked T r.doc.doc r.feature) live

definitions-bag : HistoryLaws → (T : RepliedHistory) (to : ℕ) → clock T ≤ to → (silent : Registered → Bool) (statuses : Registry) (old : StoreValue) → IsStore T (clock T) old → IsStatuses T statuses
    → AreBlocked T silent statuses.live → IsSameBag (flat_map (change_by_lapse to silent old.entries) statuses.live) (changes_before T to)
unfolding changes_before changes_at
definitions-bag laws T to later silent statuses old is stand denied test =
    let live = statuses.live in
    let each = each-both _ _ live stand.paired denied in
    let per = flat-same (λ r. changes_of T to (status_of_row r)) (change_by_lapse to silent old.entries) live (each-weaker _ _ live (λ r h. one-status T to later silent r laws old.entries is.found h.0 h.1) each) in
    ap (count test) (sym per)
    ∙ ap (count test) (sym (flat_map-map (changes_of T to) status_of_row live))
    ∙ ap (λ (xs : List Status). count test (flat_map (changes_of T to) xs)) stand.live
    ∙ sym (count-exchange test (λ now x. option_to_list (change_at T now x)) (numbers_above (clock T) (to - clock T)) (live_statuses T))

-- the changes that entries bring by a time, in order, are those of each millisecond up to it
pub before-is : HistoryLaws → (T : RepliedHistory) (to : ℕ) → clock T ≤ to → (silent : Registered → Bool) (statuses : Registry) (old : StoreValue) (new : List Entry) (gathered sorted : List Change)
    → IsStore T (clock T) old → IsStatuses T statuses → AreBlocked T silent statuses.live
    → AreLapses to silent statuses.live old.entries new gathered → IsPermutation gathered sorted → IsWeak comes_before sorted → sorted ≡ changes_before T to
before-is laws T to later silent statuses old new gathered sorted is stand denied lapses moved weak =
    sym (ordered-is is_same_change same-change-decides comes_before (changes_before T to) sorted (before-rise T to (laws.statuses.live_rise T)) weak
    (λ test. sym (count-permutation gathered sorted moved test ∙ lapses.bag test ∙ definitions-bag laws T to later silent statuses old is stand denied test)))

-- ---- the store afterwards

and-true : (b : Bool) → (b && true) ≡ b
and-true true = refl
and-true false = refl

holds-later : (T : RepliedHistory) (to : ℕ) → clock T ≤ to → (l : Life) → (holds T (clock T) l && outlasts to l) ≡ holds T to l
unfolding holds
holds-later T to later life.Forever = refl
holds-later T to later (life.Page d) = and-true (is_current T d)
holds-later T to later (life.Until end) = by_moment (nat_lt (clock T) end) (nat_lt to end) refl refl
  where
    by_moment : (b c : Bool) → nat_lt (clock T) end ≡ b → nat_lt to end ≡ c → (b && nat_lt to end) ≡ nat_lt to end
    by_moment true c before after = refl
    by_moment false false before after = sym after
    by_moment false true before after = let over : nat_lt to end ≡ false = grind (arith, nat_tests) in sym over

lasting-by : (to : ℕ) (x : Setting) (c b : Bool) → (b && outlasts to x.life) ≡ c → lasting to (option_map entry_by (some_if b x)) ≡ option_map entry_by (some_if c x)
lasting-by to x c false h = ap (λ c. option_map entry_by (some_if c x)) h
lasting-by to x c true h = by_lasts (outlasts to x.life) ∙ ap (λ c. option_map entry_by (some_if c x)) h
  where
    by_lasts : (b : Bool) → some_if b (entry_by x) ≡ option_map entry_by (some_if b x)
    by_lasts true = refl
    by_lasts false = refl

lasting-in : (T : RepliedHistory) (to : ℕ) (p : Pair) → clock T ≤ to → lasting to (entry_in T (clock T) p) ≡ entry_in T to p
unfolding entry_in in_force
lasting-in T to p later = by_setting (last_setting T p)
  where
    by_setting : (o : Option Setting) → lasting to (option_map entry_by (option_and_then (λ (x : Setting). some_if (holds T (clock T) x.life) x) o)) ≡ option_map entry_by (option_and_then (λ (x : Setting). some_if (holds T to x.life) x) o)
    by_setting None = refl
    by_setting (Some x) = lasting-by to x (holds T to x.life) (holds T (clock T) x.life) (holds-later T to later x.life)

and-same : (b : Bool) → (b && b) ≡ b
and-same true = refl
and-same false = refl

-- what holds at a time goes on after it
holds-lasting : (T : RepliedHistory) (to : ℕ) (l : Life) → (holds T to l && outlasts to l) ≡ holds T to l
unfolding holds
holds-lasting T to life.Forever = refl
holds-lasting T to (life.Page d) = and-true (is_current T d)
holds-lasting T to (life.Until end) = and-same (nat_lt to end)

-- no entry of a store that stands for steps at a time ends by then
pub none-ends : (T : RepliedHistory) (to : ℕ) (value : StoreValue) → IsStore T to value → NoneEnds to value.entries
unfolding entry_in in_force
none-ends T to value is p = ap (lasting to) (is.found p) ∙ by_setting (last_setting T p) ∙ sym (is.found p)
  where
    by_setting : (o : Option Setting) → lasting to (option_map entry_by (option_and_then (λ (x : Setting). some_if (holds T to x.life) x) o)) ≡ option_map entry_by (option_and_then (λ (x : Setting). some_if (holds T to x.life) x) o)
    by_setting None = refl
    by_setting (Some x) = lasting-by to x (holds T to x.life) (holds T to x.life) (holds-lasting T to x.life)

was-lasting : (to : ℕ) (o : Option Entry) (e : Entry) → lasting to o ≡ Some e → o ≡ Some e
was-lasting to None e h = cc
was-lasting to (Some x) e h = by_test (outlasts to x.life) h
  where
    by_test : (b : Bool) → some_if b x ≡ Some e → Some x ≡ Some e
    by_test true h = h
    by_test false h = cc

pub same-dismissals : (old new : StoreValue) (p : Pair) → new.dismissals ≡ old.dismissals → dismissals_of new p ≡ dismissals_of old p
unfolding dismissals_of
same-dismissals old new p same = rw same refl

pub lasting-store : (T : RepliedHistory) (to : ℕ) → clock T ≤ to → (old new : StoreValue) → ((p : Pair) → entry_of new.entries p ≡ lasting to (entry_of old.entries p)) → new.dismissals ≡ old.dismissals
    → IsStore T (clock T) old → IsStore T to new
lasting-store T to later old new left same is = record {
  found = λ p. left p ∙ ap (lasting to) (is.found p) ∙ lasting-in T to p later;
  dismissals = λ p. same-dismissals old new p same ∙ is.dismissals p;
  tops = λ p e h. is.tops p e (was-lasting to (entry_of old.entries p) e (sym (left p) ∙ h));
}
