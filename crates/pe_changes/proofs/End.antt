-- The changes that the end of a top document brings.
use Rattle.std.proofs.Common.{◌≡◌, ◌≢◌, ℕ, ◌+◌, ◌<◌, ◌≤◌, Bool, true, false, not, ◌||◌, List, [], ◌∷◌, ◌++◌, length, flat_map, Option, Some, None, option_map, option_and_then, refl, sym, ◌∙◌, ap, arith, cond, subst, append-nil, length-append, take, get_or, true≢false}
use Rattle.std.specs.Bool.{Decides}
use Rattle.std.specs.List.Sorted.{IsPermutation}
use Rattle.std.proofs.lemmas.Bool.Decides.{nat_tests}
use Rattle.std.proofs.lemmas.List.{take_more, take_all}
use Rattle.std.proofs.lemmas.List.Concat.{flat_map-append}
use Rattle.pe_base.specs.declared.state.State.{State}
use Rattle.pe_base.specs.declared.state.State.TheVariants as state
use Rattle.pe_events.specs.declared.answer.Change.{Change}
use Rattle.pe_store.specs.declared.key.Life.{Life}
use Rattle.pe_store.specs.declared.key.Life.TheVariants as life
use Rattle.pe_store.specs.Entries.{StoreValue, entry_of}
use Rattle.pe_store.specs.Pages.{is_listed, AreApart}
use Rattle.pe_store.specs.Pairs.{Pair, is_same_pair}
use Rattle.pe_store.specs.Places.{has_life, is_page_of}
use Rattle.pe_status.specs.declared.registered.Registered.{Registered}
use Rattle.pe_status.specs.Registry.{Registry, pair_of, is_under, later_under}
use Rattle.pe_rules.specs.History.{Step, RepliedHistory, History, some_if}
use Rattle.pe_rules.specs.Current.{ends, document_in}
use Rattle.pe_rules.specs.Settings.{Setting, pair_for, setting_by, stored_state}
use Rattle.pe_rules.specs.Statuses.{live_statuses}
use Rattle.pe_rules.specs.Changes.{is_same_state, change_between, changes_after}
use Rattle.pe_rules.specs.Replies.{replied, is_regular}
use Rattle.pe_laws.specs.HistoryLaws.{HistoryLaws}
use Rattle.pe_laws.specs.EffectsLaws.{effects_of}
use Rattle.pe_laws.specs.PermissionStateLaws.{is_blocked}
use Rattle.pe_laws.specs.SettingsLaws.{leaves_life, in_force}
use Rattle.pe_laws.specs.StatusesLaws.{Each}
use Rattle.pe_changes.specs.Bags.{count, IsSameBag}
use Rattle.pe_changes.specs.Gathered.{change_to, changes_under, statuses_under}
use Rattle.pe_changes.specs.Parts.{entry_by, IsStore, IsStatuses}
use Rattle.pe_changes.proofs.After.{change_stored, ArePaired, same-stored, from-stored, live-before, after-is}
use Rattle.pe_changes.proofs.Before.{AreBlocked}
use Rattle.pe_changes.proofs.Counts.{count-append, count-split, count-permutation, flat-none, flat-same, each-both, each-weaker, each-all}
use Rattle.pe_changes.proofs.Lapses.{all-under}
use Rattle.pe_changes.proofs.Leaving.{end-is, left-by, entry-force, entry-none}
use Rattle.pe_changes.proofs.Order.{IsStrict, IsWeak, ordered-is}
use Rattle.pe_changes.proofs.Ordered.{comes_before, is_same_change, same-change-decides, strict-rising, changes-rise}
use Rattle.pe_changes.proofs.Stored.{in-force-is, decides, unset-in-force}

-- ---- the statuses of several pairs

none-listed : {C : Type 0} (f : Registered → List C) (r : Registered) → cond (is_listed (pair_of r) []) (f r) [] ≡ []
unfolding is_listed
none-listed f r = refl

module _ (pairs : (p q : Pair) → Decides (is_same_pair p q) (p ≡ q)) where
  pub ended-bag : {C : Type 0} (f : Registered → List C) (live : List Registered) (ended : List Pair) → AreApart ended
      → IsSameBag (flat_map (λ p. flat_map f (later_under p None live)) ended) (flat_map (λ r. cond (is_listed (pair_of r) ended) (f r) []) live)
  unfolding is_listed AreApart
  ended-bag f live [] apart test = ap (count test) (sym (flat-none (λ r. cond (is_listed (pair_of r) []) (f r) []) (none-listed f) live))
  ended-bag f live (p ∷ ps) apart test =
      let rest = ended-bag f live ps apart.1 test in
      let here = ap (λ (rs : List Registered). flat_map f rs) (all-under p live) in
      let both = count-append test (flat_map f (later_under p None live)) (flat_map (λ p. flat_map f (later_under p None live)) ps) in
      let one = ap (count test) here in
      let split = count-split test (is_under p) (λ r. cond (is_listed (pair_of r) ps) (f r) []) f (λ r. cond (is_listed (pair_of r) (p ∷ ps)) (f r) []) none new old live in
      omega arith
    where
      none : (r : Registered) → is_under p r ≡ true → cond (is_listed (pair_of r) ps) (f r) [] ≡ []
      none r in_pair =
          let q : pair_of r ≡ p = (pairs (pair_of r) p).0 in_pair in
          let out : is_listed (pair_of r) ps ≡ false = ap (λ (q : Pair). is_listed q ps) q ∙ apart.0 in
          rw out refl

      new : (r : Registered) → is_under p r ≡ true → cond (is_same_pair p (pair_of r) || is_listed (pair_of r) ps) (f r) [] ≡ f r
      new r in_pair =
          let q : pair_of r ≡ p = (pairs (pair_of r) p).0 in_pair in
          let same : is_same_pair p (pair_of r) ≡ true = (pairs p (pair_of r)).1 (sym q) in
          rw same refl

      old : (r : Registered) → is_under p r ≡ false → cond (is_same_pair p (pair_of r) || is_listed (pair_of r) ps) (f r) [] ≡ cond (is_listed (pair_of r) ps) (f r) []
      old r out = by_same (is_same_pair p (pair_of r)) refl
        where
          by_same : (b : Bool) → is_same_pair p (pair_of r) ≡ b → cond (b || is_listed (pair_of r) ps) (f r) [] ≡ cond (is_listed (pair_of r) ps) (f r) []
          by_same false k = refl
          by_same true k =
              let q : p ≡ pair_of r = (pairs p (pair_of r)).0 k in
              let in_pair : is_under p r ≡ true = (pairs (pair_of r) p).1 (sym q) in
              absurd (true≢false (sym in_pair ∙ out))

-- ---- one status

life-is : (doc : ℕ) (l : Life) → is_page_of doc l ≡ true → l ≡ life.Page doc
life-is doc life.Forever h = cc
life-is doc (life.Until m) h = cc
life-is doc (life.Page d) h = let e : doc ≡ d = grind (arith, nat_tests) in ap life.Page (sym e)

not-prompt : (a : State) → a ≢ state.Prompt → is_same_state a state.Prompt ≡ false
not-prompt state.Granted h = refl
not-prompt state.Denied h = refl
not-prompt state.Prompt h = absurd (h refl)

module _ (laws : HistoryLaws) (duration : ℕ) (H : History) (s : Step) (now f doc : ℕ) (old : StoreValue) where
  one-ended : is_regular duration H ≡ true → ends (f ∷ []) s.event ≡ true → document_in (replied duration H) f ≡ Some doc → IsStore (replied duration H) now old → (silent : Registered → Bool) (ended : List Pair)
      → ((pair : Pair) → is_listed pair ended ≡ has_life is_page_of doc (entry_of old.entries pair))
      → (r : Registered) → change_stored silent now (stored_state (replied duration H) now) (stored_state (s ∷ replied duration H) now) r ≡ cond (is_listed (pair_of r) ended) (change_to silent now state.Prompt r) []
  one-ended regular end shown is silent ended listed r = by_force (in_force (replied duration H) now (pair_of r)) refl
    where
      unset : setting_by s.time s.event (replied duration H) ≡ None
      unset = let quiet = end-is s f end in laws.effects.setting_none s (replied duration H) quiet.sets quiet.dismisses

      after : (o : Option Setting) → in_force (replied duration H) now (pair_of r) ≡ o
          → stored_state (s ∷ replied duration H) now (pair_of r) ≡ option_map (λ (x : Setting). x.state) (option_and_then (λ (x : Setting). some_if (leaves_life (replied duration H) s x.life) x) o)
      after o force =
          laws.settings.stored_in_force (s ∷ replied duration H) now (pair_of r)
          ∙ ap (option_map (λ (x : Setting). x.state)) (unset-in-force laws s (replied duration H) now (pair_of r) unset ∙ ap (option_and_then (λ (x : Setting). some_if (leaves_life (replied duration H) s x.life) x)) force)

      before : (o : Option Setting) → in_force (replied duration H) now (pair_of r) ≡ o → stored_state (replied duration H) now (pair_of r) ≡ option_map (λ (x : Setting). x.state) o
      before o force = laws.settings.stored_in_force (replied duration H) now (pair_of r) ∙ ap (option_map (λ (x : Setting). x.state)) force

      unlisted : is_listed (pair_of r) ended ≡ false → stored_state (s ∷ replied duration H) now (pair_of r) ≡ stored_state (replied duration H) now (pair_of r)
          → change_stored silent now (stored_state (replied duration H) now) (stored_state (s ∷ replied duration H) now) r ≡ cond (is_listed (pair_of r) ended) (change_to silent now state.Prompt r) []
      unlisted out same = rw out (same-stored silent now (stored_state (replied duration H) now) (stored_state (s ∷ replied duration H) now) r same)

      by_page : (x : Setting) → in_force (replied duration H) now (pair_of r) ≡ Some x → (b : Bool) → is_page_of doc x.life ≡ b → is_listed (pair_of r) ended ≡ b
          → stored_state (s ∷ replied duration H) now (pair_of r) ≡ option_map (λ (x : Setting). x.state) (some_if (not b) x)
          → change_stored silent now (stored_state (replied duration H) now) (stored_state (s ∷ replied duration H) now) r ≡ cond (is_listed (pair_of r) ended) (change_to silent now state.Prompt r) []
      by_page x force false page out later = unlisted out (later ∙ sym (before (Some x) force))
      by_page x force true page in_list later =
          let given : is_same_state x.state state.Prompt ≡ false = not-prompt x.state (decides laws (replied duration H) (pair_of r) x doc (in-force-is (replied duration H) now (pair_of r) x force).0 (life-is doc x.life page)) in
          rw (in_list, before (Some x) force, later) (from-stored silent now r x.state state.Prompt ∙ rw given refl)

      by_force : (o : Option Setting) → in_force (replied duration H) now (pair_of r) ≡ o
          → change_stored silent now (stored_state (replied duration H) now) (stored_state (s ∷ replied duration H) now) r ≡ cond (is_listed (pair_of r) ended) (change_to silent now state.Prompt r) []
      by_force None force =
          unlisted (listed (pair_of r) ∙ ap (has_life is_page_of doc) (entry-none laws (replied duration H) now old (pair_of r) is force)) (after None force ∙ sym (before None force))
      by_force (Some x) force =
          let some = entry-force laws (replied duration H) now old (pair_of r) x is force in
          by_page x force (is_page_of doc x.life) refl (listed (pair_of r) ∙ ap (has_life is_page_of doc) some)
          (after (Some x) force ∙ ap (λ b. option_map (λ (x : Setting). x.state) (some_if b x)) (left-by laws duration H s now f doc (pair_of r) x regular end shown (is.tops (pair_of r) (entry_by x) some) force))

-- ---- all statuses

after-rise : HistoryLaws → (s : Step) (T : RepliedHistory) (now : ℕ) → (effects_of s).makes_status ≡ false → IsStrict comes_before (changes_after T (s ∷ T) now)
unfolding change_between
after-rise laws s T now unmade =
    subst (IsStrict comes_before) (sym (laws.changes.after_live s T now unmade)) (changes-rise now _ _ (live_statuses (s ∷ T)) (strict-rising (live_statuses (s ∷ T)) (laws.statuses.live_rise (s ∷ T))))

before-paired : HistoryLaws → (s : Step) (T : RepliedHistory) (live : List Registered) → Each (λ r. r.doc.doc ≤ length T) live → ArePaired (s ∷ T) live → ArePaired T live
before-paired laws s T live within paired =
    each-weaker (λ r. (r.doc.doc ≤ length T) × (pair_for (s ∷ T) r.doc.doc r.feature ≡ Some (pair_of r))) (λ r. pair_for T r.doc.doc r.feature ≡ Some (pair_of r)) live
    (λ r h. sym (laws.settings.pair_older s T r.doc.doc r.feature h.0) ∙ h.1) (each-both _ _ live within paired)

before-blocked : HistoryLaws → (s : Step) (T : RepliedHistory) (silent : Registered → Bool) (live : List Registered) → Each (λ r. r.doc.doc ≤ length T) live → AreBlocked (s ∷ T) silent live → AreBlocked T silent live
before-blocked laws s T silent live within denied =
    each-weaker (λ r. (r.doc.doc ≤ length T) × (silent r ≡ is_blocked (s ∷ T) r.doc.doc r.feature)) (λ r. silent r ≡ is_blocked T r.doc.doc r.feature) live
    (λ r h. h.1 ∙ laws.states.blocked_older s T r.doc.doc r.feature h.0) (each-both _ _ live within denied)

pub ended-is : HistoryLaws → ((p q : Pair) → Decides (is_same_pair p q) (p ≡ q)) → (duration : ℕ) (H : History) (s : Step) (now f doc : ℕ) (old : StoreValue) (silent : Registered → Bool) (statuses : Registry)
    (ended : List Pair) (gathered sorted : List Change) → is_regular duration H ≡ true → ends (f ∷ []) s.event ≡ true → document_in (replied duration H) f ≡ Some doc → IsStore (replied duration H) now old
    → IsStatuses (s ∷ replied duration H) statuses → AreBlocked (s ∷ replied duration H) silent statuses.live → AreApart ended → ((pair : Pair) → is_listed pair ended ≡ has_life is_page_of doc (entry_of old.entries pair))
    → gathered ≡ changes_under silent now state.Prompt statuses.live ended → IsPermutation gathered sorted → IsWeak comes_before sorted → sorted ≡ changes_after (replied duration H) (s ∷ replied duration H) now
ended-is laws pairs duration H s now f doc old silent statuses ended gathered sorted regular end shown is stand denied apart listed all moved weak =
    let T = replied duration H in
    let live = statuses.live in
    let unmade = (end-is s f end).makes in
    let within = live-before laws s T live stand.live in
    let meant : changes_after T (s ∷ T) now ≡ flat_map (λ r. cond (is_listed (pair_of r) ended) (change_to silent now state.Prompt r) []) live =
    after-is laws s T now silent live unmade stand.live (before-paired laws s T live within stand.paired) (before-blocked laws s T silent live within denied)
    ∙ flat-same (change_stored silent now (stored_state T now) (stored_state (s ∷ T) now)) (λ r. cond (is_listed (pair_of r) ended) (change_to silent now state.Prompt r) []) live
    (each-all _ live (one-ended laws duration H s now f doc old regular end shown is silent ended listed)) in
    sym (ordered-is is_same_change same-change-decides comes_before (changes_after T (s ∷ T) now) sorted (after-rise laws s T now unmade) weak
    (λ test. ap (count test) meant ∙ sym (ended-bag pairs (change_to silent now state.Prompt) live ended apart test) ∙ ap (count test) (sym all) ∙ sym (count-permutation gathered sorted moved test)))

-- ---- the walk over the pairs

pub under-more : (F : Pair → List Change) (ps : List Pair) (i : ℕ) (p : Pair) → i < length ps → p ≡ get_or ps i p → flat_map F (take (i + 1) ps) ≡ flat_map F (take i ps) ++ F p
under-more F ps i p lt is =
    ap (flat_map F) (take_more ps i p lt) ∙ flat_map-append F (take i ps) (get_or ps i p ∷ [])
    ∙ ap (λ (q : Pair). flat_map F (take i ps) ++ (F q ++ [])) (sym is) ∙ ap (λ (xs : List Change). flat_map F (take i ps) ++ xs) (append-nil (F p))

pub under-whole : (F : Pair → List Change) (ps : List Pair) (i : ℕ) → length ps ≤ i → flat_map F (take i ps) ≡ flat_map F ps
under-whole F ps i le = ap (flat_map F) (take_all i ps le)

pub more-under : (live : List Registered) (ps : List Pair) (i : ℕ) (p : Pair) → i < length ps → p ≡ get_or ps i p
    → length (statuses_under live (take (i + 1) ps)) ≡ length (statuses_under live (take i ps)) + length (later_under p None live)
more-under live ps i p lt is =
    ap length
    (ap (statuses_under live) (take_more ps i p lt) ∙ flat_map-append (λ p. later_under p None live) (take i ps) (get_or ps i p ∷ [])
    ∙ ap (λ (q : Pair). statuses_under live (take i ps) ++ (later_under q None live ++ [])) (sym is) ∙ ap (λ (xs : List Registered). statuses_under live (take i ps) ++ xs) (append-nil (later_under p None live)))
    ∙ length-append (statuses_under live (take i ps)) (later_under p None live)

pub whole-under : (live : List Registered) (ps : List Pair) (i : ℕ) → length ps ≤ i → statuses_under live (take i ps) ≡ statuses_under live ps
whole-under live ps i le = ap (statuses_under live) (take_all i ps le)
