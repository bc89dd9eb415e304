-- For what a store stands after a step.
use Rattle.std.proofs.Common.{◌≡◌, ◌≢◌, ℕ, ◌+◌, ◌<◌, Bool, true, false, not, ◌&&◌, nat_le, List, [], ◌∷◌, Option, Some, None, is_some, option_map, option_and_then, refl, sym, ◌∙◌, ap, arith, cond, subst, true≢false}
use Rattle.std.specs.Bool.{Decides}
use Rattle.std.proofs.lemmas.Bool.Decides.{nat_tests}
use Rattle.pe_base.specs.declared.limits.TheConstants.{EMBARGO_DISMISSALS, EMBARGO_SPAN}
use Rattle.pe_base.specs.declared.state.State.{State}
use Rattle.pe_base.specs.declared.state.State.TheVariants as state
use Rattle.pe_store.specs.declared.entry.Entry.{Entry}
use Rattle.pe_store.specs.declared.key.Life.{Life}
use Rattle.pe_store.specs.declared.key.Life.TheVariants as life
use Rattle.pe_store.specs.Entries as store
use Rattle.pe_store.specs.Entries.{StoreValue, dismissals_of, entry_of}
use Rattle.pe_store.specs.Pairs.{Pair, is_same_pair}
use Rattle.pe_store.specs.Places.{has_life, is_page_of}
use Rattle.pe_events.specs.declared.event.Event.TheVariants as event
use Rattle.pe_events.specs.declared.event.EventLife.{EventLife}
use Rattle.pe_events.specs.declared.event.Outcome.TheVariants as outcome
use Rattle.pe_rules.specs.History.{Step, RepliedHistory, History, some_if}
use Rattle.pe_rules.specs.Embedders.{chain}
use Rattle.pe_rules.specs.Current.{ends, document_in}
use Rattle.pe_rules.specs.Settings.{Setting, Standing, prompt_pair, setting_by, holds, is_undecided, dismissed_pair, counts, embargo, embargo_for, completes_embargo, is_pair, standing_of, last_setting, dismissals}
use Rattle.pe_rules.specs.Replies.{replied, is_regular}
use Rattle.pe_laws.specs.HistoryLaws.{HistoryLaws}
use Rattle.pe_laws.specs.Effects.{effects}
use Rattle.pe_laws.specs.EffectsLaws.{effects_of}
use Rattle.pe_laws.specs.SettingsLaws.{leaves_life, in_force, is_dismissed}
use Rattle.pe_changes.specs.Parts.{entry_by, entry_in, IsTopLife, IsStore}
use Rattle.pe_changes.specs.StoreSteps.{IsSet, IsDismissed, IsEnded}
use Rattle.pe_changes.proofs.Before.{same-dismissals}
use Rattle.pe_changes.proofs.Leaving.{end-is, left-by, entry-force, entry-none}
use Rattle.pe_changes.proofs.Stored.{stored-is, top-older, unset-in-force, quiet-in-force, other-in-force, set-in-force}

pub start : (value : StoreValue) → value.entries ≡ [] → ((pair : Pair) → dismissals_of value pair ≡ 0) → IsStore [] 0 value
unfolding entry_of entry_in in_force last_setting dismissals standing_of
start value none zero = record {
  found = λ p. ap (λ (es : List Entry). entry_of es p) none;
  dismissals = zero;
  tops = λ p e h. let absent : ◌≡◌ {A = Option Entry} None (Some e) = sym (ap (λ (es : List Entry). entry_of es p) none) ∙ h in cc;
}

-- what is in force is what entries are
force-entry : (T U : RepliedHistory) (now : ℕ) (p : Pair) → in_force U now p ≡ in_force T now p → entry_in U now p ≡ entry_in T now p
unfolding entry_in
force-entry T U now p same = ap (option_map entry_by) same

force-some : (U : RepliedHistory) (now : ℕ) (p : Pair) (x : Setting) → in_force U now p ≡ Some x → entry_in U now p ≡ Some (entry_by x)
unfolding entry_in
force-some U now p x h = ap (option_map entry_by) h

force-none : (U : RepliedHistory) (now : ℕ) (p : Pair) → in_force U now p ≡ None → entry_in U now p ≡ None
unfolding entry_in
force-none U now p h = ap (option_map entry_by) h

standing-dismissals : (T U : RepliedHistory) (p : Pair) → standing_of U p ≡ standing_of T p → dismissals U p ≡ dismissals T p
unfolding dismissals
standing-dismissals T U p same = ap (λ (x : Standing). x.dismissals) same

anew-dismissals : (U : RepliedHistory) (p : Pair) (x : Setting) → standing_of U p ≡ record { last = Some x; dismissals = 0 } → dismissals U p ≡ 0
unfolding dismissals
anew-dismissals U p x is = ap (λ (x : Standing). x.dismissals) is

module _ (laws : HistoryLaws) where
  pub quiet : (s : Step) (T : RepliedHistory) (now : ℕ) (value : StoreValue) → (effects_of s).sets ≡ false → (effects_of s).dismisses ≡ false → (effects_of s).ends_documents ≡ false
      → IsStore T now value → IsStore (s ∷ T) now value
  quiet s T now value sets dismisses ends is = record {
    found = λ p. is.found p ∙ sym (force-entry T (s ∷ T) now p (quiet-in-force laws s T now p (laws.effects.setting_none s T sets dismisses) ends));
    dismissals = λ p. is.dismissals p ∙ sym (laws.effects.dismissals_stay s T p sets dismisses);
    tops = λ p e h. top-older laws s T e.life (is.tops p e h);
  }

  -- ---- a setting

  module _ (pairs : (p q : Pair) → Decides (is_same_pair p q) (p ≡ q)) where
    apart : (p q : Pair) → is_same_pair p q ≡ false → p ≢ q
    apart p q h e = true≢false (sym ((pairs p q).1 e) ∙ h)

    pub set : (s : Step) (T : RepliedHistory) (now : ℕ) (x : Setting) (old new : StoreValue) → setting_by s.time s.event T ≡ Some x → holds (s ∷ T) now x.life ≡ true → IsTopLife T x.life
        → IsStore T now old → IsSet x old new → IsStore (s ∷ T) now new
    set s T now x old new made lasts top is next = record {
      found = λ p. found p (is_same_pair x.pair p) refl (next.found p);
      dismissals = λ p. counted p (is_same_pair x.pair p) refl (next.dismissals p);
      tops = λ p e h. tops p e (is_same_pair x.pair p) (sym (next.found p) ∙ h);
    }
      where
        found : (p : Pair) (b : Bool) → is_same_pair x.pair p ≡ b → entry_of new.entries p ≡ cond b (Some (entry_by x)) (entry_of old.entries p) → entry_of new.entries p ≡ entry_in (s ∷ T) now p
        found p true same h = h ∙ sym (force-some (s ∷ T) now p x (set-in-force laws s T now x p made lasts same))
        found p false out h = h ∙ is.found p ∙ sym (force-entry T (s ∷ T) now p (other-in-force laws s T now x p made out))

        counted : (p : Pair) (b : Bool) → is_same_pair x.pair p ≡ b → dismissals_of new p ≡ cond b 0 (dismissals_of old p) → dismissals_of new p ≡ dismissals (s ∷ T) p
        counted p true same h =
            let q : x.pair ≡ p = (pairs x.pair p).0 same in
            h ∙ sym (ap (dismissals (s ∷ T)) (sym q) ∙ anew-dismissals (s ∷ T) x.pair x (laws.settings.standing_set s T x made))
        counted p false out h = h ∙ is.dismissals p ∙ sym (standing-dismissals T (s ∷ T) p (laws.settings.standing_beside s T x p made (apart x.pair p out)))

        tops : (p : Pair) (e : Entry) (b : Bool) → cond b (Some (entry_by x)) (entry_of old.entries p) ≡ Some e → IsTopLife (s ∷ T) e.life
        tops p e true h = let same : entry_by x ≡ e = cc in subst (λ (z : Entry). IsTopLife (s ∷ T) z.life) same (top-older laws s T x.life top)
        tops p e false h = top-older laws s T e.life (is.tops p e h)

    -- the same in a regular history, where the life names a top document
    pub set-regular : (duration : ℕ) (H : History) (s : Step) (now : ℕ) (x : Setting) (old new : StoreValue) → is_regular duration H ≡ true → setting_by s.time s.event (replied duration H) ≡ Some x
        → holds (s ∷ replied duration H) now x.life ≡ true → IsStore (replied duration H) now old → IsSet x old new → IsStore (s ∷ replied duration H) now new
    set-regular duration H s now x old new regular made lasts is next =
        set s (replied duration H) now x old new made lasts (λ d page. laws.settings.life_top duration H s.time s.event x d regular made page) is next

  -- ---- a dismissal

  counts-by : (o : Option Entry) → store.counts_over o ≡ is_undecided (option_map (λ (e : Entry). e.state) o)
  counts-by None = refl
  counts-by (Some e) = by_state e.state
    where
      by_state : (a : State) → store.is_prompt a ≡ is_undecided (Some a)
      by_state state.Granted = refl
      by_state state.Denied = refl
      by_state state.Prompt = refl

  pub counts-is : (T : RepliedHistory) (now : ℕ) (value : StoreValue) (pair : Pair) → IsStore T now value → store.counts value pair ≡ counts T now (standing_of T pair)
  unfolding counts
  counts-is T now value pair is =
      counts-by (entry_of value.entries pair)
      ∙ ap is_undecided (stored-is laws T now value pair is ∙ laws.settings.stored_by_standing T now pair)

  dismissals-is : (T : RepliedHistory) (p : Pair) → dismissals T p ≡ (standing_of T p).dismissals
  unfolding dismissals
  dismissals-is T p = refl

  completes-is : (T : RepliedHistory) (now : ℕ) (value : StoreValue) (pair : Pair) → IsStore T now value → store.completes_embargo value pair ≡ (counts T now (standing_of T pair) && completes_embargo (standing_of T pair))
  completes-is T now value pair is =
      let n : dismissals_of value pair ≡ (standing_of T pair).dismissals = is.dismissals pair ∙ dismissals-is T pair in
      ap (λ b. b && nat_le EMBARGO_DISMISSALS (dismissals_of value pair + 1)) (counts-is T now value pair is)
      ∙ ap (λ n. counts T now (standing_of T pair) && nat_le EMBARGO_DISMISSALS (n + 1)) n

  embargo-by : (T : RepliedHistory) (now : ℕ) (pair : Pair) (b : Bool) → (counts T now (standing_of T pair) && completes_embargo (standing_of T pair)) ≡ b → embargo_for now T pair ≡ some_if b (embargo now pair)
  unfolding embargo_for
  embargo-by T now pair b h = rw h refl

  some-if : {A : Type 0} (b : Bool) (x : A) → is_some (some_if b x) ≡ b
  some-if true x = refl
  some-if false x = refl

  pub embargo-is : (T : RepliedHistory) (now : ℕ) (value : StoreValue) (pair : Pair) → IsStore T now value → store.completes_embargo value pair ≡ is_some (embargo_for now T pair)
  embargo-is T now value pair is =
      completes-is T now value pair is
      ∙ sym (ap is_some (embargo-by T now pair (counts T now (standing_of T pair) && completes_embargo (standing_of T pair)) refl) ∙ some-if (counts T now (standing_of T pair) && completes_embargo (standing_of T pair)) (embargo now pair))

  embargo-holds : (T : RepliedHistory) (time : ℕ) → holds T time (life.Until (time + EMBARGO_SPAN)) ≡ true
  unfolding holds
  embargo-holds T time = let lt : time < time + EMBARGO_SPAN = omega arith in grind (arith, nat_tests)

  both-true : (a b : Bool) → (a && b) ≡ true → a ≡ true
  both-true true b h = refl
  both-true false b h = cc

  dismissal-sets : (s : Step) (T : RepliedHistory) (prompt : ℕ) (given : EventLife) (pair : Pair) (old : StoreValue) (c : Bool) → s.event ≡ event.Answered prompt outcome.Dismiss given → prompt_pair T prompt ≡ Some pair
      → IsStore T s.time old → store.completes_embargo old pair ≡ c → setting_by s.time s.event T ≡ some_if c (embargo s.time pair)
  dismissal-sets s T prompt given pair old c answered named is completes =
      ap (λ e. setting_by s.time e T) answered
      ∙ laws.settings.setting_dismissed s.time prompt given T
      ∙ ap (option_and_then (embargo_for s.time T)) named
      ∙ embargo-by T s.time pair c (sym (completes-is T s.time old pair is) ∙ completes)

  dismissed-is : (s : Step) (T : RepliedHistory) (prompt : ℕ) (given : EventLife) (pair p : Pair) → s.event ≡ event.Answered prompt outcome.Dismiss given → prompt_pair T prompt ≡ Some pair
      → is_dismissed s T p ≡ (is_same_pair pair p && counts T s.time (standing_of T p))
  dismissed-is s T prompt given pair p answered named =
      let made : dismissed_pair s.event T ≡ Some pair = ap (λ e. dismissed_pair e T) answered ∙ named in
      ap (λ o. is_pair o p && counts T s.time (standing_of T p)) made

  module _ (pairs : (p q : Pair) → Decides (is_same_pair p q) (p ≡ q)) where
    embargoed : (s : Step) (T : RepliedHistory) (pair : Pair) (old new : StoreValue) → setting_by s.time s.event T ≡ Some (embargo s.time pair) → store.completes_embargo old pair ≡ true
        → IsStore T s.time old → IsDismissed pair s.time old new → IsStore (s ∷ T) s.time new
    embargoed s T pair old new made completes is next =
        set pairs s T s.time (embargo s.time pair) old new made (embargo-holds (s ∷ T) s.time) (λ d page. cc) is (record {
          found = λ p. next.found p ∙ ap (λ b. cond (b && is_same_pair pair p) (Some (store.embargo pair s.time)) (entry_of old.entries p)) completes;
          dismissals = λ p.
              next.dismissals p
              ∙ ap (λ b. cond (b && is_same_pair pair p) (cond (store.completes_embargo old pair) 0 (dismissals_of old p + 1)) (dismissals_of old p)) (both-true (store.counts old pair) _ completes)
              ∙ ap (λ b. cond (is_same_pair pair p) (cond b 0 (dismissals_of old p + 1)) (dismissals_of old p)) completes;
        })

    counted : (s : Step) (T : RepliedHistory) (prompt : ℕ) (given : EventLife) (pair : Pair) (old new : StoreValue) → s.event ≡ event.Answered prompt outcome.Dismiss given → prompt_pair T prompt ≡ Some pair
        → setting_by s.time s.event T ≡ None → store.completes_embargo old pair ≡ false → IsStore T s.time old → IsDismissed pair s.time old new → IsStore (s ∷ T) s.time new
    counted s T prompt given pair old new answered named none completes is next = record {
      found = λ p. same p ∙ is.found p ∙ sym (force-entry T (s ∷ T) s.time p (quiet-in-force laws s T s.time p none (ap (λ e. (effects e s.item).ends_documents) answered)));
      dismissals = λ p.
          next.dismissals p
          ∙ ap (λ b. cond (store.counts old pair && is_same_pair pair p) (cond b 0 (dismissals_of old p + 1)) (dismissals_of old p)) completes
          ∙ by_same p (is_same_pair pair p) refl
          ∙ sym (laws.settings.dismissals_step s T p ∙ rw none (ap (λ b. cond b (dismissals T p + 1) (dismissals T p)) (dismissed-is s T prompt given pair p answered named)));
      tops = λ p e h. top-older laws s T e.life (is.tops p e (sym (same p) ∙ h));
    }
      where
        same : (p : Pair) → entry_of new.entries p ≡ entry_of old.entries p
        same p = next.found p ∙ ap (λ b. cond (b && is_same_pair pair p) (Some (store.embargo pair s.time)) (entry_of old.entries p)) completes

        none-counts : (b : Bool) → (b && false) ≡ false
        none-counts true = refl
        none-counts false = refl

        one-counts : (b : Bool) → (b && true) ≡ b
        one-counts true = refl
        one-counts false = refl

        by_same : (p : Pair) (b : Bool) → is_same_pair pair p ≡ b
            → cond (store.counts old pair && is_same_pair pair p) (dismissals_of old p + 1) (dismissals_of old p) ≡ cond (is_same_pair pair p && counts T s.time (standing_of T p)) (dismissals T p + 1) (dismissals T p)
        by_same p false out = rw (out, none-counts (store.counts old pair)) (is.dismissals p)
        by_same p true in_pair =
            let q : pair ≡ p = (pairs pair p).0 in_pair in
            let c : store.counts old pair ≡ counts T s.time (standing_of T p) = counts-is T s.time old pair is ∙ ap (λ (x : Pair). counts T s.time (standing_of T x)) q in
            rw (in_pair, one-counts (store.counts old pair), c, is.dismissals p) refl

    pub dismissed : (s : Step) (T : RepliedHistory) (prompt : ℕ) (given : EventLife) (pair : Pair) (old new : StoreValue) → s.event ≡ event.Answered prompt outcome.Dismiss given → prompt_pair T prompt ≡ Some pair
        → IsStore T s.time old → IsDismissed pair s.time old new → IsStore (s ∷ T) s.time new
    dismissed s T prompt given pair old new answered named is next = by_embargo (store.completes_embargo old pair) refl
      where
        by_embargo : (c : Bool) → store.completes_embargo old pair ≡ c → IsStore (s ∷ T) s.time new
        by_embargo true completes = embargoed s T pair old new (dismissal-sets s T prompt given pair old true answered named is completes) completes is next
        by_embargo false completes = counted s T prompt given pair old new answered named (dismissal-sets s T prompt given pair old false answered named is completes) completes is next

  -- ---- the end of the document of a frame

  pub ended : (duration : ℕ) (H : History) (s : Step) (now f doc : ℕ) (old new : StoreValue) → is_regular duration H ≡ true → ends (f ∷ []) s.event ≡ true
      → document_in (replied duration H) f ≡ Some doc → IsStore (replied duration H) now old → IsEnded doc old new → IsStore (s ∷ replied duration H) now new
  ended duration H s now f doc old new regular end shown is next =
      let quiet = end-is s f end in record {
        found = λ p. found p (in_force (replied duration H) now p) refl (next.found p);
        dismissals = λ p. same-dismissals old new p next.dismissals ∙ is.dismissals p ∙ sym (laws.effects.dismissals_stay s (replied duration H) p quiet.sets quiet.dismisses);
        tops = λ p e h. tops p e (has_life is_page_of doc (entry_of old.entries p)) (sym (next.found p) ∙ h);
      }
    where
      unset : setting_by s.time s.event (replied duration H) ≡ None
      unset = let quiet = end-is s f end in laws.effects.setting_none s (replied duration H) quiet.sets quiet.dismisses

      by_page : (p : Pair) (x : Setting) (b : Bool) → in_force (s ∷ replied duration H) now p ≡ some_if (not b) x → entry_of new.entries p ≡ cond b None (Some (entry_by x)) → entry_of new.entries p ≡ entry_in (s ∷ replied duration H) now p
      by_page p x true force h = h ∙ sym (force-none (s ∷ replied duration H) now p force)
      by_page p x false force h = h ∙ sym (force-some (s ∷ replied duration H) now p x force)

      found : (p : Pair) (o : Option Setting) → in_force (replied duration H) now p ≡ o → entry_of new.entries p ≡ cond (has_life is_page_of doc (entry_of old.entries p)) None (entry_of old.entries p)
          → entry_of new.entries p ≡ entry_in (s ∷ replied duration H) now p
      found p None force h =
          let none : entry_of old.entries p ≡ None = entry-none laws (replied duration H) now old p is force in
          let after = unset-in-force laws s (replied duration H) now p unset ∙ ap (option_and_then (λ (x : Setting). some_if (leaves_life (replied duration H) s x.life) x)) force in
          h ∙ ap (λ (o : Option Entry). cond (has_life is_page_of doc o) None o) none ∙ sym (force-none (s ∷ replied duration H) now p after)
      found p (Some x) force h =
          let some : entry_of old.entries p ≡ Some (entry_by x) = entry-force laws (replied duration H) now old p x is force in
          let left = left-by laws duration H s now f doc p x regular end shown (is.tops p (entry_by x) some) force in
          let after = unset-in-force laws s (replied duration H) now p unset ∙ ap (option_and_then (λ (x : Setting). some_if (leaves_life (replied duration H) s x.life) x)) force ∙ ap (λ b. some_if b x) left in
          by_page p x (is_page_of doc x.life) after (h ∙ ap (λ (o : Option Entry). cond (has_life is_page_of doc o) None o) some)

      tops : (p : Pair) (e : Entry) (b : Bool) → cond b None (entry_of old.entries p) ≡ Some e → IsTopLife (s ∷ replied duration H) e.life
      tops p e true h = cc
      tops p e false h = top-older laws s (replied duration H) e.life (is.tops p e h)

  pub unnamed : (T : RepliedHistory) (now doc : ℕ) (value : StoreValue) (pair : Pair) → IsStore T now value → chain T doc ≢ doc ∷ [] → has_life is_page_of doc (entry_of value.entries pair) ≡ false
  unnamed T now doc value pair is below = by_entry (entry_of value.entries pair) refl
    where
      page : (l : Life) → is_page_of doc l ≡ true → l ≡ life.Page doc
      page life.Forever h = cc
      page (life.Until m) h = cc
      page (life.Page d) h = let e : doc ≡ d = grind (arith, nat_tests) in ap life.Page (sym e)

      by_page : (e : Entry) → entry_of value.entries pair ≡ Some e → (b : Bool) → is_page_of doc e.life ≡ b → b ≡ false
      by_page e some false h = refl
      by_page e some true h = absurd (below (is.tops pair e some doc (page e.life h)))

      by_entry : (o : Option Entry) → entry_of value.entries pair ≡ o → has_life is_page_of doc o ≡ false
      by_entry None none = refl
      by_entry (Some e) some = by_page e some (is_page_of doc e.life) refl

  pub ended-below : (duration : ℕ) (H : History) (s : Step) (now f doc : ℕ) (value : StoreValue) → is_regular duration H ≡ true → ends (f ∷ []) s.event ≡ true
      → document_in (replied duration H) f ≡ Some doc → chain (replied duration H) doc ≢ doc ∷ [] → IsStore (replied duration H) now value → IsStore (s ∷ replied duration H) now value
  ended-below duration H s now f doc value regular end shown below is =
      ended duration H s now f doc value value regular end shown is (record {
        found = λ p. ap (λ b. cond b None (entry_of value.entries p)) (sym (unnamed (replied duration H) now doc value p is below));
        dismissals = refl;
      })
