-- What a store says of a pair is what is stored for it.
use Rattle.std.proofs.Common.{◌≡◌, ◌≢◌, ℕ, suc, Bool, true, false, ◌||◌, ◌==◌, List, [], ◌∷◌, length, Option, Some, None, option_map, option_and_then, refl, sym, ◌∙◌, ap, arith}
use Rattle.std.specs.Option.{option_or}
use Rattle.std.proofs.lemmas.Bool.Decides.{nat_tests}
use Rattle.pe_base.specs.declared.state.State.TheVariants as state
use Rattle.pe_store.specs.declared.entry.Entry.{Entry}
use Rattle.pe_store.specs.declared.key.Life.{Life}
use Rattle.pe_store.specs.declared.key.Life.TheVariants as life
use Rattle.pe_store.specs.Entries.{StoreValue}
use Rattle.pe_store.specs.Pairs.{Pair, is_same_pair}
use Rattle.pe_rules.specs.History.{Step, RepliedHistory, some_if}
use Rattle.pe_rules.specs.Current.{frames_above}
use Rattle.pe_rules.specs.Activation.{is_one_of}
use Rattle.pe_rules.specs.Settings.{Setting, setting_by, holds, last_setting, standing_of, stored_state}
use Rattle.pe_laws.specs.HistoryLaws.{HistoryLaws}
use Rattle.pe_laws.specs.SettingsLaws.{leaves_life, in_force}
use Rattle.pe_laws.specs.EffectsLaws.{effects_of}
use Rattle.pe_changes.specs.Gathered.{state_in}
use Rattle.pe_changes.specs.Parts.{entry_by, entry_in, IsTopLife, IsStore}

-- ---- the setting in force

holding : (T : RepliedHistory) (now : ℕ) (o : Option Setting) (x : Setting) → option_and_then (λ (y : Setting). some_if (holds T now y.life) y) o ≡ Some x → (o ≡ Some x) × (holds T now x.life ≡ true)
holding T now None x h = cc
holding T now (Some y) x h = by_test (holds T now y.life) refl h
  where
    by_test : (b : Bool) → holds T now y.life ≡ b → some_if b y ≡ Some x → (Some y ≡ Some x) × (holds T now x.life ≡ true)
    by_test true is e = let same : y ≡ x = cc in (e, ap (λ (z : Setting). holds T now z.life) (sym same) ∙ is)
    by_test false is e = cc

-- it is the last one, and its life holds
pub in-force-is : (T : RepliedHistory) (now : ℕ) (p : Pair) (x : Setting) → in_force T now p ≡ Some x → (last_setting T p ≡ Some x) × (holds T now x.life ≡ true)
unfolding in_force
in-force-is T now p x h = holding T now (last_setting T p) x h

state-of-entry : (o : Option Setting) → option_map (λ (e : Entry). e.state) (option_map entry_by o) ≡ option_map (λ (x : Setting). x.state) o
state-of-entry None = refl
state-of-entry (Some x) = refl

-- a life that names a top document names it after a step
pub top-older : HistoryLaws → (s : Step) (T : RepliedHistory) (l : Life) → IsTopLife T l → IsTopLife (s ∷ T) l
top-older laws s T l top d is =
    let self : is_one_of (d ∷ []) d ≡ true = own (d == d) (same-number d) in
    let above = laws.embedders.above T d d (ap (λ (ds : List ℕ). is_one_of ds d) (top d is) ∙ self) in
    let ne : d ≢ suc (length T) = omega (arith, above.most) in
    laws.embedders.chain_older s T d ne ∙ top d is
  where
    same-number : (a : ℕ) → (a == a) ≡ true
    same-number a = grind (arith, nat_tests)

    own : (b : Bool) → b ≡ true → (b || false) ≡ true
    own true h = refl
    own false h = h

none-first : (p : Pair) → last_setting [] p ≡ None
unfolding last_setting standing_of
none-first p = refl

module _ (laws : HistoryLaws) where
  -- what a store that stands for steps stores for a pair
  pub stored-is : (T : RepliedHistory) (now : ℕ) (value : StoreValue) (p : Pair) → IsStore T now value → state_in value.entries p ≡ stored_state T now p
  unfolding entry_in
  stored-is T now value p is = ap (option_map (λ (e : Entry). e.state)) (is.found p) ∙ state-of-entry (in_force T now p) ∙ sym (laws.settings.stored_in_force T now p)

  decides-step : (s : Step) (T : RepliedHistory) (p : Pair) (x : Setting) (d : ℕ) → x.life ≡ life.Page d → (last_setting T p ≡ Some x → x.state ≢ state.Prompt)
      → (o : Option Setting) → setting_by s.time s.event T ≡ o → option_or (option_and_then (λ (y : Setting). some_if (is_same_pair y.pair p) y) o) (last_setting T p) ≡ Some x → x.state ≢ state.Prompt
  decides-step s T p x d is older None made h = older h
  decides-step s T p x d is older (Some y) made h = by_same (is_same_pair y.pair p) h
    where
      by_same : (b : Bool) → option_or (some_if b y) (last_setting T p) ≡ Some x → x.state ≢ state.Prompt
      by_same true k = let e : ◌≡◌ {A = Option Setting} (Some y) (Some x) = k in laws.settings.page_life_decides s.time s.event T x d (made ∙ e) is
      by_same false k = older k

  -- a last setting whose life names a document does not store prompt
  pub decides : (T : RepliedHistory) (p : Pair) (x : Setting) (d : ℕ) → last_setting T p ≡ Some x → x.life ≡ life.Page d → x.state ≢ state.Prompt
  decides [] p x d h is = let absent : ◌≡◌ {A = Option Setting} None (Some x) = sym (none-first p) ∙ h in cc
  decides (s ∷ T) p x d h is = decides-step s T p x d is (λ k. decides T p x d k is) (setting_by s.time s.event T) refl (sym (laws.settings.last_setting_step s T p) ∙ h)

  -- ---- after a step

  ends-nothing : (s : Step) (T : RepliedHistory) → (effects_of s).ends_documents ≡ false → (l : Life) → leaves_life T s l ≡ true
  ends-nothing s T quiet life.Forever = refl
  ends-nothing s T quiet (life.Until end) = refl
  ends-nothing s T quiet (life.Page d) = rw (laws.effects.ends_none s (frames_above T d) quiet) refl

  all-left : (s : Step) (T : RepliedHistory) → (effects_of s).ends_documents ≡ false → (o : Option Setting) → option_and_then (λ (x : Setting). some_if (leaves_life T s x.life) x) o ≡ o
  all-left s T quiet None = refl
  all-left s T quiet (Some x) = rw (ends-nothing s T quiet x.life) refl

  -- a step that makes no setting leaves what is in force, where it leaves its life
  pub unset-in-force : (s : Step) (T : RepliedHistory) (now : ℕ) (p : Pair) → setting_by s.time s.event T ≡ None
      → in_force (s ∷ T) now p ≡ option_and_then (λ (x : Setting). some_if (leaves_life T s x.life) x) (in_force T now p)
  unset-in-force s T now p none = laws.settings.in_force_step s T now p ∙ rw none refl

  pub quiet-in-force : (s : Step) (T : RepliedHistory) (now : ℕ) (p : Pair) → setting_by s.time s.event T ≡ None → (effects_of s).ends_documents ≡ false → in_force (s ∷ T) now p ≡ in_force T now p
  quiet-in-force s T now p none quiet = unset-in-force s T now p none ∙ all-left s T quiet (in_force T now p)

  -- one that makes a setting leaves what is in force for other pairs
  pub other-in-force : (s : Step) (T : RepliedHistory) (now : ℕ) (x : Setting) (p : Pair) → setting_by s.time s.event T ≡ Some x → is_same_pair x.pair p ≡ false → in_force (s ∷ T) now p ≡ in_force T now p
  other-in-force s T now x p made apart = laws.settings.in_force_step s T now p ∙ rw (made, apart) (all-left s T (laws.settings.set_alone s T x made).2 (in_force T now p))

  pub set-in-force : (s : Step) (T : RepliedHistory) (now : ℕ) (x : Setting) (p : Pair) → setting_by s.time s.event T ≡ Some x → holds (s ∷ T) now x.life ≡ true → is_same_pair x.pair p ≡ true
      → in_force (s ∷ T) now p ≡ Some x
  set-in-force s T now x p made lasts same = laws.settings.in_force_step s T now p ∙ rw (made, same, lasts) refl
