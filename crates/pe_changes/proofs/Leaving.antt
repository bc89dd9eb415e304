-- What the end of the document of a frame leaves of the settings in force.
use Rattle.std.proofs.Common.{◌≡◌, ℕ, Bool, true, false, not, ◌||◌, ◌==◌, [], ◌∷◌, Option, Some, None, option_map, refl, sym, ◌∙◌, ap, arith}
use Rattle.std.proofs.lemmas.Bool.Decides.{nat_tests}
use Rattle.pe_store.specs.declared.key.Life.{Life}
use Rattle.pe_store.specs.declared.key.Life.TheVariants as life
use Rattle.pe_store.specs.Entries.{StoreValue, entry_of}
use Rattle.pe_store.specs.Pairs.{Pair}
use Rattle.pe_store.specs.Places.{is_page_of}
use Rattle.pe_events.specs.declared.event.Event.{Event}
use Rattle.pe_events.specs.declared.event.Event.TheVariants as event
use Rattle.pe_rules.specs.History.{StepAnswer, Step, RepliedHistory, History}
use Rattle.pe_rules.specs.Making.{frame_of}
use Rattle.pe_rules.specs.Embedders.{chain}
use Rattle.pe_rules.specs.Current.{ends, frames_above, is_current, document_in}
use Rattle.pe_rules.specs.Settings.{Setting, holds}
use Rattle.pe_rules.specs.Replies.{replied, is_regular}
use Rattle.pe_laws.specs.HistoryLaws.{HistoryLaws}
use Rattle.pe_laws.specs.Effects.{effects}
use Rattle.pe_laws.specs.EffectsLaws.{effects_of}
use Rattle.pe_laws.specs.SettingsLaws.{leaves_life, in_force}
use Rattle.pe_changes.specs.Parts.{entry_by, entry_in, IsTopLife, IsStore}
use Rattle.pe_changes.proofs.Stored.{in-force-is}

-- what a step may not do that navigates or closes a frame
pub record IsEnd (s : Step) : Type 0 where
  pub sets : (effects_of s).sets ≡ false
  pub dismisses : (effects_of s).dismisses ≡ false
  pub makes : (effects_of s).makes_status ≡ false
  pub drops : (effects_of s).drops_status ≡ false

end-by : (e : Event) (item : StepAnswer) (f : ℕ) → ends (f ∷ []) e ≡ true
    → ((effects e item).sets ≡ false) × ((effects e item).dismisses ≡ false) × ((effects e item).makes_status ≡ false) × ((effects e item).drops_status ≡ false)
end-by (event.Navigate frame url header) item f h = (refl, refl, refl, refl)
end-by (event.Close frame) item f h = (refl, refl, refl, refl)
end-by e item f h = cc

pub end-is : (s : Step) (f : ℕ) → ends (f ∷ []) s.event ≡ true → IsEnd s
end-is s f h = let k = end-by s.event s.item f h in record { sets = k.0; dismisses = k.1; makes = k.2; drops = k.3 }

same-number : (a b : ℕ) → ((a == b) || false) ≡ true → a ≡ b
same-number a b h = by_test (a == b) refl h
  where
    by_test : (c : Bool) → (a == b) ≡ c → (c || false) ≡ true → a ≡ b
    by_test true is h = grind (arith, nat_tests)
    by_test false is h = cc

or-none : (b : Bool) → (b || false) ≡ b
or-none true = refl
or-none false = refl

-- a step that navigates or closes a frame ends another frame only if that is the same
ends-one : (e : Event) (f g : ℕ) → ends (f ∷ []) e ≡ true → ends (g ∷ []) e ≡ (g == f)
ends-one (event.Navigate frame url header) f g h = let e : f ≡ frame = same-number f frame h in rw e (or-none (g == frame))
ends-one (event.Close frame) f g h = let e : f ≡ frame = same-number f frame h in rw e (or-none (g == frame))
ends-one e f g h = cc

alone : (T : RepliedHistory) (d : ℕ) → chain T d ≡ d ∷ [] → frames_above T d ≡ frame_of T d ∷ []
unfolding frames_above
alone T d h = rw h refl

page-current : (T : RepliedHistory) (now d : ℕ) (l : Life) → l ≡ life.Page d → holds T now l ≡ true → is_current T d ≡ true
unfolding holds
page-current T now d l is h = ap (holds T now) (sym is) ∙ h

module _ (laws : HistoryLaws) where
  frame-is : (duration : ℕ) (H : History) (f doc d : ℕ) → is_regular duration H ≡ true → document_in (replied duration H) f ≡ Some doc → is_current (replied duration H) d ≡ true
      → (frame_of (replied duration H) d == f) ≡ (doc == d)
  frame-is duration H f doc d regular shown current =
      let T = replied duration H in
      let own : document_in T (frame_of T d) ≡ Some d = laws.current.shown_in_frame duration H d regular current in
      let frame : frame_of T doc ≡ f = (laws.current.document_in_frame T f doc shown).1 in
      by_frame (frame_of T d == f) refl (doc == d) refl own frame
    where
      by_frame : (b : Bool) → (frame_of (replied duration H) d == f) ≡ b → (c : Bool) → (doc == d) ≡ c → document_in (replied duration H) (frame_of (replied duration H) d) ≡ Some d → frame_of (replied duration H) doc ≡ f → b ≡ c
      by_frame true is true also own frame = refl
      by_frame false is false also own frame = refl
      by_frame true is false also own frame =
          let same : frame_of (replied duration H) d ≡ f = grind (arith, nat_tests) in
          let one : ◌≡◌ {A = Option ℕ} (Some doc) (Some d) = sym shown ∙ ap (document_in (replied duration H)) (sym same) ∙ own in
          let e : doc ≡ d = cc in
          grind (arith, nat_tests)
      by_frame false is true also own frame =
          let e : doc ≡ d = grind (arith, nat_tests) in
          let same : frame_of (replied duration H) d ≡ f = ap (frame_of (replied duration H)) (sym e) ∙ frame in
          grind (arith, nat_tests)

  -- of a setting in force the step leaves the life, unless that is of the document
  pub left-by : (duration : ℕ) (H : History) (s : Step) (now f doc : ℕ) (p : Pair) (x : Setting) → is_regular duration H ≡ true → ends (f ∷ []) s.event ≡ true → document_in (replied duration H) f ≡ Some doc
      → IsTopLife (replied duration H) x.life → in_force (replied duration H) now p ≡ Some x → leaves_life (replied duration H) s x.life ≡ not (is_page_of doc x.life)
  left-by duration H s now f doc p x regular end shown top h = by_life x.life refl
    where
      by_life : (l : Life) → x.life ≡ l → leaves_life (replied duration H) s l ≡ not (is_page_of doc l)
      by_life life.Forever is = refl
      by_life (life.Until m) is = refl
      by_life (life.Page d) is =
          let current = page-current (replied duration H) now d x.life is (in-force-is (replied duration H) now p x h).1 in
          ap (λ fs. not (ends fs s.event)) (alone (replied duration H) d (top d is)) ∙ ap not (ends-one s.event f (frame_of (replied duration H) d) end ∙ frame-is duration H f doc d regular shown current)

  -- the life of an entry of a store is that of the setting in force
  pub entry-force : (T : RepliedHistory) (now : ℕ) (value : StoreValue) (p : Pair) (x : Setting) → IsStore T now value → in_force T now p ≡ Some x → entry_of value.entries p ≡ Some (entry_by x)
  unfolding entry_in
  entry-force T now value p x is h = is.found p ∙ ap (option_map entry_by) h

  pub entry-none : (T : RepliedHistory) (now : ℕ) (value : StoreValue) (p : Pair) → IsStore T now value → in_force T now p ≡ None → entry_of value.entries p ≡ None
  unfolding entry_in
  entry-none T now value p is h = is.found p ∙ ap (option_map entry_by) h
