-- For what the statuses stand after a step.
use Rattle.std.proofs.Common.{◌≡◌, ◌≢◌, ℕ, suc, ◌≤◌, Bool, true, false, not, ◌||◌, ◌==◌, List, [], ◌∷◌, ◌++◌, length, map, filter, Option, Some, None, option_map, option_and_then, option_to_list, refl, sym, ◌∙◌, ap, arith, cond, subst, is_some, ◌<◌, ◌+◌}
use Rattle.std.specs.List.{find, list_any}
use Rattle.std.proofs.lemmas.Bool.Decides.{nat_tests}
use Rattle.std.proofs.lemmas.List.{map-append}
use Rattle.std.proofs.lemmas.List.Folds.{list_any-append}
use Rattle.pe_features.specs.declared.feature.Feature.{Feature}
use Rattle.pe_features.specs.Features.{feature_named}
use Rattle.pe_events.specs.declared.event.Event.{Event}
use Rattle.pe_events.specs.declared.event.Event.TheVariants as event
use Rattle.pe_status.specs.declared.registered.Registered.{Registered}
use Rattle.pe_status.specs.Registry.{Registry, pair_of, status_of, was_given, without, count_of_page, AreBelow}
use Rattle.pe_rules.specs.History.{StepAnswer, Step, RepliedHistory, History, newest_answer}
use Rattle.pe_rules.specs.Numbering.{makes_status, is_status}
use Rattle.pe_rules.specs.Embedders.{page}
use Rattle.pe_rules.specs.Current.{is_current}
use Rattle.pe_rules.specs.Settings.{pair_for}
use Rattle.pe_rules.specs.Statuses.{Status, status_by, live_statuses}
use Rattle.pe_rules.specs.Causes.{page_statuses}
use Rattle.pe_rules.specs.Replies.{replied, is_regular}
use Rattle.pe_laws.specs.HistoryLaws.{HistoryLaws}
use Rattle.pe_laws.specs.Effects.{effects}
use Rattle.pe_laws.specs.EffectsLaws.{effects_of}
use Rattle.pe_laws.specs.StatusesLaws.{Each, IsKept}
use Rattle.pe_changes.specs.Parts.{status_of_row, IsStatuses}
use Rattle.pe_changes.proofs.After.{ArePaired, live-before}
use Rattle.pe_changes.proofs.Counts.{each-both, each-weaker, each-filter, each-append, each-all, each-unmap}

-- each status is with the page of its document
abbrev pub ArePaged : RepliedHistory → List Registered → Type 0
ArePaged T live = Each (λ r. page T r.doc.doc ≡ r.page) live

map-filter : (test : Status → Bool) (left : Registered → Bool) (rs : List Registered) → Each (λ r. left r ≡ test (status_of_row r)) rs → map status_of_row (filter left rs) ≡ filter test (map status_of_row rs)
map-filter test left [] h = refl
map-filter test left (r ∷ rs) h = by_test (left r) (sym h.0) (map-filter test left rs h.1)
  where
    by_test : (b : Bool) → test (status_of_row r) ≡ b → map status_of_row (filter left rs) ≡ filter test (map status_of_row rs)
        → map status_of_row (cond b (r ∷ filter left rs) (filter left rs)) ≡ cond (test (status_of_row r)) (status_of_row r ∷ filter test (map status_of_row rs)) (filter test (map status_of_row rs))
    by_test true is rest = rw is (ap (λ (xs : List Status). status_of_row r ∷ xs) rest)
    by_test false is rest = rw is rest

length-map : {A B : Type 0} (f : A → B) (xs : List A) → length (map f xs) ≡ length xs
length-map f [] = refl
length-map f (x ∷ xs) = ap suc (length-map f xs)

no-status : (k : ℕ) → is_status [] k ≡ false
unfolding is_status newest_answer
no-status k = refl

page-numbers : (T : RepliedHistory) (top : ℕ) → page_statuses T top ≡ map (λ (x : Status). x.number) (filter (λ x. page T x.document == top) (live_statuses T))
unfolding page_statuses
page-numbers T top = refl

-- what a step may not do that makes a status
query-only : (e : Event) (item : StepAnswer) (B : RepliedHistory) (k : ℕ) (x : Status) → status_by e B k ≡ Some x → ((effects e item).drops_status ≡ false) × ((effects e item).ends_documents ≡ false) × (makes_status e ≡ true)
query-only (event.Query frame feature) item B k x h = (refl, refl, refl)
query-only e item B k x h = cc

number-of : (o : Option ℕ) (named : Option Feature) (k : ℕ) (x : Status)
    → option_and_then (λ d. option_map (λ f. let y : Status = record { number = k; document = d; feature = f } in y) named) o ≡ Some x → x.number ≡ k
number-of None named k x h = cc
number-of (Some d) None k x h = cc
number-of (Some d) (Some f) k x h = ap (λ (o : Option Status). number_or o) (sym h)
  where
    number_or : Option Status → ℕ
    number_or None = 0
    number_or (Some y) = y.number

status-number : (e : Event) (B : RepliedHistory) (k : ℕ) (x : Status) → status_by e B k ≡ Some x → x.number ≡ k
status-number (event.Query frame feature) B k x h = number-of _ (feature_named feature) k x h
status-number e B k x h = cc

swapped : (a b : ℕ) → not (a == b) ≡ not (b == a)
swapped a b = by_test (a == b) refl (b == a) refl
  where
    by_test : (c : Bool) → (a == b) ≡ c → (d : Bool) → (b == a) ≡ d → not c ≡ not d
    by_test true is true also = refl
    by_test false is false also = refl
    by_test true is false also = grind (arith, nat_tests)
    by_test false is true also = grind (arith, nat_tests)

row-there : (rs : List Registered) (k : ℕ) → is_some (find (λ r. r.no == k) rs) ≡ list_any (λ (x : Status). x.number == k) (map status_of_row rs)
row-there [] k = refl
row-there (r ∷ rs) k = by_test (r.no == k) (row-there rs k)
  where
    by_test : (b : Bool) → is_some (find (λ r. r.no == k) rs) ≡ list_any (λ (x : Status). x.number == k) (map status_of_row rs)
        → is_some (cond b (Some r) (find (λ r. r.no == k) rs)) ≡ (b || list_any (λ (x : Status). x.number == k) (map status_of_row rs))
    by_test true rest = refl
    by_test false rest = rest

pub there : (T : RepliedHistory) (statuses : Registry) (k : ℕ) → IsStatuses T statuses → is_some (status_of statuses.live k) ≡ list_any (λ x. x.number == k) (live_statuses T)
unfolding status_of
there T statuses k is = row-there statuses.live k ∙ ap (list_any (λ (x : Status). x.number == k)) is.live

below-all : (n : ℕ) (numbers : List ℕ) → ((k : ℕ) → was_given numbers k ≡ true → k < n) → AreBelow n numbers
below-all n [] h = tt
below-all n (m ∷ numbers) h = (h m (first (m == m) (same-number m)), below-all n numbers (λ k given. h k (later (m == k) (was_given numbers k) given)))
  where
    same-number : (a : ℕ) → (a == a) ≡ true
    same-number a = grind (arith, nat_tests)

    first : (b : Bool) → b ≡ true → (b || was_given numbers m) ≡ true
    first true h = refl
    first false h = cc

    later : (b c : Bool) → c ≡ true → (b || c) ≡ true
    later true c h = refl
    later false c h = h

module _ (laws : HistoryLaws) where
  pub below : (T : RepliedHistory) (statuses : Registry) → IsStatuses T statuses → AreBelow (length T + 1) statuses.given
  below T statuses is =
      below-all (length T + 1) statuses.given (λ k given. let within = laws.numbering.status_within T k (sym (is.given k) ∙ given) in omega (arith, within.1))

  pub start : IsStatuses [] (record { live = []; given = [] })
  start = record { live = sym laws.statuses.live_start; paired = tt; paged = tt; given = λ k. sym (no-status k) }

  pub counted : (T : RepliedHistory) (statuses : Registry) (top : ℕ) → IsStatuses T statuses → count_of_page top statuses.live ≡ length (page_statuses T top)
  unfolding count_of_page
  counted T statuses top is =
      sym (length-map status_of_row (filter (λ r. r.page == top) statuses.live))
      ∙ ap length (map-filter (λ x. page T x.document == top) (λ r. r.page == top) statuses.live (each-weaker _ (λ r. (r.page == top) ≡ (page T r.doc.doc == top)) statuses.live (λ r h. ap (λ n. n == top) (sym h)) is.paged))
      ∙ ap (λ (xs : List Status). length (filter (λ x. page T x.document == top) xs)) is.live
      ∙ sym (length-map (λ (x : Status). x.number) (filter (λ x. page T x.document == top) (live_statuses T)))
      ∙ ap length (sym (page-numbers T top))

  -- ---- what is known of a status stays

  documents-within : (T : RepliedHistory) (statuses : Registry) → IsStatuses T statuses → Each (λ r. r.doc.doc ≤ length T) statuses.live
  documents-within T statuses is =
      each-unmap (λ (x : Status). x.document ≤ length T) status_of_row statuses.live
      (subst (Each (λ (x : Status). x.document ≤ length T)) (sym is.live) (each-weaker (IsKept T) (λ (x : Status). x.document ≤ length T) (live_statuses T) (λ x h. omega (arith, h.1, h.3)) (laws.statuses.live_kept T)))

  paired-on : (s : Step) (T : RepliedHistory) (live : List Registered) → Each (λ r. r.doc.doc ≤ length T) live → ArePaired T live → ArePaired (s ∷ T) live
  paired-on s T live within paired =
      each-weaker (λ r. (r.doc.doc ≤ length T) × (pair_for T r.doc.doc r.feature ≡ Some (pair_of r))) (λ r. pair_for (s ∷ T) r.doc.doc r.feature ≡ Some (pair_of r)) live
      (λ r h. laws.settings.pair_older s T r.doc.doc r.feature h.0 ∙ h.1) (each-both _ _ live within paired)

  paged-on : (s : Step) (T : RepliedHistory) (live : List Registered) → Each (λ r. r.doc.doc ≤ length T) live → ArePaged T live → ArePaged (s ∷ T) live
  paged-on s T live within paged =
      each-weaker (λ r. (r.doc.doc ≤ length T) × (page T r.doc.doc ≡ r.page)) (λ r. page (s ∷ T) r.doc.doc ≡ r.page) live
      (λ r h. laws.embedders.page_older s T r.doc.doc h.0 ∙ h.1) (each-both _ _ live within paged)

  -- ---- the steps

  pub quiet : (s : Step) (T : RepliedHistory) (statuses : Registry) → (effects_of s).makes_status ≡ false → (effects_of s).drops_status ≡ false → (effects_of s).ends_documents ≡ false
      → IsStatuses T statuses → IsStatuses (s ∷ T) statuses
  quiet s T statuses makes drops ends is = let within = documents-within T statuses is in record {
    live = is.live ∙ sym (laws.statuses.live_stay s T makes drops ends);
    paired = paired-on s T statuses.live within is.paired;
    paged = paged-on s T statuses.live within is.paged;
    given = λ k. is.given k ∙ sym (laws.statuses.is_status_stays s T k makes);
  }

  left-of : (s : Step) (T : RepliedHistory) (test : Status → Bool) (left : Registered → Bool) (old new : Registry) → (effects_of s).makes_status ≡ false → live_statuses (s ∷ T) ≡ filter test (live_statuses T)
      → IsStatuses T old → Each (λ r. left r ≡ test (status_of_row r)) old.live → new.live ≡ filter left old.live → new.given ≡ old.given → IsStatuses (s ∷ T) new
  left-of s T test left old new makes lives is agree live given = let within = documents-within T old is in record {
    live = ap (map status_of_row) live ∙ map-filter test left old.live agree ∙ ap (filter test) is.live ∙ sym lives;
    paired = rw live (each-filter (λ r. pair_for (s ∷ T) r.doc.doc r.feature ≡ Some (pair_of r)) left old.live (paired-on s T old.live within is.paired));
    paged = rw live (each-filter (λ r. page (s ∷ T) r.doc.doc ≡ r.page) left old.live (paged-on s T old.live within is.paged));
    given = λ k. ap (λ ns. was_given ns k) given ∙ is.given k ∙ sym (laws.statuses.is_status_stays s T k makes);
  }

  pub dropped : (s : Step) (T : RepliedHistory) (k : ℕ) (old new : Registry) → s.event ≡ event.DropStatus k → IsStatuses T old → new.live ≡ without k old.live → new.given ≡ old.given → IsStatuses (s ∷ T) new
  unfolding without
  dropped s T k old new drop is live given =
      left-of s T (λ x. not (k == x.number)) (λ r. not (r.no == k)) old new (ap (λ e. (effects e s.item).makes_status) drop) (laws.statuses.live_drop s T k drop) is
      (each-all _ old.live (λ r. swapped r.no k)) live given

  pub ended : (s : Step) (T : RepliedHistory) (left : Registered → Bool) (old new : Registry) → (effects_of s).makes_status ≡ false → (effects_of s).drops_status ≡ false → IsStatuses T old
      → Each (λ r. left r ≡ is_current (s ∷ T) r.doc.doc) old.live → new.live ≡ filter left old.live → new.given ≡ old.given → IsStatuses (s ∷ T) new
  ended s T left old new makes drops is agree live given = left-of s T (λ x. is_current (s ∷ T) x.document) left old new makes (laws.statuses.live_ended s T drops makes) is agree live given

  given-more : (s : Step) (T : RepliedHistory) (n k : ℕ) (numbers : List ℕ) → makes_status s.event ≡ true → n ≡ suc (length T) → was_given numbers k ≡ is_status T k → was_given (numbers ++ n ∷ []) k ≡ is_status (s ∷ T) k
  given-more s T n k numbers makes is known = list_any-append (λ m. m == k) numbers (n ∷ []) ∙ by_test (n == k) refl
    where
      or_true : (b : Bool) → (b || (true || false)) ≡ true
      or_true true = refl
      or_true false = refl

      or_false : (b : Bool) → (b || (false || false)) ≡ b
      or_false true = refl
      or_false false = refl

      by_test : (b : Bool) → (n == k) ≡ b → (was_given numbers k || (b || false)) ≡ is_status (s ∷ T) k
      by_test true same =
          let e : suc (length T) ≡ k = grind (arith, nat_tests) in
          or_true (was_given numbers k) ∙ sym makes ∙ sym (laws.numbering.is_status_newest s T) ∙ ap (is_status (s ∷ T)) e
      by_test false other =
          let ne : k ≢ suc (length T) = grind (arith, nat_tests) in
          or_false (was_given numbers k) ∙ known ∙ sym (laws.numbering.is_status_older s T k ne)

  pub made : (duration : ℕ) (H : History) (s : Step) (r : Registered) (old new : Registry) → is_regular duration H ≡ true
      → status_by s.event (replied duration H) (length (s ∷ replied duration H)) ≡ Some (status_of_row r)
      → pair_for (replied duration H) r.doc.doc r.feature ≡ Some (pair_of r) → page (replied duration H) r.doc.doc ≡ r.page
      → IsStatuses (replied duration H) old → new.live ≡ old.live ++ r ∷ [] → new.given ≡ old.given ++ r.no ∷ [] → IsStatuses (s ∷ replied duration H) new
  made duration H s r old new regular status pair paged is live given =
      let T = replied duration H in
      let only = query-only s.event s.item T (suc (length T)) (status_of_row r) status in
      let same : map status_of_row new.live ≡ live_statuses (s ∷ T) =
      ap (map status_of_row) live ∙ map-append status_of_row old.live (r ∷ [])
      ∙ ap (λ xs. xs ++ status_of_row r ∷ []) is.live
      ∙ ap (λ (o : Option Status). live_statuses T ++ option_to_list o) (sym status)
      ∙ sym (laws.statuses.live_query duration H s regular only.0 only.1) in
      let within = live-before laws s T new.live same in record {
        live = same;
        paired = paired-on s T new.live within (rw live (each-append (λ r. pair_for T r.doc.doc r.feature ≡ Some (pair_of r)) old.live (r ∷ []) is.paired (pair, tt)));
        paged = paged-on s T new.live within (rw live (each-append (λ r. page T r.doc.doc ≡ r.page) old.live (r ∷ []) is.paged (paged, tt)));
        given = λ k. ap (λ ns. was_given ns k) given ∙ given-more s T r.no k old.given only.2 (status-number s.event T (suc (length T)) (status_of_row r) status) (is.given k);
      }
