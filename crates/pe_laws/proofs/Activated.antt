-- In a regular history an event activates as many documents as there are live frames that show one that it activates.
use Rattle.std.proofs.Common.{◌≡◌, ◌≢◌, ℕ, suc, ◌≤◌, Bool, true, false, not, ◌&&◌, ◌||◌, ◌==◌, List, [], ◌∷◌, ◌++◌, length, filter, Option, Some, None, is_some, unwrap_or, option_map, option_to_list, refl, sym, ◌∙◌, ap, arith, cond, true≢false}
use Rattle.pe_events.specs.declared.event.Event.{Event}
use Rattle.pe_rules.specs.History.{RepliedHistory, History, some_if, answers_newest_first}
use Rattle.pe_rules.specs.Numbering.{makes_frame, document_frame, frames_made, documents_made}
use Rattle.pe_rules.specs.Making.{frame_of}
use Rattle.pe_rules.specs.Current.{document_in, is_live}
use Rattle.pe_rules.specs.Activation.{is_one_of, activates, activated_count}
use Rattle.pe_rules.specs.Replies.{replied, is_regular}
use Rattle.pe_laws.specs.ActivationLaws.{activates_in}
use Rattle.pe_laws.proofs.Numbers.{not_same, is_same}
use Rattle.pe_laws.proofs.Lists.{or-true, of-filtered, into-filtered, filtered-are}
use Rattle.pe_laws.proofs.Numbering.{frame-within, frames-step, frames-are, documents-step, document-within}
use Rattle.pe_laws.proofs.Making.{documents-are}
use Rattle.pe_laws.proofs.Current.{current-made, in-frame, document-in-frame}
use Rattle.pe_laws.proofs.Stamps.{activates-current}
use Rattle.pe_laws.proofs.Shown.{AreNamedLive, regular-names, framed, shown}

-- ---- numbers none of which stands twice

abbrev AreOnce : List ℕ → Type 0
AreOnce [] = Unit {0}
AreOnce (x ∷ xs) = (is_one_of xs x ≡ false) × AreOnce xs

once-filter : (test : ℕ → Bool) (xs : List ℕ) → AreOnce xs → AreOnce (filter test xs)
once-filter test [] h = tt
once-filter test (x ∷ xs) h = by_test (test x) (once-filter test xs h.1)
  where
    by_test : (b : Bool) → AreOnce (filter test xs) → AreOnce (cond b (x ∷ filter test xs) (filter test xs))
    by_test true rest = (filtered-are test xs x ∙ ap (λ b. b && test x) h.0, rest)
    by_test false rest = rest

-- positions up to n have no later one
unlisted : (xs : List ℕ) (n : ℕ) → ((k : ℕ) → is_one_of xs k ≡ true → (1 ≤ k) × (k ≤ n)) → is_one_of xs (suc n) ≡ false
unlisted xs n within = by_test (is_one_of xs (suc n)) refl
  where
    by_test : (b : Bool) → is_one_of xs (suc n) ≡ b → b ≡ false
    by_test false is = refl
    by_test true is = let w = within (suc n) is in absurd (omega (arith, w.1))

once-more : (b : Bool) (n : ℕ) (xs : List ℕ) → is_one_of xs n ≡ false → AreOnce xs → AreOnce (option_to_list (some_if b n) ++ xs)
once-more true n xs new h = (new, h)
once-more false n xs new h = h

documents-start : documents_made [] ≡ []
unfolding documents_made answers_newest_first
documents-start = refl

documents-once : (T : RepliedHistory) → AreOnce (documents_made T)
documents-once [] = rw documents-start tt
documents-once (s ∷ T) =
    rw (documents-step s T)
    (once-more (is_some (document_frame s.event 0)) (suc (length T)) (documents_made T) (unlisted (documents_made T) (length T) (document-within T)) (documents-once T))

frames-start : frames_made [] ≡ []
unfolding frames_made answers_newest_first
frames-start = refl

frames-once : (T : RepliedHistory) → AreOnce (frames_made T)
frames-once [] = rw frames-start tt
frames-once (s ∷ T) =
    rw (frames-step s T)
    (once-more (makes_frame s.event) (suc (length T)) (frames_made T) (unlisted (frames_made T) (length T) (λ k h. frame-within T k (sym (frames-are T k) ∙ h))) (frames-once T))

-- ---- as many of one list as of another

no-more : (test : ℕ → Bool) (xs : List ℕ) → length (filter test xs) ≤ length xs
no-more test [] = omega arith
no-more test (x ∷ xs) = by_test (test x) (no-more test xs)
  where
    by_test : (b : Bool) → length (filter test xs) ≤ length xs → length (cond b (x ∷ filter test xs) (filter test xs)) ≤ suc (length xs)
    by_test true rest = omega arith
    by_test false rest = omega arith

-- a list has fewer without a number that is one of it
taken-out : (k : ℕ) (ys : List ℕ) → is_one_of ys k ≡ true → suc (length (filter (λ y. not (y == k)) ys)) ≤ length ys
taken-out k [] h = cc
taken-out k (y ∷ ys) h = by_test (y == k) (taken-out k ys) h
  where
    by_test : (b : Bool) → (is_one_of ys k ≡ true → suc (length (filter (λ y. not (y == k)) ys)) ≤ length ys) → (b || is_one_of ys k) ≡ true
        → suc (length (cond (not b) (y ∷ filter (λ y. not (y == k)) ys) (filter (λ y. not (y == k)) ys))) ≤ suc (length ys)
    by_test true rest e = omega (arith, no-more (λ y. not (y == k)) ys)
    by_test false rest e = omega (arith, rest e)

-- numbers that stand once are no more than those that they go to, where they can be told from what they go to
as-few : (g h : ℕ → ℕ) (xs ys : List ℕ) → AreOnce xs → ((x : ℕ) → is_one_of xs x ≡ true → (is_one_of ys (g x) ≡ true) × (h (g x) ≡ x)) → length xs ≤ length ys
as-few g h [] ys once into = omega arith
as-few g h (x ∷ xs) ys once into =
    let rest : length xs ≤ length (filter (λ y. not (y == g x)) ys) = as-few g h xs (filter (λ y. not (y == g x)) ys) once.1 others in
    omega (arith, taken-out (g x) ys here.0)
  where
    here : (is_one_of ys (g x) ≡ true) × (h (g x) ≡ x)
    here = into x (rw (is_same x) refl)

    others : (k : ℕ) → is_one_of xs k ≡ true → (is_one_of (filter (λ y. not (y == g x)) ys) (g k) ≡ true) × (h (g k) ≡ k)
    others k one =
        let w = into k (rw one (or-true (x == k))) in
        let ne : g k ≢ g x = (λ e. let same : k ≡ x = sym w.1 ∙ ap h e ∙ here.1 in true≢false (sym one ∙ ap (λ n. is_one_of xs n) same ∙ once.0)) in
        (into-filtered (λ y. not (y == g x)) ys (g k) (ap not (not_same (g k) (g x) ne)) w.0, w.1)

as-many : (g h : ℕ → ℕ) (xs ys : List ℕ) → AreOnce xs → AreOnce ys → ((x : ℕ) → is_one_of xs x ≡ true → (is_one_of ys (g x) ≡ true) × (h (g x) ≡ x))
    → ((y : ℕ) → is_one_of ys y ≡ true → (is_one_of xs (h y) ≡ true) × (g (h y) ≡ y)) → length xs ≡ length ys
as-many g h xs ys once apart into back =
    let few : length xs ≤ length ys = as-few g h xs ys once into in
    let many : length ys ≤ length xs = as-few h g ys xs apart back in
    omega arith

-- ---- documents and the frames that show them

module _ (e : Event) (T : RepliedHistory) (named : AreNamedLive T) where
  -- the document that a frame shows, or 0
  shown_by : ℕ → ℕ
  shown_by f = unwrap_or (document_in T f) 0

  documents : List ℕ
  documents = filter (activates e T) (documents_made T)

  frames : List ℕ
  frames = filter (activates_in e T) (filter (is_live T) (frames_made T))

  framed_by : (d : ℕ) → is_one_of documents d ≡ true → (is_one_of frames (frame_of T d) ≡ true) × (shown_by (frame_of T d) ≡ d)
  unfolding documents frames shown_by is_live
  framed_by d one =
      let passes = (of-filtered (activates e T) (documents_made T) d one).0 in
      let here : document_in T (frame_of T d) ≡ Some d = shown T named d (activates-current e T d passes) in
      let last = (in-frame T (frame_of T d) d here).0 in (
        into-filtered (activates_in e T) (filter (is_live T) (frames_made T)) (frame_of T d) (rw here passes)
            (into-filtered (is_live T) (frames_made T) (frame_of T d) (ap is_some here) (frames-are T (frame_of T d) ∙ framed T named (frame_of T d) d last)),
        rw here refl,
      )

  documented : (f : ℕ) → is_one_of frames f ≡ true → (is_one_of documents (shown_by f) ≡ true) × (frame_of T (shown_by f) ≡ f)
  unfolding documents frames shown_by
  documented f one = by_document (document_in T f) refl (of-filtered (activates_in e T) (filter (is_live T) (frames_made T)) f one).0
    where
      by_document : (o : Option ℕ) → document_in T f ≡ o → unwrap_or (option_map (activates e T) o) false ≡ true
          → (is_one_of (filter (activates e T) (documents_made T)) (unwrap_or o 0) ≡ true) × (frame_of T (unwrap_or o 0) ≡ f)
      by_document None is passes = cc
      by_document (Some d) is passes =
          let w = document-in-frame T f d is in
          (into-filtered (activates e T) (documents_made T) d passes (documents-are T d ∙ current-made T d w.0), w.1)

  activated-count : activated_count e T ≡ length (filter (activates_in e T) (filter (is_live T) (frames_made T)))
  unfolding documents frames activated_count
  activated-count =
      as-many (frame_of T) shown_by documents frames (once-filter (activates e T) (documents_made T) (documents-once T))
      (once-filter (activates_in e T) (filter (is_live T) (frames_made T)) (once-filter (is_live T) (frames_made T) (frames-once T))) framed_by documented

pub activated-in-frames : (duration : ℕ) (H : History) (e : Event) → is_regular duration H ≡ true
    → activated_count e (replied duration H) ≡ length (filter (activates_in e (replied duration H)) (filter (is_live (replied duration H)) (frames_made (replied duration H))))
activated-in-frames duration H e regular = activated-count e (replied duration H) (regular-names duration H regular)
