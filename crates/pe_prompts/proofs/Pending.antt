-- What requests, answers and documents that go leave of the pending prompts of a page.
use Rattle.std.proofs.Common.{◌≡◌, ℕ, suc, ◌<◌, ◌≤◌, true, false, cond, not, List, [], ◌∷◌, ◌++◌, length, None, Some, IsSome, nat_eq, refl, sym, ap, subst, ◌∙◌, true≢false, inl, inr, arith}
use Rattle.std.specs.Map.{set_value, remove_entry, keys_of}
use Rattle.std.specs.BTreeMap.{insert_entry, is_at}
use Rattle.std.specs.Cmp.{unsigned_tied}
use Rattle.std.specs.List.{AllByRecursion}
use Rattle.std.specs.List.Sorted.{IsStrictlySortedBy}
use Rattle.std.specs.Ordering.{nat_cmp, match_ordering}
use Rattle.std.specs.declared.cmp.Ordering.TheVariants.{Less, Greater}
use Rattle.std.proofs.lemmas.Bool.Decides.{nat_tests}
use Rattle.pe_arena.specs.declared.handle.DocRef.{DocRef}
use Rattle.pe_prompts.specs.declared.queue.Prompt.{Prompt}
use Rattle.pe_prompts.specs.Lists.{IsIn, Each}
use Rattle.pe_prompts.specs.Requests.{is_of, without}
use Rattle.pe_prompts.specs.Pending.{Pending, prompt_in, with_request, joined, if_awaited, left, left_in, all_left, left_by}
use Rattle.pe_prompts.proofs.Items.{same_number, Each-then, Each-passing}

-- a request that joins is put behind the others
pub set_value-joined : (number : ℕ) (asker : DocRef) (ps : Pending) (p : Prompt) → prompt_in number ps ≡ Some p → set_value (nat_eq number) ps (with_request asker p) ≡ joined number asker ps
set_value-joined number asker [] p h = refl
set_value-joined number asker (e ∷ ps) p h =
    let rest = set_value-joined number asker ps p in
    (elim (nat_eq number e.0) as (λ b. cond b (Some e.1) (prompt_in number ps) ≡ Some p → cond b ((e.0, with_request asker p) ∷ ps) (e ∷ set_value (nat_eq number) ps (with_request asker p)) ≡ cond b ((e.0, with_request asker e.1) ∷ ps) (e ∷ joined number asker ps))
    [ true ↦ λ q. let same : e.1 ≡ p = cc in ap (λ x. (e.0, with_request asker x) ∷ ps) (sym same) | false ↦ λ q. ap (λ l. e ∷ l) (rest q) ]) h

-- a prompt of a number above all others is put behind them
pub insert-last : (ps : Pending) (number : ℕ) (p : Prompt) → ((k : ℕ) → IsSome (prompt_in k ps) → k < number) → insert_entry nat_cmp ps number p ≡ ps ++ (number, p) ∷ []
insert-last [] number p h = refl
insert-last (e ∷ ps) number p h =
    let first : e.0 < number = h e.0 (subst IsSome (sym (found_first e ps)) refl) in
    let rest = insert-last ps number p (λ k some. h k (found_later k e ps some)) in
    ap (λ o. match_ordering o ((number, p) ∷ e ∷ ps) ((e.0, p) ∷ ps) (e ∷ insert_entry nat_cmp ps number p)) (greater number e.0 first) ∙ ap (λ l. e ∷ l) rest
  where
    found_first : (e : ℕ × Prompt) (ps : Pending) → prompt_in e.0 (e ∷ ps) ≡ Some e.1
    found_first e ps = let yes : nat_eq e.0 e.0 ≡ true = grind (arith, nat_tests) in ap (λ b. cond b (Some e.1) (prompt_in e.0 ps)) yes

    found_later : (k : ℕ) (e : ℕ × Prompt) (ps : Pending) → IsSome (prompt_in k ps) → IsSome (prompt_in k (e ∷ ps))
    found_later k e ps h = elim (nat_eq k e.0) as (λ b. IsSome (cond b (Some e.1) (prompt_in k ps))) [ true ↦ refl | false ↦ h ]

    greater : (a b : ℕ) → b < a → nat_cmp a b ≡ Greater
    greater a b lt = grind (arith, nat_tests)

-- nothing joins a prompt that is not there
pub joined-absent : (number : ℕ) (asker : DocRef) (ps : Pending) → prompt_in number ps ≡ None → joined number asker ps ≡ ps
joined-absent number asker [] h = refl
joined-absent number asker (e ∷ ps) h =
    let rest = joined-absent number asker ps in
    (elim (nat_eq number e.0) as (λ b. cond b (Some e.1) (prompt_in number ps) ≡ None → cond b ((e.0, with_request asker e.1) ∷ ps) (e ∷ joined number asker ps) ≡ e ∷ ps)
    [ true ↦ λ q. absurd cc | false ↦ λ q. ap (λ l. e ∷ l) (rest q) ]) h

-- nothing leaves a prompt that is not there
pub left-absent : (number doc : ℕ) (ps : Pending) → prompt_in number ps ≡ None → left number doc ps ≡ ps
left-absent number doc [] h = refl
left-absent number doc (e ∷ ps) h =
    let rest = left-absent number doc ps in
    (elim (nat_eq number e.0) as (λ b. cond b (Some e.1) (prompt_in number ps) ≡ None → cond b (if_awaited e.0 e.1 (without doc e.1.waiting) (left number doc ps)) (e ∷ left number doc ps) ≡ e ∷ ps)
    [ true ↦ λ q. absurd cc | false ↦ λ q. ap (λ l. e ∷ l) (rest q) ]) h

-- a prompt that is not there is not taken out
pub remove_entry-absent : (number : ℕ) (ps : Pending) → prompt_in number ps ≡ None → remove_entry (nat_eq number) ps ≡ ps
remove_entry-absent number [] h = refl
remove_entry-absent number (e ∷ ps) h =
    let rest = remove_entry-absent number ps in
    (elim (nat_eq number e.0) as (λ b. cond b (Some e.1) (prompt_in number ps) ≡ None → cond b ps (e ∷ remove_entry (nat_eq number) ps) ≡ e ∷ ps)
    [ true ↦ λ q. absurd cc | false ↦ λ q. ap (λ l. e ∷ l) (rest q) ]) h

-- the prompts, where no number stands twice
abbrev pub AreApart : Pending → Type 0
AreApart [] = Unit {0}
AreApart (e ∷ ps) = (prompt_in e.0 ps ≡ None) × AreApart ps

-- what is written for a prompt for which some request waits is what the document leaves
pub set_value-left : (number doc : ℕ) (ps : Pending) (p : Prompt) (r : DocRef) (rs : List DocRef) → AreApart ps → prompt_in number ps ≡ Some p → without doc p.waiting ≡ r ∷ rs
    → set_value (nat_eq number) ps (record p { waiting = r ∷ rs }) ≡ left number doc ps
set_value-left number doc [] p r rs apart h w = refl
set_value-left number doc (e ∷ ps) p r rs apart h w =
    let rest = set_value-left number doc ps p r rs apart.1 in
    (elim (nat_eq number e.0) as (λ b. nat_eq number e.0 ≡ b → cond b (Some e.1) (prompt_in number ps) ≡ Some p
    → cond b ((e.0, record p { waiting = r ∷ rs }) ∷ ps) (e ∷ set_value (nat_eq number) ps (record p { waiting = r ∷ rs }))
    ≡ cond b (if_awaited e.0 e.1 (without doc e.1.waiting) (left number doc ps)) (e ∷ left number doc ps)) [
      | true ↦ λ t q.
          let same : e.1 ≡ p = cc in
          let absent : left number doc ps ≡ ps = left-absent number doc ps (subst (λ n. prompt_in n ps ≡ None) (sym (same_number number e.0 t)) apart.0) in
          sym (ap (λ x. if_awaited e.0 x (without doc x.waiting) (left number doc ps)) same ∙ ap (λ l. if_awaited e.0 p l (left number doc ps)) w ∙ ap (λ l. (e.0, record p { waiting = r ∷ rs }) ∷ l) absent)
      | false ↦ λ t q. ap (λ l. e ∷ l) (rest q w)
    ]) refl h

-- a prompt for which no request waits any longer is what the document takes along
pub remove_entry-left : (number doc : ℕ) (ps : Pending) (p : Prompt) → AreApart ps → prompt_in number ps ≡ Some p → without doc p.waiting ≡ [] → remove_entry (nat_eq number) ps ≡ left number doc ps
remove_entry-left number doc [] p apart h w = refl
remove_entry-left number doc (e ∷ ps) p apart h w =
    let rest = remove_entry-left number doc ps p apart.1 in
    (elim (nat_eq number e.0) as (λ b. nat_eq number e.0 ≡ b → cond b (Some e.1) (prompt_in number ps) ≡ Some p
    → cond b ps (e ∷ remove_entry (nat_eq number) ps) ≡ cond b (if_awaited e.0 e.1 (without doc e.1.waiting) (left number doc ps)) (e ∷ left number doc ps)) [
      | true ↦ λ t q.
          let same : e.1 ≡ p = cc in
          let absent : left number doc ps ≡ ps = left-absent number doc ps (subst (λ n. prompt_in n ps ≡ None) (sym (same_number number e.0 t)) apart.0) in
          sym (ap (λ x. if_awaited e.0 x (without doc x.waiting) (left number doc ps)) same ∙ ap (λ l. if_awaited e.0 p l (left number doc ps)) w ∙ absent)
      | false ↦ λ t q. ap (λ l. e ∷ l) (rest q w)
    ]) refl h

-- what is written is taken out as well
pub remove_entry-set_value : (number : ℕ) (ps : Pending) (p : Prompt) → remove_entry (nat_eq number) (set_value (nat_eq number) ps p) ≡ remove_entry (nat_eq number) ps
remove_entry-set_value number [] p = refl
remove_entry-set_value number (e ∷ ps) p =
    let rest = remove_entry-set_value number ps p in
    (elim (nat_eq number e.0) as (λ b. nat_eq number e.0 ≡ b → remove_entry (nat_eq number) (cond b ((e.0, p) ∷ ps) (e ∷ set_value (nat_eq number) ps p)) ≡ cond b ps (e ∷ remove_entry (nat_eq number) ps)) [
      | true ↦ λ t. ap (λ b. cond b ps ((e.0, p) ∷ remove_entry (nat_eq number) ps)) t
      | false ↦ λ t. ap (λ b. cond b (set_value (nat_eq number) ps p) (e ∷ remove_entry (nat_eq number) (set_value (nat_eq number) ps p))) t ∙ ap (λ l. e ∷ l) rest
    ]) refl

module _ (doc : ℕ) where
  -- what is taken out is not there to be taken out again
  pub without-twice : (rs : List DocRef) → without doc (without doc rs) ≡ without doc rs
  without-twice [] = refl
  without-twice (r ∷ rs) =
      let rest = without-twice rs in
      (elim (is_of doc r) as (λ b. is_of doc r ≡ b → without doc (cond (not b) (r ∷ without doc rs) (without doc rs)) ≡ cond (not b) (r ∷ without doc rs) (without doc rs))
      [ true ↦ λ e. rest | false ↦ λ e. ap (λ b. cond (not b) (r ∷ without doc (without doc rs)) (without doc (without doc rs))) e ∙ ap (λ l. r ∷ l) rest ]) refl

  -- where none is the document's, all stay
  pub without-none : (rs : List DocRef) → Each (λ r. is_of doc r ≡ true → ⊥) rs → without doc rs ≡ rs
  without-none [] h = refl
  without-none (r ∷ rs) h =
      let rest = without-none rs h.1 in
      (elim (is_of doc r) as (λ b. is_of doc r ≡ b → cond (not b) (r ∷ without doc rs) (without doc rs) ≡ r ∷ rs)
      [ true ↦ λ e. absurd (h.0 e) | false ↦ λ e. ap (λ l. r ∷ l) rest ]) refl

  -- a prompt for which some request waits stays
  pub if_awaited-self : (number : ℕ) (p : Prompt) (w : List DocRef) (ps : Pending) → p.waiting ≡ w → 1 ≤ length w → if_awaited number p w ps ≡ (number, p) ∷ ps
  if_awaited-self number p [] ps e h = absurd (omega arith)
  if_awaited-self number p (r ∷ rs) ps e h = ap (λ l. (number, record p { waiting = l }) ∷ ps) (sym e)

  if_awaited-left_by : (number : ℕ) (p : Prompt) (w : List DocRef) (ps : Pending) → without doc w ≡ w → left_by doc (if_awaited number p w ps) ≡ if_awaited number p w (left_by doc ps)
  if_awaited-left_by number p [] ps h = refl
  if_awaited-left_by number p (r ∷ rs) ps h = ap (λ l. if_awaited number (record p { waiting = r ∷ rs }) l (left_by doc ps)) h

  -- what is dropped for one number is dropped with all
  pub left_by-left : (number : ℕ) (ps : Pending) → left_by doc (left number doc ps) ≡ left_by doc ps
  left_by-left number [] = refl
  left_by-left number (e ∷ ps) =
      let rest = left_by-left number ps in
      elim (nat_eq number e.0) as (λ b. left_by doc (cond b (if_awaited e.0 e.1 (without doc e.1.waiting) (left number doc ps)) (e ∷ left number doc ps)) ≡ if_awaited e.0 e.1 (without doc e.1.waiting) (left_by doc ps)) [
        | true ↦ if_awaited-left_by e.0 e.1 (without doc e.1.waiting) (left number doc ps) (without-twice e.1.waiting) ∙ ap (if_awaited e.0 e.1 (without doc e.1.waiting)) rest
        | false ↦ ap (if_awaited e.0 e.1 (without doc e.1.waiting)) rest
      ]

  pub left_by-left_in : (page number p : ℕ) (ps : Pending) → left_by doc (left_in page number doc p ps) ≡ left_by doc ps
  left_by-left_in page number p ps =
      elim (nat_eq page p) as (λ b. left_by doc (cond b (left number doc ps) ps) ≡ left_by doc ps) [ true ↦ left_by-left number ps | false ↦ refl ]

  module _ (P Q : ℕ × Prompt → Type 0) (some : (e : ℕ × Prompt) (r : DocRef) (rs : List DocRef) → P e → without doc e.1.waiting ≡ r ∷ rs → Q (e.0, record e.1 { waiting = r ∷ rs })) where
    Each-if_awaited : (e : ℕ × Prompt) (w : List DocRef) (ps : Pending) → P e → without doc e.1.waiting ≡ w → Each Q ps → Each Q (if_awaited e.0 e.1 w ps)
    Each-if_awaited e [] ps p w h = h
    Each-if_awaited e (r ∷ rs) ps p w h = (some e r rs p w, h)

    -- what holds of each prompt for which some request still waits
    pub Each-left_by : (ps : Pending) → Each P ps → Each Q (left_by doc ps)
    Each-left_by [] h = tt
    Each-left_by (e ∷ ps) h = Each-if_awaited e (without doc e.1.waiting) (left_by doc ps) h.0 refl (Each-left_by ps h.1)

    pub Each-left : (number : ℕ) → ((e : ℕ × Prompt) → P e → nat_eq number e.0 ≡ false → Q e) → (ps : Pending) → Each P ps → Each Q (left number doc ps)
    Each-left number other [] h = tt
    Each-left number other (e ∷ ps) h =
        let rest = Each-left number other ps h.1 in
        (elim (nat_eq number e.0) as (λ b. nat_eq number e.0 ≡ b → Each Q (cond b (if_awaited e.0 e.1 (without doc e.1.waiting) (left number doc ps)) (e ∷ left number doc ps)))
        [ true ↦ λ t. Each-if_awaited e (without doc e.1.waiting) (left number doc ps) h.0 refl rest | false ↦ λ t. (other e h.0 t, rest) ]) refl

  -- some request waits for the prompt, and its place is listed where the document asked for it
  pub record IsLeft (places : List (ℕ × ℕ)) (page : ℕ) (e : ℕ × Prompt) : Type 0 where
    pub awaited : 1 ≤ length e.1.waiting
    pub in_list : Each (λ r. is_of doc r ≡ true → IsIn places (page, e.0)) e.1.waiting

  IsLeft-passed : (places : List (ℕ × ℕ)) (page : ℕ) (e : ℕ × Prompt) (r : DocRef) (rs : List DocRef) → without doc e.1.waiting ≡ r ∷ rs → IsLeft places page (e.0, record e.1 { waiting = r ∷ rs })
  IsLeft-passed places page e r rs w = record {
    awaited = omega arith;
    in_list = subst (Each (λ x. is_of doc x ≡ true → IsIn places (page, e.0))) w
        (Each-passing (λ x. Unit {0}) (λ x. not (is_of doc x)) (λ x. is_of doc x ≡ true → IsIn places (page, e.0)) (λ x u t of. absurd (true≢false (sym t ∙ ap not of))) e.1.waiting (all e.1.waiting));
  }
    where
      all : (xs : List DocRef) → Each (λ x. Unit {0}) xs
      all [] = tt
      all (x ∷ xs) = (tt, all xs)

  IsLeft-other : (place : ℕ × ℕ) (places : List (ℕ × ℕ)) (page : ℕ) (e : ℕ × Prompt) → (place ≡ (page, e.0) → ⊥) → IsLeft (place ∷ places) page e → IsLeft places page e
  IsLeft-other place places page e apart h = record {
    awaited = h.awaited;
    in_list = Each-then (λ r. is_of doc r ≡ true → IsIn (place ∷ places) (page, e.0)) (λ r. is_of doc r ≡ true → IsIn places (page, e.0))
        (λ r so of. elim (so of) [ inl q ↦ absurd (apart q) | inr l ↦ l ]) e.1.waiting h.in_list;
  }

  IsLeft-in : (place : ℕ × ℕ) (places : List (ℕ × ℕ)) (page : ℕ) (ps : Pending) → Each (IsLeft (place ∷ places) page) ps → Each (IsLeft places page) (left_in place.0 place.1 doc page ps)
  IsLeft-in place places page ps h =
      (elim (nat_eq place.0 page) as (λ b. nat_eq place.0 page ≡ b → Each (IsLeft places page) (cond b (left place.1 doc ps) ps)) [
        | true ↦ λ t. Each-left (IsLeft (place ∷ places) page) (IsLeft places page) (λ e r rs l w. IsLeft-passed places page e r rs w) place.1
            (λ e l f. IsLeft-other place places page e (λ q. true≢false (sym (same_is_true e.0) ∙ ap (λ n. nat_eq n e.0) (sym (ap (λ x. x.1) q)) ∙ f)) l) ps h
        | false ↦ λ f. Each-then (IsLeft (place ∷ places) page) (IsLeft places page)
            (λ e l. IsLeft-other place places page e (λ q. true≢false (sym (same_is_true page) ∙ ap (λ n. nat_eq n page) (sym (ap (λ x. x.0) q)) ∙ f)) l) ps h
      ]) refl
    where
      same_is_true : (n : ℕ) → nat_eq n n ≡ true
      same_is_true n = grind (arith, nat_tests)

  left_by-none : (page : ℕ) (ps : Pending) → Each (IsLeft [] page) ps → left_by doc ps ≡ ps
  left_by-none page [] h = refl
  left_by-none page (e ∷ ps) h =
      ap (λ w. if_awaited e.0 e.1 w (left_by doc ps)) (without-none e.1.waiting h.0.in_list)
      ∙ if_awaited-self e.0 e.1 e.1.waiting (left_by doc ps) refl h.0.awaited ∙ ap (λ l. e ∷ l) (left_by-none page ps h.1)

  -- what is dropped at each listed place is all of the document's
  pub all_left-left_by : (places : List (ℕ × ℕ)) (page : ℕ) (ps : Pending) → Each (IsLeft places page) ps → all_left doc places page ps ≡ left_by doc ps
  all_left-left_by [] page ps h = sym (left_by-none page ps h)
  all_left-left_by (place ∷ places) page ps h =
      all_left-left_by places page (left_in place.0 place.1 doc page ps) (IsLeft-in place places page ps h) ∙ left_by-left_in place.0 place.1 page ps

-- as many prompts as before
pub length-joined : (number : ℕ) (asker : DocRef) (ps : Pending) → length (joined number asker ps) ≡ length ps
length-joined number asker [] = refl
length-joined number asker (e ∷ ps) =
    let rest = length-joined number asker ps in
    elim (nat_eq number e.0) as (λ b. length (cond b ((e.0, with_request asker e.1) ∷ ps) (e ∷ joined number asker ps)) ≡ suc (length ps)) [ true ↦ refl | false ↦ ap suc rest ]

-- no more prompts than before
pub length-remove_entry : (number : ℕ) (ps : Pending) → length (remove_entry (nat_eq number) ps) ≤ length ps
length-remove_entry number [] = omega arith
length-remove_entry number (e ∷ ps) =
    let rest = length-remove_entry number ps in
    elim (nat_eq number e.0) as (λ b. length (cond b ps (e ∷ remove_entry (nat_eq number) ps)) ≤ suc (length ps)) [ true ↦ omega arith | false ↦ omega arith ]

-- the test by which the map finds a number
pub same_test : (n : ℕ) → is_at (nat_cmp n) ≡ nat_eq n
same_test n = λ j y. unsigned_tied n y j

-- sorted numbers are apart
pub AreApart-ordered : (ps : Pending) → IsStrictlySortedBy nat_cmp (keys_of ps) → AreApart ps
unfolding IsStrictlySortedBy
AreApart-ordered [] h = tt
AreApart-ordered (e ∷ ps) h = (absent ps h.0, AreApart-ordered ps h.1)
  where
    other : (a b : ℕ) → nat_cmp a b ≡ Less → nat_eq a b ≡ false
    other a b lt = grind (arith, nat_tests)

    absent : (qs : Pending) → AllByRecursion (λ y. nat_cmp e.0 y ≡ Less) (keys_of qs) → prompt_in e.0 qs ≡ None
    absent [] all = refl
    absent (q ∷ qs) all = ap (λ b. cond b (Some q.1) (prompt_in e.0 qs)) (other e.0 q.0 all.0) ∙ absent qs all.1

-- what is written for a prompt, once the requests of a document are dropped
pub left-kept : (number doc : ℕ) (ps : Pending) (p : Prompt) (w : List DocRef) → AreApart ps → prompt_in number ps ≡ Some p → w ≡ without doc p.waiting → (w ≡ [] → ⊥) → set_value (nat_eq number) ps (record p { waiting = w }) ≡ left number doc ps
left-kept number doc ps p [] apart h e some = absurd (some refl)
left-kept number doc ps p (r ∷ rs) apart h e some = set_value-left number doc ps p r rs apart h (sym e)

pub left-emptied : (number doc : ℕ) (ps : Pending) (p : Prompt) (w : List DocRef) → AreApart ps → prompt_in number ps ≡ Some p → w ≡ without doc p.waiting → w ≡ [] → remove_entry (nat_eq number) (set_value (nat_eq number) ps (record p { waiting = w })) ≡ left number doc ps
left-emptied number doc ps p w apart h e none = remove_entry-set_value number ps (record p { waiting = w }) ∙ remove_entry-left number doc ps p apart h (sym e ∙ none)
