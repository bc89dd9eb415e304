-- The list of waiting messages, with one more and with one less.
use Rattle.std.proofs.Common.{◌≡◌, ℕ, suc, Bool, true, false, cond, not, ◌&&◌, ◌||◌, ◌==◌, List, [], ◌∷◌, ◌++◌, length, filter, Some, None, is_some, option_to_list, nat_eq, refl, sym, ◌∙◌, ap, subst, arith}
use Rattle.std.specs.List.{list_any}
use Rattle.std.specs.Map.{keys_of}
use Rattle.std.proofs.lemmas.Bool.Decides.{nat_tests}
use Rattle.std.proofs.lemmas.List.Folds.{list_any-append}
use Rattle.pe_delegation.specs.declared.message.Message.{Message}
use Rattle.pe_delegation.specs.Posted.{message_of, was_given, waiting_count, without}
use Rattle.pe_rules.specs.History.{some_if}
use Rattle.pe_laws.specs.StatusesLaws.{Each}
use Rattle.pe_messages.specs.Parts.{numbers_of_page}

-- ---- lists of which each element has a property

pub each-weaker : {A : Type 0} (P Q : A → Type 0) (xs : List A) → ((x : A) → P x → Q x) → Each P xs → Each Q xs
each-weaker P Q [] f h = tt
each-weaker P Q (x ∷ xs) f h = (f x h.0, each-weaker P Q xs f h.1)

pub each-both : {A : Type 0} (P Q : A → Type 0) (xs : List A) → Each P xs → Each Q xs → Each (λ x. P x × Q x) xs
each-both P Q [] h k = tt
each-both P Q (x ∷ xs) h k = ((h.0, k.0), each-both P Q xs h.1 k.1)

pub each-filter : {A : Type 0} (P : A → Type 0) (test : A → Bool) (xs : List A) → Each P xs → Each P (filter test xs)
each-filter P test [] h = tt
each-filter P test (x ∷ xs) h = by_test (test x) (each-filter P test xs h.1)
  where
    by_test : (b : Bool) → Each P (filter test xs) → Each P (cond b (x ∷ filter test xs) (filter test xs))
    by_test true rest = (h.0, rest)
    by_test false rest = rest

pub each-append : {A : Type 0} (P : A → Type 0) (xs ys : List A) → Each P xs → Each P ys → Each P (xs ++ ys)
each-append P [] ys h k = k
each-append P (x ∷ xs) ys h k = (h.0, each-append P xs ys h.1 k)

-- what each message has, with its number, the one that is found has
pub each-found : (P : ℕ → Message → Type 0) (es : List (ℕ × Message)) (m : ℕ) (x : Message) → Each (λ e. P e.0 e.1) es → message_of es m ≡ Some x → P m x
unfolding message_of
each-found P [] m x h is = cc
each-found P (e ∷ es) m x h is = by_test (each-found P es m x h.1) (nat_eq m e.0) refl is
  where
    one-number : (a b : ℕ) → nat_eq a b ≡ true → b ≡ a
    one-number a b t = grind (arith, nat_tests)

    by_test : (message_of es m ≡ Some x → P m x) → (b : Bool) → nat_eq m e.0 ≡ b → cond b (Some e.1) (message_of es m) ≡ Some x → P m x
    by_test rest true t found =
        let same : e.1 ≡ x = cc in
        subst (P m) same (subst (λ n. P n e.1) (one-number m e.0 t) h.0)
    by_test rest false t found = rest found

-- ---- one more

pub found-more : (es : List (ℕ × Message)) (number k : ℕ) (x : Message) → is_some (message_of (es ++ (number, x) ∷ []) k) ≡ (is_some (message_of es k) || nat_eq k number)
unfolding message_of
found-more [] number k x = by_test (nat_eq k number)
  where
    by_test : (b : Bool) → is_some (cond b (Some x) None) ≡ (false || b)
    by_test true = refl
    by_test false = refl
found-more (e ∷ es) number k x = by_test (nat_eq k e.0) (found-more es number k x)
  where
    by_test : (b : Bool) → is_some (message_of (es ++ (number, x) ∷ []) k) ≡ (is_some (message_of es k) || nat_eq k number)
        → is_some (cond b (Some e.1) (message_of (es ++ (number, x) ∷ []) k)) ≡ (is_some (cond b (Some e.1) (message_of es k)) || nat_eq k number)
    by_test true rest = refl
    by_test false rest = rest

pub listed-more : (es : List (ℕ × Message)) (number top : ℕ) (x : Message) → numbers_of_page top (es ++ (number, x) ∷ []) ≡ numbers_of_page top es ++ option_to_list (some_if (x.page == top) number)
listed-more [] number top x = by_test (x.page == top)
  where
    by_test : (b : Bool) → keys_of (cond b ((number, x) ∷ []) []) ≡ option_to_list (some_if b number)
    by_test true = refl
    by_test false = refl
listed-more (e ∷ es) number top x = by_test (e.1.page == top) (listed-more es number top x)
  where
    by_test : (b : Bool) → numbers_of_page top (es ++ (number, x) ∷ []) ≡ numbers_of_page top es ++ option_to_list (some_if (x.page == top) number)
        → keys_of (cond b (e ∷ filter (λ e. e.1.page == top) (es ++ (number, x) ∷ [])) (filter (λ e. e.1.page == top) (es ++ (number, x) ∷ [])))
        ≡ keys_of (cond b (e ∷ filter (λ e. e.1.page == top) es) (filter (λ e. e.1.page == top) es)) ++ option_to_list (some_if (x.page == top) number)
    by_test true rest = ap (λ (ns : List ℕ). e.0 ∷ ns) rest
    by_test false rest = rest

pub given-more : (ns : List ℕ) (number k : ℕ) → was_given (ns ++ number ∷ []) k ≡ (was_given ns k || nat_eq k number)
unfolding was_given
given-more ns number k = list_any-append (nat_eq k) ns (number ∷ []) ∙ ap (λ b. list_any (nat_eq k) ns || b) (or-none (nat_eq k number))
  where
    or-none : (b : Bool) → (b || false) ≡ b
    or-none true = refl
    or-none false = refl

-- ---- one less

pub found-less : (es : List (ℕ × Message)) (m k : ℕ) → is_some (message_of (without m es) k) ≡ (not (nat_eq m k) && is_some (message_of es k))
unfolding message_of without
found-less [] m k = by_test (nat_eq m k)
  where
    by_test : (b : Bool) → false ≡ (not b && false)
    by_test true = refl
    by_test false = refl
found-less (e ∷ es) m k = by_tests (nat_eq m e.0) refl (nat_eq k e.0) refl (found-less es m k)
  where
    one-number : (a b c : ℕ) → nat_eq a b ≡ true → nat_eq c b ≡ true → nat_eq a c ≡ true
    one-number a b c s t = grind (arith, nat_tests)

    other-number : (a b c : ℕ) → nat_eq a b ≡ false → nat_eq c b ≡ true → nat_eq a c ≡ false
    other-number a b c s t = grind (arith, nat_tests)

    by_tests : (b : Bool) → nat_eq m e.0 ≡ b → (c : Bool) → nat_eq k e.0 ≡ c → is_some (message_of (without m es) k) ≡ (not (nat_eq m k) && is_some (message_of es k))
        → is_some (message_of (cond (not b) (e ∷ without m es) (without m es)) k) ≡ (not (nat_eq m k) && is_some (cond c (Some e.1) (message_of es k)))
    by_tests true s true t rest =
        rest ∙ ap (λ d. not d && is_some (message_of es k)) (one-number m e.0 k s t) ∙ sym (ap (λ d. not d && true) (one-number m e.0 k s t))
    by_tests true s false t rest = rest
    by_tests false s true t rest = ap (λ d. is_some (cond d (Some e.1) (message_of (without m es) k))) t ∙ sym (ap (λ d. not d && true) (other-number m e.0 k s t))
    by_tests false s false t rest = ap (λ d. is_some (cond d (Some e.1) (message_of (without m es) k))) t ∙ rest

pub listed-less : (es : List (ℕ × Message)) (m top : ℕ) → numbers_of_page top (without m es) ≡ filter (λ j. not (m == j)) (numbers_of_page top es)
unfolding without
listed-less [] m top = refl
listed-less (e ∷ es) m top = by_tests (nat_eq m e.0) refl (e.1.page == top) refl (listed-less es m top)
  where
    by_tests : (b : Bool) → nat_eq m e.0 ≡ b → (c : Bool) → (e.1.page == top) ≡ c → numbers_of_page top (without m es) ≡ filter (λ j. not (m == j)) (numbers_of_page top es)
        → numbers_of_page top (cond (not b) (e ∷ without m es) (without m es))
        ≡ filter (λ j. not (m == j)) (keys_of (cond c (e ∷ filter (λ e. e.1.page == top) es) (filter (λ e. e.1.page == top) es)))
    by_tests true s true t rest = rest ∙ sym (ap (λ d. cond (not d) (e.0 ∷ filter (λ j. not (m == j)) (numbers_of_page top es)) (filter (λ j. not (m == j)) (numbers_of_page top es))) s)
    by_tests true s false t rest = rest
    by_tests false s true t rest =
        ap (λ d. keys_of (cond d (e ∷ filter (λ e. e.1.page == top) (without m es)) (filter (λ e. e.1.page == top) (without m es)))) t
        ∙ ap (λ (ns : List ℕ). e.0 ∷ ns) rest
        ∙ sym (ap (λ d. cond (not d) (e.0 ∷ filter (λ j. not (m == j)) (numbers_of_page top es)) (filter (λ j. not (m == j)) (numbers_of_page top es))) s)
    by_tests false s false t rest = ap (λ d. keys_of (cond d (e ∷ filter (λ e. e.1.page == top) (without m es)) (filter (λ e. e.1.page == top) (without m es)))) t ∙ rest

-- ---- as many

length-keys : (es : List (ℕ × Message)) → length (keys_of es) ≡ length es
length-keys [] = refl
length-keys (e ∷ es) = ap suc (length-keys es)

pub counted-listed : (es : List (ℕ × Message)) (top : ℕ) → waiting_count top es ≡ length (numbers_of_page top es)
unfolding waiting_count
counted-listed es top = sym (length-keys (filter (λ e. e.1.page == top) es))
