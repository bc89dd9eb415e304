-- Endings that are put down and forgotten.
use Rattle.std.proofs.Common.{◌≡◌, ℕ, Bool, true, false, ◌&&◌, ◌||◌, not, cond, List, Option, refl, sym, ap, ◌∙◌, arith, true≢false}
use Rattle.std.specs.Prelude.{◌==◌}
use Rattle.std.specs.BTreeMap.{is_at}
use Rattle.std.specs.Ordering.{is_eq, nat_cmp, ordering_then}
use Rattle.std.specs.declared.cmp.Ordering.{Ordering}
use Rattle.std.specs.declared.cmp.Ordering.TheVariants.{Less, Equal, Greater}
use Rattle.std.proofs.lemmas.Bool.Decides.{nat_tests}
use Rattle.pe_store.specs.declared.entry.Entry.{Entry}
use Rattle.pe_store.specs.declared.key.Life.{Life}
use Rattle.pe_store.specs.declared.key.Life.TheVariants as life
use Rattle.pe_store.specs.declared.place.Place.{Place}
use Rattle.pe_store.specs.declared.place.Ending.{Ending}
use Rattle.pe_store.specs.Places.{place_cmp, ending_cmp, is_same_place, has_ending, is_moment_of, is_page_of, has_life, PutsOne, DropsOne, same_life, PutsEnd, DropsEnd, ChangesEnd, AreEndings}

then-eq : (o r : Ordering) → is_eq (ordering_then o r) ≡ is_eq r && is_eq o
then-eq Less Less = refl
then-eq Less Equal = refl
then-eq Less Greater = refl
then-eq Equal Less = refl
then-eq Equal Equal = refl
then-eq Equal Greater = refl
then-eq Greater Less = refl
then-eq Greater Equal = refl
then-eq Greater Greater = refl

number-eq : (m n : ℕ) → is_eq (nat_cmp m n) ≡ (n == m)
number-eq m n = grind (arith, nat_tests)

pub ending-at : (by : ℕ) (p : Place) (x : Ending) → is_at (ending_cmp (record { by = by; place = p })) x ≡ is_same_place p x.place && x.by == by
ending-at by p x = then-eq (nat_cmp by x.by) (place_cmp p x.place) ∙ ap (λ b. is_same_place p x.place && b) (number-eq by x.by)

puts : (a b : Bool) → cond a true b ≡ a || b
puts true b = refl
puts false b = refl

drops : (a b : Bool) → cond a false b ≡ b && not a
drops true true = refl
drops true false = refl
drops false true = refl
drops false false = refl

pub puts-one : (by : ℕ) (p : Place) (old new : List Ending) → ((x : Ending) → has_ending new x ≡ cond (is_at (ending_cmp (record { by = by; place = p })) x) true (has_ending old x)) → PutsOne by p old new
unfolding PutsOne
puts-one by p old new h x =
    h x ∙ puts (is_at (ending_cmp (record { by = by; place = p })) x) (has_ending old x) ∙ ap (λ b. b || has_ending old x) (ending-at by p x)

pub drops-one : (by : ℕ) (p : Place) (old new : List Ending) → ((x : Ending) → has_ending new x ≡ cond (is_at (ending_cmp (record { by = by; place = p })) x) false (has_ending old x)) → DropsOne by p old new
unfolding DropsOne
drops-one by p old new h x =
    h x ∙ drops (is_at (ending_cmp (record { by = by; place = p })) x) (has_ending old x) ∙ ap (λ b. has_ending old x && not b) (ending-at by p x)

pub puts-moment : (l : Life) (p : Place) (m : ℕ) (old new : List Ending) → l ≡ life.Until m → PutsOne m p old new → PutsEnd is_moment_of l p old new
unfolding PutsOne PutsEnd
puts-moment l p m old new is h x = rw is (h x)

pub puts-page : (l : Life) (p : Place) (m d : ℕ) (old new : List Ending) → l ≡ life.Page d → m ≡ d → PutsOne m p old new → PutsEnd is_page_of l p old new
unfolding PutsOne PutsEnd
puts-page l p m d old new is same h x = rw (is, ← same) (h x)

pub drops-moment : (l : Life) (p : Place) (m : ℕ) (old new : List Ending) → l ≡ life.Until m → DropsOne m p old new → DropsEnd is_moment_of l p old new
unfolding DropsOne DropsEnd
drops-moment l p m old new is h x = rw is (h x)

pub drops-page : (l : Life) (p : Place) (m d : ℕ) (old new : List Ending) → l ≡ life.Page d → m ≡ d → DropsOne m p old new → DropsEnd is_page_of l p old new
unfolding DropsOne DropsEnd
drops-page l p m d old new is same h x = rw (is, ← same) (h x)

-- where the life has no ending by the test, nothing is put down or forgotten
pub puts-none : (test : ℕ → Life → Bool) (l : Life) (p : Place) (ends : List Ending) → ((n : ℕ) → test n l ≡ false) → PutsEnd test l p ends ends
unfolding PutsEnd
puts-none test l p ends never x = rw (never x.by) (none (is_same_place p x.place) (has_ending ends x))
  where
    none : (b h : Bool) → h ≡ (b && false) || h
    none true h = refl
    none false h = refl

pub drops-none : (test : ℕ → Life → Bool) (l : Life) (p : Place) (ends : List Ending) → ((n : ℕ) → test n l ≡ false) → DropsEnd test l p ends ends
unfolding DropsEnd
drops-none test l p ends never x = rw (never x.by) (none (is_same_place p x.place) (has_ending ends x))
  where
    none : (b h : Bool) → h ≡ h && not (b && false)
    none true true = refl
    none true false = refl
    none false true = refl
    none false false = refl

pub no-moment-forever : (l : Life) (n : ℕ) → l ≡ life.Forever → is_moment_of n l ≡ false
no-moment-forever l n is = rw is refl

pub no-page-forever : (l : Life) (n : ℕ) → l ≡ life.Forever → is_page_of n l ≡ false
no-page-forever l n is = rw is refl

pub no-moment-page : (l : Life) (n d : ℕ) → l ≡ life.Page d → is_moment_of n l ≡ false
no-moment-page l n d is = rw is refl

pub no-page-until : (l : Life) (n m : ℕ) → l ≡ life.Until m → is_page_of n l ≡ false
no-page-until l n m is = rw is refl

settle : (a b : Bool) → a || (b && not b) ≡ a
settle true b = refl
settle false true = refl
settle false false = refl

stay : (b : Bool) → b && true ≡ b
stay true = refl
stay false = refl

-- the endings follow the entries where one entry changes with its ending
pub ended-changed : (test : ℕ → Life → Bool) (p : Place) (w v : Option Entry) (rows rows' : Place → Option Entry) (old new : List Ending)
    → rows p ≡ v → ((r : Place) → rows' r ≡ cond (is_same_place p r) w (rows r)) → ((r : Place) → is_same_place p r ≡ true → p ≡ r) → AreEndings test rows old
    → ((x : Ending) → has_ending new x ≡ ((is_same_place p x.place && has_life test x.by w) || (has_ending old x && not (is_same_place p x.place && has_life test x.by v))))
    → AreEndings test rows' new
unfolding AreEndings
ended-changed test p w v rows rows' old new there at-rows exact ended change x = by_place (is_same_place p x.place) refl
  where
    by_place : (b : Bool) → is_same_place p x.place ≡ b → has_ending new x ≡ has_life test x.by (rows' x.place)
    by_place true here =
        let row : rows x.place ≡ v = ap rows (sym (exact x.place here)) ∙ there in
        let old-is : has_ending old x ≡ has_life test x.by v = ended x ∙ ap (has_life test x.by) row in
        let row' : rows' x.place ≡ w = at-rows x.place ∙ ap (λ b. cond b w (rows x.place)) here in
        let turn : has_ending new x ≡ ((true && has_life test x.by w) || (has_life test x.by v && not (true && has_life test x.by v))) =
        change x
        ∙ ap (λ b. (b && has_life test x.by w) || (has_ending old x && not (b && has_life test x.by v))) here
        ∙ ap (λ b. (true && has_life test x.by w) || (b && not (true && has_life test x.by v))) old-is in
        turn ∙ settle (has_life test x.by w) (has_life test x.by v) ∙ ap (has_life test x.by) (sym row')
    by_place false apart =
        let row' : rows' x.place ≡ rows x.place = at-rows x.place ∙ ap (λ b. cond b w (rows x.place)) apart in
        let turn : has_ending new x ≡ has_ending old x && true =
        change x ∙ ap (λ b. (b && has_life test x.by w) || (has_ending old x && not (b && has_life test x.by v))) apart in
        turn ∙ stay (has_ending old x) ∙ ended x ∙ ap (has_life test x.by) (sym row')

-- ---- one ending in the place of another

same-life-is : (a b : Life) → same_life a b ≡ true → a ≡ b
same-life-is life.Forever life.Forever h = refl
same-life-is life.Forever (life.Until b) h = cc
same-life-is life.Forever (life.Page b) h = cc
same-life-is (life.Until a) life.Forever h = cc
same-life-is (life.Until a) (life.Until b) h = let e : a ≡ b = grind (arith, nat_tests) in ap life.Until e
same-life-is (life.Until a) (life.Page b) h = cc
same-life-is (life.Page a) life.Forever h = cc
same-life-is (life.Page a) (life.Until b) h = cc
same-life-is (life.Page a) (life.Page b) h = let e : a ≡ b = grind (arith, nat_tests) in ap life.Page e

numbers-apart : (n a b : ℕ) → (a == b) ≡ false → (n == a) ≡ true → (n == b) ≡ false
numbers-apart n a b h k = grind (arith, nat_tests)

pub apart-moments : (a b : Life) → same_life a b ≡ false → (n : ℕ) → is_moment_of n a ≡ true → is_moment_of n b ≡ false
apart-moments life.Forever b h n k = cc
apart-moments (life.Page a) b h n k = cc
apart-moments (life.Until a) life.Forever h n k = refl
apart-moments (life.Until a) (life.Page b) h n k = refl
apart-moments (life.Until a) (life.Until b) h n k = numbers-apart n a b h k

pub apart-pages : (a b : Life) → same_life a b ≡ false → (n : ℕ) → is_page_of n a ≡ true → is_page_of n b ≡ false
apart-pages life.Forever b h n k = cc
apart-pages (life.Until a) b h n k = cc
apart-pages (life.Page a) life.Forever h n k = refl
apart-pages (life.Page a) (life.Until b) h n k = refl
apart-pages (life.Page a) (life.Page b) h n k = numbers-apart n a b h k

again : (a h : Bool) → a || h ≡ a || (h && not a)
again true h = refl
again false true = refl
again false false = refl

pub changes-alike : (test : ℕ → Life → Bool) (was l : Life) (p : Place) (old new : List Ending) → same_life was l ≡ true → PutsEnd test l p old new → ChangesEnd test was l p old new
unfolding PutsEnd ChangesEnd
changes-alike test was l p old new alike h x =
    h x ∙ again (is_same_place p x.place && test x.by l) (has_ending old x)
    ∙ ap (λ (w : Life). (is_same_place p x.place && test x.by l) || (has_ending old x && not (is_same_place p x.place && test x.by w))) (sym (same-life-is was l alike))

split : (s w l h : Bool) → (w ≡ true → l ≡ false) → ((s && l) || h) && not (s && w) ≡ (s && l) || (h && not (s && w))
split false w l h f = refl
split true true true h f = absurd (true≢false (f refl))
split true true false h f = refl
split true false true h f = refl
split true false false h f = refl

pub changes-apart : (test : ℕ → Life → Bool) (was l : Life) (p : Place) (old mid new : List Ending) → ((n : ℕ) → test n was ≡ true → test n l ≡ false) → PutsEnd test l p old mid → DropsEnd test was p mid new
    → ChangesEnd test was l p old new
unfolding PutsEnd DropsEnd ChangesEnd
changes-apart test was l p old mid new apart put dropped x =
    dropped x ∙ ap (λ b. b && not (is_same_place p x.place && test x.by was)) (put x)
    ∙ split (is_same_place p x.place) (test x.by was) (test x.by l) (has_ending old x) (apart x.by)
