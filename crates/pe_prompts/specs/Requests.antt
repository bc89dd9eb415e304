-- The requests that wait for a prompt, and the places where they stand.
use Rattle.std.specs.Prelude.{◌≡◌, ℕ, suc, zero, nat_eq, Bool, true, false, if◌then◌else◌, List, [], ◌∷◌, length, filter, not, Option, None, Some, slice_get}
use Rattle.std.specs.BTreeSet.{BTreeSet}
use Rattle.pe_arena.specs.declared.handle.DocRef.{DocRef}
use Rattle.pe_prompts.specs.declared.place.Place.{Place}
use Rattle.pe_prompts.specs.Places.{is_noted}

-- the values of a list of options
abbrev pub somes : {A : Type 0} → List (Option A) → List A
somes [] = []
somes (None ∷ xs) = somes xs
somes (Some x ∷ xs) = x ∷ somes xs

-- the request is the document's
abbrev pub is_of : ℕ → DocRef → Bool
is_of doc r = nat_eq doc r.doc

-- the requests of other documents
abbrev pub without : ℕ → List DocRef → List DocRef
without doc rs = filter (λ r. not (is_of doc r)) rs

-- a request of the document stands at the place
abbrev pub holds : ℕ → Option DocRef → Bool
holds doc None = false
holds doc (Some r) = is_of doc r

-- a place from which a request of the document is taken
abbrev pub emptied : ℕ → Option DocRef → Option DocRef
emptied doc x = if holds doc x then None else x

-- 1 for a place that has a request of the document, else 0
abbrev pub has_once : ℕ → Option DocRef → ℕ
has_once doc x = if holds doc x then 1 else 0

-- the places, once a request of the document is taken from one
abbrev pub cleared : ℕ → List (Option DocRef) → ℕ → List (Option DocRef)
cleared doc [] i = []
cleared doc (x ∷ xs) zero = emptied doc x ∷ xs
cleared doc (x ∷ xs) (suc i) = x ∷ cleared doc xs i

-- 1 where a request of the document stands at the place, else 0
abbrev pub cleared_count : ℕ → List (Option DocRef) → ℕ → ℕ
cleared_count doc [] i = 0
cleared_count doc (x ∷ xs) zero = has_once doc x
cleared_count doc (x ∷ xs) (suc i) = cleared_count doc xs i

-- the place of each request is noted for its document
abbrev pub AreNoted : List (Option DocRef) → BTreeSet Place → Type 0
AreNoted xs places = (i : ℕ) (r : DocRef) → slice_get xs i ≡ Some (Some r) → is_noted places r.doc i ≡ true

-- the places of the requests are noted, and the requests counted
pub record IsWaiting (requests : List (Option DocRef)) (places : BTreeSet Place) (count : ℕ) : Type 0 where
  pub counted : count ≡ length (somes requests)
  pub noted : AreNoted requests places
