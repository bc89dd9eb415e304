-- What a contract sees of an arena.
use Rattle.std.specs.Prelude.{◌≡◌, ◌≢◌, ◌⊎◌, ℕ, ◌+◌, ◌<◌, ◌≤◌, ◌^◌, ◌==◌, if◌then◌else◌, List, length, [], ◌∷◌, ◌++◌, Option, None, Some, slice_index_or, slice_set, refl}
use Rattle.std.specs.Coded.{Coded, code_by, coded×, coded_ℕ, coded_list, coded_option}
use Rattle.pe_arena.specs.declared.handle.Handle.{Handle}
use Rattle.pe_arena.specs.declared.arena.Insert.{Insert}
use Rattle.pe_arena.specs.declared.arena.Insert.TheVariants.{Full, Memory}

-- a slot: its mark, which is the least generation that it may yet give, and its value while it holds one
pub record Slot (T : Type 0) : Type 0 where
  pub mark : ℕ
  pub value : Option T

-- the slots that were made, how many there may be, the mark of a slot that was not made, and how many values were taken in
pub record Slots (T : Type 0) : Type 0 where
  pub slots : List (Slot T)
  pub limit : ℕ
  pub first : ℕ
  pub made : ℕ

-- a slot is stored as the pair of its fields
abbrev pub slot_code : {T : Type 0} → Coded T → Coded (Slot T)
slot_code {T} code =
    code_by
    (ℕ × Option T)
    (coded× coded_ℕ (coded_option code))
    (λ s. (s.mark, s.value))
    (λ p. record { mark = p.0; value = p.1 })
    (λ _. refl)

-- the slots of an arena are stored as the tuple of their fields
abbrev pub slots_code : {T : Type 0} → Coded T → Coded (Slots T)
slots_code {T} code =
    code_by
    (List (Slot T) × (ℕ × (ℕ × ℕ)))
    (coded× (coded_list (slot_code code)) (coded× coded_ℕ (coded× coded_ℕ coded_ℕ)))
    (λ s. (s.slots, (s.limit, (s.first, s.made))))
    (λ p. record { slots = p.0; limit = p.1.0; first = p.1.1.0; made = p.1.1.1 })
    (λ _. refl)

-- the list with this at the place, which is one of its own or the next
abbrev pub put : {A : Type 0} → List A → ℕ → A → List A
put xs i x = if i == length xs then xs ++ x ∷ [] else slice_set xs i x

module _ {T : Type 0} where
  -- the slot with this number; one that was not made holds no value
  abbrev pub slot_at : Slots T → ℕ → Slot T
  slot_at s i = slice_index_or s.slots i (record { mark = s.first; value = None })

  -- the least generation that the slot may yet give
  abbrev pub mark : Slots T → ℕ → ℕ
  mark s i = (slot_at s i).mark

  -- the value of a slot
  abbrev pub value : Slots T → ℕ → Option T
  value s i = (slot_at s i).value

  -- the value of a live handle: the last handle that its slot gave, while the slot holds the value
  abbrev pub live : Slots T → Handle → Option T
  live s h = if mark s h.slot == h.generation + 1 then value s h.slot else None

  -- the handle has this value, if there is one, and every other handle has what it had
  pub record Updates (old new : Slots T) (h : Handle) (o : Option T) : Type 0 where
    pub changed : live new h ≡ o
    pub others : (other : Handle) → other ≢ h → live new other ≡ live old other

  -- the slot of the handle gave it last, the mark of each other slot is as before and none falls, and at most one slot was made
  pub record IsGiven (old new : Slots T) (h : Handle) : Type 0 where
    pub last : mark new h.slot ≡ h.generation + 1
    pub others : (i : ℕ) → i ≢ h.slot → mark new i ≡ mark old i
    pub rising : (i : ℕ) → mark old i ≤ mark new i
    pub most : length new.slots ≤ length old.slots + 1

  -- the slot gave this generation or a later one, and the handle is not live
  pub record IsDead (s : Slots T) (h : Handle) : Type 0 where
    pub given : h.generation < mark s h.slot
    pub gone : live s h ≡ None

  -- each dead handle stays dead
  abbrev pub StayDead : Slots T → Slots T → Type 0
  StayDead old new = (h : Handle) → IsDead old h → IsDead new h

  -- the slot was made, holds no value, and is not retired: its mark is a generation
  pub record IsFree (s : Slots T) (i : ℕ) : Type 0 where
    pub made : i < length s.slots
    pub empty : value s i ≡ None
    pub left : mark s i < 2 ^ 64

  -- some slot is free
  abbrev pub HasFree : Slots T → Type 0
  HasFree s = (i : ℕ) × IsFree s i

  -- no slot is free
  abbrev pub HasNoFree : Slots T → Type 0
  HasNoFree s = (i : ℕ) → ¬ IsFree s i

  -- as many slots were made as there may be, and none is free
  abbrev pub IsFull : Slots T → Type 0
  IsFull s = (length s.slots ≡ s.limit) × HasNoFree s

  -- the slot that an insert may take: a free one, and where none is free the next one to be made
  abbrev pub IsNext : Slots T → ℕ → Type 0
  IsNext s i = IsFree s i ⊎ (HasNoFree s × (i ≡ length s.slots))

  -- the slot gave its mark to this value, which was taken in
  abbrev pub holding : Slots T → ℕ → T → Slots T
  holding s i v = record s { slots = put s.slots i (record { mark = mark s i + 1; value = Some v }); made = s.made + 1 }

  -- the slot has this value
  abbrev pub with_value : Slots T → ℕ → T → Slots T
  with_value s i v = record s { slots = slice_set s.slots i (record { mark = mark s i; value = Some v }) }

  -- the slot holds no value
  abbrev pub emptied : Slots T → ℕ → Slots T
  emptied s i = record s { slots = slice_set s.slots i (record { mark = mark s i; value = None }) }

  -- the value that was not taken in
  abbrev pub back : Insert T → T
  back (Full v) = v
  back (Memory v) = v

  -- this value was not taken in
  abbrev pub HandsBack : T → Insert T → Type 0
  HandsBack v refused = back refused ≡ v
