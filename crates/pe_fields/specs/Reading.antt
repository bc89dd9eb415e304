-- The dictionary that a text spells: each function gives what stands at the front of a text and the bytes behind it.
-- RFC 8941, section 4.2.2 (dictionaries) with 4.2.1.2 (inner lists), 4.2.3 (items), 4.2.3.1 (bare items), 4.2.3.2 (parameters), 4.2.3.3 (keys), 4.2.4 to 4.2.8.
-- This project's own profile: repeated keys and parameters stay in their lists, a byte sequence is kept as its base64 text, a decimal is a number of thousandths.
use Rattle.std.specs.Prelude.{ℕ, zero, suc, ◌+◌, ◌*◌, ◌==◌, ◌||◌, ◌&&◌, Bool, true, false, nat_le, List, [], ◌∷◌, length, take_while, Option, Some, None, option_and_then, option_map, if◌then◌else◌}
use Rattle.std.specs.Str.Parse.{digits_value}
use Rattle.pe_fields.specs.declared.value.Bare.{Bare}
use Rattle.pe_fields.specs.declared.value.Bare.TheVariants.{Integer, Decimal, Text, Token, Binary, Truth}
use Rattle.pe_fields.specs.declared.value.Param.{Param}
use Rattle.pe_fields.specs.declared.value.Item.{Item}
use Rattle.pe_fields.specs.declared.value.Value.{Value}
use Rattle.pe_fields.specs.declared.value.Value.TheVariants as value
use Rattle.pe_fields.specs.declared.value.Member.{Member}
use Rattle.pe_fields.specs.Numbers.{signed, thousandths}
use Rattle.pe_fields.specs.Alphabet.{is_space, is_white, is_digit, is_key_start, is_key_byte, is_token_start, is_token_byte, is_text_byte, is_base64_byte}

-- what stands at the front, and the bytes behind it; None where no such thing stands there
abbrev pub Read : Type 0 → Type 0
Read A = Option (A × List ℕ)

-- and then
infixl 10 ◌>>=◌
abbrev pub ◌>>=◌ : {A B : Type 0} → Option A → (A → Option B) → Option B
o >>= f = option_and_then f o

-- what is made of the value, or else this
abbrev pub option_map_or : {A B : Type 0} → B → (A → B) → Option A → B
option_map_or other f None = other
option_map_or other f (Some x) = f x

-- the same with this made of the value
abbrev pub read_map : {A B : Type 0} → (A → B) → Read A → Read B
read_map f read = option_map (λ r. (f r.0, r.1)) read

-- the bytes from the first one on that fails the test
abbrev pub drop_while : (ℕ → Bool) → List ℕ → List ℕ
drop_while test [] = []
drop_while test (b ∷ bs) = if test b then drop_while test bs else b ∷ bs

-- the text without its leading spaces
abbrev pub skip_spaces : List ℕ → List ℕ
skip_spaces text = drop_while is_space text

-- the text without its leading optional white space
abbrev pub skip_white : List ℕ → List ℕ
skip_white text = drop_while is_white text

-- the text behind this byte, which stands at its front
abbrev pub behind : ℕ → List ℕ → Option (List ℕ)
behind byte [] = None
behind byte (b ∷ bs) = if b == byte then Some bs else None

-- there is nothing
abbrev pub is_empty : List ℕ → Bool
is_empty [] = true
is_empty (b ∷ bs) = false

-- the text begins with a byte that passes the test
abbrev pub begins : (ℕ → Bool) → List ℕ → Bool
begins test [] = false
begins test (b ∷ bs) = test b

-- as many as can be read, one behind the other; the number only bounds how many
unfoldable pub each : {A : Type 0} → (List ℕ → Read A) → ℕ → List ℕ → List A × List ℕ
each one zero text = ([], text)
each one (suc n) text =
    option_map_or ([], text) (λ r. let others = each one n r.1 in (r.0 ∷ others.0, others.1)) (one text)

-- a key: a lower-case letter or `*`, and the further bytes of a key
unfoldable pub key_at : List ℕ → Read (List ℕ)
key_at [] = None
key_at (b ∷ bs) = if is_key_start b then Some (b ∷ take_while is_key_byte bs, drop_while is_key_byte bs) else None

-- from one to so many digits
abbrev pub is_count : ℕ → List ℕ → Bool
is_count most digits = nat_le 1 (length digits) && nat_le (length digits) most

-- an integer of 1 to 15 digits
abbrev pub integer_of : Bool → List ℕ → Option Bare
integer_of negative digits = if is_count 15 digits then Some (Integer (signed negative (digits_value 10 digits))) else None

-- a decimal of 1 to 12 digits before the point and 1 to 3 behind it
abbrev pub decimal_of : Bool → List ℕ → List ℕ → Option Bare
decimal_of negative whole fraction =
    if is_count 12 whole && is_count 3 fraction
    then Some (Decimal (signed negative (digits_value 10 whole * 1000 + thousandths fraction)))
    else None

-- what the digits before and behind a point spell, and the bytes behind them
abbrev pub decimal_at : Bool → List ℕ → List ℕ → Read Bare
decimal_at negative whole text =
    option_map (λ bare. (bare, drop_while is_digit text)) (decimal_of negative whole (take_while is_digit text))

-- a decimal where a point stands behind the digits, else an integer
unfoldable pub number_at : Bool → List ℕ → Read Bare
number_at negative text =
    let whole = take_while is_digit text in
    let rest = drop_while is_digit text in
    option_map_or (option_map (λ bare. (bare, rest)) (integer_of negative whole)) (decimal_at negative whole) (behind 46 rest)

-- the bytes of a string behind its opening quote; a quote and a backslash stand behind a backslash
unfoldable pub text_at : List ℕ → Read (List ℕ)
text_at [] = None
text_at (b ∷ []) = if b == 34 then Some ([], []) else None
text_at (b ∷ c ∷ bs) =
    elim (b == 34) [
      | true ↦ Some ([], c ∷ bs)
      | false ↦ elim (b == 92) [
        | true ↦ if (c == 34) || (c == 92) then read_map (λ text. c ∷ text) (text_at bs) else None
        | false ↦ if is_text_byte b then read_map (λ text. b ∷ text) (text_at (c ∷ bs)) else None
      ]
    ]

-- the bytes of a byte sequence behind its opening colon
unfoldable pub binary_at : List ℕ → Read (List ℕ)
binary_at text = do
  rest ← behind 58 (drop_while is_base64_byte text)
  Some (take_while is_base64_byte text, rest)

-- the truth value behind a question mark
abbrev pub truth_at : List ℕ → Read Bool
truth_at [] = None
truth_at (b ∷ bs) = if b == 49 then Some (true, bs) else if b == 48 then Some (false, bs) else None

-- a bare item, told by its first byte
unfoldable pub bare_at : List ℕ → Read Bare
bare_at [] = None
bare_at (b ∷ bs) =
    if b == 34 then read_map Text (text_at bs)
    else if b == 58 then read_map Binary (binary_at bs)
    else if b == 63 then read_map Truth (truth_at bs)
    else if is_token_start b then Some (Token (b ∷ take_while is_token_byte bs), drop_while is_token_byte bs)
    else if b == 45 then number_at true bs
    else number_at false (b ∷ bs)

-- the value of a parameter: a bare item behind `=`, or true
unfoldable pub given_at : List ℕ → Read Bare
given_at text = option_map_or (Some (Truth true, text)) bare_at (behind 61 text)

-- a parameter: `;`, spaces, a key and its value
unfoldable pub param_at : List ℕ → Read Param
param_at text = do
  rest ← behind 59 text
  key ← key_at (skip_spaces rest)
  value ← given_at key.1
  Some (record { key = key.0; value = value.0 }, value.1)

-- parameters, as many as there are
unfoldable pub params_at : List ℕ → List Param × List ℕ
params_at text = each param_at (length text) text

-- an item: a bare item and its parameters
unfoldable pub item_at : List ℕ → Read Item
item_at text = do
  bare ← bare_at text
  let params = params_at bare.1
  Some (record { bare = bare.0; params = params.0 }, params.1)

-- a further item of an inner list: one or more spaces, and an item
unfoldable pub next_item_at : List ℕ → Read Item
next_item_at text = do
  rest ← behind 32 text
  item_at (skip_spaces rest)

-- an item and the items behind it
abbrev pub items_from : Item × List ℕ → List Item × List ℕ
items_from first = let others = each next_item_at (length first.1) first.1 in (first.0 ∷ others.0, others.1)

-- the items of an inner list, none or some
unfoldable pub items_at : List ℕ → List Item × List ℕ
items_at text = option_map_or ([], text) items_from (item_at text)

-- an inner list behind its opening parenthesis
unfoldable pub inner_at : List ℕ → Read (List Item)
inner_at text = do
  let items = items_at (skip_spaces text)
  rest ← behind 41 (skip_spaces items.1)
  Some (items.0, rest)

-- an inner list or a bare item, told by its first byte
unfoldable pub listed_at : List ℕ → Read Value
listed_at text = option_map_or (read_map value.Item (bare_at text)) (λ inner. read_map value.Inner (inner_at inner)) (behind 40 text)

-- the value of a member: an inner list or a bare item behind `=`, or true
unfoldable pub value_at : List ℕ → Read Value
value_at text = option_map_or (Some (value.Item (Truth true), text)) listed_at (behind 61 text)

-- a member: a key, its value and parameters
unfoldable pub member_at : List ℕ → Read (List ℕ × Member)
member_at text = do
  key ← key_at text
  value ← value_at key.1
  let params = params_at value.1
  Some ((key.0, record { value = value.0; params = params.0 }), params.1)

-- a further member: a comma between optional white space, and a member
unfoldable pub next_member_at : List ℕ → Read (List ℕ × Member)
next_member_at text = do
  rest ← behind 44 (skip_white text)
  member_at (skip_white rest)

-- a member and the members behind it
abbrev pub members_from : (List ℕ × Member) × List ℕ → List (List ℕ × Member) × List ℕ
members_from first =
    let others = each next_member_at (length first.1) first.1 in
    (first.0 ∷ others.0, others.1)

-- the members of a dictionary, of which there is one or more, up to the end of the text
unfoldable pub members_of : List ℕ → Option (List (List ℕ × Member))
members_of text = do
  first ← member_at text
  let members = members_from first
  if is_empty (skip_white members.1) then Some members.0 else None

-- the dictionary of a whole text: nothing but spaces, or spaces and members
unfoldable pub dictionary : List ℕ → Option (List (List ℕ × Member))
dictionary text = if is_empty (skip_spaces text) then Some [] else members_of (skip_spaces text)
