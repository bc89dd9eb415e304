-- The grammar of a dictionary: how a whole text is put together from the texts of its parts.
-- RFC 8941, section 3.2 (dictionaries) with 3.1.1 (inner lists), 3.1.2 (parameters and keys), 3.3 (items), 3.3.1 to 3.3.6 (bare items); leading spaces and trailing optional white space by section 4.2.
-- This project's own profile: a byte sequence is any text of base64 bytes and kept so, a decimal is a number of thousandths, repeated keys stay.
use Rattle.std.specs.Prelude.{◌≡◌, ℕ, ◌+◌, ◌*◌, ◌≤◌, ◌==◌, ◌||◌, ◌⊎◌, Bool, true, IsTrue, List, [], ◌∷◌, ◌++◌, length, flat_map, codes, ℤ, if◌then◌else◌}
use Rattle.std.specs.List.{list_all}
use Rattle.std.specs.Str.Parse.{digits_value}
use Rattle.pe_fields.specs.declared.value.Bare.{Bare}
use Rattle.pe_fields.specs.declared.value.Bare.TheVariants.{Integer, Decimal, Text, Token, Binary, Truth}
use Rattle.pe_fields.specs.declared.value.Param.{Param}
use Rattle.pe_fields.specs.declared.value.Item.{Item}
use Rattle.pe_fields.specs.declared.value.Value.{Value}
use Rattle.pe_fields.specs.declared.value.Value.TheVariants as value
use Rattle.pe_fields.specs.declared.value.Member.{Member}
use Rattle.pe_fields.specs.Alphabet.{is_space, is_white, is_digit, is_key_start, is_key_byte, is_token_start, is_token_byte, is_text_byte, is_base64_byte}
use Rattle.pe_fields.specs.Numbers.{signed, thousandths}

-- each byte of the text is one of these
abbrev pub AllBytes : (ℕ → Bool) → List ℕ → Type 0
AllBytes test text = IsTrue (list_all test text)

-- *SP
abbrev pub IsSpaces : List ℕ → Type 0
IsSpaces text = AllBytes is_space text

-- OWS
abbrev pub IsWhite : List ℕ → Type 0
IsWhite text = AllBytes is_white text

-- a byte of the first alphabet, and any number of bytes of the second
abbrev pub StartsAndGoesOn : (ℕ → Bool) → (ℕ → Bool) → List ℕ → Type 0
StartsAndGoesOn start further [] = ⊥
StartsAndGoesOn start further (b ∷ bs) = IsTrue (start b) × AllBytes further bs

-- key = ( lcalpha / "*" ) *( lcalpha / DIGIT / "_" / "-" / "." / "*" )
abbrev pub IsKey : List ℕ → Type 0
IsKey text = StartsAndGoesOn is_key_start is_key_byte text

-- one to so many DIGIT
pub record IsDigits (most : ℕ) (text : List ℕ) : Type 0 where
  pub some : 1 ≤ length text
  pub few : length text ≤ most
  pub digits : AllBytes is_digit text

-- ["-"]
abbrev pub sign : Bool → List ℕ
sign negative = if negative then codes "-" else []

-- sf-integer = ["-"] 1*15DIGIT
pub record IsInteger (text : List ℕ) (n : ℤ) : Type 0 where
  pub negative : Bool
  pub digits : List ℕ
  pub counted : IsDigits 15 digits
  pub spelled : text ≡ sign negative ++ digits
  pub value : n ≡ signed negative (digits_value 10 digits)

-- sf-decimal = ["-"] 1*12DIGIT "." 1*3DIGIT
pub record IsDecimal (text : List ℕ) (n : ℤ) : Type 0 where
  pub negative : Bool
  pub whole : List ℕ
  pub fraction : List ℕ
  pub counted : IsDigits 12 whole
  pub behind_point : IsDigits 3 fraction
  pub spelled : text ≡ sign negative ++ whole ++ codes "." ++ fraction
  pub value : n ≡ signed negative (digits_value 10 whole * 1000 + thousandths fraction)

-- a byte of a string as it is spelled: a backslash stands before a quote and a backslash
abbrev pub spelled_byte : ℕ → List ℕ
spelled_byte b = if (b == 34) || (b == 92) then 92 ∷ b ∷ [] else b ∷ []

-- sf-string = DQUOTE *chr DQUOTE
abbrev pub IsText : List ℕ → List ℕ → Type 0
IsText text bytes = AllBytes is_text_byte bytes × (text ≡ codes "\"" ++ flat_map spelled_byte bytes ++ codes "\"")

-- sf-token = ( ALPHA / "*" ) *( tchar / ":" / "/" )
abbrev pub IsToken : List ℕ → List ℕ → Type 0
IsToken text bytes = StartsAndGoesOn is_token_start is_token_byte bytes × (text ≡ bytes)

-- sf-binary = ":" *(base64) ":"
abbrev pub IsBinary : List ℕ → List ℕ → Type 0
IsBinary text bytes = AllBytes is_base64_byte bytes × (text ≡ codes ":" ++ bytes ++ codes ":")

-- sf-boolean = "?" boolean
abbrev pub IsTruth : List ℕ → Bool → Type 0
IsTruth text truth = text ≡ (if truth then codes "?1" else codes "?0")

-- bare-item = sf-integer / sf-decimal / sf-string / sf-token / sf-binary / sf-boolean
abbrev pub IsBare : List ℕ → Bare → Type 0
IsBare text (Integer n) = IsInteger text n
IsBare text (Decimal n) = IsDecimal text n
IsBare text (Text bytes) = IsText text bytes
IsBare text (Token bytes) = IsToken text bytes
IsBare text (Binary bytes) = IsBinary text bytes
IsBare text (Truth truth) = IsTruth text truth

-- any number of texts one behind the other, each of which spells a value
abbrev pub IsEach : {A : Type 0} → (List ℕ → A → Type 0) → List ℕ → List A → Type 0
IsEach One text [] = text ≡ []
IsEach One text (x ∷ xs) = (first : List ℕ) × (rest : List ℕ) × (text ≡ first ++ rest) × One first x × IsEach One rest xs

-- [ "=" param-value ], which is true where it is left out
abbrev pub IsGiven : List ℕ → Bare → Type 0
IsGiven text bare = ((text ≡ []) × (bare ≡ Truth true)) ⊎ ((given : List ℕ) × (text ≡ codes "=" ++ given) × IsBare given bare)

-- ";" *SP parameter, where parameter = param-key [ "=" param-value ]
pub record IsParam (text : List ℕ) (param : Param) : Type 0 where
  pub spaces : List ℕ
  pub given : List ℕ
  pub spelled : text ≡ codes ";" ++ spaces ++ param.key ++ given
  pub is_spaces : IsSpaces spaces
  pub is_key : IsKey param.key
  pub is_given : IsGiven given param.value

-- parameters = *( ";" *SP parameter )
abbrev pub IsParams : List ℕ → List Param → Type 0
IsParams text params = IsEach IsParam text params

-- sf-item = bare-item parameters
pub record IsItem (text : List ℕ) (item : Item) : Type 0 where
  pub bare : List ℕ
  pub params : List ℕ
  pub spelled : text ≡ bare ++ params
  pub is_bare : IsBare bare item.bare
  pub is_params : IsParams params item.params

-- 1*SP sf-item
pub record IsNextItem (text : List ℕ) (item : Item) : Type 0 where
  pub spaces : List ℕ
  pub item_text : List ℕ
  pub spelled : text ≡ codes " " ++ spaces ++ item_text
  pub is_spaces : IsSpaces spaces
  pub is_item : IsItem item_text item

-- [ sf-item *( 1*SP sf-item ) ]
abbrev pub IsItems : List ℕ → List Item → Type 0
IsItems text [] = text ≡ []
IsItems text (item ∷ items) = (first : List ℕ) × (rest : List ℕ) × (text ≡ first ++ rest) × IsItem first item × IsEach IsNextItem rest items

-- "(" *SP [ sf-item *( 1*SP sf-item ) *SP ] ")"
pub record IsInner (text : List ℕ) (items : List Item) : Type 0 where
  pub before : List ℕ
  pub items_text : List ℕ
  pub after : List ℕ
  pub spelled : text ≡ codes "(" ++ before ++ items_text ++ after ++ codes ")"
  pub is_before : IsSpaces before
  pub is_items : IsItems items_text items
  pub is_after : IsSpaces after

-- a bare item or an inner list
abbrev pub IsValue : List ℕ → Value → Type 0
IsValue text (value.Item bare) = IsBare text bare
IsValue text (value.Inner items) = IsInner text items

-- [ "=" value ], which is true where it is left out
abbrev pub IsGivenValue : List ℕ → Value → Type 0
IsGivenValue text v = ((text ≡ []) × (v ≡ value.Item (Truth true))) ⊎ ((given : List ℕ) × (text ≡ codes "=" ++ given) × IsValue given v)

-- dict-member = member-key ( parameters / ( "=" member-value )), where member-value has its parameters
pub record IsMember (text : List ℕ) (member : List ℕ × Member) : Type 0 where
  pub given : List ℕ
  pub params : List ℕ
  pub spelled : text ≡ member.0 ++ given ++ params
  pub is_key : IsKey member.0
  pub is_given : IsGivenValue given member.1.value
  pub is_params : IsParams params member.1.params

-- OWS "," OWS dict-member
pub record IsNextMember (text : List ℕ) (member : List ℕ × Member) : Type 0 where
  pub before : List ℕ
  pub after : List ℕ
  pub member_text : List ℕ
  pub spelled : text ≡ before ++ codes "," ++ after ++ member_text
  pub is_before : IsWhite before
  pub is_after : IsWhite after
  pub is_member : IsMember member_text member

-- sf-dictionary = dict-member *( OWS "," OWS dict-member )
pub record IsMembers (text : List ℕ) (member : List ℕ × Member) (members : List (List ℕ × Member)) : Type 0 where
  pub first : List ℕ
  pub rest : List ℕ
  pub spelled : text ≡ first ++ rest
  pub is_first : IsMember first member
  pub is_rest : IsEach IsNextMember rest members

-- *SP sf-dictionary OWS
pub record IsPadded (text : List ℕ) (member : List ℕ × Member) (members : List (List ℕ × Member)) : Type 0 where
  pub spaces : List ℕ
  pub listed : List ℕ
  pub trailing : List ℕ
  pub spelled : text ≡ spaces ++ listed ++ trailing
  pub is_spaces : IsSpaces spaces
  pub is_listed : IsMembers listed member members
  pub is_trailing : IsWhite trailing

-- a field: leading spaces and nothing more, or leading spaces, the members with their separators, and trailing optional white space
abbrev pub IsField : List ℕ → List (List ℕ × Member) → Type 0
IsField text [] = IsSpaces text
IsField text (member ∷ members) = IsPadded text member members
