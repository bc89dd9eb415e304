-- What is in the grammar is read.
use Rattle.std.proofs.Common.{◌≡◌, ℕ, ◌+◌, ◌*◌, ◌≤◌, Bool, true, false, cond, eqb, leb, ◌||◌, List, [], ◌∷◌, ◌++◌, length, Option, Some, None, refl, ap, sym, ◌∙◌, subst, append_assoc, arith, inl, inr, flat_map, codes}
use Rattle.std.specs.List.{take_while, list_all}
use Rattle.std.specs.Str.Parse.{digits_value}
use Rattle.std.proofs.lemmas.Bool.{eqb-true, leb-true, le-leb, true≢false}
use Rattle.pe_fields.specs.declared.value.Bare.{Bare}
use Rattle.pe_fields.specs.declared.value.Bare.TheVariants.{Integer, Decimal, Text, Token, Binary, Truth}
use Rattle.pe_fields.specs.declared.value.Param.{Param}
use Rattle.pe_fields.specs.Alphabet.{is_space, is_white, is_digit, is_key_start, is_key_byte, is_token_start, is_token_byte, is_text_byte, is_base64_byte}
use Rattle.pe_fields.specs.Numbers.{signed, thousandths}
use Rattle.pe_fields.specs.Reading.{drop_while, option_map_or, read_map, skip_spaces, behind, key_at, is_count, number_at, text_at, binary_at, bare_at, given_at, param_at}
use Rattle.pe_fields.specs.Grammar.{IsKey, IsDigits, sign, IsToken, IsBare, IsGiven, IsParam, spelled_byte}
use Rattle.pe_fields.proofs.Tools.{and_parts, and_both, Stops, run_take, run_drop, neither, four_parts, decimal_text, not_token}

-- what may stand behind the parameters of an item or member: the end, white space, a comma or a closing parenthesis
pub data Closes : List ℕ → Type 0 where
  nothing : Closes []
  space : (bs : List ℕ) → Closes (32 ∷ bs)
  tab : (bs : List ℕ) → Closes (9 ∷ bs)
  comma : (bs : List ℕ) → Closes (44 ∷ bs)
  parenthesis : (bs : List ℕ) → Closes (41 ∷ bs)

-- what may stand behind a bare item or a parameter: that, or a semicolon
pub data Ends : List ℕ → Type 0 where
  closes : (bs : List ℕ) → Closes bs → Ends bs
  semicolon : (bs : List ℕ) → Ends (59 ∷ bs)

closes_token : (rest : List ℕ) → Closes rest → Stops is_token_byte rest
closes_token _ nothing = tt
closes_token _ (space bs) = refl
closes_token _ (tab bs) = refl
closes_token _ (comma bs) = refl
closes_token _ (parenthesis bs) = refl

closes_key : (rest : List ℕ) → Closes rest → Stops is_key_byte rest
closes_key _ nothing = tt
closes_key _ (space bs) = refl
closes_key _ (tab bs) = refl
closes_key _ (comma bs) = refl
closes_key _ (parenthesis bs) = refl

closes_digit : (rest : List ℕ) → Closes rest → Stops is_digit rest
closes_digit _ nothing = tt
closes_digit _ (space bs) = refl
closes_digit _ (tab bs) = refl
closes_digit _ (comma bs) = refl
closes_digit _ (parenthesis bs) = refl

closes_point : (rest : List ℕ) → Closes rest → behind 46 rest ≡ None
closes_point _ nothing = refl
closes_point _ (space bs) = refl
closes_point _ (tab bs) = refl
closes_point _ (comma bs) = refl
closes_point _ (parenthesis bs) = refl

closes_equals : (rest : List ℕ) → Closes rest → behind 61 rest ≡ None
closes_equals _ nothing = refl
closes_equals _ (space bs) = refl
closes_equals _ (tab bs) = refl
closes_equals _ (comma bs) = refl
closes_equals _ (parenthesis bs) = refl

pub closes_params : (rest : List ℕ) → Closes rest → param_at rest ≡ None
unfolding param_at
closes_params _ nothing = refl
closes_params _ (space bs) = refl
closes_params _ (tab bs) = refl
closes_params _ (comma bs) = refl
closes_params _ (parenthesis bs) = refl

ends_token : (rest : List ℕ) → Ends rest → Stops is_token_byte rest
ends_token _ (closes bs c) = closes_token bs c
ends_token _ (semicolon bs) = refl

pub ends_key : (rest : List ℕ) → Ends rest → Stops is_key_byte rest
ends_key _ (closes bs c) = closes_key bs c
ends_key _ (semicolon bs) = refl

ends_digit : (rest : List ℕ) → Ends rest → Stops is_digit rest
ends_digit _ (closes bs c) = closes_digit bs c
ends_digit _ (semicolon bs) = refl

ends_point : (rest : List ℕ) → Ends rest → behind 46 rest ≡ None
ends_point _ (closes bs c) = closes_point bs c
ends_point _ (semicolon bs) = refl

pub ends_equals : (rest : List ℕ) → Ends rest → behind 61 rest ≡ None
ends_equals _ (closes bs c) = closes_equals bs c
ends_equals _ (semicolon bs) = refl

-- a byte that passes a test is no byte that fails it
apart : (test : ℕ → Bool) (b c : ℕ) → test b ≡ true → test c ≡ false → eqb b c ≡ false
apart test b c p q = (elim (eqb b c) as (λ v. eqb b c ≡ v → v ≡ false) [ true ↦ λ e. absurd (true≢false (sym p ∙ ap test (eqb-true b c e) ∙ q)) | false ↦ λ e. refl ]) refl

pub key_complete : (key rest : List ℕ) → IsKey key → Stops is_key_byte rest → key_at (key ++ rest) ≡ Some (key, rest)
unfolding key_at
key_complete [] rest k s = absurd k
key_complete (b ∷ bs) rest k s = rw (k.0, run_take is_key_byte bs rest k.1 s, run_drop is_key_byte bs rest k.1 s) refl

pub key_not_space : (key more : List ℕ) → IsKey key → Stops is_space (key ++ more)
key_not_space [] more k = absurd k
key_not_space (b ∷ bs) more k = apart is_key_start b 32 k.0 refl

pub key_not_white : (key more : List ℕ) → IsKey key → Stops is_white (key ++ more)
key_not_white [] more k = absurd k
key_not_white (b ∷ bs) more k = rw (apart is_key_start b 32 k.0 refl, apart is_key_start b 9 k.0 refl) refl

count_complete : (most : ℕ) (digits : List ℕ) → IsDigits most digits → is_count most digits ≡ true
count_complete most digits d = and_both _ _ (le-leb 1 (length digits) d.some) (le-leb (length digits) most d.few)

integer_complete : (negative : Bool) (digits rest : List ℕ) → IsDigits 15 digits → Ends rest → number_at negative (digits ++ rest) ≡ Some (Integer (signed negative (digits_value 10 digits)), rest)
unfolding number_at
integer_complete negative digits rest d e =
    rw (run_take is_digit digits rest d.digits (ends_digit rest e), run_drop is_digit digits rest d.digits (ends_digit rest e), ends_point rest e, count_complete 15 digits d) refl

decimal_complete : (negative : Bool) (whole fraction rest : List ℕ) → IsDigits 12 whole → IsDigits 3 fraction → Ends rest → number_at negative (whole ++ 46 ∷ (fraction ++ rest)) ≡ Some (Decimal (signed negative (digits_value 10 whole * 1000 + thousandths fraction)), rest)
unfolding number_at
decimal_complete negative whole fraction rest w f e =
    rw (run_take is_digit whole (46 ∷ (fraction ++ rest)) w.digits refl, run_drop is_digit whole (46 ∷ (fraction ++ rest)) w.digits refl)
    (rw (run_take is_digit fraction rest f.digits (ends_digit rest e), run_drop is_digit fraction rest f.digits (ends_digit rest e), count_complete 12 whole w, count_complete 3 fraction f) refl)

-- a digit begins no other bare item than a number
digit_starts : (b : ℕ) (bs : List ℕ) → is_digit b ≡ true → bare_at (b ∷ bs) ≡ number_at false (b ∷ bs)
unfolding bare_at
digit_starts b bs h =
    let low : leb 48 b ≡ true = (and_parts (leb 48 b) (leb b 57) h).0 in
    let high : leb b 57 ≡ true = (and_parts (leb 48 b) (leb b 57) h).1 in
    let t : is_token_start b ≡ false = not_token b (leb-true 48 b low) (leb-true b 57 high) in
    rw (apart is_digit b 34 h refl, apart is_digit b 58 h refl, apart is_digit b 63 h refl, t, apart is_digit b 45 h refl) refl

digits_start : (digits more : List ℕ) (most : ℕ) → IsDigits most digits → bare_at (digits ++ more) ≡ number_at false (digits ++ more)
digits_start [] more most d = let h : 1 ≤ 0 = d.some in absurd (omega arith)
digits_start (b ∷ bs) more most d = digit_starts b (bs ++ more) (and_parts (is_digit b) (list_all is_digit bs) d.digits).0

signed_integer : (negative : Bool) (digits rest : List ℕ) → IsDigits 15 digits → Ends rest → bare_at ((sign negative ++ digits) ++ rest) ≡ Some (Integer (signed negative (digits_value 10 digits)), rest)
unfolding bare_at
signed_integer true digits rest d e = integer_complete true digits rest d e
signed_integer false digits rest d e = digits_start digits rest 15 d ∙ integer_complete false digits rest d e

signed_decimal : (negative : Bool) (whole fraction rest : List ℕ) → IsDigits 12 whole → IsDigits 3 fraction → Ends rest → bare_at ((sign negative ++ whole ++ codes "." ++ fraction) ++ rest) ≡ Some (Decimal (signed negative (digits_value 10 whole * 1000 + thousandths fraction)), rest)
unfolding bare_at
signed_decimal true whole fraction rest w f e = ap bare_at (decimal_text (codes "-") whole fraction rest) ∙ decimal_complete true whole fraction rest w f e
signed_decimal false whole fraction rest w f e =
    ap bare_at (decimal_text [] whole fraction rest) ∙ digits_start whole (46 ∷ (fraction ++ rest)) 12 w ∙ decimal_complete false whole fraction rest w f e

pub text_quote : (bs : List ℕ) → text_at (34 ∷ bs) ≡ Some ([], bs)
unfolding text_at
text_quote [] = refl
text_quote (c ∷ bs) = refl

text_escape : (c : ℕ) (bs : List ℕ) → (eqb c 34 || eqb c 92) ≡ true → text_at (92 ∷ c ∷ bs) ≡ read_map (λ text. c ∷ text) (text_at bs)
unfolding text_at
text_escape c bs h = rw h refl

nothing_either_way : (v : Bool) (read : Option (List ℕ × List ℕ)) → cond v read read ≡ read
nothing_either_way true read = refl
nothing_either_way false read = refl

pub text_other : (b : ℕ) (bs : List ℕ) → eqb b 34 ≡ false → eqb b 92 ≡ false → text_at (b ∷ bs) ≡ cond (is_text_byte b) (read_map (λ text. b ∷ text) (text_at bs)) None
unfolding text_at
text_other b [] x y = rw x (sym (nothing_either_way (is_text_byte b) None))
text_other b (c ∷ bs) x y =
    let body : Bool → Bool → Option (List ℕ × List ℕ) = λ v w. elim v [ true ↦ Some ([], c ∷ bs) | false ↦ elim w [ true ↦ cond (eqb c 34 || eqb c 92) (read_map (λ text. c ∷ text) (text_at bs)) None | false ↦ cond (is_text_byte b) (read_map (λ text. b ∷ text) (text_at (c ∷ bs))) None ] ] in
    ap (λ v. body v (eqb b 92)) x ∙ ap (λ w. body false w) y

pub text_plain : (b : ℕ) (bs : List ℕ) → eqb b 34 ≡ false → eqb b 92 ≡ false → is_text_byte b ≡ true → text_at (b ∷ bs) ≡ read_map (λ text. b ∷ text) (text_at bs)
text_plain b bs x y h = text_other b bs x y ∙ rw h refl

text_complete : (bytes rest : List ℕ) → list_all is_text_byte bytes ≡ true → text_at ((flat_map spelled_byte bytes ++ codes "\"") ++ rest) ≡ Some (bytes, rest)
text_complete [] rest h = text_quote rest
text_complete (b ∷ bytes) rest h =
    let p = and_parts (is_text_byte b) (list_all is_text_byte bytes) h in
    let later : text_at ((flat_map spelled_byte bytes ++ codes "\"") ++ rest) ≡ Some (bytes, rest) = text_complete bytes rest p.1 in
    (elim (eqb b 34 || eqb b 92) as (λ v. (eqb b 34 || eqb b 92) ≡ v → text_at (((cond v (92 ∷ b ∷ []) (b ∷ []) ++ flat_map spelled_byte bytes) ++ codes "\"") ++ rest) ≡ Some (b ∷ bytes, rest)) [
      | true ↦ λ e. text_escape b ((flat_map spelled_byte bytes ++ codes "\"") ++ rest) e ∙ ap (read_map (λ text. b ∷ text)) later
      | false ↦ λ e.
          let q = neither (eqb b 34) (eqb b 92) e in
          text_plain b ((flat_map spelled_byte bytes ++ codes "\"") ++ rest) q.0 q.1 p.0 ∙ ap (read_map (λ text. b ∷ text)) later
    ]) refl

binary_complete : (bytes rest : List ℕ) → list_all is_base64_byte bytes ≡ true → binary_at ((bytes ++ codes ":") ++ rest) ≡ Some (bytes, rest)
unfolding binary_at
binary_complete bytes rest h =
    rw (append_assoc bytes (codes ":") rest)
    (rw (run_take is_base64_byte bytes (58 ∷ rest) h refl, run_drop is_base64_byte bytes (58 ∷ rest) h refl) refl)

pub token_start_at : (b : ℕ) (bs : List ℕ) → is_token_start b ≡ true → bare_at (b ∷ bs) ≡ Some (Token (b ∷ take_while is_token_byte bs), drop_while is_token_byte bs)
unfolding bare_at
token_start_at b bs h = rw (apart is_token_start b 34 h refl, apart is_token_start b 58 h refl, apart is_token_start b 63 h refl, h) refl

token_complete : (bytes rest : List ℕ) → IsToken bytes bytes → Ends rest → bare_at (bytes ++ rest) ≡ Some (Token bytes, rest)
unfolding bare_at
token_complete [] rest t e = absurd t.0
token_complete (b ∷ bs) rest t e =
    rw (
      apart is_token_start b 34 t.0.0 refl,
      apart is_token_start b 58 t.0.0 refl,
      apart is_token_start b 63 t.0.0 refl,
      t.0.0,
      run_take is_token_byte bs rest t.0.1 (ends_token rest e),
      run_drop is_token_byte bs rest t.0.1 (ends_token rest e),
    ) refl

truth_complete : (truth : Bool) (rest : List ℕ) → bare_at (cond truth (codes "?1") (codes "?0") ++ rest) ≡ Some (Truth truth, rest)
unfolding bare_at
truth_complete true rest = refl
truth_complete false rest = refl

bare_text : (bytes rest : List ℕ) → list_all is_text_byte bytes ≡ true → bare_at ((codes "\"" ++ flat_map spelled_byte bytes ++ codes "\"") ++ rest) ≡ Some (Text bytes, rest)
unfolding bare_at
bare_text bytes rest h = ap (read_map Text) (text_complete bytes rest h)

bare_binary : (bytes rest : List ℕ) → list_all is_base64_byte bytes ≡ true → bare_at ((codes ":" ++ bytes ++ codes ":") ++ rest) ≡ Some (Binary bytes, rest)
unfolding bare_at
bare_binary bytes rest h = ap (read_map Binary) (binary_complete bytes rest h)

pub bare_complete : (text : List ℕ) (bare : Bare) (rest : List ℕ) → IsBare text bare → Ends rest → bare_at (text ++ rest) ≡ Some (bare, rest)
bare_complete text (Integer n) rest h e =
    ap (λ t. bare_at (t ++ rest)) h.spelled ∙ signed_integer h.negative h.digits rest h.counted e ∙ ap (λ m. Some (Integer m, rest)) (sym h.value)
bare_complete text (Decimal n) rest h e =
    ap (λ t. bare_at (t ++ rest)) h.spelled ∙ signed_decimal h.negative h.whole h.fraction rest h.counted h.behind_point e ∙ ap (λ m. Some (Decimal m, rest)) (sym h.value)
bare_complete text (Text bytes) rest h e = ap (λ t. bare_at (t ++ rest)) h.1 ∙ bare_text bytes rest h.0
bare_complete text (Token bytes) rest h e = ap (λ t. bare_at (t ++ rest)) h.1 ∙ token_complete bytes rest (h.0, refl) e
bare_complete text (Binary bytes) rest h e = ap (λ t. bare_at (t ++ rest)) h.1 ∙ bare_binary bytes rest h.0
bare_complete text (Truth truth) rest h e = ap (λ t. bare_at (t ++ rest)) h ∙ truth_complete truth rest

given_complete : (text : List ℕ) (bare : Bare) (rest : List ℕ) → IsGiven text bare → Ends rest → given_at (text ++ rest) ≡ Some (bare, rest)
unfolding given_at
given_complete text bare rest h e = elim h [
  | inl p ↦ ap (λ t. option_map_or (Some (Truth true, t ++ rest)) bare_at (behind 61 (t ++ rest))) p.0 ∙ rw (ends_equals rest e, p.1) refl
  | inr p ↦ ap (λ t. option_map_or (Some (Truth true, t ++ rest)) bare_at (behind 61 (t ++ rest))) p.1 ∙ bare_complete p.0 bare rest p.2 e
]

-- the bytes of a key end where its value begins or where nothing is given
given_stops_key : (text : List ℕ) (bare : Bare) (rest : List ℕ) → IsGiven text bare → Ends rest → Stops is_key_byte (text ++ rest)
given_stops_key text bare rest h e = elim h [
  | inl p ↦ subst (λ t. Stops is_key_byte (t ++ rest)) (sym p.0) (ends_key rest e)
  | inr p ↦ subst (λ t. Stops is_key_byte (t ++ rest)) (sym p.1) refl
]

pub param_complete : (text : List ℕ) (param : Param) (rest : List ℕ) → IsParam text param → Ends rest → param_at (text ++ rest) ≡ Some (param, rest)
unfolding param_at
param_complete text param rest h e =
    let more : List ℕ = h.given ++ rest in
    let s : param_at (text ++ rest) ≡ param_at (59 ∷ (h.spaces ++ (param.key ++ more))) = ap (λ t. param_at (t ++ rest)) h.spelled ∙ ap (λ t. param_at (59 ∷ t)) (four_parts h.spaces param.key h.given rest) in
    let k : key_at (skip_spaces (h.spaces ++ (param.key ++ more))) ≡ Some (param.key, more) =
    ap key_at (run_drop is_space h.spaces (param.key ++ more) h.is_spaces (key_not_space param.key more h.is_key)) ∙ key_complete param.key more h.is_key (given_stops_key h.given param.value rest h.is_given e) in
    s ∙ rw (k, given_complete h.given param.value rest h.is_given e) refl

pub param_ends : (text : List ℕ) (param : Param) (rest : List ℕ) → IsParam text param → Ends (text ++ rest)
param_ends text param rest h = subst (λ t. Ends (t ++ rest)) (sym h.spelled) (semicolon _)
