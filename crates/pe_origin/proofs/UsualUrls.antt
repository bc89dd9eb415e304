-- What the URL parser makes of a URL of the usual form.
use Rattle.std.proofs.Common.{◌≡◌, ℕ, zero, suc, ◌+◌, ◌-◌, ◌<◌, ◌≤◌, Bool, true, false, not, ◌&&◌, ◌||◌, ◌==◌, ltb, cond, ◌^◌, List, [], ◌∷◌, ◌++◌, length, get_or, take, drop, Option, Some, None, Ok, Err, All, sym, refl, ap, ◌∙◌, subst, inl, inr, ⊎_elim, append_assoc, append-nil, arith, length-append, take_at, drop_at, take-append-drop, lit<}
use Rattle.std.specs.Prelude.{reverse, filter, unwrap_or}
use Rattle.std.specs.List.{prefix_len, list_all}
use Rattle.std.specs.Char.{is_ascii_digit, is_digit, to_ascii_lowercase}
use Rattle.std.specs.Str.Parse.{digits_value}
use Rattle.std.proofs.Math.Nat.{sub-zero}
use Rattle.std.proofs.Math.Seq.{take-append-add}
use Rattle.std.proofs.lemmas.Bool.{cond-false, cases_Bool, cases_eq, and_left, eq-eqb, ne_eqb, lt-leb, lt-ltb}
use Rattle.std.proofs.lemmas.Bool.Decides.{nat_tests}
use Rattle.std.proofs.lemmas.List.{get_or-reverse, length-reverse, reverse-append}
use Rattle.std.proofs.lemmas.List.Elements.{All-nil, All-cons, All-head, All-tail, All-append, All-weaker, filter-append}
use Rattle.url.specs.declared.error.ParseError.TheVariants.{EmptyHost}
use Rattle.url.specs.declared.host.Host.{Host}
use Rattle.url.specs.declared.host.Host.TheVariants.{Domain}
use Rattle.url.specs.declared.scheme.SchemeType.TheVariants.{SpecialNotFile}
use Rattle.url.specs.declared.sets.TheConstants.{FORBIDDEN_DOMAIN}
use Rattle.url.specs.Input.{is_empty, is_c0_control_or_space, is_tab_or_new_line, trim_c0_control_and_space, strip_tabs_and_new_lines, split_once, rsplit_once}
use Rattle.url.specs.Scheme.{IsScheme, default_port as port_by_name, scheme_type, is_slash, scheme_len}
use Rattle.url.specs.Ipv4.{ends_in_a_number, is_number, last_label_of, parse_number}
use Rattle.url.specs.Host.{parse_host, IsHostOf}
use Rattle.url.specs.Path.{segment_len, parse_path_start}
use Rattle.url.specs.Parts.{Parts}
use Rattle.url.specs.Head.{with_authority}
use Rattle.url.specs.Parser.{Parsed, and_then, split_port, parse_port, lacks_host, parse_authority, with_path, with_tail, before_tail, after_double_slash, parse_body, parse_parts, split_scheme, parse_by_scheme, parse_url}
use Rattle.url.proofs.InputLemmas.{IsNot, Passes, StopsAt, rsplit_once_none, prefix_len_at, filter_all, map_fixed, list_all_from_All, list_all_fails, All_from_list_all, is_empty_nonempty}
use Rattle.url.proofs.SetLemmas.{kept_from_passes}
use Rattle.url.proofs.HostRoundTrip.{parse_special_host-host_text, host_len-host_text}
use Rattle.url.proofs.RoundTrip.{split_own_scheme}
use Rattle.pe_origin.specs.declared.scheme.Scheme.{Scheme}
use Rattle.pe_origin.specs.declared.scheme.Scheme.TheVariants.{Http, Https, Ws, Wss, Ftp}
use Rattle.pe_origin.specs.Schemes.{scheme_name, scheme_named, default_port}
use Rattle.pe_origin.specs.Places.{tuple_of, place_of, place_of_parsed}
use Rattle.pe_origin.specs.Usual.{is_host_byte, IsHost, HasPort, port_in, port_text, is_tail, net_place}

-- ---- what is trimmed and stripped stands behind the host

-- no control and no space
abbrev IsVisible : ℕ → Type 0
IsVisible b = 32 < b

none_at_front : (xs ys : List ℕ) → (0 < length xs) → (32 < get_or xs 0 0) → prefix_len is_c0_control_or_space (xs ++ ys) ≡ 0
none_at_front [] ys nonempty first = absurd (omega arith)
none_at_front (x ∷ xs) ys nonempty first = cond-false _ _ _ (lt-leb x 32 first)

-- a run that begins in a list ends in it, where the next list begins with none
run_within : (test : ℕ → Bool) (xs ys : List ℕ) → prefix_len test ys ≡ 0 → prefix_len test (xs ++ ys) ≤ length xs
run_within test [] ys none = omega (arith, none)
run_within test (x ∷ xs) ys none =
    elim (test x) as (λ v. cond v (1 + prefix_len test (xs ++ ys)) 0 ≤ suc (length xs)) [ true ↦ omega (arith, run_within test xs ys none) | false ↦ omega arith ]

trimmed : (front tail : List ℕ) → 0 < length front → All IsVisible front → (n : ℕ) × (trim_c0_control_and_space (front ++ tail) ≡ front ++ take n tail)
unfolding trim_c0_control_and_space
trimmed front tail nonempty visible =
    let start = none_at_front front tail nonempty (visible 0 0 nonempty) in
    let long = length-reverse front in
    let last : 32 < get_or (reverse front) 0 0 = rw (get_or-reverse front 0 0 nonempty, sub-zero) (visible (length front - 1) 0 (omega arith)) in
    let none = ap (prefix_len is_c0_control_or_space) (sym (append-nil (reverse front))) ∙ none_at_front (reverse front) [] (omega arith) last in
    let within = run_within is_c0_control_or_space (reverse tail) (reverse front) none in
    let run = prefix_len is_c0_control_or_space (reverse tail ++ reverse front) in
    let count : length (front ++ tail) - run ≡ length front + (length tail - run) = omega (arith, length-append front tail, length-reverse tail, within) in
    (length tail - run, rw (start, reverse-append front tail, count) (take-append-add front tail (length tail - run)))

take_none : (n : ℕ) → take {A = ℕ} n [] ≡ []
take_none zero = refl
take_none (suc n) = refl

stripped : (front tail : List ℕ) → All IsVisible front → strip_tabs_and_new_lines (front ++ tail) ≡ front ++ strip_tabs_and_new_lines tail
unfolding strip_tabs_and_new_lines
stripped front tail visible =
    let kept = filter_all _ front (All-weaker IsVisible (Passes (λ b. not (is_tab_or_new_line b))) (λ b above. grind (arith, nat_tests)) front visible) in
    filter-append (λ b. not (is_tab_or_new_line b)) front tail ∙ ap (λ l. l ++ filter (λ b. not (is_tab_or_new_line b)) tail) kept

-- what the parser splits: the front, and a tail again
cleaned : (front tail : List ℕ) → 0 < length front → All IsVisible front → is_tail tail ≡ true
    → (rest : List ℕ) × ((is_tail rest ≡ true) × (strip_tabs_and_new_lines (trim_c0_control_and_space (front ++ tail)) ≡ front ++ rest))
unfolding strip_tabs_and_new_lines
cleaned front [] nonempty visible tail =
    let cut = trimmed front [] nonempty visible in
    ([], (refl, ap strip_tabs_and_new_lines (cut.1 ∙ ap (λ l. front ++ l) (take_none cut.0)) ∙ stripped front [] visible))
cleaned front (b ∷ more) nonempty visible tail =
    let longer = front ++ b ∷ [] in
    let seen = All-append IsVisible front (b ∷ []) visible (All-cons IsVisible b [] (grind (arith, nat_tests)) (All-nil IsVisible)) in
    let cut = trimmed longer more (omega (arith, length-append front (b ∷ []))) seen in
    let rest = strip_tabs_and_new_lines (take cut.0 more) in (
      b ∷ rest,
      (
        tail,
        ap (λ l. strip_tabs_and_new_lines (trim_c0_control_and_space l)) (sym (append_assoc front (b ∷ []) more))
            ∙ ap strip_tabs_and_new_lines cut.1 ∙ stripped longer (take cut.0 more) seen ∙ append_assoc front (b ∷ []) rest,
      ),
    )

-- ---- the fragment, the query and the scheme

split_once_over : (s : ℕ) (xs ys : List ℕ) → All (IsNot s) xs → split_once s (xs ++ ys) ≡ (xs ++ (split_once s ys).0, (split_once s ys).1)
unfolding split_once
split_once_over s [] ys none = refl
split_once_over s (x ∷ xs) ys none =
    cond-false _ _ _ (ne_eqb x s (All-head (IsNot s) x xs none)) ∙ ap (λ r. (x ∷ r.0, r.1)) (split_once_over s xs ys (All-tail (IsNot s) x xs none))

-- ---- the host

last_is : (front : Option (List ℕ)) (last : List ℕ) → 0 < length last → last_label_of front last ≡ last
last_is None last nonempty = refl
last_is (Some front) last nonempty = cond-false _ _ _ (is_empty_nonempty last nonempty)

no_number : (last : List ℕ) → 0 < length last → is_ascii_digit (get_or last 0 0) ≡ false → ((not (is_empty last) && list_all is_ascii_digit last) || is_number (parse_number last)) ≡ false
unfolding parse_number
no_number last nonempty first =
    let other : is_digit (get_or last 0 0) 10 ≡ false = grind (arith, nat_tests) in
    let octal : (get_or last 0 0 == 48) ≡ false = grind (arith, nat_tests) in
    rw (list_all_fails is_ascii_digit last 0 nonempty first, is_empty_nonempty last nonempty, octal, list_all_fails (λ b. is_digit b 10) last 0 nonempty other) refl

-- a host whose last label begins with no digit ends in no number
not_a_number : (host : List ℕ) → 0 < length (rsplit_once 46 host).1 → is_ascii_digit (get_or (rsplit_once 46 host).1 0 0) ≡ false → ends_in_a_number host ≡ false
unfolding ends_in_a_number
not_a_number host nonempty first =
    rw (last_is (rsplit_once 46 host).0 (rsplit_once 46 host).1 nonempty) (no_number (rsplit_once 46 host).1 nonempty first)

-- the same, of the label that was found
pub named_by_label : (host label : List ℕ) → label ≡ (rsplit_once 46 host).1 → 0 < length label → is_ascii_digit (get_or label 0 0) ≡ false → (0 < length host) × (ends_in_a_number host ≡ false)
unfolding rsplit_once
named_by_label [] label found nonempty first = absurd (omega (arith, ap length found, nonempty))
named_by_label (b ∷ host) label found nonempty first =
    (omega arith, not_a_number (b ∷ host) (subst (λ l. 0 < length l) found nonempty) (subst (λ l. is_ascii_digit (get_or l 0 0) ≡ false) found first))

-- a text is what it was split into
pub split_is : (at : ℕ) (text front back : List ℕ) → front ≡ take at text → back ≡ drop at text → text ≡ front ++ back
split_is at text front back f b = sym (take-append-drop at text) ∙ (λ i. sym f i ++ sym b i)

host_byte_ascii : (b : ℕ) → Passes is_host_byte b → b < 128
host_byte_ascii b passes = grind (arith, nat_tests)

domain : (host : List ℕ) → IsHost host → IsHostOf SpecialNotFile (Domain host)
domain host h =
    let lower = map_fixed to_ascii_lowercase host (All-weaker (Passes is_host_byte) (λ b. to_ascii_lowercase b ≡ b) (λ b passes. grind (arith, nat_tests)) host h.bytes) in (
      record {
        allowed = λ k d inside. kept_from_passes is_host_byte FORBIDDEN_DOMAIN refl (get_or host k d) (host_byte_ascii (get_or host k d) (h.bytes k d inside)) (h.bytes k d inside);
        lower = lower;
        named = h.named;
      },
      h.nonempty,
    )

-- ---- the authority

-- no control and no space, and neither `#` nor `?`
abbrev is_front_byte : ℕ → Bool
is_front_byte b = ltb 32 b && not (b == 35 || b == 63)

-- neither `/`, `@` nor `\` either
abbrev is_authority_byte : ℕ → Bool
is_authority_byte b = is_front_byte b && not (b == 47 || b == 64 || b == 92)

port_bytes : (digits : Option (List ℕ)) → All (Passes is_ascii_digit) (unwrap_or digits []) → All (Passes is_authority_byte) (port_text digits)
port_bytes None plain = All-nil (Passes is_authority_byte)
port_bytes (Some digits) plain =
    All-cons (Passes is_authority_byte) 58 digits refl (All-weaker (Passes is_ascii_digit) (Passes is_authority_byte) (λ b passes. grind (arith, nat_tests)) digits plain)

authority_bytes : (host : List ℕ) (digits : Option (List ℕ)) → IsHost host → All (Passes is_ascii_digit) (unwrap_or digits []) → All (Passes is_authority_byte) (host ++ port_text digits)
authority_bytes host digits h plain =
    All-append (Passes is_authority_byte) host (port_text digits) (All-weaker (Passes is_host_byte) (Passes is_authority_byte) (λ b passes. grind (arith, nat_tests)) host h.bytes) (port_bytes digits plain)

split_authority : (host : List ℕ) (digits : Option (List ℕ)) → IsHostOf SpecialNotFile (Domain host) → split_port (host ++ port_text digits) ≡ (host, digits)
split_authority host None valid =
    let len = host_len-host_text SpecialNotFile (Domain host) [] valid (inl refl) in
    let short : ltb (length host) (length (host ++ [])) ≡ false = simp length-append (grind (arith, nat_tests)) in
    rw (len, short) (λ i. (take_at host [] _ refl i, None))
split_authority host (Some digits) valid =
    let len = host_len-host_text SpecialNotFile (Domain host) (58 ∷ digits) valid (inr refl) in
    let long : ltb (length host) (length (host ++ 58 ∷ digits)) ≡ true = simp length-append (grind (arith, nat_tests)) in
    let after = ap (drop (length host + 1)) (sym (append_assoc host (58 ∷ []) digits)) ∙ drop_at (host ++ 58 ∷ []) digits _ (length-append host (58 ∷ [])) in
    rw (len, long) (λ i. (take_at host (58 ∷ digits) _ refl i, Some (after i)))

-- ---- the port

own_port : (scheme : Scheme) → port_by_name (scheme_name scheme) ≡ Some (default_port scheme)
unfolding port_by_name
own_port Http = refl
own_port Https = refl
own_port Ws = refl
own_port Wss = refl
own_port Ftp = refl

own_or_other : (port own : ℕ) → unwrap_or (cond (port == own) None (Some port)) own ≡ port
own_or_other port own =
    ⊎_elim (λ same. rw (eq-eqb port own same) (sym same)) (λ other. rw (ne_eqb port own other) refl) (cases_eq port own)

pub port_of_digits : (scheme : Scheme) (digits : List ℕ) → 0 < length digits → All (Passes is_ascii_digit) digits → digits_value 10 digits < 2 ^ 16 → port_in scheme digits ≡ Ok (digits_value 10 digits)
unfolding parse_port
port_of_digits scheme digits nonempty all fits =
    rw (is_empty_nonempty digits nonempty, list_all_from_All is_ascii_digit digits all, lt-ltb (digits_value 10 digits) (2 ^ 16) fits, own_port scheme)
    (ap Ok (own_or_other (digits_value 10 digits) (default_port scheme)))

pub port_of_none : (scheme : Scheme) → port_in scheme [] ≡ Ok (default_port scheme)
unfolding parse_port
port_of_none scheme = refl

-- the scheme is special, and no file
kind : (scheme : Scheme) → scheme_type (scheme_name scheme) ≡ SpecialNotFile
unfolding scheme_type port_by_name
kind Http = refl
kind Https = refl
kind Ws = refl
kind Wss = refl
kind Ftp = refl

-- what the parser has before the path
abbrev head : Scheme → List ℕ → Option ℕ → Parts
head scheme host port = with_authority (scheme_name scheme) [] [] (Domain host) port

authority_read : (scheme : Scheme) (host : List ℕ) (digits : Option (List ℕ)) (port : Option ℕ) → IsHost host → All (Passes is_ascii_digit) (unwrap_or digits []) → parse_port (scheme_name scheme) (unwrap_or digits []) ≡ Ok port → parse_authority (scheme_name scheme) (host ++ port_text digits) ≡ Ok (head scheme host port)
unfolding parse_authority split_once
authority_read scheme host digits port h plain read =
    let all = All-weaker (Passes is_authority_byte) (IsNot 64) (λ b passes e. grind (arith, nat_tests)) (host ++ port_text digits) (authority_bytes host digits h plain) in
    let name = scheme_name scheme in
    let bytes = host ++ port_text digits in
    let valid = domain host h in
    let at = rsplit_once_none 64 bytes all in
    let cut = ap (λ r. split_port r.1) at ∙ split_authority host digits valid in
    let lacks : lacks_host None host digits ≡ false = and_left _ _ (is_empty_nonempty host h.nonempty) in
    let host_read = (λ i. parse_host (kind scheme i) (cut i).0) ∙ parse_special_host-host_text (Domain host) valid in
    let digits_read = ap (λ c. parse_port name (unwrap_or c.1 [])) cut ∙ read in
    let user = λ (r : Option (List ℕ) × List ℕ). split_once 58 (unwrap_or r.0 []) in
    let made : Host (List ℕ) → Option ℕ → Parsed Parts = λ d p. Ok (with_authority name (user (at 0)).0 (unwrap_or (user (at 0)).1 []) d p) in
    cond-false _ (Err EmptyHost) _ ((λ i. lacks_host (at i).0 (cut i).0 (cut i).1) ∙ lacks)
    ∙ ap (λ r. and_then r (λ d. and_then (parse_port name (unwrap_or (cut 0).1 [])) (made d))) host_read
    ∙ ap (λ r. and_then r (made (Domain host))) digits_read
    ∙ ap (λ r. Ok (with_authority name (user r).0 (unwrap_or (user r).1 []) (Domain host) port)) at

-- ---- what follows the scheme

no_slash_first : (xs ys : List ℕ) → 0 < length xs → All (Passes is_authority_byte) xs → StopsAt (λ b. b == 47 || b == 92) (xs ++ ys)
no_slash_first [] ys nonempty all = absurd (omega arith)
no_slash_first (x ∷ xs) ys nonempty all = let passes = All-head (Passes is_authority_byte) x xs all in grind (arith, nat_tests)

after_slashes_read : (scheme : Scheme) (host : List ℕ) (digits : Option (List ℕ)) (port : Option ℕ) (path : List ℕ) → IsHost host → All (Passes is_ascii_digit) (unwrap_or digits []) → parse_port (scheme_name scheme) (unwrap_or digits []) ≡ Ok port → StopsAt (λ b. not (is_slash SpecialNotFile b)) path
    → after_double_slash (scheme_name scheme) (host ++ port_text digits ++ path) ≡ Ok (with_path (head scheme host port) (parse_path_start SpecialNotFile [] path))
unfolding after_double_slash
after_slashes_read scheme host digits port path h plain read stops =
    let authority = host ++ port_text digits in
    let text = authority ++ path in
    let len = prefix_len_at (λ b. not (is_slash SpecialNotFile b)) authority path (All-weaker (Passes is_authority_byte) (Passes (λ b. not (is_slash SpecialNotFile b))) (λ b passes. grind (arith, nat_tests)) authority (authority_bytes host digits h plain)) stops in
    let front = ap (λ n. take n text) len ∙ take_at authority path _ refl in
    let back = ap (λ n. drop n text) len ∙ drop_at authority path _ refl in
    rw (kind scheme) (
    ap (λ r. and_then r (λ d. Ok (with_path d (parse_path_start SpecialNotFile [] (drop (segment_len SpecialNotFile text) text))))) (ap (parse_authority (scheme_name scheme)) front ∙ authority_read scheme host digits port h plain read)
    ∙ ap (λ p. Ok (with_path (head scheme host port) (parse_path_start SpecialNotFile [] p))) back)

body_read : (scheme : Scheme) (host : List ℕ) (digits : Option (List ℕ)) (port : Option ℕ) (path : List ℕ) → IsHost host → All (Passes is_ascii_digit) (unwrap_or digits []) → parse_port (scheme_name scheme) (unwrap_or digits []) ≡ Ok port → StopsAt (λ b. not (is_slash SpecialNotFile b)) path
    → parse_body (scheme_name scheme) None (47 ∷ 47 ∷ (host ++ port_text digits ++ path)) ≡ Ok (with_path (head scheme host port) (parse_path_start SpecialNotFile [] path))
unfolding parse_body
body_read scheme host digits port path h plain read stops =
    let authority = host ++ port_text digits in
    let test = λ (b : ℕ). b == 47 || b == 92 in
    let long : 0 < length authority = omega (arith, length-append host (port_text digits), h.nonempty) in
    let slashes = prefix_len_at test (47 ∷ 47 ∷ []) (authority ++ path) (All-cons (Passes test) 47 (47 ∷ []) refl (All-cons (Passes test) 47 [] refl (All-nil (Passes test)))) (no_slash_first authority path long (authority_bytes host digits h plain)) in
    rw (kind scheme) (ap (λ n. after_double_slash (scheme_name scheme) (drop n (47 ∷ 47 ∷ (authority ++ path)))) slashes ∙ after_slashes_read scheme host digits port path h plain read stops)

place_read : (scheme : Scheme) (host path : List ℕ) (port : Option ℕ) (query fragment : Option (List ℕ))
    → place_of (with_tail (before_tail (with_path (head scheme host port) path) query fragment) query fragment) ≡ net_place scheme host (unwrap_or port (default_port scheme))
unfolding place_of tuple_of scheme_named scheme_type port_by_name
place_read Http host path port query fragment = refl
place_read Https host path port query fragment = refl
place_read Ws host path port query fragment = refl
place_read Wss host path port query fragment = refl
place_read Ftp host path port query fragment = refl

-- ---- the whole

is_scheme : (scheme : Scheme) → IsScheme (scheme_name scheme)
unfolding scheme_len
is_scheme Http = record { nonempty = lit< tt; whole = refl; lower = refl }
is_scheme Https = record { nonempty = lit< tt; whole = refl; lower = refl }
is_scheme Ws = record { nonempty = lit< tt; whole = refl; lower = refl }
is_scheme Wss = record { nonempty = lit< tt; whole = refl; lower = refl }
is_scheme Ftp = record { nonempty = lit< tt; whole = refl; lower = refl }

name_bytes : (scheme : Scheme) → list_all is_front_byte (scheme_name scheme) ≡ true
name_bytes Http = refl
name_bytes Https = refl
name_bytes Ws = refl
name_bytes Wss = refl
name_bytes Ftp = refl

front_bytes : (scheme : Scheme) (authority : List ℕ) → All (Passes is_authority_byte) authority → All (Passes is_front_byte) (scheme_name scheme ++ 58 ∷ 47 ∷ 47 ∷ authority)
front_bytes scheme authority all =
    let P = Passes is_front_byte in
    let back = All-weaker (Passes is_authority_byte) P (λ b passes. grind (arith, nat_tests)) authority all in
    All-append P (scheme_name scheme) (58 ∷ 47 ∷ 47 ∷ authority) (All_from_list_all is_front_byte (scheme_name scheme) (name_bytes scheme))
    (All-cons P 58 (47 ∷ 47 ∷ authority) refl (All-cons P 47 (47 ∷ authority) refl (All-cons P 47 authority refl back)))

path_stops : (tail : List ℕ) → is_tail tail ≡ true → StopsAt (λ b. not (is_slash SpecialNotFile b)) (split_once 63 (split_once 35 tail).0).0
unfolding split_once
path_stops [] begins = tt
path_stops (b ∷ rest) begins =
    ⊎_elim (λ hash. rw hash tt)
    (λ other. rw other (⊎_elim (λ question. rw question tt) (λ neither. rw neither (grind (arith, nat_tests))) (cases_Bool (b == 63))))
    (cases_Bool (b == 35))

port_read : (read : Parsed (Option ℕ)) (own port : ℕ) → and_then read (λ p. Ok (unwrap_or p own)) ≡ Ok port → (p : Option ℕ) × ((read ≡ Ok p) × (unwrap_or p own ≡ port))
port_read (Ok p) own port e = (p, (refl, cc))
port_read (Err fault) own port e = absurd cc

-- the place of a scheme, a host, a port or none, and a tail
pub usual_place : (scheme : Scheme) (host : List ℕ) (digits : Option (List ℕ)) (port : ℕ) (tail : List ℕ) → IsHost host → All (Passes is_ascii_digit) (unwrap_or digits []) → port_in scheme (unwrap_or digits []) ≡ Ok port → is_tail tail ≡ true
    → place_of_parsed (parse_url None (scheme_name scheme ++ 58 ∷ 47 ∷ 47 ∷ (host ++ port_text digits) ++ tail)) ≡ Some (net_place scheme host port)
unfolding parse_url parse_parts
usual_place scheme host digits port tail h plain read begins =
    let name = scheme_name scheme in
    let authority = host ++ port_text digits in
    let front = name ++ 58 ∷ 47 ∷ 47 ∷ authority in
    let all = front_bytes scheme authority (authority_bytes host digits h plain) in
    let long : 0 < length front = omega (arith, length-append name (58 ∷ 47 ∷ 47 ∷ authority)) in
    let clean = cleaned front tail long (All-weaker (Passes is_front_byte) IsVisible (λ b passes. grind (arith, nat_tests)) front all) begins in
    let rest = clean.0 in
    let a = split_once 35 rest in
    let q = split_once 63 a.0 in
    let hash = ap (split_once 35) clean.1.1 ∙ split_once_over 35 front rest (All-weaker (Passes is_front_byte) (IsNot 35) (λ b passes e. grind (arith, nat_tests)) front all) in
    let question = ap (λ r. split_once 63 r.0) hash ∙ split_once_over 63 front a.0 (All-weaker (Passes is_front_byte) (IsNot 63) (λ b passes e. grind (arith, nat_tests)) front all) in
    let body = 47 ∷ 47 ∷ (authority ++ q.0) in
    let split = ap (λ r. split_scheme r.0) question ∙ ap split_scheme (append_assoc name (58 ∷ 47 ∷ 47 ∷ authority) q.0) ∙ split_own_scheme name body (is_scheme scheme) in
    let p = port_read (parse_port name (unwrap_or digits [])) (default_port scheme) port read in
    ap place_of_parsed (
    (λ i. parse_by_scheme (split i) None (question i).0 (question i).1 (hash i).1)
    ∙ ap (λ n. parse_parts n None body q.1 a.1) (is_scheme scheme).lower
    ∙ ap (λ r. and_then r (λ url. Ok (with_tail (before_tail url q.1 a.1) q.1 a.1))) (body_read scheme host digits p.0 q.0 h plain p.1.0 (path_stops rest clean.1.0)))
    ∙ ap Some (place_read scheme host (parse_path_start SpecialNotFile [] q.0) p.0 q.1 a.1 ∙ ap (net_place scheme host) p.1.1)

-- the same, where the text is cut from its front
pub usual_found : (text behind after rest : List ℕ) (scheme : Scheme) (host : List ℕ) (port : ℕ) → text ≡ scheme_name scheme ++ 58 ∷ 47 ∷ 47 ∷ behind → behind ≡ host ++ after → IsHost host → HasPort scheme after port rest → is_tail rest ≡ true
    → place_of_parsed (parse_url None text) ≡ Some (net_place scheme host port)
usual_found text behind after rest scheme host port named hosted h p begins =
    let name = scheme_name scheme in
    let authority = host ++ port_text p.digits in
    let spelled = named ∙ ap (λ l. name ++ 58 ∷ 47 ∷ 47 ∷ l) (hosted ∙ ap (λ l. host ++ l) p.spelled ∙ sym (append_assoc host (port_text p.digits) rest)) ∙ sym (append_assoc name (58 ∷ 47 ∷ 47 ∷ authority) rest) in
    ap (λ l. place_of_parsed (parse_url None l)) spelled ∙ usual_place scheme host p.digits port rest h p.plain p.read begins
