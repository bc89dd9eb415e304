-- What is in the grammar of items, inner lists, members and whole fields is read.
use Rattle.std.proofs.Common.{◌≡◌, ℕ, zero, suc, ◌+◌, ◌≤◌, Bool, true, false, eqb, List, [], ◌∷◌, ◌++◌, length, Option, Some, None, refl, ap, sym, ◌∙◌, subst, append_assoc, arith, inl, inr, codes, append-nil, length-append}
use Rattle.std.specs.List.{list_all}
use Rattle.std.proofs.lemmas.Option.{none-some}
use Rattle.std.proofs.lemmas.Bool.{eqb-true}
use Rattle.std.proofs.lemmas.List.Folds.{list_all-append}
use Rattle.pe_fields.specs.declared.value.Bare.{Bare}
use Rattle.pe_fields.specs.declared.value.Param.{Param}
use Rattle.pe_fields.specs.declared.value.Item.{Item}
use Rattle.pe_fields.specs.declared.value.Value.{Value}
use Rattle.pe_fields.specs.declared.value.Value.TheVariants as value
use Rattle.pe_fields.specs.declared.value.Member.{Member}
use Rattle.pe_fields.specs.Alphabet.{is_space, is_white, is_key_byte}
use Rattle.pe_fields.specs.Reading.{Read, option_map_or, read_map, drop_while, skip_spaces, behind, each, number_at, bare_at, param_at, params_at, item_at, next_item_at, items_from, items_at, inner_at, listed_at, value_at, member_at, next_member_at, members_of, is_empty, dictionary}
use Rattle.pe_fields.specs.Grammar.{IsKey, IsEach, IsParam, IsParams, IsItem, IsNextItem, IsInner, IsValue, IsGivenValue, IsMember, IsNextMember, IsField}
use Rattle.pe_fields.proofs.Tools.{and_parts, and_both, or_cases, Stops, run_drop, four_parts}
use Rattle.pe_fields.proofs.Filled.{param_filled, next_item_filled, next_member_filled}
use Rattle.pe_fields.proofs.Complete.{Closes, nothing, space, tab, comma, parenthesis, Ends, closes, ends_key, ends_equals, closes_params, key_complete, key_not_space, key_not_white, bare_complete, param_complete, param_ends}

-- what one text spells, its own reader finds, and texts of its kind may stand behind one another
pub record IsReader {A : Type 0} (One : List ℕ → A → Type 0) (one : List ℕ → Read A) (Follows : List ℕ → Type 0) : Type 1 where
  pub found : (text : List ℕ) (x : A) (rest : List ℕ) → One text x → Follows rest → one (text ++ rest) ≡ Some (x, rest)
  pub follows : (text : List ℕ) (x : A) (rest : List ℕ) → One text x → Follows (text ++ rest)
  pub filled : (text : List ℕ) (x : A) → One text x → 1 ≤ length text

each_follows : {A : Type 0} (One : List ℕ → A → Type 0) (one : List ℕ → Read A) (Follows : List ℕ → Type 0) → IsReader One one Follows → (text : List ℕ) (xs : List A) (rest : List ℕ) → IsEach One text xs → Follows rest → Follows (text ++ rest)
each_follows One one Follows reader text [] rest h f = subst (λ t. Follows (t ++ rest)) (sym h) f
each_follows One one Follows reader text (x ∷ xs) rest h f =
    subst Follows (sym (ap (λ t. t ++ rest) h.2 ∙ append_assoc h.0 h.1 rest)) (reader.follows h.0 x (h.1 ++ rest) h.3)

each_complete : {A : Type 0} (One : List ℕ → A → Type 0) (one : List ℕ → Read A) (Follows : List ℕ → Type 0) → IsReader One one Follows → (text : List ℕ) (xs : List A) (rest : List ℕ) → IsEach One text xs → Follows rest → one rest ≡ None → (n : ℕ) → length (text ++ rest) ≤ n → each one n (text ++ rest) ≡ (xs, rest)
unfolding each
each_complete One one Follows reader text [] rest h f none zero l = ap (λ t. ([], t ++ rest)) h
each_complete One one Follows reader text [] rest h f none (suc n) l = ap (λ t. each one (suc n) (t ++ rest)) h ∙ rw none refl
each_complete One one Follows reader text (x ∷ xs) rest h f none zero l =
    let first : 1 ≤ length h.0 = reader.filled h.0 x h.3 in
    let all : length (text ++ rest) ≡ length h.0 + length (h.1 ++ rest) = ap length (ap (λ t. t ++ rest) h.2 ∙ append_assoc h.0 h.1 rest) ∙ length-append h.0 (h.1 ++ rest) in
    absurd (omega arith)
each_complete One one Follows reader text (x ∷ xs) rest h f none (suc n) l =
    let first : 1 ≤ length h.0 = reader.filled h.0 x h.3 in
    let parts : text ++ rest ≡ h.0 ++ (h.1 ++ rest) = ap (λ t. t ++ rest) h.2 ∙ append_assoc h.0 h.1 rest in
    let all : length (text ++ rest) ≡ length h.0 + length (h.1 ++ rest) = ap length parts ∙ length-append h.0 (h.1 ++ rest) in
    let one_is : one (h.0 ++ (h.1 ++ rest)) ≡ Some (x, h.1 ++ rest) = reader.found h.0 x (h.1 ++ rest) h.3 (each_follows One one Follows reader h.1 xs rest h.4 f) in
    let more : each one n (h.1 ++ rest) ≡ (xs, rest) = each_complete One one Follows reader h.1 xs rest h.4 f none n (omega arith) in
    ap (λ t. each one (suc n) t) parts ∙ rw (one_is, more) refl

params_reader : IsReader IsParam param_at Ends
params_reader = record { found = param_complete; follows = param_ends; filled = param_filled }

params_complete : (text : List ℕ) (params : List Param) (rest : List ℕ) → IsParams text params → Closes rest → params_at (text ++ rest) ≡ (params, rest)
unfolding params_at
params_complete text params rest h c = each_complete IsParam param_at Ends params_reader text params rest h (closes rest c) (closes_params rest c) (length (text ++ rest)) (omega arith)

params_end : (text : List ℕ) (params : List Param) (rest : List ℕ) → IsParams text params → Closes rest → Ends (text ++ rest)
params_end text params rest h c = each_follows IsParam param_at Ends params_reader text params rest h (closes rest c)

item_complete : (text : List ℕ) (item : Item) (rest : List ℕ) → IsItem text item → Closes rest → item_at (text ++ rest) ≡ Some (item, rest)
unfolding item_at
item_complete text item rest h c =
    let parts : text ++ rest ≡ h.bare ++ (h.params ++ rest) = ap (λ t. t ++ rest) h.spelled ∙ append_assoc h.bare h.params rest in
    ap item_at parts ∙ rw (bare_complete h.bare item.bare (h.params ++ rest) h.is_bare (params_end h.params item.params rest h.is_params c), params_complete h.params item.params rest h.is_params c) refl

bare_at_space : (bs : List ℕ) → bare_at (32 ∷ bs) ≡ None
unfolding bare_at number_at
bare_at_space bs = refl

bare_at_open : (bs : List ℕ) → bare_at (40 ∷ bs) ≡ None
unfolding bare_at number_at
bare_at_open bs = refl

item_at_close : (bs : List ℕ) → item_at (41 ∷ bs) ≡ None
unfolding item_at bare_at number_at
item_at_close bs = refl

-- a bare item begins with no byte at which none is found
bare_begins : (byte : ℕ) → ((bs : List ℕ) → bare_at (byte ∷ bs) ≡ None) → (b : ℕ) (bs : List ℕ) (r : Bare × List ℕ) → bare_at (b ∷ bs) ≡ Some r → eqb b byte ≡ false
bare_begins byte none b bs r e =
    (elim (eqb b byte) as (λ v. eqb b byte ≡ v → v ≡ false) [
      | true ↦ λ q. absurd (none-some r (sym (none bs) ∙ ap (λ n. bare_at (n ∷ bs)) (sym (eqb-true b byte q)) ∙ e))
      | false ↦ λ q. refl
    ]) refl

bare_not_space : (text : List ℕ) (r : Bare × List ℕ) → bare_at text ≡ Some r → Stops is_space text
bare_not_space [] r e = tt
bare_not_space (b ∷ bs) r e = bare_begins 32 bare_at_space b bs r e

bare_not_inner : (text : List ℕ) (r : Bare × List ℕ) → bare_at text ≡ Some r → behind 40 text ≡ None
bare_not_inner [] r e = refl
bare_not_inner (b ∷ bs) r e = rw (bare_begins 40 bare_at_open b bs r e) refl

item_not_space : (text : List ℕ) (item : Item) (rest : List ℕ) → IsItem text item → Closes rest → Stops is_space (text ++ rest)
item_not_space text item rest h c =
    let parts : text ++ rest ≡ h.bare ++ (h.params ++ rest) = ap (λ t. t ++ rest) h.spelled ∙ append_assoc h.bare h.params rest in
    subst (Stops is_space) (sym parts) (bare_not_space (h.bare ++ (h.params ++ rest)) _ (bare_complete h.bare item.bare (h.params ++ rest) h.is_bare (params_end h.params item.params rest h.is_params c)))

next_item_complete : (text : List ℕ) (item : Item) (rest : List ℕ) → IsNextItem text item → Closes rest → next_item_at (text ++ rest) ≡ Some (item, rest)
unfolding next_item_at
next_item_complete text item rest h c =
    ap (λ t. next_item_at (t ++ rest)) h.spelled
    ∙ ap (λ t. next_item_at (32 ∷ t)) (append_assoc h.spaces h.item_text rest)
    ∙ ap item_at (run_drop is_space h.spaces (h.item_text ++ rest) h.is_spaces (item_not_space h.item_text item rest h.is_item c))
    ∙ item_complete h.item_text item rest h.is_item c

next_item_closes : (text : List ℕ) (item : Item) (rest : List ℕ) → IsNextItem text item → Closes (text ++ rest)
next_item_closes text item rest h = subst (λ t. Closes (t ++ rest)) (sym h.spelled) (space _)

items_reader : IsReader IsNextItem next_item_at Closes
items_reader = record { found = next_item_complete; follows = next_item_closes; filled = next_item_filled }

-- the end of an inner list: spaces and the closing parenthesis
end_closes : (after rest : List ℕ) → list_all is_space after ≡ true → Closes (after ++ 41 ∷ rest)
end_closes [] rest h = parenthesis rest
end_closes (b ∷ after) rest h = subst (λ n. Closes (n ∷ (after ++ 41 ∷ rest))) (sym (eqb-true b 32 (and_parts (eqb b 32) (list_all is_space after) h).0)) (space (after ++ 41 ∷ rest))

end_no_item : (after rest : List ℕ) → list_all is_space after ≡ true → next_item_at (after ++ 41 ∷ rest) ≡ None
unfolding next_item_at
end_no_item [] rest h = refl
end_no_item (b ∷ after) rest h =
    let p = and_parts (eqb b 32) (list_all is_space after) h in
    ap (λ n. next_item_at (n ∷ (after ++ 41 ∷ rest))) (eqb-true b 32 p.0) ∙ ap item_at (run_drop is_space after (41 ∷ rest) p.1 refl) ∙ item_at_close rest

inner_end : (before items after rest : List ℕ) → ((before ++ items ++ after) ++ codes ")") ++ rest ≡ before ++ (items ++ (after ++ 41 ∷ rest))
inner_end before items after rest = simp append_assoc

-- behind the opening parenthesis, where there are items
inner_some : (before first others after : List ℕ) (item : Item) (items : List Item) (rest : List ℕ) → list_all is_space before ≡ true → IsItem first item → IsEach IsNextItem others items → list_all is_space after ≡ true → inner_at (before ++ (first ++ (others ++ (after ++ 41 ∷ rest)))) ≡ Some (item ∷ items, rest)
unfolding inner_at items_at
inner_some before first others after item items rest b i o a =
    let end : List ℕ = after ++ 41 ∷ rest in
    let c : Closes (others ++ end) = each_follows IsNextItem next_item_at Closes items_reader others items end o (end_closes after rest a) in
    let s : skip_spaces (before ++ (first ++ (others ++ end))) ≡ first ++ (others ++ end) = run_drop is_space before (first ++ (others ++ end)) b (item_not_space first item (others ++ end) i c) in
    let f : item_at (first ++ (others ++ end)) ≡ Some (item, others ++ end) = item_complete first item (others ++ end) i c in
    let m : each next_item_at (length (others ++ end)) (others ++ end) ≡ (items, end) = each_complete IsNextItem next_item_at Closes items_reader others items end o (end_closes after rest a) (end_no_item after rest a) (length (others ++ end)) (omega arith) in
    let all : items_at (first ++ (others ++ end)) ≡ (item ∷ items, end) = ap (λ (o : Option (Item × List ℕ)). option_map_or ([], first ++ (others ++ end)) items_from o) f ∙ ap (λ (m : List Item × List ℕ). (item ∷ m.0, m.1)) m in
    rw (s, all, run_drop is_space after (41 ∷ rest) a refl) refl

inner_none : (before after rest : List ℕ) → list_all is_space before ≡ true → list_all is_space after ≡ true → inner_at (before ++ (after ++ 41 ∷ rest)) ≡ Some ([], rest)
unfolding inner_at items_at
inner_none before after rest b a =
    let both : list_all is_space (before ++ after) ≡ true = list_all-append is_space before after ∙ and_both _ _ b a in
    let s : skip_spaces (before ++ (after ++ 41 ∷ rest)) ≡ 41 ∷ rest = ap skip_spaces (sym (append_assoc before after (41 ∷ rest))) ∙ run_drop is_space (before ++ after) (41 ∷ rest) both refl in
    rw (s, item_at_close rest) refl

inner_complete : (text : List ℕ) (items : List Item) (rest : List ℕ) → IsInner text items → listed_at (text ++ rest) ≡ Some (value.Inner items, rest)
unfolding listed_at
inner_complete text [] rest h =
    ap (λ t. listed_at (t ++ rest)) h.spelled
    ∙ ap (λ t. listed_at (40 ∷ t)) (inner_end h.before h.items_text h.after rest)
    ∙ ap (λ t. read_map value.Inner (inner_at (h.before ++ (t ++ (h.after ++ 41 ∷ rest))))) h.is_items
    ∙ ap (read_map value.Inner) (inner_none h.before h.after rest h.is_before h.is_after)
inner_complete text (item ∷ items) rest h =
    ap (λ t. listed_at (t ++ rest)) h.spelled
    ∙ ap (λ t. listed_at (40 ∷ t)) (inner_end h.before h.items_text h.after rest)
    ∙ ap (λ t. read_map value.Inner (inner_at (h.before ++ t))) (ap (λ t. t ++ (h.after ++ 41 ∷ rest)) h.is_items.2 ∙ append_assoc h.is_items.0 h.is_items.1 (h.after ++ 41 ∷ rest))
    ∙ ap (read_map value.Inner) (inner_some h.before h.is_items.0 h.is_items.1 h.after item items rest h.is_before h.is_items.3 h.is_items.4 h.is_after)

listed_complete : (text : List ℕ) (v : Value) (rest : List ℕ) → IsValue text v → Ends rest → listed_at (text ++ rest) ≡ Some (v, rest)
unfolding listed_at
listed_complete text (value.Item bare) rest h e =
    let b : bare_at (text ++ rest) ≡ Some (bare, rest) = bare_complete text bare rest h e in
    rw (bare_not_inner (text ++ rest) (bare, rest) b, b) refl
listed_complete text (value.Inner items) rest h e = inner_complete text items rest h

value_complete : (text : List ℕ) (v : Value) (rest : List ℕ) → IsGivenValue text v → Ends rest → value_at (text ++ rest) ≡ Some (v, rest)
unfolding value_at
value_complete text v rest h e = elim h [
  | inl p ↦ ap (λ t. value_at (t ++ rest)) p.0 ∙ rw (ends_equals rest e, p.1) refl
  | inr p ↦ ap (λ t. value_at (t ++ rest)) p.1 ∙ listed_complete p.0 v rest p.2 e
]

value_stops_key : (text : List ℕ) (v : Value) (rest : List ℕ) → IsGivenValue text v → Ends rest → Stops is_key_byte (text ++ rest)
value_stops_key text v rest h e = elim h [
  | inl p ↦ subst (λ t. Stops is_key_byte (t ++ rest)) (sym p.0) (ends_key rest e)
  | inr p ↦ subst (λ t. Stops is_key_byte (t ++ rest)) (sym p.1) refl
]

member_parts : (text : List ℕ) (member : List ℕ × Member) (rest : List ℕ) (h : IsMember text member) → text ++ rest ≡ member.0 ++ (h.given ++ (h.params ++ rest))
member_parts text member rest h = ap (λ t. t ++ rest) h.spelled ∙ four_parts member.0 h.given h.params rest

member_complete : (text : List ℕ) (member : List ℕ × Member) (rest : List ℕ) → IsMember text member → Closes rest → member_at (text ++ rest) ≡ Some (member, rest)
unfolding member_at
member_complete text member rest h c =
    let e : Ends (h.params ++ rest) = params_end h.params member.1.params rest h.is_params c in
    ap member_at (member_parts text member rest h)
    ∙ rw (
      key_complete member.0 (h.given ++ (h.params ++ rest)) h.is_key (value_stops_key h.given member.1.value (h.params ++ rest) h.is_given e),
      value_complete h.given member.1.value (h.params ++ rest) h.is_given e,
      params_complete h.params member.1.params rest h.is_params c,
    ) refl

member_not_space : (text : List ℕ) (member : List ℕ × Member) (rest : List ℕ) → IsMember text member → Stops is_space (text ++ rest)
member_not_space text member rest h = subst (Stops is_space) (sym (member_parts text member rest h)) (key_not_space member.0 (h.given ++ (h.params ++ rest)) h.is_key)

member_not_white : (text : List ℕ) (member : List ℕ × Member) (rest : List ℕ) → IsMember text member → Stops is_white (text ++ rest)
member_not_white text member rest h = subst (Stops is_white) (sym (member_parts text member rest h)) (key_not_white member.0 (h.given ++ (h.params ++ rest)) h.is_key)

next_parts : (before after member rest : List ℕ) → (((before ++ codes ",") ++ after) ++ member) ++ rest ≡ before ++ 44 ∷ (after ++ (member ++ rest))
next_parts before after member rest = simp append_assoc

next_member_complete : (text : List ℕ) (member : List ℕ × Member) (rest : List ℕ) → IsNextMember text member → Closes rest → next_member_at (text ++ rest) ≡ Some (member, rest)
unfolding next_member_at
next_member_complete text member rest h c =
    ap (λ t. next_member_at (t ++ rest)) h.spelled
    ∙ ap next_member_at (next_parts h.before h.after h.member_text rest)
    ∙ rw (run_drop is_white h.before (44 ∷ (h.after ++ (h.member_text ++ rest))) h.is_before refl)
    (ap member_at (run_drop is_white h.after (h.member_text ++ rest) h.is_after (member_not_white h.member_text member rest h.is_member))
    ∙ member_complete h.member_text member rest h.is_member c)

white_closes : (before more : List ℕ) → list_all is_white before ≡ true → Closes more → Closes (before ++ more)
white_closes [] more h c = c
white_closes (b ∷ before) more h c = elim (or_cases (eqb b 32) (eqb b 9) (and_parts (is_white b) (list_all is_white before) h).0) [
  | inl e ↦ subst (λ n. Closes (n ∷ (before ++ more))) (sym (eqb-true b 32 e)) (space (before ++ more))
  | inr e ↦ subst (λ n. Closes (n ∷ (before ++ more))) (sym (eqb-true b 9 e)) (tab (before ++ more))
]

next_member_closes : (text : List ℕ) (member : List ℕ × Member) (rest : List ℕ) → IsNextMember text member → Closes (text ++ rest)
next_member_closes text member rest h =
    subst Closes (sym (ap (λ t. t ++ rest) h.spelled ∙ next_parts h.before h.after h.member_text rest)) (white_closes h.before (44 ∷ (h.after ++ (h.member_text ++ rest))) h.is_before (comma _))

key_filled : (key more : List ℕ) → IsKey key → is_empty (key ++ more) ≡ false
key_filled [] more k = absurd k
key_filled (b ∷ bs) more k = refl

members_reader : IsReader IsNextMember next_member_at Closes
members_reader = record { found = next_member_complete; follows = next_member_closes; filled = next_member_filled }

white_passed : (test : ℕ → Bool) (text : List ℕ) → list_all test text ≡ true → drop_while test text ≡ []
white_passed test text h = ap (drop_while test) (sym (append-nil text)) ∙ run_drop test text [] h tt

trailing_no_member : (trailing : List ℕ) → list_all is_white trailing ≡ true → next_member_at trailing ≡ None
unfolding next_member_at
trailing_no_member trailing h = rw (white_passed is_white trailing h) refl

trailing_closes : (trailing : List ℕ) → list_all is_white trailing ≡ true → Closes trailing
trailing_closes trailing h = subst Closes (append-nil trailing) (white_closes trailing [] h nothing)

members_complete : (first others trailing : List ℕ) (member : List ℕ × Member) (members : List (List ℕ × Member)) → IsMember first member → IsEach IsNextMember others members → list_all is_white trailing ≡ true → members_of (first ++ (others ++ trailing)) ≡ Some (member ∷ members)
unfolding members_of
members_complete first others trailing member members f o t =
    let c : Closes (others ++ trailing) = each_follows IsNextMember next_member_at Closes members_reader others members trailing o (trailing_closes trailing t) in
    let m : each next_member_at (length (others ++ trailing)) (others ++ trailing) ≡ (members, trailing) = each_complete IsNextMember next_member_at Closes members_reader others members trailing o (trailing_closes trailing t) (trailing_no_member trailing t) (length (others ++ trailing)) (omega arith) in
    rw (member_complete first member (others ++ trailing) f c, m, white_passed is_white trailing t) refl

member_filled : (text : List ℕ) (member : List ℕ × Member) (rest : List ℕ) → IsMember text member → is_empty (text ++ rest) ≡ false
member_filled text member rest h = ap is_empty (member_parts text member rest h) ∙ key_filled member.0 (h.given ++ (h.params ++ rest)) h.is_key

-- what is in the grammar is what the reading of a whole text finds
pub dictionary_complete : (text : List ℕ) (members : List (List ℕ × Member)) → IsField text members → dictionary text ≡ Some members
unfolding dictionary
dictionary_complete text [] h = rw (white_passed is_space text h) refl
dictionary_complete text (member ∷ members) h =
    let first : List ℕ = h.is_listed.first in
    let others : List ℕ = h.is_listed.rest in
    let parts : text ≡ h.spaces ++ (first ++ (others ++ h.trailing)) =
    h.spelled ∙ append_assoc h.spaces h.listed h.trailing ∙ ap (λ t. h.spaces ++ (t ++ h.trailing)) h.is_listed.spelled ∙ ap (λ t. h.spaces ++ t) (append_assoc first others h.trailing) in
    let s : skip_spaces text ≡ first ++ (others ++ h.trailing) =
    ap skip_spaces parts ∙ run_drop is_space h.spaces (first ++ (others ++ h.trailing)) h.is_spaces (member_not_space first member (others ++ h.trailing) h.is_listed.is_first) in
    rw (s, member_filled first member (others ++ h.trailing) h.is_listed.is_first)
    (members_complete first others h.trailing member members h.is_listed.is_first h.is_listed.is_rest h.is_trailing)
