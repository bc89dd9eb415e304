-- What is read is in the grammar.
use Rattle.std.proofs.Common.{◌+◌, ◌≤◌, ◌<◌, length-append, arith, ◌≡◌, ℕ, zero, suc, Bool, true, false, cond, eqb, leb, ◌&&◌, ◌||◌, List, [], ◌∷◌, ◌++◌, length, Option, Some, None, option_map, refl, ap, ◌∙◌, subst, append_assoc, inl, inr, flat_map, codes}
use Rattle.std.specs.List.{take_while, list_all}
use Rattle.std.proofs.lemmas.Option.{none-some, same_Some}
use Rattle.std.proofs.lemmas.Bool.{eqb-true, leb-true}
use Rattle.pe_fields.specs.declared.value.Bare.{Bare}
use Rattle.pe_fields.specs.declared.value.Bare.TheVariants.{Truth}
use Rattle.pe_fields.specs.declared.value.Param.{Param}
use Rattle.pe_fields.specs.declared.value.Item.{Item}
use Rattle.pe_fields.specs.declared.value.Value.{Value}
use Rattle.pe_fields.specs.declared.value.Value.TheVariants as value
use Rattle.pe_fields.specs.declared.value.Member.{Member}
use Rattle.pe_fields.specs.Alphabet.{is_space, is_white, is_digit, is_key_start, is_key_byte, is_token_start, is_token_byte, is_text_byte, is_base64_byte}
use Rattle.pe_fields.specs.Reading.{Read, option_map_or, read_map, drop_while, skip_spaces, skip_white, behind, each, key_at, is_count, integer_of, decimal_of, decimal_at, number_at, text_at, binary_at, truth_at, bare_at, given_at, param_at, params_at, item_at, next_item_at, items_from, items_at, inner_at, listed_at, value_at, member_at, next_member_at, members_of, is_empty, dictionary}
use Rattle.pe_fields.specs.Grammar.{IsKey, IsDigits, sign, IsTruth, IsBare, IsEach, IsGiven, IsParam, IsParams, IsItem, IsNextItem, IsItems, IsInner, IsValue, IsGivenValue, IsMember, IsNextMember, IsField, spelled_byte}
use Rattle.pe_fields.proofs.Filled.{param_filled, next_item_filled, next_member_filled}
use Rattle.pe_fields.proofs.Loops.{Shrinks}
use Rattle.pe_fields.proofs.Tools.{bind_some, map_some, guard_some, chosen, or_cases, all_passed, and_parts, and_both, glue, behind_some, run_split, run_all}

-- the text is one of these and the bytes behind it
abbrev pub Found : {A : Type 0} → (List ℕ → A → Type 0) → List ℕ → A × List ℕ → Type 0
Found One text r = (front : List ℕ) × (text ≡ front ++ r.1) × One front r.0

each_found : {A : Type 0} (One : List ℕ → A → Type 0) (one : List ℕ → Read A) → ((text : List ℕ) (r : A × List ℕ) → one text ≡ Some r → Found One text r) → (n : ℕ) (text : List ℕ) → Found (IsEach One) text (each one n text)
unfolding each
each_found One one found zero text = ([], refl, refl)
each_found {A} One one found (suc n) text =
    let M : Option (A × List ℕ) → Type 0 = λ o. one text ≡ o → Found (IsEach One) text (option_map_or ([], text) (λ r. let others = each one n r.1 in (r.0 ∷ others.0, others.1)) o) in
    (elim (one text) as M [
      | None ↦ λ e. ([], refl, refl)
      | Some r ↦ λ e.
          let f = found text r e in
          let g = each_found One one found n r.1 in
          (f.0 ++ g.0, glue text f.0 r.1 g.0 (each one n r.1).1 f.1 g.1, (f.0, g.0, refl, f.2, g.2))
    ]) refl

pub key_found : (text : List ℕ) (r : List ℕ × List ℕ) → key_at text ≡ Some r → (text ≡ r.0 ++ r.1) × IsKey r.0
unfolding key_at
key_found [] r e = absurd (none-some r e)
key_found (b ∷ bs) r e =
    let p = guard_some (is_key_start b) _ r e in
    subst (λ (x : List ℕ × List ℕ). ((b ∷ bs) ≡ x.0 ++ x.1) × IsKey x.0) (same_Some _ _ p.1) (ap (λ t. b ∷ t) (run_split is_key_byte bs), (p.0, run_all is_key_byte bs))

counted : (most : ℕ) (digits : List ℕ) → is_count most digits ≡ true → list_all is_digit digits ≡ true → IsDigits most digits
counted most digits e h =
    let p = and_parts (leb 1 (length digits)) (leb (length digits) most) e in
    record { some = leb-true 1 (length digits) p.0; few = leb-true (length digits) most p.1; digits = h }

integer_found : (negative : Bool) (digits : List ℕ) (bare : Bare) → list_all is_digit digits ≡ true → integer_of negative digits ≡ Some bare → IsBare (sign negative ++ digits) bare
integer_found negative digits bare h e =
    let p = guard_some (is_count 15 digits) _ bare e in
    subst (λ (x : Bare). IsBare (sign negative ++ digits) x) (same_Some _ _ p.1)
    (record { negative = negative; digits = digits; counted = counted 15 digits p.0 h; spelled = refl; value = refl })

decimal_found : (negative : Bool) (whole fraction : List ℕ) (bare : Bare) → list_all is_digit whole ≡ true → list_all is_digit fraction ≡ true → decimal_of negative whole fraction ≡ Some bare → IsBare (sign negative ++ whole ++ codes "." ++ fraction) bare
decimal_found negative whole fraction bare h k e =
    let p = guard_some (is_count 12 whole && is_count 3 fraction) _ bare e in
    let q = and_parts (is_count 12 whole) (is_count 3 fraction) p.0 in
    subst (λ (x : Bare). IsBare (sign negative ++ whole ++ codes "." ++ fraction) x) (same_Some _ _ p.1)
    (record { negative = negative; whole = whole; fraction = fraction; counted = counted 12 whole q.0 h; behind_point = counted 3 fraction q.1 k; spelled = refl; value = refl })

number_found : (negative : Bool) (text : List ℕ) (r : Bare × List ℕ) → number_at negative text ≡ Some r → Found (λ front bare. IsBare (sign negative ++ front) bare) text r
unfolding number_at
number_found negative text r =
    let whole : List ℕ = take_while is_digit text in
    let rest : List ℕ = drop_while is_digit text in
    let M : Option (List ℕ) → Type 0 = λ o. behind 46 rest ≡ o → option_map_or (option_map (λ bare. (bare, rest)) (integer_of negative whole)) (decimal_at negative whole) o ≡ Some r → Found (λ front bare. IsBare (sign negative ++ front) bare) text r in
    (elim (behind 46 rest) as M [
      | None ↦ λ b e.
          let p = map_some (integer_of negative whole) (λ bare. (bare, rest)) r e in
          subst (λ (x : Bare × List ℕ). Found (λ front bare. IsBare (sign negative ++ front) bare) text x) p.2
          (whole, run_split is_digit text, integer_found negative whole p.0 (run_all is_digit text) p.1)
      | Some after ↦ λ b e.
          let fraction : List ℕ = take_while is_digit after in
          let left : List ℕ = drop_while is_digit after in
          let p = map_some (decimal_of negative whole fraction) (λ bare. (bare, left)) r e in
          subst (λ (x : Bare × List ℕ). Found (λ front bare. IsBare (sign negative ++ front) bare) text x) p.2 (
            whole ++ codes "." ++ fraction,
            glue text (whole ++ codes ".") after fraction left (glue text whole rest (codes ".") after (run_split is_digit text) (behind_some 46 rest after b)) (run_split is_digit after),
            subst (λ (t : List ℕ). IsBare t p.0) (simp append_assoc) (decimal_found negative whole fraction p.0 (run_all is_digit text) (run_all is_digit after) p.1),
          )
    ]) refl

escaped_is_text : (c : ℕ) → (eqb c 34 || eqb c 92) ≡ true → is_text_byte c ≡ true
escaped_is_text c e = elim (or_cases (eqb c 34) (eqb c 92) e) [ inl h ↦ rw (eqb-true c 34 h) refl | inr h ↦ rw (eqb-true c 92 h) refl ]

abbrev SpellsText : List ℕ → List ℕ → Type 0
SpellsText front bytes = (list_all is_text_byte bytes ≡ true) × (front ≡ flat_map spelled_byte bytes ++ codes "\"")

escaped_spelled : (b c : ℕ) (bs : List ℕ) (q : List ℕ × List ℕ) → eqb b 92 ≡ true → (eqb c 34 || eqb c 92) ≡ true → Found SpellsText bs q → Found SpellsText (b ∷ c ∷ bs) (c ∷ q.0, q.1)
escaped_spelled b c bs q s h f =
    (b ∷ c ∷ f.0, ap (λ t. b ∷ c ∷ t) f.1, (and_both _ _ (escaped_is_text c h) f.2.0, rw (h, eqb-true b 92 s) (ap (λ t. 92 ∷ c ∷ t) f.2.1)))

plain_spelled : (b : ℕ) (bs : List ℕ) (q : List ℕ × List ℕ) → eqb b 34 ≡ false → eqb b 92 ≡ false → is_text_byte b ≡ true → Found SpellsText bs q → Found SpellsText (b ∷ bs) (b ∷ q.0, q.1)
plain_spelled b bs q x y h f =
    (b ∷ f.0, ap (λ t. b ∷ t) f.1, (and_both _ _ h f.2.0, rw (x, y) (ap (λ t. b ∷ t) f.2.1)))

text_found : (text : List ℕ) (r : List ℕ × List ℕ) → text_at text ≡ Some r → Found SpellsText text r
unfolding text_at
text_found [] r e = absurd (none-some r e)
text_found (b ∷ []) r e =
    let p = guard_some (eqb b 34) _ r e in
    subst (λ (x : List ℕ × List ℕ). Found SpellsText (b ∷ []) x) (same_Some _ _ p.1)
    (codes "\"", ap (λ n. n ∷ []) (eqb-true b 34 p.0), (refl, refl))
text_found (b ∷ c ∷ bs) r given =
    let N : Bool → Type 0 = λ v. eqb b 92 ≡ v → eqb b 34 ≡ false → elim v [ true ↦ cond (eqb c 34 || eqb c 92) (read_map (λ text. c ∷ text) (text_at bs)) None | false ↦ cond (is_text_byte b) (read_map (λ text. b ∷ text) (text_at (c ∷ bs))) None ] ≡ Some r → Found SpellsText (b ∷ c ∷ bs) r in
    let M : Bool → Type 0 = λ v. eqb b 34 ≡ v → elim v [ true ↦ Some ([], c ∷ bs) | false ↦ elim (eqb b 92) [ true ↦ cond (eqb c 34 || eqb c 92) (read_map (λ text. c ∷ text) (text_at bs)) None | false ↦ cond (is_text_byte b) (read_map (λ text. b ∷ text) (text_at (c ∷ bs))) None ] ] ≡ Some r → Found SpellsText (b ∷ c ∷ bs) r in
    (elim (eqb b 34) as M [
      | true ↦ λ q e.
          subst (λ (x : List ℕ × List ℕ). Found SpellsText (b ∷ c ∷ bs) x) (same_Some _ _ e)
          (codes "\"", ap (λ n. n ∷ c ∷ bs) (eqb-true b 34 q), (refl, refl))
      | false ↦ λ q.
          (elim (eqb b 92) as N [
            | true ↦ λ s q e.
                let p = guard_some (eqb c 34 || eqb c 92) _ r e in
                let m = map_some (text_at bs) _ r p.1 in
                subst (λ (x : List ℕ × List ℕ). Found SpellsText (b ∷ c ∷ bs) x) m.2 (escaped_spelled b c bs m.0 s p.0 (text_found bs m.0 m.1))
            | false ↦ λ s q e.
                let p = guard_some (is_text_byte b) _ r e in
                let m = map_some (text_at (c ∷ bs)) _ r p.1 in
                subst (λ (x : List ℕ × List ℕ). Found SpellsText (b ∷ c ∷ bs) x) m.2 (plain_spelled b (c ∷ bs) m.0 q s p.0 (text_found (c ∷ bs) m.0 m.1))
          ]) refl q
    ]) refl given

binary_found : (text : List ℕ) (r : List ℕ × List ℕ) → binary_at text ≡ Some r → Found (λ front bytes. (list_all is_base64_byte bytes ≡ true) × (front ≡ bytes ++ codes ":")) text r
unfolding binary_at
binary_found text r e =
    let b = bind_some (behind 58 (drop_while is_base64_byte text)) _ r e in
    subst (λ (x : List ℕ × List ℕ). Found (λ front bytes. (list_all is_base64_byte bytes ≡ true) × (front ≡ bytes ++ codes ":")) text x) (same_Some _ _ b.2) (
      take_while is_base64_byte text ++ codes ":",
      glue text (take_while is_base64_byte text) (drop_while is_base64_byte text) (codes ":") b.0 (run_split is_base64_byte text) (behind_some 58 _ b.0 b.1),
      (run_all is_base64_byte text, refl),
    )

truth_found : (text : List ℕ) (r : Bool × List ℕ) → truth_at text ≡ Some r → Found (λ front truth. front ≡ cond truth (codes "1") (codes "0")) text r
truth_found [] r e = absurd (none-some r e)
truth_found (b ∷ bs) r e = elim (chosen (eqb b 49) _ _ (Some r) e) [
  | inl p ↦ subst (λ (x : Bool × List ℕ). Found (λ front truth. front ≡ cond truth (codes "1") (codes "0")) (b ∷ bs) x) (same_Some _ _ p.1) (codes "1", ap (λ n. n ∷ bs) (eqb-true b 49 p.0), refl)
  | inr p ↦
      let q = guard_some (eqb b 48) _ r p.1 in
      subst (λ (x : Bool × List ℕ). Found (λ front truth. front ≡ cond truth (codes "1") (codes "0")) (b ∷ bs) x) (same_Some _ _ q.1) (codes "0", ap (λ n. n ∷ bs) (eqb-true b 48 q.0), refl)
]

abbrev FoundBare : List ℕ → Bare × List ℕ → Type 0
FoundBare text r = Found IsBare text r

spells_truth : (front : List ℕ) (truth : Bool) → front ≡ cond truth (codes "1") (codes "0") → IsTruth (63 ∷ front) truth
spells_truth front true e = ap (λ t. 63 ∷ t) e
spells_truth front false e = ap (λ t. 63 ∷ t) e

pub bare_found : (text : List ℕ) (r : Bare × List ℕ) → bare_at text ≡ Some r → Found IsBare text r
unfolding bare_at
bare_found [] r e = absurd (none-some r e)
bare_found (b ∷ bs) r e = elim (chosen (eqb b 34) _ _ (Some r) e) [
  | inl p ↦
      let m = map_some (text_at bs) _ r p.1 in
      let f = text_found bs m.0 m.1 in
      subst (FoundBare (b ∷ bs)) m.2
      (34 ∷ f.0, rw (eqb-true b 34 p.0) (ap (λ t. 34 ∷ t) f.1), (f.2.0, ap (λ t. 34 ∷ t) f.2.1))
  | inr p ↦ elim (chosen (eqb b 58) _ _ (Some r) p.1) [
    | inl p ↦
        let m = map_some (binary_at bs) _ r p.1 in
        let f = binary_found bs m.0 m.1 in
        subst (FoundBare (b ∷ bs)) m.2
        (58 ∷ f.0, rw (eqb-true b 58 p.0) (ap (λ t. 58 ∷ t) f.1), (f.2.0, ap (λ t. 58 ∷ t) f.2.1))
    | inr p ↦ elim (chosen (eqb b 63) _ _ (Some r) p.1) [
      | inl p ↦
          let m = map_some (truth_at bs) _ r p.1 in
          let f = truth_found bs m.0 m.1 in
          subst (FoundBare (b ∷ bs)) m.2
          (63 ∷ f.0, rw (eqb-true b 63 p.0) (ap (λ t. 63 ∷ t) f.1), spells_truth f.0 m.0.0 f.2)
      | inr p ↦ elim (chosen (is_token_start b) _ _ (Some r) p.1) [
        | inl p ↦
            subst (FoundBare (b ∷ bs)) (same_Some _ _ p.1)
            (b ∷ take_while is_token_byte bs, ap (λ t. b ∷ t) (run_split is_token_byte bs), ((p.0, run_all is_token_byte bs), refl))
        | inr p ↦ elim (chosen (eqb b 45) _ _ (Some r) p.1) [
          | inl p ↦
              let f = number_found true bs r p.1 in
              (45 ∷ f.0, rw (eqb-true b 45 p.0) (ap (λ t. 45 ∷ t) f.1), f.2)
          | inr p ↦ number_found false (b ∷ bs) r p.1
        ]
      ]
    ]
  ]
]

given_found : (text : List ℕ) (r : Bare × List ℕ) → given_at text ≡ Some r → Found IsGiven text r
unfolding given_at
given_found text r given =
    let M : Option (List ℕ) → Type 0 = λ o. behind 61 text ≡ o → option_map_or (Some (Truth true, text)) bare_at o ≡ Some r → Found IsGiven text r in
    (elim (behind 61 text) as M [
      | None ↦ λ b e. subst (λ (x : Bare × List ℕ). Found IsGiven text x) (same_Some _ _ e) ([], refl, inl (refl, refl))
      | Some rest ↦ λ b e.
          let f = bare_found rest r e in
          (61 ∷ f.0, behind_some 61 text rest b ∙ ap (λ t. 61 ∷ t) f.1, inr (f.0, refl, f.2))
    ]) refl given

param_found : (text : List ℕ) (r : Param × List ℕ) → param_at text ≡ Some r → Found IsParam text r
unfolding param_at
param_found text r e =
    let b = bind_some (behind 59 text) _ r e in
    let rest : List ℕ = b.0 in
    let k = bind_some (key_at (skip_spaces rest)) _ r b.2 in
    let g = bind_some (given_at k.0.1) _ r k.2 in
    let key = key_found (skip_spaces rest) k.0 k.1 in
    let given = given_found k.0.1 g.0 g.1 in
    let spaces : List ℕ = take_while is_space rest in
    let one : text ≡ codes ";" ++ rest = behind_some 59 text rest b.1 in
    let two : text ≡ (codes ";" ++ spaces) ++ skip_spaces rest = glue text (codes ";") rest spaces (skip_spaces rest) one (run_split is_space rest) in
    let three : text ≡ (codes ";" ++ spaces ++ k.0.0) ++ k.0.1 = glue text (codes ";" ++ spaces) (skip_spaces rest) k.0.0 k.0.1 two key.0 in
    subst (λ (x : Param × List ℕ). Found IsParam text x) (same_Some _ _ g.2) (
      codes ";" ++ spaces ++ k.0.0 ++ given.0,
      glue text (codes ";" ++ spaces ++ k.0.0) k.0.1 given.0 g.0.1 three given.1,
      record { spaces = spaces; given = given.0; spelled = refl; is_spaces = run_all is_space rest; is_key = key.1; is_given = given.2 },
    )

pub params_found : (text : List ℕ) → Found IsParams text (params_at text)
unfolding params_at
params_found text = each_found IsParam param_at param_found (length text) text

item_found : (text : List ℕ) (r : Item × List ℕ) → item_at text ≡ Some r → Found IsItem text r
unfolding item_at
item_found text r e =
    let b = bind_some (bare_at text) _ r e in
    let bare = bare_found text b.0 b.1 in
    let params = params_found b.0.1 in
    subst (λ (x : Item × List ℕ). Found IsItem text x) (same_Some _ _ b.2) (
      bare.0 ++ params.0,
      glue text bare.0 b.0.1 params.0 (params_at b.0.1).1 bare.1 params.1,
      record { bare = bare.0; params = params.0; spelled = refl; is_bare = bare.2; is_params = params.2 },
    )

next_item_found : (text : List ℕ) (r : Item × List ℕ) → next_item_at text ≡ Some r → Found IsNextItem text r
unfolding next_item_at
next_item_found text r e =
    let b = bind_some (behind 32 text) _ r e in
    let rest : List ℕ = b.0 in
    let item = item_found (skip_spaces rest) r b.2 in
    let spaces : List ℕ = take_while is_space rest in
    let two : text ≡ (codes " " ++ spaces) ++ skip_spaces rest = glue text (codes " ") rest spaces (skip_spaces rest) (behind_some 32 text rest b.1) (run_split is_space rest) in (
      codes " " ++ spaces ++ item.0,
      glue text (codes " " ++ spaces) (skip_spaces rest) item.0 r.1 two item.1,
      record { spaces = spaces; item_text = item.0; spelled = refl; is_spaces = run_all is_space rest; is_item = item.2 },
    )

items_found : (text : List ℕ) → Found IsItems text (items_at text)
unfolding items_at
items_found text =
    let M : Option (Item × List ℕ) → Type 0 = λ o. item_at text ≡ o → Found IsItems text (option_map_or ([], text) items_from o) in
    (elim (item_at text) as M [
      | None ↦ λ e. ([], refl, refl)
      | Some first ↦ λ e.
          let f = item_found text first e in
          let g = each_found IsNextItem next_item_at next_item_found (length first.1) first.1 in
          (f.0 ++ g.0, glue text f.0 first.1 g.0 (items_from first).1 f.1 g.1, (f.0, g.0, refl, f.2, g.2))
    ]) refl

inner_found : (text : List ℕ) (r : List Item × List ℕ) → inner_at text ≡ Some r → Found (λ front items. IsInner (40 ∷ front) items) text r
unfolding inner_at
inner_found text r e =
    let before : List ℕ = take_while is_space text in
    let items = items_found (skip_spaces text) in
    let left : List ℕ = (items_at (skip_spaces text)).1 in
    let b = bind_some (behind 41 (skip_spaces left)) _ r e in
    let after : List ℕ = take_while is_space left in
    let two : text ≡ (before ++ items.0) ++ left = glue text before (skip_spaces text) items.0 left (run_split is_space text) items.1 in
    let three : text ≡ (before ++ items.0 ++ after) ++ skip_spaces left = glue text (before ++ items.0) left after (skip_spaces left) two (run_split is_space left) in
    subst (λ (x : List Item × List ℕ). Found (λ front items. IsInner (40 ∷ front) items) text x) (same_Some _ _ b.2) (
      before ++ items.0 ++ after ++ codes ")",
      glue text (before ++ items.0 ++ after) (skip_spaces left) (codes ")") b.0 three (behind_some 41 (skip_spaces left) b.0 b.1),
      record { before = before; items_text = items.0; after = after; spelled = refl; is_before = run_all is_space text; is_items = items.2; is_after = run_all is_space left },
    )

listed_found : (text : List ℕ) (r : Value × List ℕ) → listed_at text ≡ Some r → Found IsValue text r
unfolding listed_at
listed_found text r given =
    let M : Option (List ℕ) → Type 0 = λ o. behind 40 text ≡ o → option_map_or (read_map value.Item (bare_at text)) (λ inner. read_map value.Inner (inner_at inner)) o ≡ Some r → Found IsValue text r in
    (elim (behind 40 text) as M [
      | None ↦ λ b e.
          let m = map_some (bare_at text) _ r e in
          let f = bare_found text m.0 m.1 in
          subst (λ (x : Value × List ℕ). Found IsValue text x) m.2 (f.0, f.1, f.2)
      | Some inner ↦ λ b e.
          let m = map_some (inner_at inner) _ r e in
          let f = inner_found inner m.0 m.1 in
          subst (λ (x : Value × List ℕ). Found IsValue text x) m.2 (40 ∷ f.0, behind_some 40 text inner b ∙ ap (λ t. 40 ∷ t) f.1, f.2)
    ]) refl given

value_found : (text : List ℕ) (r : Value × List ℕ) → value_at text ≡ Some r → Found IsGivenValue text r
unfolding value_at
value_found text r given =
    let M : Option (List ℕ) → Type 0 = λ o. behind 61 text ≡ o → option_map_or (Some (value.Item (Truth true), text)) listed_at o ≡ Some r → Found IsGivenValue text r in
    (elim (behind 61 text) as M [
      | None ↦ λ b e. subst (λ (x : Value × List ℕ). Found IsGivenValue text x) (same_Some _ _ e) ([], refl, inl (refl, refl))
      | Some rest ↦ λ b e.
          let f = listed_found rest r e in
          (61 ∷ f.0, behind_some 61 text rest b ∙ ap (λ t. 61 ∷ t) f.1, inr (f.0, refl, f.2))
    ]) refl given

member_found : (text : List ℕ) (r : (List ℕ × Member) × List ℕ) → member_at text ≡ Some r → Found IsMember text r
unfolding member_at
member_found text r e =
    let k = bind_some (key_at text) _ r e in
    let v = bind_some (value_at k.0.1) _ r k.2 in
    let key = key_found text k.0 k.1 in
    let given = value_found k.0.1 v.0 v.1 in
    let params = params_found v.0.1 in
    let two : text ≡ (k.0.0 ++ given.0) ++ v.0.1 = glue text k.0.0 k.0.1 given.0 v.0.1 key.0 given.1 in
    subst (λ (x : (List ℕ × Member) × List ℕ). Found IsMember text x) (same_Some _ _ v.2) (
      k.0.0 ++ given.0 ++ params.0,
      glue text (k.0.0 ++ given.0) v.0.1 params.0 (params_at v.0.1).1 two params.1,
      record { given = given.0; params = params.0; spelled = refl; is_key = key.1; is_given = given.2; is_params = params.2 },
    )

next_member_found : (text : List ℕ) (r : (List ℕ × Member) × List ℕ) → next_member_at text ≡ Some r → Found IsNextMember text r
unfolding next_member_at
next_member_found text r e =
    let before : List ℕ = take_while is_white text in
    let b = bind_some (behind 44 (skip_white text)) _ r e in
    let rest : List ℕ = b.0 in
    let after : List ℕ = take_while is_white rest in
    let member = member_found (skip_white rest) r b.2 in
    let two : text ≡ (before ++ codes ",") ++ rest = glue text before (skip_white text) (codes ",") rest (run_split is_white text) (behind_some 44 (skip_white text) rest b.1) in
    let three : text ≡ (before ++ codes "," ++ after) ++ skip_white rest = glue text (before ++ codes ",") rest after (skip_white rest) two (run_split is_white rest) in (
      before ++ codes "," ++ after ++ member.0,
      glue text (before ++ codes "," ++ after) (skip_white rest) member.0 r.1 three member.1,
      record { before = before; after = after; member_text = member.0; spelled = refl; is_before = run_all is_white text; is_after = run_all is_white rest; is_member = member.2 },
    )

-- what the reading of a whole text finds is in the grammar
pub dictionary_sound : (text : List ℕ) (members : List (List ℕ × Member)) → dictionary text ≡ Some members → IsField text members
unfolding dictionary members_of
dictionary_sound text members e = elim (chosen (is_empty (skip_spaces text)) _ _ (Some members) e) [
  | inl p ↦ subst (λ (x : List (List ℕ × Member)). IsField text x) (same_Some _ _ p.1) (all_passed is_space text p.0)
  | inr p ↦
      let listed : List ℕ = skip_spaces text in
      let f = bind_some (member_at listed) _ members p.1 in
      let first = member_found listed f.0 f.1 in
      let g = each_found IsNextMember next_member_at next_member_found (length f.0.1) f.0.1 in
      let trailing : List ℕ = (each next_member_at (length f.0.1) f.0.1).1 in
      let q = guard_some (is_empty (skip_white trailing)) _ members f.2 in
      let two : listed ≡ (first.0 ++ g.0) ++ trailing = glue listed first.0 f.0.1 g.0 trailing first.1 g.1 in
      subst (λ (x : List (List ℕ × Member)). IsField text x) (same_Some _ _ q.1)
      (record {
        spaces = take_while is_space text;
        listed = first.0 ++ g.0;
        trailing = trailing;
        spelled = glue text (take_while is_space text) listed (first.0 ++ g.0) trailing (run_split is_space text) two;
        is_spaces = run_all is_space text;
        is_listed = record { first = first.0; rest = g.0; spelled = refl; is_first = first.2; is_rest = g.2 };
        is_trailing = all_passed is_white trailing q.0;
      })
]

-- what is read is not nothing, so less is left
shorter : (text front rest : List ℕ) → text ≡ front ++ rest → 1 ≤ length front → length rest < length text
shorter text front rest e l =
    let all : length text ≡ length front + length rest = ap length e ∙ length-append front rest in
    omega arith

pub param_shrinks : Shrinks param_at
param_shrinks text r e =
    let f = param_found text r e in
    shorter text f.0 r.1 f.1 (param_filled f.0 r.0 f.2)

pub next_item_shrinks : Shrinks next_item_at
next_item_shrinks text r e =
    let f = next_item_found text r e in
    shorter text f.0 r.1 f.1 (next_item_filled f.0 r.0 f.2)

pub next_member_shrinks : Shrinks next_member_at
next_member_shrinks text r e =
    let f = next_member_found text r e in
    shorter text f.0 r.1 f.1 (next_member_filled f.0 r.0 f.2)
