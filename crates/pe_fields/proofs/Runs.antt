-- Keys and tokens as one run of bytes.
use Rattle.std.proofs.Common.{◌≡◌, ℕ, true, false, eqb, List, [], ◌∷◌, Some, None, refl, inl, inr}
use Rattle.std.specs.List.{take_while}
use Rattle.std.proofs.lemmas.Bool.{eqb-true, false≢true}
use Rattle.std.proofs.lemmas.List.Sums.{take_while-cons}
use Rattle.pe_fields.specs.declared.value.Bare.TheVariants.{Token}
use Rattle.pe_fields.specs.Alphabet.{is_lower, is_alpha, is_key_start, is_key_byte, is_token_start, is_token_byte}
use Rattle.pe_fields.specs.Reading.{begins, drop_while, key_at, bare_at}
use Rattle.pe_fields.proofs.Tools.{or_cases}
use Rattle.pe_fields.proofs.Complete.{token_start_at}

key_start_byte : (b : ℕ) → is_key_start b ≡ true → is_key_byte b ≡ true
key_start_byte b h = elim (or_cases (is_lower b) (eqb b 42) h) [ inl e ↦ rw e refl | inr e ↦ rw (eqb-true b 42 e) refl ]

token_start_byte : (b : ℕ) → is_token_start b ≡ true → is_token_byte b ≡ true
token_start_byte b h = elim (or_cases (is_alpha b) (eqb b 42) h) [ inl e ↦ rw e refl | inr e ↦ rw (eqb-true b 42 e) refl ]

pub key_none : (text : List ℕ) → begins is_key_start text ≡ false → key_at text ≡ None
unfolding key_at
key_none [] h = refl
key_none (b ∷ bs) h = rw h refl

pub key_some : (text : List ℕ) → begins is_key_start text ≡ true → key_at text ≡ Some (take_while is_key_byte text, drop_while is_key_byte text)
unfolding key_at
key_some [] h = absurd (false≢true h)
key_some (b ∷ bs) h = rw (take_while-cons is_key_byte b bs, h, key_start_byte b h) refl

pub token_some : (b : ℕ) (bs text : List ℕ) → text ≡ b ∷ bs → is_token_start b ≡ true → bare_at text ≡ Some (Token (take_while is_token_byte text), drop_while is_token_byte text)
token_some b bs text e h = rw (e, take_while-cons is_token_byte b bs, token_start_byte b h) (token_start_at b bs h)
