-- The keywords of a script line: kinds of input, states, attributes.
-- The script is this project's own format.
-- Each is a bare word.
use Rattle.std.specs.Prelude.{ℕ, List, [], ◌∷◌, codes, bytes_eq, find, Option, option_map, option_and_then, Bool, false, unwrap_or}
use Rattle.pe_base.specs.declared.input.InputKind.{InputKind}
use Rattle.pe_base.specs.declared.input.InputKind.TheVariants as kind
use Rattle.pe_base.specs.declared.state.State.{State}
use Rattle.pe_base.specs.declared.state.State.TheVariants as state
use Rattle.pe_lines.specs.Words.{Word}
use Rattle.pe_events.specs.declared.event.AttrName.{AttrName}
use Rattle.pe_events.specs.declared.event.AttrName.TheVariants as attribute
use Rattle.pe_script.specs.Numerals.{bare}

-- the value of a name in a table
abbrev pub named_in : {A : Type 0} → List (List ℕ × A) → List ℕ → Option A
named_in table name = option_map (λ row. row.1) (find (λ row. bytes_eq row.0 name) table)

-- the word is bare and this keyword
abbrev pub is_keyword : List ℕ → Word → Bool
is_keyword keyword word = unwrap_or (option_map (λ text. bytes_eq text keyword) (bare word)) false

-- kinds of input
abbrev pub input_kinds : List (List ℕ × InputKind)
input_kinds =
    (codes "keydown", kind.Keydown)
    ∷ (codes "keydown-escape", kind.KeydownEscape)
    ∷ (codes "keydown-reserved", kind.KeydownReserved)
    ∷ (codes "mousedown", kind.Mousedown)
    ∷ (codes "mousemove", kind.Mousemove)
    ∷ (codes "pointerdown-mouse", kind.PointerdownMouse)
    ∷ (codes "pointerdown-pen", kind.PointerdownPen)
    ∷ (codes "pointerdown-touch", kind.PointerdownTouch)
    ∷ (codes "pointerup-mouse", kind.PointerupMouse)
    ∷ (codes "pointerup-pen", kind.PointerupPen)
    ∷ (codes "pointerup-touch", kind.PointerupTouch)
    ∷ (codes "touchend", kind.Touchend)
    ∷ []

-- permission states
abbrev pub states : List (List ℕ × State)
states = (codes "granted", state.Granted) ∷ (codes "denied", state.Denied) ∷ (codes "prompt", state.Prompt) ∷ []

-- attributes of a frame
abbrev pub attribute_names : List (List ℕ × AttrName)
attribute_names =
    (codes "src", attribute.Src)
    ∷ (codes "srcdoc", attribute.Srcdoc)
    ∷ (codes "allow", attribute.Allow)
    ∷ (codes "sandbox", attribute.Sandbox)
    ∷ (codes "fullscreen", attribute.Fullscreen)
    ∷ []

-- the value that a bare word names in a table
abbrev pub keyword_in : {A : Type 0} → List (List ℕ × A) → Word → Option A
keyword_in table word = option_and_then (named_in table) (bare word)
