-- When the bodies of what was read are those of valid functions (WebAssembly 3.0, validation, functions).
use Rattle.std.specs.Prelude.{◌≡◌, ◌%◌, ℕ, suc, nat_eq, Bool, true, if◌then◌else◌, List, [], ◌∷◌}
use Rattle.std.specs.List.{AllZip}
use Rattle.wasm_types.specs.settings.Settings.{Settings}
use Rattle.wasm_module_validator_section_order.specs.rules.Syntax.{Function}
use Rattle.wasm_module_validator_section_order.specs.rules.Spaces.{module_of}
use Rattle.wasm_module_validator_section_order.specs.rules.Binary.{SpelledFunction}
use Rattle.wasm_module_validator_section_order.specs.rules.Valid.{HasValidBody}
use Rattle.wasm_module_validator_section_order.specs.rules_in_order.Steps.{SoFar}
use Rattle.wasm_module_validator_section_order.specs.declared.items.bodies.Body.{Body}

-- each body of what was read is that of a valid function of its type
abbrev pub AreBodies : Settings → SoFar → Type 0
AreBodies z q =
    AllZip (λ x body. (f : Function) × SpelledFunction z f body × HasValidBody z (module_of q.tree) x f) q.tree.functions q.bodies

-- ---- parts

-- Bodies are counted from 0. A part, of so many, has each body whose number is the part's modulo theirs.
abbrev pub is_of : ℕ → ℕ → ℕ → Bool
is_of part parts number = nat_eq (number % parts) part

-- those bodies of a part, of which the first has this number
abbrev pub of_part : ℕ → ℕ → ℕ → List Body → List Body
of_part part parts number [] = []
of_part part parts number (b ∷ bs) =
    if is_of part parts number then b ∷ of_part part parts (suc number) bs else of_part part parts (suc number) bs

-- there are as many of the one as of the other, of which the first has this number; and for each pair of the part this holds
abbrev pub AllOfPart : (ℕ → List ℕ → Type 0) → ℕ → ℕ → ℕ → List ℕ → List (List ℕ) → Type 0
AllOfPart R part parts number [] [] = Unit {0}
AllOfPart R part parts number [] (t ∷ ts) = ⊥
AllOfPart R part parts number (x ∷ xs) [] = ⊥
AllOfPart R part parts number (x ∷ xs) (t ∷ ts) = (is_of part parts number ≡ true → R x t) × AllOfPart R part parts (suc number) xs ts

-- each body of the part is that of a valid function of its type
abbrev pub ArePartBodies : Settings → ℕ → ℕ → SoFar → Type 0
ArePartBodies z part parts q =
    AllOfPart (λ x body. (f : Function) × SpelledFunction z f body × HasValidBody z (module_of q.tree) x f) part parts 0 q.tree.functions q.bodies
