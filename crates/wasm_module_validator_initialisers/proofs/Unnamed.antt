-- Bytes without the opcode of `ref.func` spell code that refers to no function.
use Rattle.std.proofs.Common.{◌≡◌, ◌∙◌, ◌||◌, ℕ, Bool, true, false, List, [], ◌∷◌, ◌++◌, refl, sym, ap}
use Rattle.std.proofs.lemmas.List.{append-nil}
use Rattle.std.proofs.lemmas.List.Folds.{list_any-append}
use Rattle.std.specs.Prelude.{◌==◌}
use Rattle.std.specs.List.{flat_map, list_any}
use Rattle.wasm_types.specs.settings.Settings.{Settings}
use Rattle.wasm_operators_enums.specs.declared.bulk.BulkOperator.TheVariants as bulk
use Rattle.wasm_operators_enums.specs.Op as op
use Rattle.wasm_operators_enums.specs.Op.{Op}
use Rattle.wasm_operators_encoding.specs.Operators.{SpelledOperator}
use Rattle.wasm_operators_encoding.specs.expressions.Code.{walk}
use Rattle.wasm_operators_encoding.specs.expressions.Spelling.{SpelledOperators}
use Rattle.wasm_module_validator_checks.specs.rules.Spaces.{referred_by}
use Rattle.wasm_module_validator_resources.specs.referring.Naming.{NamesMore}

-- whether the opcode is among these bytes
abbrev pub is_among : List ℕ → Bool
is_among text = list_any (λ (b : ℕ). b == 0xd2) text

neither : (a b : Bool) → (a || b) ≡ false → (a ≡ false) × (b ≡ false)
neither false b e = (refl, e)
neither true b e = absurd cc

parts : (front back text : List ℕ) → text ≡ front ++ back → is_among text ≡ false → (is_among front ≡ false) × (is_among back ≡ false)
parts front back text e none =
    neither (is_among front) (is_among back) (sym (list_any-append (λ (b : ℕ). b == 0xd2) front back) ∙ ap is_among (sym e) ∙ none)

no_function : (z : Settings) (o : Op) (text : List ℕ) → SpelledOperator z o text → is_among text ≡ false → referred_by o ≡ []
no_function z (op.Bulk (bulk.RefFunc x)) text s none =
    let first : is_among (0xd2 ∷ []) ≡ false = ap is_among (sym s.opcode.1) ∙ (parts s.front s.back text s.whole none).0 in
    absurd cc
no_function z o text s none = refl

no_functions : (z : Settings) (os : List Op) (text : List ℕ) → SpelledOperators z os text → is_among text ≡ false → flat_map referred_by os ≡ []
no_functions z [] text s none = refl
no_functions z (o ∷ os) text (front, back, first, more, whole) none =
    let (one, others) = parts front back text whole none in
    ap (λ (xs : List ℕ). xs ++ flat_map referred_by os) (no_function z o front first one) ∙ no_functions z os back more others

pub names_none : (z : Settings) (text names : List ℕ) → is_among text ≡ false → NamesMore z text names names
names_none z text names none c s = sym (append-nil names) ∙ ap (λ (xs : List ℕ). names ++ xs) (sym (no_functions z (walk c) text s.spelled none))
