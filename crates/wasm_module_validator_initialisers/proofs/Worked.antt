-- The worked items.
use Rattle.std.specs.Prelude.{pos, slice_get}
use Rattle.std.proofs.Common.{◌≡◌, ◌∙◌, ℕ, List, [], ◌∷◌, ◌++◌, Option, Some, None, refl, sym, ap, subst, rules, lit<, inl}
use Rattle.wasm_types.specs.decoding.Leb.{nonnegative}
use Rattle.wasm_types.specs.settings.Features.{has}
use Rattle.wasm_types.specs.settings.Settings.{Settings}
use Rattle.wasm_types.specs.trees.Types.{i32, i64, number}
use Rattle.wasm_types.specs.trees.Below.{Below}
use Rattle.wasm_types.specs.values.Reference.{Reference}
use Rattle.wasm_types.specs.values.declared.value.ValType.TheVariants as value
use Rattle.wasm_types.specs.externs.declared.memory.MemoryType.{MemoryType}
use Rattle.wasm_sections_items.specs.segments.Spells as data_mode
use Rattle.wasm_operators_immediates.specs.declared.frames.FrameKind.TheVariants.{Block}
use Rattle.wasm_operators_enums.specs.Op.{Op}
use Rattle.wasm_operators_encoding.specs.Opcodes.{Spells}
use Rattle.wasm_operators_encoding.specs.expressions.Code.{Code, close, plain, nested, turn, walk}
use Rattle.wasm_operators_encoding.specs.expressions.Spelling.{SpelledExpression, SpelledOperators}
use Rattle.wasm_operators_encoding.specs.expressions.SpellingLaws.{one_expression}
use Rattle.wasm_operators_enums.specs.Roles.{role_of, effect}
use Rattle.wasm_operators_enums.specs.declared.role.Effect.TheVariants.{Stays}
use Rattle.wasm_operator_validator_rules.specs.Operands.{ValueType, known}
use Rattle.wasm_operator_validator_rules.specs.Context.{Module, Context, Initialised, inside, address_type}
use Rattle.wasm_operator_validator_rules.specs.InstructionTypes.{◌⟶◌}
use Rattle.wasm_operator_validator_rules.specs.Row.{Row}
use Rattle.wasm_operator_validator_rules.specs.Typed.{IsBody}
use Rattle.wasm_operator_validator_rules.specs.constants.Constants.{constant_context, IsConstant, seeing}
use Rattle.wasm_module_validator_checks.specs.rules.Spaces.{value_in}
use Rattle.wasm_module_validator_checks.specs.rules.worked.Trees.{everything, only, constant as short_constant, long as long_constant, funcref}
use Rattle.wasm_module_validator_initialisers.specs.segments.Judged.{IsConstantText, IsTable, IsData}
use Rattle.wasm_module_validator_initialisers.specs.segments.Worked.{short, long, nothing, with_memory, with_wide_memory, table_of, GlobalsWorked, TablesWorked, DataWorked}

-- ---- the bytes, and what they spell

abbrev pub five : Code
five = only (short_constant (pos 5))

abbrev pub long_five : Code
long_five = only (long_constant (pos 5))

module _ (z : Settings) where
  pub short_spelled : SpelledExpression z five short
  short_spelled = record {
    expression = (refl, refl);
    spelled = (
      0x41 ∷ 0x05 ∷ [],
      0x0b ∷ [],
      record { canonical = refl; front = 0x41 ∷ []; back = 0x05 ∷ []; opcode = (refl, refl); carried = (0x05 ∷ [], [], nonnegative 32 (pos 5) 5 (lit< tt) (lit< tt) refl, refl, refl); whole = refl },
      (0x0b ∷ [], [], record { canonical = refl; front = 0x0b ∷ []; back = []; opcode = (refl, refl); carried = refl; whole = refl }, refl, refl),
      refl,
    );
  }

  pub long_spelled : SpelledExpression z long_five long
  long_spelled = record {
    expression = (refl, refl);
    spelled = (
      0x42 ∷ 0x05 ∷ [],
      0x0b ∷ [],
      record { canonical = refl; front = 0x42 ∷ []; back = 0x05 ∷ []; opcode = (refl, refl); carried = (0x05 ∷ [], [], nonnegative 64 (pos 5) 5 (lit< tt) (lit< tt) refl, refl, refl); whole = refl },
      (0x0b ∷ [], [], record { canonical = refl; front = 0x0b ∷ []; back = []; opcode = (refl, refl); carried = refl; whole = refl }, refl, refl),
      refl,
    );
  }

-- ---- constants

-- one operator that gives what the result is taken from
module _ (bits : ℕ) (g : Module) (t : ValueType) (o : Op) where
  abbrev here : Context
  here = inside Block (t ∷ []) (constant_context bits g t)

  gives : effect (role_of o) Block ≡ Some Stays → ((set : Initialised) → Row here set o [] (known t ∷ [])) → Below t t → IsBody (constant_context bits g t) 0 (only o)
  gives stays row below = record {
    expression = (stays, refl);
    typed = (known t ∷ [], ([], known t ∷ [], [], row _, tt, refl), ((below, tt), tt, tt));
  }

pub is_short : (g : Module) → IsConstant 0xfff_ffff g 0 (number i32) five
unfolding has
is_short g = record {
  operators = (tt, (tt, tt));
  typed = gives 0xfff_ffff g (number i32) (short_constant (pos 5)) refl (λ set. (search rules, (([] ⟶ number i32 ∷ []), refl, (refl, refl)))) refl;
}

pub is_long : (g : Module) → IsConstant 0xfff_ffff g 0 (number i64) long_five
unfolding has
is_long g = record {
  operators = (tt, (tt, tt));
  typed = gives 0xfff_ffff g (number i64) (long_constant (pos 5)) refl (λ set. (search rules, (([] ⟶ number i64 ∷ []), refl, (refl, refl)))) refl;
}

-- a constant is of no other type
module _ (z : Settings) (g : Module) where
  pub short_is_not : (t : ValueType) → (IsConstant z.features g 0 t five → ⊥) → IsConstantText z g 0 t short → ⊥
  short_is_not t none (c, spelled, h) = none (subst (λ (d : Code). IsConstant z.features g 0 t d) (one_expression z c five short spelled (short_spelled z)) h)

  pub long_is_not : (t : ValueType) → (IsConstant z.features g 0 t long_five → ⊥) → IsConstantText z g 0 t long → ⊥
  long_is_not t none (c, spelled, h) = none (subst (λ (d : Code). IsConstant z.features g 0 t d) (one_expression z c long_five long spelled (long_spelled z)) h)

-- an opcode has a byte
some_byte : (p : Option ℕ) (code : ℕ) (text : List ℕ) → Spells p code text → text ≡ [] → ⊥
some_byte None code text h e = let f : [] ≡ code ∷ [] = sym e ∙ h.1 in cc
some_byte (Some b) code text h e = let f : [] ≡ b ∷ h.0 = sym e ∙ h.3 in cc

nothing_in_front : (a b : List ℕ) → [] ≡ a ++ b → a ≡ []
nothing_in_front [] b e = refl
nothing_in_front (x ∷ a) b e = let f : [] ≡ x ∷ (a ++ b) = e in absurd cc

first_spelled : (z : Settings) (o : Op) (os : List Op) → SpelledOperators z (o ∷ os) [] → ⊥
first_spelled z o os (front, back, spelled, rest, e) =
    some_byte _ _ spelled.front spelled.opcode (nothing_in_front spelled.front spelled.back (sym (nothing_in_front front back e) ∙ spelled.whole))

-- no expression is no bytes
pub not_nothing : (z : Settings) (c : Code) → SpelledExpression z c [] → ⊥
not_nothing z (close o) h = first_spelled z o [] h.spelled
not_nothing z (plain o more) h = first_spelled z o (walk more) h.spelled
not_nothing z (nested o body more) h = first_spelled z o (walk body ++ walk more) h.spelled
not_nothing z (turn o more) h = first_spelled z o (walk more) h.spelled

-- what a table is given, or a memory's segment, has a type
given_text : (z : Settings) (g : Module) (r : Reference) (text : List ℕ) → IsTable z g 0 (table_of r (Some text)) → IsConstantText z (seeing 0 g) 0 (value_in g.types (value.Ref r)) text
given_text z g r text (None, s, h) = absurd s
given_text z g r text (Some c, s, (valid, h)) = (c, s, h.1)

placed_text : (z : Settings) (g : Module) (x : ℕ) (text : List ℕ) (v : MemoryType) → slice_get g.memories x ≡ Some v → IsData z g 0 (data_mode.active x text)
    → IsConstantText z g 0 (address_type v.memory64) text
placed_text z g x text v found (data_mode.passive, s, h) = absurd s
placed_text z g x text v found (data_mode.active y c, s, (w, there, typed)) =
    let both : Some w ≡ Some v = sym there ∙ ap (λ (i : ℕ). slice_get g.memories i) (sym s.0) ∙ found in
    let same : w ≡ v = cc in
    (c, s.1, subst (λ (u : MemoryType). IsConstant z.features g 0 (address_type u.memory64) c) same typed)

-- ---- rows

pub globals_worked : GlobalsWorked
unfolding has
globals_worked = record {
  short_one = (five, short_spelled everything, (record { content = (_, record { allowed = search rules; known = tt; is = refl }); shared = search rules }, is_short _));
  long_one = (long_five, long_spelled everything, (record { content = (_, record { allowed = search rules; known = tt; is = refl }); shared = search rules }, is_long _));
  of_another_type = λ h. short_is_not everything _ (number i64) (search rules) (h.0, h.1, h.2.1);
  nothing_spelled = λ h. not_nothing everything h.0 h.1;
}

pub tables_worked : TablesWorked
unfolding has
tables_worked = record {
  nulls = (None, tt, (record { element = inl refl; limits = search rules; wide = search rules; shared = search rules }, search rules));
  never_null = search rules;
  of_another_type = λ h. short_is_not everything (seeing 0 nothing) _ (search rules) (given_text everything nothing funcref short h);
  here = (record { element = inl refl; limits = search rules; wide = search rules; shared = search rules }, search rules);
  here_never_null = search rules;
  here_needs = search rules;
}

pub data_worked : DataWorked
unfolding has
data_worked = record {
  placed = (data_mode.active 0 five, (refl, short_spelled everything), (_, refl, is_short _));
  placed_by_long = λ h. long_is_not everything with_memory (number i32) (search rules) (placed_text everything with_memory 0 long _ refl h);
  placed_wide = (data_mode.active 0 long_five, (refl, long_spelled everything), (_, refl, is_long _));
  placed_wide_by_short = λ h. short_is_not everything with_wide_memory (number i64) (search rules) (placed_text everything with_wide_memory 0 short _ refl h);
  memory_unknown = search rules;
  passive = search rules;
  passive_needs = search rules;
}
