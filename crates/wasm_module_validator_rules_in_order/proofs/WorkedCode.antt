-- Constants of worked globals.
use Rattle.std.specs.Prelude.{ℤ}
use Rattle.std.proofs.Common.{◌≡◌, ℕ, List, [], ◌∷◌, Some, false, refl, rules}
use Rattle.wasm_types.specs.settings.Features.{has}
use Rattle.wasm_types.specs.trees.Types.{i32, number}
use Rattle.wasm_types.specs.values.declared.value.ValType.TheVariants as value
use Rattle.wasm_operators_immediates.specs.declared.frames.FrameKind.TheVariants.{Block}
use Rattle.wasm_operators_enums.specs.Op.{Op}
use Rattle.wasm_operators_enums.specs.Roles.{role_of, effect}
use Rattle.wasm_operators_enums.specs.declared.role.Effect.TheVariants.{Stays}
use Rattle.wasm_operator_validator_rules.specs.Operands.{known}
use Rattle.wasm_operator_validator_rules.specs.Context.{Module, Global, Context, Initialised, inside}
use Rattle.wasm_operator_validator_rules.specs.InstructionTypes.{◌⟶◌}
use Rattle.wasm_operator_validator_rules.specs.Row.{Row}
use Rattle.wasm_operator_validator_rules.specs.Typed.{IsBody}
use Rattle.wasm_operator_validator_rules.specs.constants.Constants.{constant_context, IsConstant}
use Rattle.wasm_module_validator_rules.specs.Valid.{IsValidGlobalType}
use Rattle.wasm_module_validator_rules.specs.worked.Trees.{everything, constant, only, global_get, constant_of}

pub number_global : (g : Module) → IsValidGlobalType everything g (constant_of value.I32)
number_global g = record { content = (_, record { allowed = search rules; known = tt; is = refl }); shared = search rules }

-- one operator that gives the result
module _ (g : Module) (o : Op) where
  abbrev here : Context
  here = inside Block (number i32 ∷ []) (constant_context 0xfff_ffff g (number i32))

  gives : effect (role_of o) Block ≡ Some Stays → ((set : Initialised) → Row here set o [] (known (number i32) ∷ [])) → IsBody (constant_context 0xfff_ffff g (number i32)) 0 (only o)
  gives stays row = record {
    expression = (stays, refl);
    typed = (known (number i32) ∷ [], ([], known (number i32) ∷ [], [], row _, tt, refl), ((refl, tt), tt, tt));
  }

pub is_constant : (g : Module) (count : ℕ) (x : ℤ) → IsConstant 0xfff_ffff g count (number i32) (only (constant x))
unfolding has
is_constant g count x = record { operators = (tt, (tt, tt)); typed = gives g (constant x) refl (λ set. (search rules, (([] ⟶ number i32 ∷ []), refl, (refl, refl)))) }

-- the first global, which is of 32 bits and never written
module _ (g : Module) (vs : List Global) where
  abbrev with_first : Module
  with_first = record g { globals = record { content = number i32; mutable = false; shared = false } ∷ vs }

  pub reads_first : (count : ℕ) → IsConstant 0xfff_ffff with_first count (number i32) (only (global_get 0))
  unfolding has
  reads_first count = record {
    operators = ((_, refl, refl, λ c. refl), (tt, tt));
    typed = gives with_first (global_get 0) refl (λ set. (search rules, (([] ⟶ number i32 ∷ []), refl, (refl, refl))));
  }
