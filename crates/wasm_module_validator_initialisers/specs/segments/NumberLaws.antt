-- A number is a constant of its type in any module.
use Rattle.std.proofs.Common.{◌≡◌, ℕ, List, [], ◌∷◌, true, false, refl, sym, ◌∙◌, subst, arith, bit_and}
use Rattle.std.proofs.lemmas.Nat.{and_le_r}
use Rattle.wasm_types.specs.settings.Settings.{Settings}
use Rattle.wasm_operators_enums.specs.declared.constant.ConstOperator.{ConstOperator}
use Rattle.wasm_operators_enums.specs.declared.constant.ConstOperator.TheVariants as constant
use Rattle.wasm_operators_immediates.specs.declared.proposal.Proposal.TheVariants.{Mvp}
use Rattle.wasm_operators_enums.specs.Op as op
use Rattle.wasm_operators_enums.specs.Op.{Op}
use Rattle.wasm_operators_enums.specs.Table.{info_of}
use Rattle.wasm_operators_bodies.specs.declared.short.ShortConstant.TheVariants as short
use Rattle.wasm_operators_bodies.specs.Short.{alone, SpellsShort}
use Rattle.wasm_operator_validator_rules.specs.Numbers.{constant_type}
use Rattle.wasm_operator_validator_rules.specs.Operands.{known}
use Rattle.wasm_operator_validator_rules.specs.Context.{Module}
use Rattle.wasm_operator_validator_rules.specs.Row.{IsEnabled, names_float}
use Rattle.wasm_operator_validator_rules.specs.constants.Constants.{IsConstant}
use Rattle.wasm_types.specs.trees.Types.{number, i32, i64}
use Rattle.wasm_types.specs.trees.laws.Below.{below_reflexive}
use Rattle.wasm_operators_immediates.specs.Info.{features_of}
use Rattle.wasm_module_validator_initialisers.specs.segments.Judged.{IsConstantText}

nothing_asked : (bits : ℕ) → bit_and bits (features_of Mvp) ≡ features_of Mvp
nothing_asked bits = let h = and_le_r bits 0 in omega arith

pub plainly : (bits : ℕ) (o : Op) → (info_of o).proposal ≡ Mvp → names_float o ≡ false → IsEnabled bits o
plainly bits o e f = record { proposal = rw e (nothing_asked bits); floats = λ t. let d : false ≡ true = sym f ∙ t in cc }

-- one that needs no feature
is_constant : (bits : ℕ) (g : Module) (count : ℕ) (o : ConstOperator) → (info_of (op.Const o)).proposal ≡ Mvp → names_float (op.Const o) ≡ false
    → IsConstant bits g count (number (constant_type o)) (alone (op.Const o))
is_constant bits g count o e f =
    let t = number (constant_type o) in
    record {
      operators = (tt, (tt, tt));
      typed = record {
        expression = (refl, refl);
        typed = (
          known t ∷ [],
          ([], known t ∷ [], [], (plainly bits (op.Const o) e f, (_, refl, (refl, refl))), tt, refl),
          ((below_reflexive t, tt), tt, tt),
        );
      };
    }

module _ (z : Settings) (g : Module) (count : ℕ) (text : List ℕ) where
  pub i32_text : SpellsShort short.I32 text → IsConstantText z g count (number i32) text
  i32_text h =
      let (o, (n, e), spelled) = h z in
      (alone o, spelled, subst (λ (p : Op). IsConstant z.features g count (number i32) (alone p)) (sym e) (is_constant z.features g count (constant.I32Const n) refl refl))

  pub i64_text : SpellsShort short.I64 text → IsConstantText z g count (number i64) text
  i64_text h =
      let (o, (n, e), spelled) = h z in
      (alone o, spelled, subst (λ (p : Op). IsConstant z.features g count (number i64) (alone p)) (sym e) (is_constant z.features g count (constant.I64Const n) refl refl))
