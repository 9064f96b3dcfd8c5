-- The rows of `Beginning`.
use Rattle.std.proofs.Common.{◌≡◌, ◌∙◌, ℕ, Bool, true, false, List, [], ◌∷◌, length, map, Option, Some, refl, sym, ap, arith, lit≤}
use Rattle.wasm_types.specs.trees.Types.{i32, i64, number, function}
use Rattle.wasm_types.specs.trees.Trees.{TypeTree, opened}
use Rattle.wasm_types.specs.trees.Below.{expanded, is_shared}
use Rattle.wasm_types.specs.values.declared.value.ValType.{ValType}
use Rattle.wasm_types.specs.values.declared.value.ValType.TheVariants.{I32, I64}
use Rattle.wasm_operators_immediates.specs.declared.block.BlockType.TheVariants as block
use Rattle.wasm_operator_validator_rules.specs.Operands.{ValueType}
use Rattle.wasm_operator_validator_rules.specs.Context.{Signature}
use Rattle.wasm_operator_validator_state.specs.resources.Meaning.{Meaning, type_in}
use Rattle.wasm_operator_validator_state.specs.State.{State, Open, types_in}
use Rattle.wasm_operator_validator_stacks.specs.Functions.{HasFunctionType, Begins}
use Rattle.wasm_operator_validator_tests.specs.Answers.{listed}
use Rattle.wasm_operator_validator_tests.specs.Beginning.{its_signature, begun_with, BeginningRows, ConstantsBegin}
use Rattle.wasm_operator_validator_rules.specs.arity.Worked.{splitting, pair}

-- the type and the signature at an index are one
same_params : (m : Meaning) (x : ℕ) (t u : TypeTree) (b c : Signature) → HasFunctionType m x t b → HasFunctionType m x u c → b.params ≡ c.params
same_params m x t u b c h k =
    let e : ◌≡◌ {A = Option TypeTree} (Some t) (Some u) = sym h.at ∙ k.at in
    let f : t ≡ u = cc in
    let g : function b.params b.results ≡ function c.params c.results = sym h.function ∙ ap expanded f ∙ k.function in
    cc

its_function : HasFunctionType listed 0 splitting its_signature
unfolding opened
its_function = record { at = refl; function = refl }

no_function : (t : TypeTree) (b : Signature) → HasFunctionType listed 1 t b → ⊥
unfolding opened
no_function t b h =
    let e = h.at in
    let f : pair ≡ t = cc in
    let g = ap expanded f ∙ h.function in
    absurd cc

no_type : (t : TypeTree) (b : Signature) → HasFunctionType listed 9 t b → ⊥
no_type t b h = let e = h.at in absurd cc

-- ---- what begins

params_are : (t : TypeTree) (b : Signature) → HasFunctionType listed 0 t b → number i64 ∷ [] ≡ b.params
params_are t b h = same_params listed 0 splitting t its_signature b its_function h

is_unshared : (t : TypeTree) (b : Signature) → HasFunctionType listed 0 t b → is_shared t ≡ false
unfolding opened
is_unshared t b h =
    let e = h.at in
    let f : splitting ≡ t = cc in
    sym (ap is_shared f)

module _ (xs : List ValType) (n x bits : ℕ) (s : Bool) (h : Begins listed bits 0 (begun_with xs n s x)) where
  locals_are : xs ≡ h.locals
  locals_are = ap (λ (σ : State). σ.given.locals) h.state

  types_are : types_in listed xs ≡ number i64 ∷ []
  types_are = ap (λ (ts : List ValType). types_in listed ts) locals_are ∙ h.params ∙ sym (params_are h.type h.signature h.function)

  set_are : n ≡ length xs
  set_are = ap (λ (σ : State). σ.given.params) h.state ∙ sym (ap (λ (ts : List ValType). length ts) locals_are)

  shared_is : s ≡ false
  shared_is = ap (λ (σ : State). σ.given.shared) h.state ∙ is_unshared h.type h.signature h.function

  block_is : block.FuncType x ∷ [] ≡ block.FuncType 0 ∷ []
  block_is = ap (λ (σ : State). map (λ (o : Open). o.block) σ.opens) h.state

its_state : Begins listed 5 0 (begun_with (I64 ∷ []) 1 false 0)
unfolding opened type_in
its_state = record { type = splitting; signature = its_signature; function = its_function; locals = I64 ∷ []; params = refl; state = refl }

other_local : Begins listed 5 0 (begun_with (I32 ∷ []) 1 false 0) → ⊥
unfolding type_in
other_local h = let e : ◌≡◌ {A = List ValueType} (number i32 ∷ []) (number i64 ∷ []) = types_are (I32 ∷ []) 1 0 5 false h in absurd cc

pub beginning_rows : BeginningRows
beginning_rows = record {
  function = its_function;
  no_function = no_function;
  no_type = no_type;
  may = (splitting, its_signature, its_function, lit≤ tt);
  may_not_without_locals = λ (t, b, h, few). let e = ap (λ (ts : List ValueType). length ts) (params_are t b h) in omega (arith, e, few);
  may_not_struct = λ most (t, b, h, few). no_function t b h;
  may_not_none = λ most (t, b, h, few). no_type t b h;
  may_not_large = λ m most x t b h many (u, c, k, few).
      let e = ap (λ (ts : List ValueType). length ts) (same_params m x t u b c h k) in omega (arith, e, many, few);
  begins = its_state;
  not_of_a_struct = λ h. no_function h.type h.signature h.function;
  no_other_features = λ h. let n = ap (λ (σ : State). σ.given.bits) h.state in omega (arith, n);
  not_without_locals = λ h. let e = types_are [] 0 0 5 false h in absurd cc;
  no_other_local = other_local;
  no_further_local = λ h. let e = types_are (I64 ∷ I32 ∷ []) 2 0 5 false h in absurd cc;
  not_unset = λ h. let n = set_are (I64 ∷ []) 0 0 5 false h in omega (arith, n);
  not_shared = λ h. let e = shared_is (I64 ∷ []) 1 0 5 true h in absurd cc;
  no_other_frame = λ h. let e = block_is (I64 ∷ []) 1 1 5 false h in let n : ◌≡◌ {A = ℕ} 1 0 = cc in omega (arith, n);
}

pub constants_begin : ConstantsBegin
constants_begin bits t = refl
