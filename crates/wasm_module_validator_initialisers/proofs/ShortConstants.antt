-- References to functions, and globals, are constants of the types that they fit.
use Rattle.std.proofs.Common.{◌≡◌, ◌∙◌, ℕ, ◌+◌, ◌-◌, ◌≤◌, List, [], ◌∷◌, length, take, drop, Bool, true, false, Some, slice_get, refl, sym, subst, arith, bit_and}
use Rattle.std.proofs.lemmas.Bool.{eqb-true}
use Rattle.std.proofs.lemmas.List.{length-drop}
use Rattle.wasm_types.specs.settings.Features.{Gc, has, mask, ReferenceTypes}
use Rattle.wasm_types.specs.trees.Gates.{Has}
use Rattle.wasm_types.specs.trees.Below.{Below}
use Rattle.wasm_types.specs.trees.Types.{ref, concrete}
use Rattle.wasm_types.specs.trees.declared.index.CoreTypeId.{CoreTypeId}
use Rattle.wasm_types.specs.trees.declared.index.UnpackedIndex.TheVariants as index
use Rattle.wasm_types.specs.values.declared.heap.HeapType.TheVariants.{Concrete}
use Rattle.wasm_types.specs.values.declared.value.ValType.TheVariants as value
use Rattle.wasm_types.specs.values.Reference.{Reference}
use Rattle.wasm_operators_immediates.specs.declared.proposal.Proposal.TheVariants as proposal
use Rattle.wasm_operators_enums.specs.declared.bulk.BulkOperator.TheVariants as bulk
use Rattle.wasm_operators_enums.specs.declared.control.ControlOperator.TheVariants as control
use Rattle.wasm_operators_enums.specs.declared.memory.MemoryOperator.TheVariants as memory
use Rattle.wasm_operators_enums.specs.Op as op
use Rattle.wasm_operators_enums.specs.Op.{Op}
use Rattle.wasm_operators_enums.specs.Table.{info_of}
use Rattle.wasm_operators_encoding.specs.expressions.Spelling.{SpelledExpression}
use Rattle.wasm_operators_bodies.specs.declared.short.ShortConstant.TheVariants as short
use Rattle.wasm_operators_bodies.specs.Short.{alone, SpellsShort}
use Rattle.wasm_operator_validator_state.specs.resources.Meaning.{Meaning, type_in, type_of_id}
use Rattle.wasm_operator_validator_rules.specs.Operands.{ValueType, known}
use Rattle.wasm_operator_validator_rules.specs.Context.{Context, Module, Global, may_use}
use Rattle.wasm_operator_validator_rules.specs.InstructionTypes.{◌⟶◌, global_at}
use Rattle.wasm_operator_validator_rules.specs.Row.{IsEnabled, IsOneOf, names_float, of_type}
use Rattle.wasm_operator_validator_rules.specs.constants.Constants.{IsConstant, constant_context}
use Rattle.wasm_module_validator_initialisers.specs.segments.NumberLaws.{plainly}
use Rattle.wasm_module_validator_fast_constants.specs.Steps.{IsShortConstant}
use Rattle.wasm_module_validator_initialisers.specs.elements.Short.{FitsFunction}

enabled : (bits : ℕ) (o : Op) → (info_of o).proposal ≡ proposal.ReferenceTypes → names_float o ≡ false → Has bits ReferenceTypes → IsEnabled bits o
unfolding has
enabled bits o e f h =
    let met : bit_and bits (mask ReferenceTypes) ≡ mask ReferenceTypes = eqb-true _ _ h in
    record { proposal = rw e met; floats = λ t. let d : false ≡ true = sym f ∙ t in cc }

module _ (bits : ℕ) (allowed : Has bits ReferenceTypes) (g : Module) (t : ValueType) where
  pub function_fits : (x : ℕ) → FitsFunction g t x → (count : ℕ) → IsConstant bits g count t (alone (op.Bulk (bulk.RefFunc x)))
  function_fits x (f, found, referenced, below) count =
      let o = op.Bulk (bulk.RefFunc x) in
      let s = known (ref false (concrete f)) in
      record {
        operators = (tt, (tt, tt));
        typed = record {
          expression = (refl, refl);
          typed = (
            s ∷ [],
            ([], s ∷ [], [], (enabled bits o refl refl allowed, (f, concrete f, found, referenced, (λ e. absurd cc), of_type, (refl, refl))), tt, refl),
            ((below, tt), tt, tt),
          );
        };
      }

-- ---- globals

-- a global that is never written, and whose type fits
abbrev pub FitsGlobal : Module → ValueType → ℕ → Type 0
FitsGlobal g t x = (v : Global) × (slice_get g.globals x ≡ Some v) × (v.mutable ≡ false) × Below v.content t

global_type : (c : Context) (x : ℕ) (v : Global) → slice_get c.«module».globals x ≡ Some v → may_use c v.shared ≡ true
    → global_at c x (λ w. Some ([] ⟶ w.content ∷ [])) ≡ Some ([] ⟶ v.content ∷ [])
global_type c x v there may = rw (there, may) refl

may : (bits : ℕ) (g : Module) (t : ValueType) (s : Bool) → may_use (constant_context bits g t) s ≡ true
may bits g t true = refl
may bits g t false = refl

pub global_fits : (bits : ℕ) (g : Module) (t : ValueType) (x : ℕ) → Has bits Gc → FitsGlobal g t x → (count : ℕ) → IsConstant bits g count t (alone (op.Memory (memory.GlobalGet x)))
global_fits bits g t x gc (v, there, kept, below) count =
    let o = op.Memory (memory.GlobalGet x) in
    record {
      operators = ((v, there, kept, λ _. gc), (tt, tt));
      typed = record {
        expression = (refl, refl);
        typed = (
          known v.content ∷ [],
          (
            [],
            known v.content ∷ [],
            [],
            (plainly bits o refl refl, ([] ⟶ v.content ∷ [], global_type (constant_context bits g t) x v there (may bits g t v.shared), (refl, refl))),
            tt,
            refl,
          ),
          ((below, tt), tt, tt),
        );
      };
    }

-- ---- elements among other bytes

module _ (bits : ℕ) (allowed : Has bits ReferenceTypes) (g : Module) (t : ValueType) (text : List ℕ) (i : ℕ) where
  pub function_there : (x long : ℕ) → long ≤ length (drop i text) → i ≤ length text → SpellsShort (short.Function x) (take long (drop i text)) → FitsFunction g t x
      → IsShortConstant bits g t text i (i + long) (x ∷ [])
  function_there x long inside within spelled fits =
      let o = op.Bulk (bulk.RefFunc x) in
      let some = length-drop i text in
      let n : i + long - i ≡ long = omega arith in
      record {
        code = alone o;
        forward = omega arith;
        inside = omega (arith, some, inside, within);
        spelled = λ z.
            let (p, is, told) = spelled z in
            subst (λ (k : ℕ). SpelledExpression z (alone o) (take k (drop i text))) (sym n)
            (subst (λ (q : Op). SpelledExpression z (alone q) (take long (drop i text))) is told);
        once = record { front = o ∷ []; last = op.Control control.End; whole = refl; none = (refl, tt); ended = refl };
        constant = function_fits bits allowed g t x fits;
        named = refl;
      }

-- ---- what the code asks

module _ (m : Meaning) (t : ValueType) where
  pub function_of : (x : ℕ) (i : CoreTypeId) (r : Reference) → Some (type_of_id m i) ≡ slice_get m.«module».functions x → IsOneOf x m.«module».referenced
      → r ≡ record { nullable = false; heap = Concrete (index.Id i) } → Below (type_in m (value.Ref r)) t → FitsFunction m.«module» t x
  unfolding type_in
  function_of x i r found referenced is below =
      (type_of_id m i, sym found, referenced, subst (λ (y : Reference). Below (type_in m (value.Ref y)) t) is below)
