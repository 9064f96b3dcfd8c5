-- Values at run time (WebAssembly 3.0, execution, runtime structure, values), as far as their types go: a number without its
-- bits, and a reference without what it leads to, which instructions that stay in one activation never look at. A value has
-- one least type, and is of each type above it (appendix, soundness, values and results).
use Rattle.std.specs.Prelude.{Bool, true, false, List, [], ◌∷◌}
use Rattle.wasm_types.specs.trees.Types.{Number, Abstract, func, extern, any, none, noextern, nofunc, eq, struct, array, i31, exn, noexn, cont, nocont, abstract, exact, number, ref}
use Rattle.wasm_types.specs.trees.Trees.{TypeTree}
use Rattle.wasm_types.specs.trees.Below.{Below}
use Rattle.wasm_operator_validator_rules.specs.Operands.{ValueType, Operand, bottom, some_reference, known}

-- A number or vector of a type; a null of the hierarchy in which an abstract type is; a function, a structure or an array, by
-- the type that it was made with; an unboxed scalar; what the host has in `any`; an external reference; an exception, by the
-- type of its tag. Where a reference has no type that tells, it is shared (true) or not.
pub data Value : Type 0 where
  number_value : Number → Value
  ref_null : Bool → Abstract → Value
  ref_defined : TypeTree → Value
  ref_i31 : Bool → Value
  ref_host : Bool → Value
  ref_extern : Bool → Value
  ref_exn : Bool → TypeTree → Value

-- the bottom of the hierarchy of each abstract type (validation, matching, heap types)
abbrev pub bottom_under : Abstract → Abstract
bottom_under func = nofunc
bottom_under nofunc = nofunc
bottom_under extern = noextern
bottom_under noextern = noextern
bottom_under exn = noexn
bottom_under noexn = noexn
bottom_under cont = nocont
bottom_under nocont = nocont
bottom_under any = none
bottom_under none = none
bottom_under eq = none
bottom_under struct = none
bottom_under array = none
bottom_under i31 = none

-- the least type of a value
abbrev pub least_type : Value → ValueType
least_type (number_value n) = number n
least_type (ref_null s a) = ref true (abstract s (bottom_under a))
least_type (ref_defined t) = ref false (exact t)
least_type (ref_i31 s) = ref false (abstract s i31)
least_type (ref_host s) = ref false (abstract s any)
least_type (ref_extern s) = ref false (abstract s extern)
least_type (ref_exn s t) = ref false (abstract s exn)

-- a value is of a type
abbrev pub Fits : Value → ValueType → Type 0
Fits v t = Below (least_type v) t

-- each of the values is of one type
abbrev pub EachFits : List Value → ValueType → Type 0
EachFits [] t = Unit {0}
EachFits (v ∷ vs) t = Fits v t × EachFits vs t

-- No value is of the bottom type, or a reference to the bottom heap type: so no value stands where the rules know no more than
-- that of an operand, since such a place is never reached.
abbrev pub FitsOperand : Value → Operand → Type 0
FitsOperand v bottom = ⊥
FitsOperand v some_reference = ⊥
FitsOperand v (known t) = Fits v t

-- each value for the operand in its place, and as many of both
abbrev pub AllFit : List Value → List Operand → Type 0
AllFit [] [] = Unit {0}
AllFit [] (t ∷ ts) = ⊥
AllFit (v ∷ vs) [] = ⊥
AllFit (v ∷ vs) (t ∷ ts) = FitsOperand v t × AllFit vs ts
