-- Values that are of a type and values that are not.
use Rattle.std.specs.Prelude.{true, false, [], ◌∷◌, Some, None}
use Rattle.wasm_types.specs.trees.Types.{Abstract, i32, i64, number, ref, abstract, concrete, exact, func, nofunc, extern, noextern, any, eq, struct, array, exn, noexn, cont, nocont}
use Rattle.wasm_operator_validator_rules.specs.Operands.{ValueType, bottom, some_reference, known}
use Rattle.wasm_operator_validator_rules.specs.worked.Contexts.{somewhere, widening, procedure, any_function, any_external}
use Rattle.wasm_operator_validator_soundness.specs.Values.{Value, number_value, ref_null, ref_defined, ref_i31, ref_host, ref_extern, ref_exn, Fits, AllFit}
use Rattle.wasm_operator_validator_soundness.specs.Soundness.{AreLocals}

abbrev pub one_i32 : Value
one_i32 = number_value i32

abbrev pub one_i64 : Value
one_i64 = number_value i64

-- a function of the first type of the worked module, and the null of functions
abbrev pub a_function : Value
a_function = ref_defined widening

abbrev pub no_function : Value
no_function = ref_null false func

-- a reference that is never null, or that may be, and is not shared
abbrev pub some_ref : Abstract → ValueType
some_ref h = ref false (abstract false h)

abbrev pub null_ref : Abstract → ValueType
null_ref h = ref true (abstract false h)

abbrev pub IsNot : Value → ValueType → Type 0
IsNot v t = Fits v t → ⊥

pub record ValuesWorked : Type 0 where
  pub same_number : Fits one_i32 (number i32)
  pub other_number : IsNot one_i32 (number i64)
  pub number_as_reference : IsNot one_i32 any_function
  pub function : Fits a_function (ref false (concrete widening))
  pub function_exactly : Fits a_function (ref false (exact widening))
  pub function_of_any_type : Fits a_function any_function
  pub function_of_other_type : IsNot a_function (ref false (exact procedure))
  pub function_as_external : IsNot a_function any_external
  pub null : Fits no_function any_function
  pub null_of_type : Fits no_function (ref true (concrete widening))
  pub null_of_bottom : Fits no_function (null_ref nofunc)
  pub null_as_function : IsNot no_function (some_ref func)
  pub null_shared : IsNot no_function (ref true (abstract true func))
  pub null_of_others : IsNot no_function any_external
  pub null_of_external : Fits (ref_null false extern) (null_ref noextern)
  pub null_of_exception : Fits (ref_null false exn) (null_ref noexn)
  pub null_of_continuation : Fits (ref_null false cont) (null_ref nocont)
  pub null_of_object : Fits (ref_null false array) (null_ref struct)
  pub scalar : Fits (ref_i31 false) (some_ref eq)
  pub scalar_as_object : IsNot (ref_i31 false) (null_ref struct)
  pub host : Fits (ref_host false) (some_ref any)
  pub host_compared : IsNot (ref_host false) (some_ref eq)
  pub external : Fits (ref_extern false) (some_ref extern)
  pub external_in_any : IsNot (ref_extern false) (some_ref any)
  pub exception : Fits (ref_exn false procedure) (some_ref exn)
  pub exception_as_null : IsNot (ref_exn false procedure) (null_ref noexn)
  -- lists of them, for operands that are known
  pub all : AllFit (one_i32 ∷ a_function ∷ []) (known (number i32) ∷ known any_function ∷ [])
  pub too_few : AllFit (one_i32 ∷ []) (known (number i32) ∷ known (number i32) ∷ []) → ⊥
  pub too_many : AllFit (one_i32 ∷ []) [] → ⊥
  pub second_other : AllFit (one_i32 ∷ one_i32 ∷ []) (known (number i32) ∷ known (number i64) ∷ []) → ⊥
  pub none_for_bottom : AllFit (one_i32 ∷ []) (bottom ∷ []) → ⊥
  pub none_for_some_reference : AllFit (a_function ∷ []) (some_reference ∷ []) → ⊥
  -- the locals of the worked function: an i32, an i64 and a reference that is never null
  pub local_missing : AreLocals somewhere 0 (Some one_i32 ∷ None ∷ None ∷ []) → ⊥
  pub argument_missing : AreLocals somewhere 3 (Some one_i32 ∷ Some one_i64 ∷ None ∷ []) → ⊥
  pub local_other : AreLocals somewhere 0 (Some one_i32 ∷ Some one_i32 ∷ None ∷ []) → ⊥
  pub locals_too_few : AreLocals somewhere 0 (Some one_i32 ∷ Some one_i64 ∷ []) → ⊥
  pub locals : AreLocals somewhere 0 (Some one_i32 ∷ Some one_i64 ∷ None ∷ [])
  pub local_given : AreLocals somewhere 3 (Some one_i32 ∷ Some one_i64 ∷ Some a_function ∷ [])
