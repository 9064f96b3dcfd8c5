-- What is there of options, and what the table of instruction types says of types that are named.
use Rattle.std.proofs.Common.{◌≡◌, ℕ, Bool, true, false, Option, Some, None, refl, ap, ◌∙◌, slice_get, option_map, option_and_then, if◌then◌else◌}
use Rattle.wasm_types.specs.trees.Types.{InnerOf, function, array_of, struct_of, continuation}
use Rattle.wasm_types.specs.trees.Trees.{TypeTree}
use Rattle.wasm_types.specs.trees.Below.{is_shared}
use Rattle.wasm_operator_validator_rules.specs.Context.{Context, Signature, address_type, may_use}
use Rattle.wasm_operator_validator_rules.specs.Named.{as_function, used_type}
use Rattle.wasm_operator_validator_rules.specs.InstructionTypes.{InstructionType, named as named_type}
use Rattle.wasm_operator_validator_soundness.specs.runs.Machine.{address}
use Rattle.wasm_operator_validator_soundness.proofs.RunsInvariant.{none_is_some, some_same}

pub and_then_some : {A B : Type 0} (f : A → Option B) (o : Option A) (y : B) → option_and_then f o ≡ Some y → (x : A) × (o ≡ Some x) × (f x ≡ Some y)
and_then_some f None y e = absurd (none_is_some y e)
and_then_some f (Some x) y e = (x, refl, e)

pub map_some : {A B : Type 0} (f : A → B) (o : Option A) (y : B) → option_map f o ≡ Some y → (x : A) × (o ≡ Some x) × (f x ≡ y)
map_some f None y e = absurd (none_is_some y e)
map_some f (Some x) y e = (x, refl, some_same (f x) y e)

pub if_some : {A : Type 0} (b : Bool) (x y : A) → (if b then Some x else None) ≡ Some y → x ≡ y
if_some true x y e = some_same x y e
if_some false x y e = absurd (none_is_some y e)

pub if_there : {A : Type 0} (b : Bool) (o : Option A) (y : A) → (if b then o else None) ≡ Some y → o ≡ Some y
if_there true o y e = e
if_there false o y e = absurd (none_is_some y e)

pub used_is : (g : Context) (x : ℕ) (t : TypeTree) → used_type g x ≡ Some t → slice_get g.«module».types x ≡ Some t
used_is g x t e =
    let r = and_then_some (λ u. if may_use g (is_shared u) then Some u else None) (slice_get g.«module».types x) t e in
    r.1 ∙ ap Some (if_some (may_use g (is_shared r.0)) r.0 t r.2)

pub as_function_is : (x : InnerOf TypeTree) (b : Signature) → as_function x ≡ Some b → x ≡ function b.params b.results
as_function_is (function ps rs) b e = ap (λ (c : Signature). function c.params c.results) (some_same _ b e)
as_function_is (array_of f) b e = absurd (none_is_some b e)
as_function_is (struct_of fs) b e = absurd (none_is_some b e)
as_function_is (continuation f) b e = absurd (none_is_some b e)

pub named_some : {A : Type 0} (o : Option A) (f : A → Option InstructionType) (t : InstructionType) → named_type o f ≡ Some t → (x : A) × (o ≡ Some x) × (f x ≡ Some t)
named_some None f t e = absurd (none_is_some t e)
named_some (Some x) f t e = (x, refl, e)

-- addresses by the machine and by the rules
pub address_is : (b : Bool) → address b ≡ address_type b
address_is true = refl
address_is false = refl
