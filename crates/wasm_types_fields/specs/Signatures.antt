-- Functions as contracts see them, by their parameters and their results: what `==`, `cmp` and `hash` do with these.
use Rattle.std.specs.Prelude.{List, Bool, ◌++◌}
use Rattle.std.specs.Cmp.Lexicographic.{pointwise, slice_cmp}
use Rattle.std.specs.Hash.{HashWrites, slice}
use Rattle.std.specs.Ordering.{on, eq_of_both, then_cmp}
use Rattle.std.specs.declared.cmp.Ordering.{Ordering}
use Rattle.wasm_types_values.specs.declared.value.ValType.{ValType}
use Rattle.wasm_types_values.specs.contracts.value.ValTypePartialEq.TheImpl as equal
use Rattle.wasm_types_values.specs.contracts.value.ValTypeOrd.TheImpl as order
use Rattle.wasm_types_values.specs.contracts.value.ValTypeHash.TheImpl as hash

-- the parameters and the results of a function
pub record Signature : Type 0 where
  pub params : List ValType
  pub results : List ValType

-- equal are functions of equal parameters and of equal results
abbrev pub signature_eq : Signature → Signature → Bool
signature_eq = eq_of_both (on (λ f. f.params) (pointwise equal.ghosts.eq)) (on (λ f. f.results) (pointwise equal.ghosts.eq))

-- by the parameters, and then by the results
abbrev pub signature_cmp : Signature → Signature → Ordering
signature_cmp = then_cmp (on (λ f. f.params) (slice_cmp order.ghosts.cmp)) (on (λ f. f.results) (slice_cmp order.ghosts.cmp))

-- the parameters, and then the results
abbrev pub signature_writes : Signature → HashWrites
signature_writes f = slice hash.ghosts.hash_input f.params ++ slice hash.ghosts.hash_input f.results
