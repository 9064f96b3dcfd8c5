-- The rows of `Answers`.
use Rattle.std.proofs.Common.{◌≡◌, Some, refl, ap, arith, lit<}
use Rattle.wasm_types.specs.trees.Trees.{TypeTree, opened}
use Rattle.wasm_types.specs.trees.Below.{expanded}
use Rattle.wasm_operator_validator_state.specs.resources.Meaning.{type_in}
use Rattle.wasm_operator_validator_rules.specs.arity.Worked.{splitting, pair}
use Rattle.wasm_operator_validator_tests.specs.Answers.{CountsEnd, NamesAnswered, NamesMean, FunctionTypes, KnowsModule, OperatorsAnswered}

pub counts_end : CountsEnd
counts_end = record { few = refl; most = refl; one_more = refl; many_taken = refl; many_given = refl; unknown = refl }

pub names_answered : NamesAnswered
unfolding opened
names_answered = record {
  known = refl;
  unknown = refl;
  index = refl;
  place = refl;
  abstract_type = λ s. refl;
  below = refl;
  itself = refl;
  of_function = refl;
  no_function = refl;
  no_type = refl;
  index_of_function = refl;
  named_by_id = refl;
  named_by_index = refl;
  named_by_place = refl;
  no_id = refl;
  no_index = refl;
  function_by_index = refl;
  no_function_by_index = refl;
  referred = refl;
  referred_itself = refl;
  number_refers = refl;
  abstract_refers = refl;
}

pub names_mean : NamesMean
unfolding opened type_in
names_mean = record {
  of_index = refl;
  of_by_id = refl;
  of_heap = refl;
  of_heap_itself = refl;
  of_number = refl;
  of_reference = refl;
  of_reference_type = refl;
  of_function = refl;
  of_global = refl;
  of_table = refl;
  known = lit< tt;
  unknown = λ h. omega (arith, h);
  not_an_id = λ h. h;
  top_of_struct = refl;
  top_of_function = refl;
  top_of_bottom = refl;
}

-- no type is two
not_both : (t : TypeTree) → Some splitting ≡ Some t → Some pair ≡ Some t → ⊥
unfolding opened
not_both t e f =
    let p : splitting ≡ pair = cc in
    let q = ap expanded p in
    absurd cc

pub function_types : FunctionTypes
function_types = record {
  its_type = (splitting, refl, refl);
  another_type = λ (t, e, f). not_both t e f;
  no_type = λ (t, e, f). absurd cc;
  not_told = λ e. absurd cc;
  no_function = refl;
  no_function_told = λ (t, e, f). absurd cc;
}

pub knows_module : KnowsModule
knows_module = refl

pub operators_answered : OperatorsAnswered
unfolding opened
operators_answered = record {
  added = refl;
  unknown_function = refl;
  vector = λ o. refl;
  vector_number = λ o. refl;
  resumed = refl;
  resumed_struct = refl;
  resumed_unknown = refl;
  resumed_nameless = refl;
}
