use Rattle.wasm_types_settings.proofs.SetLaws.{allowed_by_bits, larger_allows_more, own_in_union, own_in_intersection, own_in_difference}
use Rattle.wasm_types_settings.proofs.laws.allowed_features.Goals as goal

pub returns-clause-by_bits : goal.returns-clause-by_bits
returns-clause-by_bits c = allowed_by_bits

pub returns-clause-larger : goal.returns-clause-larger
returns-clause-larger c = larger_allows_more

pub returns-clause-in_union : goal.returns-clause-in_union
returns-clause-in_union c = own_in_union

pub returns-clause-in_intersection : goal.returns-clause-in_intersection
returns-clause-in_intersection c = own_in_intersection

pub returns-clause-in_difference : goal.returns-clause-in_difference
returns-clause-in_difference c = own_in_difference
