use Rattle.wasm_module_validator_rules_in_order.specs.Steps.{nothing}
use Rattle.wasm_module_validator_rules_in_order.specs.laws.Judged.{judged_joined, judged_split, nothing_is_judged, shape_keeps, shapes_keep, shapes_stay, judged_in_order, section_comes}
use Rattle.wasm_module_validator_rules_in_order.proofs.laws.frames_are_judged.Goals as goal

pub returns-clause-joined : goal.returns-clause-joined
returns-clause-joined c = judged_joined

pub returns-clause-split : goal.returns-clause-split
returns-clause-split c = judged_split

pub returns-clause-nothing : goal.returns-clause-nothing
returns-clause-nothing c = nothing_is_judged

pub returns-clause-kept : goal.returns-clause-kept
returns-clause-kept c = shape_keeps

pub returns-clause-known : goal.returns-clause-known
returns-clause-known c = λ z xs q j. shapes_keep z xs nothing q (nothing_is_judged z) j

pub returns-clause-stays : goal.returns-clause-stays
returns-clause-stays c = shapes_stay

pub returns-clause-valid : goal.returns-clause-valid
returns-clause-valid c = judged_in_order

pub returns-clause-comes : goal.returns-clause-comes
returns-clause-comes c = λ z s m p text v. section_comes z s m p text v
