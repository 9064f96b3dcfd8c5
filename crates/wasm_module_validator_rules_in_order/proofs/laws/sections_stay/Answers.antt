use Rattle.wasm_module_validator_rules_in_order.specs.laws.Fronts.{items_up_to, spelled_up_to, valid_up_to, same_up_to, up_to_before, unread_behind, unread_later, absent_adds_nothing, absent_between, unread_is_spelled, unread_is_valid}
use Rattle.wasm_module_validator_rules_in_order.proofs.laws.sections_stay.Goals as goal

pub returns-clause-items : goal.returns-clause-items
returns-clause-items c = items_up_to

pub returns-clause-spelled : goal.returns-clause-spelled
returns-clause-spelled c = spelled_up_to

pub returns-clause-valid : goal.returns-clause-valid
returns-clause-valid c = valid_up_to

pub returns-clause-earlier : goal.returns-clause-earlier
returns-clause-earlier c = same_up_to

pub returns-clause-front : goal.returns-clause-front
returns-clause-front c = up_to_before

pub returns-clause-later : goal.returns-clause-later
returns-clause-later c = unread_behind

pub returns-clause-unread : goal.returns-clause-unread
returns-clause-unread c = unread_later

pub returns-clause-absent : goal.returns-clause-absent
returns-clause-absent c = absent_adds_nothing

pub returns-clause-between : goal.returns-clause-between
returns-clause-between c = absent_between

pub returns-clause-empty : goal.returns-clause-empty
returns-clause-empty c = λ z s m e. (unread_is_spelled z s m e, unread_is_valid z s m e)
