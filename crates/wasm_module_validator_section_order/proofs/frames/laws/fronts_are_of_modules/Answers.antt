-- By the laws of fronts.
use Rattle.wasm_module_validator_section_order.specs.frames.FrontLaws.{modules_one, calls_first, calls_ended, calls_joined, shapes_joined, calls_settings, called_settings}
use Rattle.wasm_module_validator_section_order.proofs.frames.laws.fronts_are_of_modules.Goals as goal

pub returns-clause-one : goal.returns-clause-one
returns-clause-one c = modules_one

pub returns-clause-front : goal.returns-clause-front
returns-clause-front c = calls_first

pub returns-clause-ended : goal.returns-clause-ended
returns-clause-ended c = calls_ended

pub returns-clause-joined : goal.returns-clause-joined
returns-clause-joined c = calls_joined

pub returns-clause-shapes : goal.returns-clause-shapes
returns-clause-shapes c = shapes_joined

pub returns-clause-kept : goal.returns-clause-kept
returns-clause-kept c = calls_settings

pub returns-clause-settings : goal.returns-clause-settings
returns-clause-settings c = called_settings
