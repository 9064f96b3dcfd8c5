-- The judge that is kept from body to body (WebAssembly 3.0, validation, modules, functions).
use Rattle.std.specs.Prelude.{ℕ, Option, Some, None}
use Rattle.wasm_operator_validator_rules.specs.Context.{Module}
use Rattle.wasm_module_validator_function_bodies.specs.declared.plain.PlainJudge.{PlainJudge}
use Rattle.wasm_module_validator_function_bodies.specs.Plain.{IsJudgeOf}
use Rattle.wasm_module_validator.specs.resources.Reading.{context_of}
use Rattle.wasm_module_validator.specs.declared.validator.Validator.{Validator}
use Rattle.wasm_module_validator_streaming.specs.declared.judging.Judging.{Judging}

-- if there is a judge, it is one of this module and of these features
abbrev pub IsJudgeKept : Module → ℕ → Option PlainJudge → Type 0
IsJudgeKept m bits None = Unit {0}
IsJudgeKept m bits (Some j) = IsJudgeOf m bits j

-- it is one of the module as a validator keeps it, by the features that the validator judges by
abbrev pub IsJudgeFor : Validator → Option PlainJudge → Type 0
IsJudgeFor v judge = IsJudgeKept (context_of v.reached.progress.kept.groups v.reached.progress.kept.items.spaces) v.settings.features judge

-- that is so of what judges a module
abbrev pub HasItsJudge : Judging → Type 0
HasItsJudge j = IsJudgeFor j.validator j.in_loop
