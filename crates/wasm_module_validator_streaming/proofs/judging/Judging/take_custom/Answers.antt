-- By what the validator answers to the section.
use Rattle.std.proofs.Common.{Ok, Err, refl, inl}
use Rattle.wasm_module_validator_streaming.proofs.judging.Judging.take_custom.Goals as goal

pub returns-in-Ok-clause-steps : goal.returns-in-Ok-clause-steps
returns-in-Ok-clause-steps c = (refl, inl (Ok tt, refl, (c.in-Ok.ensures, refl)))

pub returns-in-Err-clause-steps : goal.returns-in-Err-clause-steps
returns-in-Err-clause-steps c = inl (Err c.in-Err.error, refl, (c.in-Err.ensures, refl))
