-- By the laws of calls.
use Rattle.wasm_sections.specs.CallLaws.{calls_of_frames, calls_of_payloads, end_of_payloads, refused_at_payload, refused_is_over, refused_not_for_memory, nothing_after}
use Rattle.wasm_sections.proofs.payloads_laws.calls_are_of_modules.Goals as goal

pub returns-clause-frames : goal.returns-clause-frames
returns-clause-frames c = calls_of_frames

pub returns-clause-payloads : goal.returns-clause-payloads
returns-clause-payloads c = calls_of_payloads

pub returns-clause-end : goal.returns-clause-end
returns-clause-end c = end_of_payloads

pub returns-clause-accepted : goal.returns-clause-accepted
returns-clause-accepted c = refused_at_payload

pub returns-clause-refused : goal.returns-clause-refused
returns-clause-refused c = refused_is_over

pub returns-clause-memory : goal.returns-clause-memory
returns-clause-memory c = refused_not_for_memory

pub returns-clause-over : goal.returns-clause-over
returns-clause-over c = nothing_after
