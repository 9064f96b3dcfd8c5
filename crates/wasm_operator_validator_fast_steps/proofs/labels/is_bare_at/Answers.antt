use Rattle.wasm_operator_validator_fast_steps.proofs.Frames.{bare_label}
use Rattle.wasm_operator_validator_fast_steps.proofs.labels.is_bare_at.Goals as goal

pub returns-in-Some : goal.returns-in-Some
returns-in-Some c = λ e flat.
    let frame = c.in-Some.frame in
    let (params, results) = c.is_bare.ensures e in
    (frame, c.in-Some.ensures, bare_label flat frame.sig params results frame.kind)
