use Rattle.std.proofs.Common.{inl, refl}
use Rattle.wasm_check_command.proofs.judging.verdict_line.Goals as goal

pub returns-in_ok-line-in-Ok : goal.returns-in_ok-line-in-Ok
returns-in_ok-line-in-Ok g c = record {
  told = inl (c.in-Ok.ensures, c.in_ok-line-in-Ok.ensures);
  tested = (λ t. c.in-Ok.ensures, λ a. refl);
}
