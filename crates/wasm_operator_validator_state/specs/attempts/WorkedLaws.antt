-- The rows of `Worked`, and that locals need no note.
use Rattle.std.proofs.Common.{◌≡◌, ◌∙◌, ◌+◌, ◌++◌, ℕ, drop, length, map, ap, sym, refl, arith}
use Rattle.std.proofs.lemmas.List.{take-append-le, length-append}
use Rattle.wasm_operator_validator_state.specs.attempts.Log.{Stacks, innermost_reached}
use Rattle.wasm_operator_validator_state.specs.attempts.Worked.{LogRows, SetLocalsAreForgotten, KeepsNoMore}

pub log_rows : LogRows
log_rows = record {
  nothing = refl;
  operands = refl;
  dropped = λ e. let o = ap (λ (s : Stacks). s.operands) e in cc;
  marked = refl;
  unmarked = λ e. let f = ap (λ (s : Stacks). map (λ f. f.unreachable) s.frames) e in cc;
  closed = refl;
}

pub set_locals_are_forgotten : SetLocalsAreForgotten
set_locals_are_forgotten l s xs h = rw (take-append-le l.kept s.set xs h) refl

pub keeps_no_more : KeepsNoMore
keeps_no_more l s before e =
    let operands : length before.operands ≡ length l.popped + length (drop l.pushed s.operands) =
    sym (ap (λ (t : Stacks). length t.operands) e) ∙ length-append l.popped (drop l.pushed s.operands) in
    let frames : length before.frames ≡ length l.closed + length (innermost_reached l.marked (drop l.opened s.frames)) =
    sym (ap (λ (t : Stacks). length t.frames) e) ∙ length-append l.closed (innermost_reached l.marked (drop l.opened s.frames)) in
    (omega arith, omega arith)
