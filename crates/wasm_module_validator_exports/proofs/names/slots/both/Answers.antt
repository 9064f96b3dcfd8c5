use Rattle.std.proofs.Common.{subst}
use Rattle.wasm_module_validator_exports.specs.declared.names.slots.Met.TheVariants as met
use Rattle.wasm_module_validator_exports.specs.names.Exports.{HasMetAt, beside, first_slot}
use Rattle.wasm_module_validator_exports.proofs.Taking.{free_beside, met_beside, met_first, met_other, met_same}
use Rattle.wasm_module_validator_exports.proofs.names.slots.both.Goals as goal

pub returns-in-Free-second : goal.returns-in-Free-second
returns-in-Free-second c = λ slots names n a b.
    let first : HasMetAt slots names n (first_slot slots n) (met.Free c.in-Free.at c.in-Free.index) = subst (HasMetAt slots names n (first_slot slots n)) c.in-Free.is a in
    let second : HasMetAt slots names n (beside (first_slot slots n)) (met.Free c.in-Free-second.field-0 c.in-Free-second.field-1)
    = subst (HasMetAt slots names n (beside (first_slot slots n))) c.in-Free-second.is b in
    met_first slots names n c.in-Free.at c.in-Free.index first (free_beside slots names n c.in-Free-second.field-0 c.in-Free-second.field-1 second)

pub returns-in-Same-second : goal.returns-in-Same-second
returns-in-Same-second c = λ slots names n a b. met_beside slots names n (subst (HasMetAt slots names n (beside (first_slot slots n))) c.in-Same-second.is b)

pub returns-in-Other-second : goal.returns-in-Other-second
returns-in-Other-second c = λ slots names n a b.
    let first : HasMetAt slots names n (first_slot slots n) (met.Free c.in-Free.at c.in-Free.index) = subst (HasMetAt slots names n (first_slot slots n)) c.in-Free.is a in
    let second : HasMetAt slots names n (beside (first_slot slots n)) met.Other = subst (HasMetAt slots names n (beside (first_slot slots n))) c.in-Other-second.is b in
    met_first slots names n c.in-Free.at c.in-Free.index first second.0

pub returns-in-Same : goal.returns-in-Same
returns-in-Same c = λ slots names n a b. met_same slots names n (subst (HasMetAt slots names n (first_slot slots n)) c.in-Same.is a)

pub returns-in-Other : goal.returns-in-Other
returns-in-Other c = λ slots names n a b.
    met_other slots names n c.args.second (subst (HasMetAt slots names n (first_slot slots n)) c.in-Other.is a) b
