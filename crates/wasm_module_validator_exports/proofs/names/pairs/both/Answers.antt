use Rattle.std.proofs.Common.{length, subst}
use Rattle.wasm_module_validator_exports.specs.declared.names.pairs.Met.TheVariants as met
use Rattle.wasm_module_validator_exports.specs.names.Exports.{beside}
use Rattle.wasm_module_validator_exports.specs.names.Imports.{HasMetAt, slot_for}
use Rattle.wasm_module_validator_exports.proofs.Finding.{free_beside, met_beside, met_first, met_other, met_same}
use Rattle.wasm_module_validator_exports.proofs.names.pairs.both.Goals as goal

pub returns-in-Free-second : goal.returns-in-Free-second
returns-in-Free-second c = λ slots ps m f a b.
    let at = slot_for m f (length slots) in
    let first : HasMetAt slots ps m f at (met.Free c.in-Free.at c.in-Free.index) = subst (HasMetAt slots ps m f at) c.in-Free.is a in
    let second : HasMetAt slots ps m f (beside at) (met.Free c.in-Free-second.field-0 c.in-Free-second.field-1)
    = subst (HasMetAt slots ps m f (beside at)) c.in-Free-second.is b in
    met_first slots ps m f c.in-Free.at c.in-Free.index first (free_beside slots ps m f c.in-Free-second.field-0 c.in-Free-second.field-1 second)

pub returns-in-Same-second : goal.returns-in-Same-second
returns-in-Same-second c = λ slots ps m f a b.
    let at = slot_for m f (length slots) in
    let first : HasMetAt slots ps m f at (met.Free c.in-Free.at c.in-Free.index) = subst (HasMetAt slots ps m f at) c.in-Free.is a in
    met_beside slots ps m f c.in-Free.at c.in-Free.index c.in-Same-second.at first (subst (HasMetAt slots ps m f (beside at)) c.in-Same-second.is b)

pub returns-in-Other-second : goal.returns-in-Other-second
returns-in-Other-second c = λ slots ps m f a b.
    let at = slot_for m f (length slots) in
    let first : HasMetAt slots ps m f at (met.Free c.in-Free.at c.in-Free.index) = subst (HasMetAt slots ps m f at) c.in-Free.is a in
    let second : HasMetAt slots ps m f (beside at) met.Other = subst (HasMetAt slots ps m f (beside at)) c.in-Other-second.is b in
    met_first slots ps m f c.in-Free.at c.in-Free.index first second.0

pub returns-in-Same : goal.returns-in-Same
returns-in-Same c = λ slots ps m f a b. met_same slots ps m f c.in-Same.at (subst (HasMetAt slots ps m f (slot_for m f (length slots))) c.in-Same.is a)

pub returns-in-Other : goal.returns-in-Other
returns-in-Other c = λ slots ps m f a b.
    met_other slots ps m f c.args.second (subst (HasMetAt slots ps m f (slot_for m f (length slots))) c.in-Other.is a) b
