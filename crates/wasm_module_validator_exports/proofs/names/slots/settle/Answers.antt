use Rattle.std.proofs.Common.{List, ℕ, subst}
use Rattle.wasm_module_validator_exports.specs.names.Exports.{HasMet, exports_of, names_of}
use Rattle.wasm_module_validator_exports.specs.declared.names.slots.Met.TheVariants as met
use Rattle.wasm_module_validator_exports.proofs.Taking.{holds_by_slot, new_by_slot, settled, taken_by_slot, within}
use Rattle.wasm_module_validator_exports.proofs.names.slots.settle.Goals as goal

pub returns-in-Same : goal.returns-in-Same
returns-in-Same c =
    let names = names_of (exports_of c.args.names.now c.args.exports.now) in (
      taken_by_slot c.args.slots.now.items c.args.others.now names c.args.name.now c.requires.held
          (subst (λ (s : List ℕ). HasMet s names c.args.name.now met.Same) c.as_slice.ensures.value c.in-Same.ensures),
      c.requires.held,
    )

pub put-requires : goal.put-requires
put-requires c =
    let names = names_of (exports_of c.args.names.now c.args.exports.now) in
    let h : HasMet c.args.slots.now.items names c.args.name.now (met.Free c.in-Free.at c.in-Free.index) =
    subst (λ (s : List ℕ). HasMet s names c.args.name.now (met.Free c.in-Free.at c.in-Free.index)) c.as_slice.ensures.value c.in-Free.ensures in
    within c.args.slots.now.items c.in-Free.at h.2.0 h.2.1

pub returns-in-Free : goal.returns-in-Free
returns-in-Free c =
    let names = names_of (exports_of c.args.names.now c.args.exports.now) in
    let h : HasMet c.args.slots.now.items names c.args.name.now (met.Free c.in-Free.at c.in-Free.index) =
    subst (λ (s : List ℕ). HasMet s names c.args.name.now (met.Free c.in-Free.at c.in-Free.index)) c.as_slice.ensures.value c.in-Free.ensures in (
      new_by_slot c.args.slots.now.items c.args.others.now names c.args.name.now c.requires.held c.in-Free.at h.0 h.2 h.3,
      holds_by_slot c.args.slots.now.items c.put.new.slots.items c.args.others.now names c.args.name.now c.in-Free.at c.in-Free.index h.1 c.put.ensures h.0 h.2 c.requires.held,
    )

pub returns : goal.returns
returns c =
    let names = names_of (exports_of c.args.names.now c.args.exports.now) in
    settled c.args.slots.now.items c.args.others.now c.note.new.others names c.args.name.now c.note.result
    (subst (λ (s : List ℕ). HasMet s names c.args.name.now met.Other) c.as_slice.ensures.value c.in-Other.ensures) c.note.ensures c.requires.held
