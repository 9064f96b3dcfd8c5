use Rattle.std.proofs.Common.{◌≡◌, ◌∙◌, ◌+◌, ◌∷◌, List, ℕ, drop, sym}
use Rattle.wasm_module_validator_exports.specs.declared.names.imports.Place.{Place}
use Rattle.wasm_module_validator_exports.specs.names.Imports.{named_of}
use Rattle.wasm_module_validator_index_spaces.specs.view.Entities.{places_behind}
use Rattle.wasm_module_validator_index_spaces.proofs.Placing.{fewer_pairs, nothing_behind, one_fewer, pair_past, place_given}
use Rattle.wasm_module_validator_index_spaces.proofs.view.named.NamedPlacesIterator.next.Goals as goal

pub loop-named-preserved : goal.loop-named-preserved
loop-named-preserved c =
    let left = c.loop-named.self-inside in
    let named = c.in-Some.named in
    c.loop-named.invariant ∙ pair_past left.imports.now left.past left.given (named_of named) (sym c.in-Some.ensures.told) (sym c.in_default-place.ensures.told)

pub loop-named-smaller : goal.loop-named-smaller
loop-named-smaller c =
    let left = c.loop-named.self-inside in
    fewer_pairs left.imports.now left.past (named_of c.in-Some.named) (sym c.in-Some.ensures.told)

pub returns-in-Some-place-clause-steps : goal.returns-in-Some-place-clause-steps
returns-in-Some-place-clause-steps c =
    let left = c.loop-named.self-inside in
    let named = named_of c.in-Some.named in
    sym c.self.view_is ∙ (c.loop-named.invariant
    ∙ place_given left.imports.now left.past left.given named c.in-Some-place.place (sym c.in-Some.ensures.told) (sym c.in-Some-place.ensures.told))

pub returns-in-Some-place-clause-goes : goal.returns-in-Some-place-clause-goes
returns-in-Some-place-clause-goes c =
    let left = c.loop-named.self-inside in
    let named = named_of c.in-Some.named in
    let given : (List ℕ × List ℕ) × Place = ((named.module_name, named.field_name), c.in-Some-place.place) in
    let rest = places_behind (left.given + 1) (drop left.past left.imports.now) in
    let steps : c.args.self.now ≡ given ∷ rest
    = sym c.self.view_is ∙ (c.loop-named.invariant
    ∙ place_given left.imports.now left.past left.given named c.in-Some-place.place (sym c.in-Some.ensures.told) (sym c.in-Some-place.ensures.told)) in
    record { on = λ finite. (tt, tt, one_fewer c.args.self.now rest given steps); keeps = tt; rests = λ finite. tt }

pub returns-clause-steps : goal.returns-clause-steps
returns-clause-steps c =
    let left = c.loop-named.self-inside in
    let none = nothing_behind left.imports.now left.past left.given (sym c.in_default.ensures.told) in
    (sym c.self.view_is ∙ (c.loop-named.invariant ∙ none), none)
