use Rattle.std.proofs.Common.{◌≡◌, ◌∙◌, ℕ, refl, sym, ap, subst}
use Rattle.wasm_types.specs.decoding.Decoder.{State}
use Rattle.wasm_types.specs.decoding.ErrorValue.{ErrorValue}
use Rattle.wasm_types.specs.reader.Reading.{Fails}
use Rattle.wasm_sections_items.specs.limited.Walking.{Walk, fresh}
use Rattle.wasm_sections_items.specs.limited.Runs.{place_with_offsets, with_offset}
use Rattle.wasm_module_validator_initialisers.specs.segments.Laws.{unless_from}
use Rattle.wasm_module_validator_initialisers.specs.segments.Refusals.{IsFault}
use Rattle.wasm_module_validator_initialisers.specs.elements.Items.{IsFunction, StopsAmong, function_index}
use Rattle.wasm_module_validator_initialisers.specs.elements.Naming.{NamesFunction}
use Rattle.wasm_module_validator_initialisers.specs.elements.Refusals.{RefusesFunction}
use Rattle.wasm_module_validator_initialisers.proofs.Walks.{Walked, walked_first, walked_behind, walked_denied, walked_refused, unread_denied, unread_unless, walked_all, walked_named, step_refused, step_read}
use Rattle.wasm_module_validator_initialisers.proofs.elements.items.check_functions.Goals as goal

-- an index and its offset, read by these settings
abbrev reads : Walk → State → ℕ × ℕ → State → Type 0
reads w = with_offset (λ (x : ℕ). x) function_index w.reader.settings

abbrev refuses : Walk → State → ErrorValue → Type 0
refuses w = λ b e. Fails e (function_index w.reader.settings b)

pub loop-found-init : goal.loop-found-init
loop-found-init g c =
    let m = g.R.WasmModuleResources.meaning c.args.resources.now in
    let b = c.args.functions.reader in
    let n = c.args.functions.count in
    let e = c.into_iter_with_offsets-found-items.ensures in
    let made : place_with_offsets c.into_iter_with_offsets-found-items.result ≡ fresh n b = λ k. record { left = e.remaining k; reader = (e.section k).reader; over = e.fresh k } in
    let here : place_with_offsets c.into_iter-found-iterator.result ≡ fresh n b = ap place_with_offsets c.into_iter-found-iterator.ensures.into_iter_gives ∙ made in
    subst (λ (w : Walk). Walked (IsFunction m.«module») NamesFunction function_index (RefusesFunction m.«module») (fresh n b) c.args.names.now.items w c.args.names.now.items) (sym here)
    (walked_first (IsFunction m.«module») NamesFunction function_index (RefusesFunction m.«module») (fresh n b) c.args.names.now.items refl)

pub returns-in-Err-clause-answer : goal.returns-in-Err-clause-answer
returns-in-Err-clause-answer g c =
    let m = g.R.WasmModuleResources.meaning c.args.resources.now in
    let w = place_with_offsets c.loop-found.found-iterator in
    unread_denied (IsFunction m.«module») NamesFunction function_index (RefusesFunction m.«module») (fresh c.args.functions.count c.args.functions.reader) c.args.names.now.items
    w c.loop-found.names.items c.loop-found.invariant c.in-Err.error
    (step_refused (reads w) (refuses w) w (place_with_offsets c.next.new.self) _ c.in-Err.error c.in-Err.is c.in-Some.ensures.steps.0)

pub returns-in-Err-clause-refused : goal.returns-in-Err-clause-refused
returns-in-Err-clause-refused g c =
    let m = g.R.WasmModuleResources.meaning c.args.resources.now in
    let w = place_with_offsets c.loop-found.found-iterator in
    unread_unless (IsFunction m.«module») NamesFunction function_index (RefusesFunction m.«module») (fresh c.args.functions.count c.args.functions.reader) c.args.names.now.items
    w c.loop-found.names.items c.loop-found.invariant c.in-Err.error
    (step_refused (reads w) (refuses w) w (place_with_offsets c.next.new.self) _ c.in-Err.error c.in-Err.is c.in-Some.ensures.steps.0)

pub loop-found-preserved : goal.loop-found-preserved
loop-found-preserved g c =
    let m = g.R.WasmModuleResources.meaning c.args.resources.now in
    let w = place_with_offsets c.loop-found.found-iterator in
    let v = place_with_offsets c.next.new.self in
    let s = step_read (reads w) (refuses w) w v _ c.in-Ok.function c.in-Ok.is c.in-Some.ensures.steps.0 in
    walked_behind (IsFunction m.«module») NamesFunction function_index (RefusesFunction m.«module») (fresh c.args.functions.count c.args.functions.reader) c.args.names.now.items
    w c.loop-found.names.items c.loop-found.invariant v c.in-Ok.function.1 s.1 s.2.1 c.in-Some.ensures.steps.2 c.take_function.new.names.items s.0
    c.in-Ok-take_function.ensures.answer c.in-Ok-take_function.ensures.named

pub returns-in-Err-take_function-clause-answer : goal.returns-in-Err-take_function-clause-answer
returns-in-Err-take_function-clause-answer g c =
    let m = g.R.WasmModuleResources.meaning c.args.resources.now in
    let w = place_with_offsets c.loop-found.found-iterator in
    let v = place_with_offsets c.next.new.self in
    let s = step_read (reads w) (refuses w) w v _ c.in-Ok.function c.in-Ok.is c.in-Some.ensures.steps.0 in
    walked_denied (IsFunction m.«module») NamesFunction function_index (RefusesFunction m.«module») (fresh c.args.functions.count c.args.functions.reader) c.args.names.now.items
    w c.loop-found.names.items c.loop-found.invariant v c.in-Ok.function.1 s.1 s.2.1 c.in-Some.ensures.steps.2 c.in-Err-take_function.error.kind c.in-Err-take_function.ensures.answer

pub returns-in-Err-take_function-clause-refused : goal.returns-in-Err-take_function-clause-refused
returns-in-Err-take_function-clause-refused g c =
    let m = g.R.WasmModuleResources.meaning c.args.resources.now in
    let w = place_with_offsets c.loop-found.found-iterator in
    let v = place_with_offsets c.next.new.self in
    let e = c.in-Err-take_function.error in
    let first = fresh c.args.functions.count c.args.functions.reader in
    let s = step_read (reads w) (refuses w) w v _ c.in-Ok.function c.in-Ok.is c.in-Some.ensures.steps.0 in
    unless_from e.kind ((IsFunction m.«module» c.in-Ok.function.1 → ⊥) × IsFault c.in-Ok.function.0 e) (StopsAmong (IsFunction m.«module») function_index (RefusesFunction m.«module») first e)
    (λ k. walked_refused (IsFunction m.«module») NamesFunction function_index (RefusesFunction m.«module») first c.args.names.now.items w c.loop-found.names.items c.loop-found.invariant e
    (c.in-Ok.function.1, v.reader, s.2.1, k.0, subst (λ (n : ℕ). IsFault n e) s.2.0 k.1)) c.in-Err-take_function.ensures.refused

pub returns-clause-answer : goal.returns-clause-answer
returns-clause-answer g c =
    let m = g.R.WasmModuleResources.meaning c.args.resources.now in
    walked_all (IsFunction m.«module») NamesFunction function_index (RefusesFunction m.«module») (fresh c.args.functions.count c.args.functions.reader) c.args.names.now.items
    (place_with_offsets c.loop-found.found-iterator) c.loop-found.names.items c.loop-found.invariant c.in-None.ensures.steps.0.0

pub returns-clause-named : goal.returns-clause-named
returns-clause-named g c =
    let m = g.R.WasmModuleResources.meaning c.args.resources.now in
    walked_named (IsFunction m.«module») NamesFunction function_index (RefusesFunction m.«module») (fresh c.args.functions.count c.args.functions.reader) c.args.names.now.items
    (place_with_offsets c.loop-found.found-iterator) c.loop-found.names.items c.loop-found.invariant c.in-None.ensures.steps.0.0
