use Rattle.std.proofs.Common.{◌≡◌, ◌∙◌, ℕ, List, refl, sym, ap, subst, arith}
use Rattle.wasm_types.specs.decoding.Decoder.{State}
use Rattle.wasm_types.specs.decoding.Places.{end_of}
use Rattle.wasm_types.specs.decoding.Denials.{Denies}
use Rattle.wasm_types.specs.decoding.ErrorValue.{ErrorValue}
use Rattle.wasm_types.specs.reader.Reading.{Fails}
use Rattle.wasm_operators_encoding.specs.ConstantDecoder.{constant}
use Rattle.wasm_sections_items.specs.limited.Walking.{Walk, fresh}
use Rattle.wasm_sections_items.specs.limited.Runs.{place_with_offsets, with_offset}
use Rattle.wasm_operator_validator_state.specs.resources.Meaning.{type_in}
use Rattle.wasm_module_validator_initialisers.specs.segments.Laws.{unless_from}
use Rattle.wasm_module_validator_initialisers.specs.segments.Judged.{IsConstantText}
use Rattle.wasm_module_validator_initialisers.specs.segments.Refusals.{StopsText}
use Rattle.wasm_module_validator_resources.specs.referring.Naming.{NamesMore}
use Rattle.wasm_module_validator_initialisers.specs.elements.Items.{StopsAmong}
use Rattle.wasm_module_validator_initialisers.specs.elements.Refusals.{RefusesConstant}
use Rattle.wasm_module_validator_initialisers.proofs.Inside.{constant_within}
use Rattle.wasm_module_validator_initialisers.proofs.Walks.{Walked, walked_first, walked_behind, walked_denied, walked_refused, unread_denied, unread_unless, walked_all, walked_named, step_refused, step_read}
use Rattle.wasm_module_validator_initialisers.proofs.ShortWalks.{walked_run, passed_end}
use Rattle.wasm_module_validator_initialisers.proofs.elements.items.check_constants.Goals as goal

-- an expression and its offset, read by these settings
abbrev reads : Walk → State → ℕ × State → State → Type 0
reads w = with_offset (λ (e : State). e.rest) constant w.reader.settings

abbrev refuses : Walk → State → ErrorValue → Type 0
refuses w = λ b e. Fails e (constant w.reader.settings b)

pub elements-init : goal.elements-init
elements-init g c =
    let z = c.args.settings.now in
    let m = g.R.WasmModuleResources.meaning c.args.resources.now in
    let k = c.args.imported_globals in
    let t = type_in m c.args.ty.now in
    let first = fresh c.args.constants.count c.args.constants.reader in
    let e = c.into_iter_with_offsets-elements.ensures in
    let here : place_with_offsets c.into_iter_with_offsets-elements.result ≡ first = λ i. record { left = e.remaining i; reader = (e.section i).reader; over = e.fresh i } in (
      subst (λ (w : Walk). Walked (IsConstantText z m.«module» k t) (NamesMore z) constant (RefusesConstant z m k t) first c.args.names.now.items w c.args.names.now.items) (sym here)
          (walked_first (IsConstantText z m.«module» k t) (NamesMore z) constant (RefusesConstant z m k t) first c.args.names.now.items refl),
      ap (λ (w : Walk). end_of w.reader) here,
    )

-- the expression ends among the bytes of the section
pub standing_at-expr-requires : goal.standing_at-expr-requires
standing_at-expr-requires g c =
    let z = c.args.settings.now in
    let m = g.R.WasmModuleResources.meaning c.args.resources.now in
    let k = c.args.imported_globals in
    let t = type_in m c.args.ty.now in
    let first = fresh c.args.constants.count c.args.constants.reader in
    let before = c.args.names.now.items in
    let w = place_with_offsets c.take_short_elements.new.elements in
    let v = place_with_offsets c.next.new.self in
    let now = c.take_short_elements.new.names.items in
    let (n, j, sum, inside, passes, run) = c.take_short_elements.ensures.named in
    let standing = walked_run z m.«module» k t (RefusesConstant z m k t) first before n j (place_with_offsets c.elements.elements) w c.elements.names.items now sum inside passes run c.elements.invariant.0 in
    let s = step_read (reads w) (refuses w) w v _ c.in-Some-Ok.item c.in-Some-Ok.field-0-is c.in-Some-Ok.ensures.steps.0 in
    let within = (constant_within w.reader.settings w.reader v.reader c.in-Some-Ok.item.1.rest s.2.1).0 in
    let last = ap (λ r. r.end) c.range-end.ensures in
    let same = passed_end (place_with_offsets c.elements.elements) w j w.left passes in
    omega (arith, within, last, same, c.elements.invariant.1, s.2.0)

pub returns-in-None-clause-answer : goal.returns-in-None-clause-answer
returns-in-None-clause-answer g c =
    let z = c.args.settings.now in
    let m = g.R.WasmModuleResources.meaning c.args.resources.now in
    let k = c.args.imported_globals in
    let t = type_in m c.args.ty.now in
    let first = fresh c.args.constants.count c.args.constants.reader in
    let before = c.args.names.now.items in
    let w = place_with_offsets c.take_short_elements.new.elements in
    let v = place_with_offsets c.next.new.self in
    let now = c.take_short_elements.new.names.items in
    let (n, j, sum, inside, passes, run) = c.take_short_elements.ensures.named in
    let standing = walked_run z m.«module» k t (RefusesConstant z m k t) first before n j (place_with_offsets c.elements.elements) w c.elements.names.items now sum inside passes run c.elements.invariant.0 in
    walked_all (IsConstantText z m.«module» k t) (NamesMore z) constant (RefusesConstant z m k t) first before w now standing c.in-None.ensures.steps.0.0

pub returns-in-None-clause-named : goal.returns-in-None-clause-named
returns-in-None-clause-named g c =
    let z = c.args.settings.now in
    let m = g.R.WasmModuleResources.meaning c.args.resources.now in
    let k = c.args.imported_globals in
    let t = type_in m c.args.ty.now in
    let first = fresh c.args.constants.count c.args.constants.reader in
    let before = c.args.names.now.items in
    let w = place_with_offsets c.take_short_elements.new.elements in
    let v = place_with_offsets c.next.new.self in
    let now = c.take_short_elements.new.names.items in
    let (n, j, sum, inside, passes, run) = c.take_short_elements.ensures.named in
    let standing = walked_run z m.«module» k t (RefusesConstant z m k t) first before n j (place_with_offsets c.elements.elements) w c.elements.names.items now sum inside passes run c.elements.invariant.0 in
    walked_named (IsConstantText z m.«module» k t) (NamesMore z) constant (RefusesConstant z m k t) first before w now standing c.in-None.ensures.steps.0.0

pub returns-in-Some-Err-clause-answer : goal.returns-in-Some-Err-clause-answer
returns-in-Some-Err-clause-answer g c =
    let z = c.args.settings.now in
    let m = g.R.WasmModuleResources.meaning c.args.resources.now in
    let k = c.args.imported_globals in
    let t = type_in m c.args.ty.now in
    let first = fresh c.args.constants.count c.args.constants.reader in
    let before = c.args.names.now.items in
    let w = place_with_offsets c.take_short_elements.new.elements in
    let v = place_with_offsets c.next.new.self in
    let now = c.take_short_elements.new.names.items in
    let (n, j, sum, inside, passes, run) = c.take_short_elements.ensures.named in
    let standing = walked_run z m.«module» k t (RefusesConstant z m k t) first before n j (place_with_offsets c.elements.elements) w c.elements.names.items now sum inside passes run c.elements.invariant.0 in
    unread_denied (IsConstantText z m.«module» k t) (NamesMore z) constant (RefusesConstant z m k t) first before w now standing c.in-Some-Err.error
    (step_refused (reads w) (refuses w) w v _ c.in-Some-Err.error c.in-Some-Err.field-0-is c.in-Some-Err.ensures.steps.0)

pub returns-in-Some-Err-clause-refused : goal.returns-in-Some-Err-clause-refused
returns-in-Some-Err-clause-refused g c =
    let z = c.args.settings.now in
    let m = g.R.WasmModuleResources.meaning c.args.resources.now in
    let k = c.args.imported_globals in
    let t = type_in m c.args.ty.now in
    let first = fresh c.args.constants.count c.args.constants.reader in
    let before = c.args.names.now.items in
    let w = place_with_offsets c.take_short_elements.new.elements in
    let v = place_with_offsets c.next.new.self in
    let now = c.take_short_elements.new.names.items in
    let (n, j, sum, inside, passes, run) = c.take_short_elements.ensures.named in
    let standing = walked_run z m.«module» k t (RefusesConstant z m k t) first before n j (place_with_offsets c.elements.elements) w c.elements.names.items now sum inside passes run c.elements.invariant.0 in
    unread_unless (IsConstantText z m.«module» k t) (NamesMore z) constant (RefusesConstant z m k t) first before w now standing c.in-Some-Err.error
    (step_refused (reads w) (refuses w) w v _ c.in-Some-Err.error c.in-Some-Err.field-0-is c.in-Some-Err.ensures.steps.0)

pub elements-preserved : goal.elements-preserved
elements-preserved g c =
    let z = c.args.settings.now in
    let m = g.R.WasmModuleResources.meaning c.args.resources.now in
    let k = c.args.imported_globals in
    let t = type_in m c.args.ty.now in
    let first = fresh c.args.constants.count c.args.constants.reader in
    let before = c.args.names.now.items in
    let w = place_with_offsets c.take_short_elements.new.elements in
    let v = place_with_offsets c.next.new.self in
    let now = c.take_short_elements.new.names.items in
    let (n, j, sum, inside, passes, run) = c.take_short_elements.ensures.named in
    let standing = walked_run z m.«module» k t (RefusesConstant z m k t) first before n j (place_with_offsets c.elements.elements) w c.elements.names.items now sum inside passes run c.elements.invariant.0 in
    let s = step_read (reads w) (refuses w) w v _ c.in-Some-Ok.item c.in-Some-Ok.field-0-is c.in-Some-Ok.ensures.steps.0 in (
      walked_behind (IsConstantText z m.«module» k t) (NamesMore z) constant (RefusesConstant z m k t) first before w now standing v c.in-Some-Ok.item.1.rest s.1 s.2.1 c.in-Some-Ok.ensures.steps.2 c.take_constant.new.names.items s.0
          (subst (λ (xs : List ℕ). IsConstantText z m.«module» k t xs) c.standing_at-expr.ensures.rest c.in-Ok.ensures.answer)
          (subst (λ (xs : List ℕ). NamesMore z xs now c.take_constant.new.names.items) c.standing_at-expr.ensures.rest c.in-Ok.ensures.named),
      (constant_within w.reader.settings w.reader v.reader c.in-Some-Ok.item.1.rest s.2.1).1 ∙ passed_end (place_with_offsets c.elements.elements) w j w.left passes ∙ c.elements.invariant.1,
    )

pub returns-in-Err-clause-answer : goal.returns-in-Err-clause-answer
returns-in-Err-clause-answer g c =
    let z = c.args.settings.now in
    let m = g.R.WasmModuleResources.meaning c.args.resources.now in
    let k = c.args.imported_globals in
    let t = type_in m c.args.ty.now in
    let first = fresh c.args.constants.count c.args.constants.reader in
    let before = c.args.names.now.items in
    let w = place_with_offsets c.take_short_elements.new.elements in
    let v = place_with_offsets c.next.new.self in
    let now = c.take_short_elements.new.names.items in
    let (n, j, sum, inside, passes, run) = c.take_short_elements.ensures.named in
    let standing = walked_run z m.«module» k t (RefusesConstant z m k t) first before n j (place_with_offsets c.elements.elements) w c.elements.names.items now sum inside passes run c.elements.invariant.0 in
    let s = step_read (reads w) (refuses w) w v _ c.in-Some-Ok.item c.in-Some-Ok.field-0-is c.in-Some-Ok.ensures.steps.0 in
    walked_denied (IsConstantText z m.«module» k t) (NamesMore z) constant (RefusesConstant z m k t) first before w now standing v c.in-Some-Ok.item.1.rest s.1 s.2.1 c.in-Some-Ok.ensures.steps.2 c.in-Err.error.kind
    (subst (λ (xs : List ℕ). Denies c.in-Err.error.kind (IsConstantText z m.«module» k t xs)) c.standing_at-expr.ensures.rest c.in-Err.ensures.answer)

pub returns-in-Err-clause-refused : goal.returns-in-Err-clause-refused
returns-in-Err-clause-refused g c =
    let z = c.args.settings.now in
    let m = g.R.WasmModuleResources.meaning c.args.resources.now in
    let k = c.args.imported_globals in
    let t = type_in m c.args.ty.now in
    let first = fresh c.args.constants.count c.args.constants.reader in
    let before = c.args.names.now.items in
    let w = place_with_offsets c.take_short_elements.new.elements in
    let v = place_with_offsets c.next.new.self in
    let now = c.take_short_elements.new.names.items in
    let (n, j, sum, inside, passes, run) = c.take_short_elements.ensures.named in
    let standing = walked_run z m.«module» k t (RefusesConstant z m k t) first before n j (place_with_offsets c.elements.elements) w c.elements.names.items now sum inside passes run c.elements.invariant.0 in
    let s = step_read (reads w) (refuses w) w v _ c.in-Some-Ok.item c.in-Some-Ok.field-0-is c.in-Some-Ok.ensures.steps.0 in
    let e = c.in-Err.error in
    let x = c.standing_at-expr in
    unless_from e.kind (StopsText z m k t x.result e) (StopsAmong (IsConstantText z m.«module» k t) constant (RefusesConstant z m k t) first e)
    (λ stops. walked_refused (IsConstantText z m.«module» k t) (NamesMore z) constant (RefusesConstant z m k t) first before w now standing e (c.in-Some-Ok.item.1.rest, v.reader, s.2.1, (x.result, x.ensures.rest, x.ensures.place ∙ s.2.0, stops))) c.in-Err.ensures.refused
