use Rattle.std.proofs.Common.{false, ◌≡◌, ◌∙◌, ◌+◌, ◌<◌, ◌^◌, List, [], length, refl, sym, subst, arith, ap, Some, Result, inr}
use Rattle.wasm_types.specs.decoding.ErrorValue.{ErrorValue}
use Rattle.wasm_sections_parser.specs.runs.calls.Runs.{fresh}
use Rattle.wasm_sections_parser.specs.Parsers.{Parser}
use Rattle.wasm_sections.specs.declared.payload.Payload.{Payload}
use Rattle.wasm_sections.specs.Walking.{NextPayload}
use Rattle.wasm_module_validator_section_order.specs.items.FullLaws.{either_from}
use Rattle.wasm_module_validator_section_order.specs.declared.items.bodies.Body.{Body}
use Rattle.wasm_module_validator_payloads.specs.declarations.TotalLaws.{past_by}
use Rattle.wasm_module_validator_payloads.specs.Progress.{HasGroup, Progress, IsAt}
use Rattle.wasm_module_validator_section_order.specs.rules_in_order.Steps.{nothing}
use Rattle.wasm_module_validator_payloads.specs.laws.Growing.{grows_by_nothing, grows_further, total_before}
use Rattle.wasm_module_validator_drivers.specs.reading.Reading.{HasGroupIn}
use Rattle.wasm_module_validator_drivers.specs.reading.laws.Walking.{Goes, goes_first, goes_on, refused_payload, refused_bytes, is_read, stands_for, nothing_is_at, group_in}
use Rattle.wasm_module_validator_drivers.proofs.reading.reading.read_module.Goals as goal

pub loop-payload-init : goal.loop-payload-init
loop-payload-init c =
    let p : Parser = record { offset = 0; settings = c.args.settings.now; progress = fresh } in
    let room : 0 + length c.args.bytes.now < 2 ^ 64 = omega (arith, c) in
    let set = λ (f : Parser). record f { settings = record { features = f.settings.features; limits = c.limits.result } } in
    let made : c.set_limits.new.self.frames ≡ p =
    c.set_limits.ensures ∙ ap set c.set_features.ensures
    ∙ (λ i. record {
      offset = c.new-parser.ensures.offset i;
      settings = record { features = c.features.ensures i; limits = c.limits.ensures.value i };
      progress = c.new-parser.ensures.fresh i;
    }) in
    let here : c.into_iter-payload-iterator.result ≡ record { parser = p; rest = c.args.bytes.now; over = false } =
    c.into_iter-payload-iterator.ensures.into_iter_gives ∙ c.parse_all-payload-items.ensures ∙ (λ i. record { parser = made i; rest = c.args.bytes.now; over = false }) in
    let at = subst (λ (r : Progress). IsAt c.args.settings.now r [] nothing) (sym c.requires) (nothing_is_at c.args.progress.now.kept.groups c.args.settings.now) in (
      subst (λ (bs : List Body). Goes p c.args.bytes.now c.into_iter-payload-iterator.result c.args.progress.now bs) (sym c.new-bodies.ensures.items)
          (goes_first p c.args.bytes.now refl room c.into_iter-payload-iterator.result c.args.progress.now here at),
      grows_by_nothing c.args.progress.now.kept,
    )

pub returns-in-Err-clause-answer : goal.returns-in-Err-clause-answer
returns-in-Err-clause-answer c =
    let p : Parser = record { offset = 0; settings = c.args.settings.now; progress = fresh } in
    let room : 0 + length c.args.bytes.now < 2 ^ 64 = omega (arith, c) in
    let next = subst (λ (r : Result Payload ErrorValue). NextPayload c.loop-payload.payload-iterator (Some r) c.next.new.self) c.in-Err.is c.in-Some.ensures.steps in
    inr (refused_bytes p c.args.bytes.now refl room c.loop-payload.payload-iterator c.next.new.self c.loop-payload.progress c.loop-payload.bodies.items c.in-Err.error c.loop-payload.invariant.0 next)

pub loop-payload-preserved : goal.loop-payload-preserved
loop-payload-preserved c =
    let p : Parser = record { offset = 0; settings = c.args.settings.now; progress = fresh } in
    let room : 0 + length c.args.bytes.now < 2 ^ 64 = omega (arith, c) in
    let next = subst (λ (r : Result Payload ErrorValue). NextPayload c.loop-payload.payload-iterator (Some r) c.next.new.self) c.in-Ok.is c.in-Some.ensures.steps in (
      goes_on p c.args.bytes.now refl room c.loop-payload.payload-iterator c.next.new.self c.loop-payload.progress c.loop-payload.bodies.items c.in-Ok.payload c.loop-payload.invariant.0 next
          c.take_payload.new.self _ c.in-Ok-take_payload.ensures.answer c.in-Ok-take_payload.ensures.added,
      grows_further c.args.progress.now.kept c.loop-payload.progress.kept c.take_payload.new.self.kept c.loop-payload.invariant.1 c.in-Ok-take_payload.ensures.grown,
    )

pub returns-in-Err-take_payload-clause-answer : goal.returns-in-Err-take_payload-clause-answer
returns-in-Err-take_payload-clause-answer c =
    let p : Parser = record { offset = 0; settings = c.args.settings.now; progress = fresh } in
    let room : 0 + length c.args.bytes.now < 2 ^ 64 = omega (arith, c) in
    let next = subst (λ (r : Result Payload ErrorValue). NextPayload c.loop-payload.payload-iterator (Some r) c.next.new.self) c.in-Ok.is c.in-Some.ensures.steps in
    let here = c.loop-payload.progress.kept in
    let error = c.in-Err-take_payload.error in
    let x = c.in-Ok.payload in
    let Has = HasGroupIn c.args.settings.now c.args.bytes.now in
    either_from (λ full. total_before c.args.progress.now.kept here Has error c.loop-payload.invariant.1
    (past_by here.groups here.items (HasGroup x) Has error
    (λ b n. group_in p c.args.bytes.now refl room c.loop-payload.payload-iterator c.next.new.self c.loop-payload.progress c.loop-payload.bodies.items x
    c.loop-payload.invariant.0 next b n refl)
    (let g = c.loop-payload.invariant.0 in full c.args.settings.now g.some.0 (g.stands g.some.0 g.some.1))))
    (λ told. refused_payload p c.args.bytes.now refl room c.loop-payload.payload-iterator c.next.new.self c.loop-payload.progress c.loop-payload.bodies.items c.in-Ok.payload c.loop-payload.invariant.0 next
    c.in-Err-take_payload.error.kind told) c.in-Err-take_payload.ensures.answer

pub returns-clause-answer : goal.returns-clause-answer
returns-clause-answer c =
    let p : Parser = record { offset = 0; settings = c.args.settings.now; progress = fresh } in
    let room : 0 + length c.args.bytes.now < 2 ^ 64 = omega (arith, c) in
    is_read p c.args.bytes.now refl room c.loop-payload.payload-iterator c.next.new.self c.loop-payload.progress c.loop-payload.bodies.items c.loop-payload.invariant.0 c.in-None.ensures.steps

pub returns-clause-stands : goal.returns-clause-stands
returns-clause-stands c =
    let p : Parser = record { offset = 0; settings = c.args.settings.now; progress = fresh } in
    let room : 0 + length c.args.bytes.now < 2 ^ 64 = omega (arith, c) in
    stands_for p c.args.bytes.now refl room c.loop-payload.payload-iterator c.next.new.self c.loop-payload.progress c.loop-payload.bodies.items c.loop-payload.invariant.0 c.in-None.ensures.steps

pub returns-clause-grown : goal.returns-clause-grown
returns-clause-grown c = c.loop-payload.invariant.1
