use Rattle.std.proofs.Common.{◌≡◌, ◌∙◌, ℕ, refl, sym, ap, subst, arith}
use Rattle.wasm_types.specs.settings.declared.Limits.{Limits}
use Rattle.wasm_operator_validator_arity.specs.resources.Meaning.{Meaning}
use Rattle.wasm_operator_validator_stacks.specs.Defining.{DefinesLocals}
use Rattle.wasm_module_validator_function_bodies.specs.Locals.{judged_by, RefusesGroup, TakesSome}
use Rattle.wasm_module_validator_function_bodies.specs.laws.Reading.{takes_none, takes_more, takes_all, some_others, stops_next, stops_over}
use Rattle.wasm_module_validator_function_bodies.proofs.Limits.{past_most, within_most}
use Rattle.wasm_module_validator_function_bodies.proofs.validator.FuncValidator.take_locals.Goals as goal

pub loop-init : goal.loop-init
loop-init g c = record {
  taken = takes_none (g.R.WasmModuleResources.meaning c.args.self.now.resources) (judged_by c.args.self.now.validator.given.bits c.args.self.now.limits) c.args.reader.now c.args.self.now.validator c.in-Some.count c.short_u32.new.self c.in-Some.ensures.found;
  resources = refl;
  index = refl;
  limits = refl;
}

pub loop-preserved : goal.loop-preserved
loop-preserved g c =
    let m = g.R.WasmModuleResources.meaning c.args.self.now.resources in
    let some = c.loop.invariant.taken in
    let step = c.in-Ok.ensures.taken in
    let same = ap g.R.WasmModuleResources.meaning c.loop.invariant.resources in
    record {
      taken = takes_more m (judged_by c.args.self.now.validator.given.bits c.args.self.now.limits) c.args.reader.now c.args.self.now.validator c.in-Some.count c.loop.counter c.loop.reader c.take_group.new.reader c.loop.self.validator c.take_group.new.self.validator step.0 some step.1
          (subst (λ (k : ℕ). DefinesLocals m k c.loop.self.validator step.0.count step.0.type c.take_group.new.self.validator) (ap (λ (l : Limits). l.locals) c.loop.invariant.limits)
          (subst (λ (n : Meaning). DefinesLocals n c.loop.self.limits.locals c.loop.self.validator step.0.count step.0.type c.take_group.new.self.validator) same step.2));
      resources = c.take_group.ensures.resources ∙ c.loop.invariant.resources;
      index = c.take_group.ensures.index ∙ c.loop.invariant.index;
      limits = c.take_group.ensures.limits ∙ c.loop.invariant.limits;
    }

pub returns-in-Err-clause-refused : goal.returns-in-Err-clause-refused
returns-in-Err-clause-refused g c =
    let m = g.R.WasmModuleResources.meaning c.args.self.now.resources in
    let same = ap g.R.WasmModuleResources.meaning c.loop.invariant.resources in
    stops_next m (judged_by c.args.self.now.validator.given.bits c.args.self.now.limits) c.args.reader.now c.args.self.now.validator c.in-Some.count c.loop.counter c.loop.reader c.loop.self.validator c.in-Err.error c.loop.invariant.taken c.loop-test.true
    (subst (λ (k : ℕ). RefusesGroup m k c.loop.reader c.loop.self.validator c.in-Err.error) (ap (λ (l : Limits). l.locals) c.loop.invariant.limits)
    (subst (λ (n : Meaning). RefusesGroup n c.loop.self.limits.locals c.loop.reader c.loop.self.validator c.in-Err.error) same c.in-Err.ensures.refused))

pub returns-in-Err-clause-others : goal.returns-in-Err-clause-others
returns-in-Err-clause-others g c =
    let m = g.R.WasmModuleResources.meaning c.args.self.now.resources in
    rw c.in-Err.ensures.stays
    (some_others m (judged_by c.args.self.now.validator.given.bits c.args.self.now.limits) c.args.reader.now c.args.self.now.validator c.in-Some.count c.loop.counter c.loop.reader c.loop.self.validator c.loop.invariant.taken)

pub returns-then-is_some-clause-refused : goal.returns-then-is_some-clause-refused
returns-then-is_some-clause-refused g c =
    let m = g.R.WasmModuleResources.meaning c.args.self.now.resources in
    let n : c.loop.counter ≡ c.in-Some.count = omega arith in
    let all = subst (λ (k : ℕ). TakesSome m (judged_by c.args.self.now.validator.given.bits c.args.self.now.limits) c.args.reader.now c.args.self.now.validator c.in-Some.count k c.loop.reader c.loop.self.validator) n c.loop.invariant.taken in
    let limit = ap (λ (l : Limits). l.locals) c.get-most.ensures.value in
    stops_over m (judged_by c.args.self.now.validator.given.bits c.args.self.now.limits) c.args.reader.now c.args.self.now.validator c.in-Some.count c.loop.reader c.loop.self.validator c.too_many_locals.result all
    (past_most c.loop.self.validator.given.locals c.local.result c.get-most.result.locals c.args.self.now.limits.locals limit c.local.ensures (sym c.is_some.ensures ∙ c.if-is_some.true))
    c.too_many_locals.ensures.kind (c.too_many_locals.ensures.offset ∙ c.original_position.ensures)

pub returns-then-is_some-clause-others : goal.returns-then-is_some-clause-others
returns-then-is_some-clause-others g c =
    let m = g.R.WasmModuleResources.meaning c.args.self.now.resources in
    some_others m (judged_by c.args.self.now.validator.given.bits c.args.self.now.limits) c.args.reader.now c.args.self.now.validator c.in-Some.count c.loop.counter c.loop.reader c.loop.self.validator c.loop.invariant.taken

pub returns-clause-taken : goal.returns-clause-taken
returns-clause-taken g c =
    let m = g.R.WasmModuleResources.meaning c.args.self.now.resources in
    let n : c.loop.counter ≡ c.in-Some.count = omega arith in
    let all = subst (λ (k : ℕ). TakesSome m (judged_by c.args.self.now.validator.given.bits c.args.self.now.limits) c.args.reader.now c.args.self.now.validator c.in-Some.count k c.loop.reader c.loop.self.validator) n c.loop.invariant.taken in
    let limit = ap (λ (l : Limits). l.locals) c.get-most.ensures.value in
    takes_all m (judged_by c.args.self.now.validator.given.bits c.args.self.now.limits) c.args.reader.now c.args.self.now.validator c.in-Some.count c.loop.reader c.loop.self.validator all
    (within_most c.loop.self.validator.given.locals c.local.result c.get-most.result.locals c.args.self.now.limits.locals limit c.local.ensures (sym c.is_some.ensures ∙ c.if-is_some.false))

pub returns-clause-others : goal.returns-clause-others
returns-clause-others g c =
    let m = g.R.WasmModuleResources.meaning c.args.self.now.resources in
    some_others m (judged_by c.args.self.now.validator.given.bits c.args.self.now.limits) c.args.reader.now c.args.self.now.validator c.in-Some.count c.loop.counter c.loop.reader c.loop.self.validator c.loop.invariant.taken
