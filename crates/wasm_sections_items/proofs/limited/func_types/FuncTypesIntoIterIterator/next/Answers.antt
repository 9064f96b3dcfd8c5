-- A step over the groups.
use Rattle.std.proofs.Common.{sym, ◌∙◌}
use Rattle.wasm_sections_items.specs.limited.FunctionLaws.{step_fails, step_reads, step_refuses}
use Rattle.wasm_sections_items.specs.limited.Runs.{place_of_functions, place_with_offsets}
use Rattle.wasm_sections_items.proofs.limited.func_types.FuncTypesIntoIterIterator.next.Goals as goal

pub returns-in-Some-Err-clause-steps : goal.returns-in-Some-Err-clause-steps
returns-in-Some-Err-clause-steps c =
    let step = rw c.in-Some-Err.field-0-is at c.in-Some-Err.ensures.steps in
    (step_fails c.args.self.now.groups.section.reader.settings (place_of_functions c.args.self.now) (place_with_offsets c.next.new.self) c.in-Some-Err.error step.0, tt, step.2)

pub returns-in-Some-clause-steps : goal.returns-in-Some-clause-steps
returns-in-Some-clause-steps c =
    let step = rw c.in-Some-Ok.field-0-is at c.in-Some-Ok.ensures.steps in (
      step_reads c.args.self.now.groups.section.reader.settings (place_of_functions c.args.self.now)
          (place_with_offsets c.next.new.self) c.in-Some-Ok.item c.in-Some.ty step.0 (sym c.only_function.ensures ∙ c.in-Some.is),
      tt,
      step.2,
    )

pub returns-in-None-only_function-clause-steps : goal.returns-in-None-only_function-clause-steps
returns-in-None-only_function-clause-steps c =
    let step = rw c.in-Some-Ok.field-0-is at c.in-Some-Ok.ensures.steps in (
      step_refuses c.args.self.now.groups.section.reader.settings (place_of_functions c.args.self.now) (place_with_offsets c.next.new.self) c.in-Some-Ok.item
          c.no_function.result step.0 (sym c.only_function.ensures ∙ c.in-None-only_function.is) c.no_function.ensures.kind c.no_function.ensures.offset,
      tt,
      step.2,
    )
