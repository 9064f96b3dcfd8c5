use Rattle.std.proofs.Common.{◌∙◌, length, ap, sym, arith}
use Rattle.wasm_sections_items.specs.declared.imports.kind.ExternalKind.{ExternalKind}
use Rattle.wasm_module_validator_rows.specs.Entities.{entity_rows}
use Rattle.wasm_module_validator_rows.proofs.Taking.{functions_counted, tables_counted, memories_counted, globals_counted, tags_counted}
use Rattle.wasm_module_validator_rows.proofs.entities.count_of.Goals as goal

pub returns-in-Func : goal.returns-in-Func
returns-in-Func c =
    let s = c.args.types.now.spaces in
    let fits = c.function_count.type_inv in
    functions_counted s c.function_count.result c.function_count.ensures (omega arith)
    ∙ ap (λ (k : ExternalKind). length (entity_rows s k)) (sym c.in-Func.is)

pub returns-in-FuncExact : goal.returns-in-FuncExact
returns-in-FuncExact c =
    let s = c.args.types.now.spaces in
    let fits = c.function_count-in-FuncExact.type_inv in
    functions_counted s c.function_count-in-FuncExact.result c.function_count-in-FuncExact.ensures (omega arith)
    ∙ ap (λ (k : ExternalKind). length (entity_rows s k)) (sym c.in-FuncExact.is)

pub returns-in-Table : goal.returns-in-Table
returns-in-Table c =
    let s = c.args.types.now.spaces in
    tables_counted s c.table_count.result c.table_count.ensures ∙ ap (λ (k : ExternalKind). length (entity_rows s k)) (sym c.in-Table.is)

pub returns-in-Memory : goal.returns-in-Memory
returns-in-Memory c =
    let s = c.args.types.now.spaces in
    memories_counted s c.memory_count.result c.memory_count.ensures ∙ ap (λ (k : ExternalKind). length (entity_rows s k)) (sym c.in-Memory.is)

pub returns-in-Global : goal.returns-in-Global
returns-in-Global c =
    let s = c.args.types.now.spaces in
    globals_counted s c.global_count.result c.global_count.ensures ∙ ap (λ (k : ExternalKind). length (entity_rows s k)) (sym c.in-Global.is)

pub returns-in-Tag : goal.returns-in-Tag
returns-in-Tag c =
    let s = c.args.types.now.spaces in
    tags_counted s c.tag_count.result c.tag_count.ensures ∙ ap (λ (k : ExternalKind). length (entity_rows s k)) (sym c.in-Tag.is)
