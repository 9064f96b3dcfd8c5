use Rattle.std.proofs.Common.{◌∙◌, ◌+◌, ◌-◌, ◌++◌, ap, length, sym, arith}
use Rattle.std.proofs.lemmas.List.{length-append}
use Rattle.wasm_module_validator_type_groups.specs.adding.Interned.{ids_from}
use Rattle.wasm_module_validator_type_groups.proofs.Added.{ids_step}
use Rattle.wasm_module_validator_type_groups.proofs.adding.interning.add_type_ids.Goals as goal

pub loop-number-preserved : goal.loop-number-preserved
loop-number-preserved g c =
    let i = c.loop-number.invariant in
    let few = i.1 in
    let short = i.2 in
    let room = c.add_type_id.ensures.room in
    let ids = c.add_type_id.ensures.ids in
    let long = ap length ids ∙ length-append (g.M.InternRecGroup.ids c.loop-number.target) _ in (
      i.0 ∙ ids_step (g.M.InternRecGroup.ids c.loop-number.target) c.new.result c.loop-number.number c.args.end (omega arith) c.new.ensures
          ∙ ap (λ l. l ++ ids_from (c.loop-number.number + 1) (c.args.end - (c.loop-number.number + 1))) (sym ids),
      omega arith,
      omega arith,
      c.add_type_id.ensures.settings ∙ i.3,
    )
