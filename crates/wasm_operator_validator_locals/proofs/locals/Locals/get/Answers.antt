use Rattle.std.proofs.Common.{rules, leb, ◌∙◌, sym, ◌<◌, ◌≤◌, length}
use Rattle.std.proofs.lemmas.List.Sorted.{IsPartitionPoint-from_clause}
use Rattle.wasm_operator_validator_locals.proofs.Runs.{local_past, local_here, ends_partitioned}
use Rattle.wasm_operator_validator_locals.proofs.locals.Locals.get.Goals as goal

pub returns-then-at-len : goal.returns-then-at-len
returns-then-at-len c =
    let after : length c.self.inside.params.items ≤ c.args.index = search rules in
    let point = IsPartitionPoint-from_clause (λ r. leb r.end c.args.index) _ _ c.partition_point-at.ensures.partitioned
    (ends_partitioned (length c.self.inside.params.items) _ c.args.index (rw c.deref.ensures.value c.self.invariant.0)) (λ a r q k. search rules) in
    local_past c.self.inside.params.items _ _ _ c.args.index _ c.deref.ensures.value c.self.invariant.0 c.self.view_is after
    (c.if-at-len.true ∙ c.len.ensures ∙ sym c.deref.ensures.len) point

pub returns : goal.returns
returns c =
    let after : length c.self.inside.params.items ≤ c.args.index = search rules in
    let lt : c.partition_point-at.result < length c.self.inside.runs.items = search rules in
    let point = IsPartitionPoint-from_clause (λ r. leb r.end c.args.index) _ _ c.partition_point-at.ensures.partitioned
    (ends_partitioned (length c.self.inside.params.items) _ c.args.index (rw c.deref.ensures.value c.self.invariant.0)) (λ a r q k. search rules) in
    local_here c.self.inside.params.items _ _ _ c.args.index _ c.index.result.now c.deref.ensures.value c.self.invariant.0 c.self.view_is after lt c.index.ensures point
