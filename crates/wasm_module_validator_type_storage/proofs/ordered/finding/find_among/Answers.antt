use Rattle.std.proofs.Common.{◌<◌, ◌∙◌, sym, subst, length, map, arith}
use Rattle.std.proofs.lemmas.List.{length-map}
use Rattle.wasm_module_validator_type_storage.specs.ordered.Order.{Ascends}
use Rattle.wasm_module_validator_type_storage.proofs.Chunks.{read, within_map, ascends_at, misses_past, found_by}
use Rattle.wasm_module_validator_type_storage.proofs.ordered.finding.find_among.Goals as goal

pub returns-then-at-chunks : goal.returns-then-at-chunks
returns-then-at-chunks g c =
    misses_past (g.C.Compare.order c.args.sought.now) (map (λ v. v.items) c.args.chunks.now) c.chunk_to_search-at.result
    (omega (arith, c.if-at-chunks.true, length-map c.args.chunks.now (λ v. v.items))) c.chunk_to_search-at.ensures.belongs

pub find_in-found-requires : goal.find_in-found-requires
find_in-found-requires g c =
    let at = c.chunk_to_search-at.result in
    let within : at < length c.args.chunks.now = omega (arith, c.chunk_to_search-at.ensures.within, c.if-at-chunks.false) in
    let is = read (λ v. v.items) c.args.chunks.now at c.index-chunks-at.result within c.index-chunks-at.is in
    subst (Ascends (g.C.Compare.order c.args.sought.now)) (is ∙ sym c.as_slice.ensures.value)
    (ascends_at (g.C.Compare.order c.args.sought.now) (map (λ v. v.items) c.args.chunks.now) at (within_map (λ v. v.items) c.args.chunks.now at within) c.requires.ascends)

pub returns : goal.returns
returns g c =
    let at = c.chunk_to_search-at.result in
    let within : at < length c.args.chunks.now = omega (arith, c.chunk_to_search-at.ensures.within, c.if-at-chunks.false) in
    let is = read (λ v. v.items) c.args.chunks.now at c.index-chunks-at.result within c.index-chunks-at.is in
    found_by (λ v. v.items) c.args.chunks.now (g.C.Compare.order c.args.sought.now) at c.as_slice.result.now within (is ∙ sym c.as_slice.ensures.value)
    c.chunk_to_search-at.ensures.belongs _ c.find_in-found.ensures
