use Rattle.std.proofs.Common.{rules}
use Rattle.std.proofs.Common.{◌∙◌, sym, ap, map, set, drop}
use Rattle.std.proofs.lemmas.List.{take_rest}
use Rattle.wasm_module_validator_type_storage.specs.ordered.Chunks.{half}
use Rattle.wasm_module_validator_type_storage.proofs.Chunks.{read, within_map}
use Rattle.wasm_module_validator_type_storage.proofs.Halves.{halved_by, same_now, sized_now}
use Rattle.wasm_module_validator_type_storage.proofs.ordered.adding.halve.Goals as goal

pub returns-clause-ok : goal.returns-clause-ok
returns-clause-ok c =
    let is = read (λ v. v.items) c.args.chunks.now.items c.args.at c.index.result.now c.requires.within c.index.ensures in
    let up = c.in_ok-upper.ensures.items ∙ take_rest c.as_slice.result.now half ∙ ap (drop half) (c.as_slice.ensures.value ∙ sym is) in
    halved_by (λ v. v.items) c.args.chunks.now.items c.insert.new.self.items c.args.at c.in_ok-upper.upper c.shorten.new.chunk c.index_mut.result.now c.requires.within
    c.in_ok-insert.ensures.items up c.index_mut.ensures.value c.shorten.ensures

pub returns-clause-same : goal.returns-clause-same
returns-clause-same c =
    same_now (map (λ v. v.items) c.args.chunks.now.items) (map (λ v. v.items) (set c.insert.new.self.items c.args.at c.shorten.new.chunk)) c.args.at (returns-clause-ok c)
    (within_map (λ v. v.items) c.args.chunks.now.items c.args.at c.requires.within) c.requires.long

pub returns-clause-sized : goal.returns-clause-sized
returns-clause-sized c =
    sized_now (map (λ v. v.items) c.args.chunks.now.items) (map (λ v. v.items) (set c.insert.new.self.items c.args.at c.shorten.new.chunk)) c.args.at (returns-clause-ok c)
    (within_map (λ v. v.items) c.args.chunks.now.items c.args.at c.requires.within) c.requires.long c.requires.sized

pub returns-in_err-insert-clause-same : goal.returns-in_err-insert-clause-same
returns-in_err-insert-clause-same c = search rules

pub returns-in_err-insert-clause-sized : goal.returns-in_err-insert-clause-sized
returns-in_err-insert-clause-sized c = search rules
