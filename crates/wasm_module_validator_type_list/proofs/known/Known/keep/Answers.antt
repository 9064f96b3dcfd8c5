use Rattle.std.proofs.Common.{◌∙◌, ap, sym, refl, map}
use Rattle.wasm_types.specs.Entries.{declared_of, declared_types}
use Rattle.wasm_module_validator_type_list.specs.Known.{by_id, by_copy}
use Rattle.wasm_module_validator_type_list.proofs.Besides.{ordered_beside, missed_none, ok_so}
use Rattle.wasm_module_validator_type_list.proofs.known.Known.keep.Goals as goal

pub insert-requires-clause-ascends : goal.insert-requires-clause-ascends
insert-requires-clause-ascends c = ordered_beside c.args.types.now.items c.in-Some.ty.now c.args.self.now.alone c.requires.ordered

pub insert-requires-clause-misses : goal.insert-requires-clause-misses
insert-requires-clause-misses c =
    missed_none c.equality_is_of_declarations.ensures.subtypes c.args.types.now.items c.args.self.now.alone c.in-Some.ty.now (declared_types c.args.group)
    (ap (map declared_of) (sym c.types.ensures) ∙ c.in-Some.ensures.1) c.requires.new

pub returns-in-Some-clause-ok : goal.returns-in-Some-clause-ok
returns-in-Some-clause-ok c =
    ok_so c.insert.result (λ put. by_id c.in-Some.ty.now c.in-Some.ensures.0 (ap (map declared_of) (sym c.types.ensures) ∙ c.in-Some.ensures.1) put (λ q. refl)) c.insert.ensures.ok

pub returns-in-None-clause-ok : goal.returns-in-None-clause-ok
returns-in-None-clause-ok c =
    ok_so c.keep_whole.result (λ learns. by_copy (λ one same. c.in-None.ensures one (ap (map declared_of) c.types.ensures ∙ same)) learns refl) c.keep_whole.ensures.ok
