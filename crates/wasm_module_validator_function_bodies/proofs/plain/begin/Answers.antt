use Rattle.std.proofs.Common.{◌∙◌, List, ℕ, ◌++◌, refl, sym, ap, subst, get_or}
use Rattle.std.proofs.lemmas.Option.{slice_get-get_or}
use Rattle.wasm_module_validator_function_bodies.specs.Plain.{TakesAll}
use Rattle.wasm_module_validator_function_bodies.proofs.Judged.{same_all}
use Rattle.wasm_module_validator_function_bodies.proofs.plain.begin.Goals as goal

pub returns-clause-begun : goal.returns-clause-begun
returns-clause-begun c =
    let types = c.as_slice-types.ensures.value in
    let flat = c.as_slice.ensures.value in
    record {
      sig = get_or c.args.tables.now.known.types.items c.args.ty (record { params = 0; param_count = 0; results = 0; result_count = 0 });
      at = slice_get-get_or c.args.tables.now.known.types.items c.args.ty (record { params = 0; param_count = 0; results = 0; result_count = 0 }) (rw types at c.if-index-types.false);
      usable = rw (types, flat) at c.in-Some.ensures.within;
      results = rw types refl;
      locals = subst (λ (l : List ℕ). TakesAll c.args.tables.now c.args.bytes.now l c.take_locals.new.tables.locals.items c.in-Some-take_locals.start)
          (c.in-Ok.ensures.items ∙ ap (λ (l : List ℕ). l ++ c.in-Some.params.now) c.clear.ensures.items ∙ (rw (types, flat) at c.in-Some.ensures.value))
          (same_all c.args.tables.now _ c.args.bytes.now _ c.take_locals.new.tables.locals.items c.in-Some-take_locals.start (record { known = refl; features = refl; references = refl; vectors = refl })
          c.in-Some-take_locals.ensures.taken);
      certain = rw (sym (rw (types, flat) at c.in-Some.ensures.value)) (rw c.as_slice-3.ensures.value at c.certain_of-tables.ensures);
      within = rw c.as_slice-2.ensures.value at c.if-as_slice-limits.false;
    }
