use Rattle.std.proofs.Common.{◌<◌, ◌∙◌, sym, ap, subst, length, map, arith}
use Rattle.wasm_module_validator_type_storage.specs.ordered.Chunks.{IsInside}
use Rattle.wasm_module_validator_type_storage.proofs.Chunks.{read, within_map, belongs_inside, place_inside}
use Rattle.wasm_module_validator_type_storage.proofs.ordered.adding.is_there.Goals as goal

pub returns-clause-takes : goal.returns-clause-takes
returns-clause-takes g c = λ yes.
    let order = g.C.Compare.order c.args.sought.now in
    let at = c.args.end.chunk in
    let within : at < length c.args.chunks.now = omega (arith, c.if-end-chunks.false) in
    let is = read (λ v. v.items) c.args.chunks.now at c.index-chunks-end.result within c.index-chunks-end.is ∙ sym c.as_slice.ensures.value in
    let inside = subst (λ ns. IsInside order ns c.args.end.place) (sym is) (c.is_inside.ensures.inside yes) in
    record {
      within = within_map (λ v. v.items) c.args.chunks.now at within;
      sized = c.requires.sized;
      room = omega (arith, ap length is, c.is_inside.ensures.room yes);
      belongs = belongs_inside order (map (λ v. v.items) c.args.chunks.now) at (within_map (λ v. v.items) c.args.chunks.now at within) c.args.end.place
          c.requires.ascends inside;
    }

pub returns-clause-place : goal.returns-clause-place
returns-clause-place g c = λ yes.
    let order = g.C.Compare.order c.args.sought.now in
    let at = c.args.end.chunk in
    let within : at < length c.args.chunks.now = omega (arith, c.if-end-chunks.false) in
    let is = read (λ v. v.items) c.args.chunks.now at c.index-chunks-end.result within c.index-chunks-end.is ∙ sym c.as_slice.ensures.value in
    let inside = subst (λ ns. IsInside order ns c.args.end.place) (sym is) (c.is_inside.ensures.inside yes) in
    place_inside order (map (λ v. v.items) c.args.chunks.now) at (within_map (λ v. v.items) c.args.chunks.now at within) c.args.end.place
    c.requires.ascends inside
