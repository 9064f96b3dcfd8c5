use Rattle.std.proofs.Common.{[], ◌∷◌, ◌++◌, ◌∙◌, ap, sym, if◌then◌else◌, refl, rules, arith, ℕ, List}
use Rattle.std.proofs.lemmas.List.{length_push}
use Rattle.wasm_module_validator_section_order.specs.declared.items.bodies.Body.{Body}
use Rattle.wasm_module_validator_drivers.specs.judging.Bodies.{is_of}
use Rattle.wasm_module_validator_drivers.specs.judging.laws.Parts.{of_part_push}
use Rattle.wasm_module_validator_drivers.proofs.judging.parts.bodies_of_part.Goals as goal

pub loop-body-init : goal.loop-body-init
loop-body-init c = record { can = tt; finite = tt; counted = refl; kept = search rules }

pub loop-body-preserved : goal.loop-body-preserved
loop-body-preserved c =
    let part : ℕ = c.args.part in
    let parts : ℕ = c.args.parts in
    let one : List Body = c.in-Some.body ∷ [] in
    record {
      can = tt;
      finite = tt;
      counted = grind (arith, length_push c.loop-body.yielded c.in-Some.body);
      kept = c.in-Ok.ensures.ok
          ∙ (ap (λ (xs : List Body). xs ++ (if is_of part parts c.loop-body.number then one else [])) c.loop-body.invariant.kept
          ∙ sym (of_part_push part parts c.loop-body.number c.loop-body.yielded c.in-Some.body c.loop-body.invariant.counted));
    }
