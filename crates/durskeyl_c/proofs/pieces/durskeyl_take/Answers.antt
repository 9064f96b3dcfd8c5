-- What was taken out is put back.
use Rattle.std.proofs.Common.{◌≡◌, ◌++◌, Option, Some, rules, sym, subst}
use Rattle.wasm_module_validator_streaming.specs.declared.pieces.ModuleInPieces.{ModuleInPieces}
use Rattle.durskeyl_c.specs.Pieces.{Holds, TellsPiece, cap_of}
use Rattle.durskeyl_c.proofs.pieces.durskeyl_take.Goals as goal

pub returns-clause-came : goal.returns-clause-came
returns-clause-came c s got h =
    let before : c.args.pieces.now.inside.value ≡ Some c.deref_mut.result.now = search rules in
    let after : c.put.new.pieces.inside.value ≡ Some c.take-answer.new.it = search rules in
    subst (λ (o : Option ModuleInPieces). Holds o s (got ++ c.args.bytes.now)) (sym after)
    (c.take-answer.ensures.came s got (subst (λ (o : Option ModuleInPieces). Holds o s got) before h))

pub returns-clause-told : goal.returns-clause-told
returns-clause-told c s got h =
    let before : c.args.pieces.now.inside.value ≡ Some c.deref_mut.result.now = search rules in
    subst (λ (o : Option ModuleInPieces). TellsPiece c.take-answer.result s (cap_of o) (got ++ c.args.bytes.now)) (sym before)
    (c.take-answer.ensures.told s got (subst (λ (o : Option ModuleInPieces). Holds o s got) before h))
