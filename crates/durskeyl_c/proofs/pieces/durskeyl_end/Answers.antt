-- The verdict is that of the module that was taken out.
use Rattle.std.proofs.Common.{◌≡◌, Option, Some, rules, sym, subst}
use Rattle.wasm_module_validator_streaming.specs.HandedOver.{IsTooLong}
use Rattle.wasm_module_validator_streaming.specs.declared.pieces.ModuleInPieces.{ModuleInPieces}
use Rattle.durskeyl_c.specs.Pieces.{Holds, cap_of}
use Rattle.durskeyl_c.specs.Settings.{settings_in}
use Rattle.durskeyl_c.proofs.pieces.durskeyl_end.Goals as goal

pub returns-in-Some-clause-told : goal.returns-in-Some-clause-told
returns-in-Some-clause-told c s got h room other =
    let before : c.args.pieces.now.inside.value ≡ Some c.into_inner.result = search rules in
    c.end.ensures.told s got (subst (λ (o : Option ModuleInPieces). Holds o s got) before h) room other

pub returns-in-Some-clause-too_long : goal.returns-in-Some-clause-too_long
returns-in-Some-clause-too_long c s got h room seven =
    let before : c.args.pieces.now.inside.value ≡ Some c.into_inner.result = search rules in
    subst (λ (o : Option ModuleInPieces). IsTooLong (settings_in s) (cap_of o) got) (sym before)
    (c.end.ensures.too_long s got (subst (λ (o : Option ModuleInPieces). Holds o s got) before h) room seven)
