use Rattle.std.proofs.Common.{◌≡◌, ◌∙◌, Bool, List, ap, sym, subst}
use Rattle.wasm_types.specs.decoding.ErrorValue.{ErrorValue}
use Rattle.wasm_types.specs.decoding.declared.error.ErrorKind.TheVariants as kinds
use Rattle.wasm_types.specs.settings.Settings.{Settings}
use Rattle.wasm_types.specs.reader.Reading.{IsNotMemory}
use Rattle.wasm_sections_parser.specs.Parsing.{one_of}
use Rattle.wasm_module_validator_type_storage.specs.trees.Groups.{Group}
use Rattle.wasm_module_validator.specs.declared.lists.Verdict.TheVariants.{Accepted, Refused}
use Rattle.wasm_module_validator.specs.declared.validator.Validator.{Validator}
use Rattle.wasm_module_validator.specs.Lists.{AreToldUnder, IsVerdict, LeavesGroups}
use Rattle.wasm_module_validator.specs.Methods.{can_reset}
use Rattle.wasm_module_validator.specs.States.{held_by}
use Rattle.wasm_module_validator.specs.laws.Lists.{groups_begun, groups_grown, refused_leaves, refused_state, refused_verdict, takes_no_more}
use Rattle.wasm_module_validator.proofs.validator.Validator.validate_next.Goals as goal

pub returns-in-Ok-clause-verdict : goal.returns-in-Ok-clause-verdict
returns-in-Ok-clause-verdict c =
    subst (λ (u : Validator). IsVerdict u.settings u.id (held_by c.args.self.now) c.args.bytes.now (Accepted c.in-Ok.types)) c.reset.ensures
    (c.in-Ok.ensures.verdict, c.in-Ok.ensures.shown, c.in-Ok.ensures.id, c.in-Ok.ensures.sound)

pub returns-else-is_memory-clause-verdict : goal.returns-else-is_memory-clause-verdict
returns-else-is_memory-clause-verdict c =
    let v : Validator = c.args.self.now in
    let u : Validator = c.reset.new.self in
    let w : Validator = c.validate_all.new.self in
    let e : ErrorValue = c.in-Err.error in
    let known : IsNotMemory c.kind.result =
    subst (λ (b : Bool). one_of b (c.kind.result ≡ kinds.OutOfMemory) (IsNotMemory c.kind.result)) c.if-is_memory.false c.is_memory.ensures in
    let refused : IsVerdict u.settings u.id (held_by u) c.args.bytes.now (Refused e c.can_reset-ended.result) =
    subst (λ (b : Bool). IsVerdict u.settings u.id (held_by u) c.args.bytes.now (Refused e b)) (sym c.can_reset-ended.ensures)
    (refused_verdict u.settings (held_by u) c.args.bytes.now e w.state u.id (subst IsNotMemory c.kind.ensures known) c.in-Err.ensures.state) in
    let over : IsVerdict u.settings u.id (held_by v) c.args.bytes.now (Refused e c.can_reset-ended.result) =
    subst (λ (gs : List Group). IsVerdict u.settings u.id gs c.args.bytes.now (Refused e c.can_reset-ended.result)) (groups_begun v u w c.reset.ensures c.validate_all.ensures.others) refused in
    subst (λ (y : Validator). IsVerdict y.settings y.id (held_by v) c.args.bytes.now (Refused e c.can_reset-ended.result)) c.reset.ensures over

pub returns-else-is_memory-clause-groups : goal.returns-else-is_memory-clause-groups
returns-else-is_memory-clause-groups c =
    let v : Validator = c.args.self.now in
    let u : Validator = c.reset.new.self in
    let w : Validator = c.validate_all.new.self in
    let e : ErrorValue = c.in-Err.error in
    let known : IsNotMemory c.kind.result =
    subst (λ (b : Bool). one_of b (c.kind.result ≡ kinds.OutOfMemory) (IsNotMemory c.kind.result)) c.if-is_memory.false c.is_memory.ensures in
    let state = refused_state u.settings (held_by u) c.args.bytes.now e w.state (subst IsNotMemory c.kind.ensures known) c.in-Err.ensures.state in
    subst (λ (b : Bool). LeavesGroups v c.args.bytes.now (Refused e b) w) (sym c.can_reset-ended.ensures)
    (refused_leaves v u w c.reset.ensures c.validate_all.ensures.others c.args.bytes.now c.validate_all.ensures.few e (can_reset w.state) c.validate_all.ensures.kept state)

pub returns-in-Ok-clause-groups : goal.returns-in-Ok-clause-groups
returns-in-Ok-clause-groups c =
    let v : Validator = c.args.self.now in
    let gs : List Group = c.in-Ok.types.kept.groups in
    let grown = groups_grown v c.reset.new.self c.validate_all.new.self c.reset.ensures c.in-Ok.ensures.others c.in-Ok.ensures.state c.in-Ok.ensures.kept in
    let settings : c.in-Ok.types.kept.items.spaces.settings ≡ v.settings = c.in-Ok.ensures.shown.2.settings ∙ ap (λ (u : Validator). u.settings) c.reset.ensures in
    let no_more = takes_no_more v c.reset.new.self c.validate_all.new.self c.reset.ensures c.in-Ok.ensures.others c.args.bytes.now c.in-Ok.ensures.few c.in-Ok.ensures.state
    c.in-Ok.ensures.kept in
    ((grown.0, c.in-Ok.ensures.types ∙ grown.1, no_more), subst (λ (z : Settings). AreToldUnder z gs gs) settings c.tell_ids.ensures)
