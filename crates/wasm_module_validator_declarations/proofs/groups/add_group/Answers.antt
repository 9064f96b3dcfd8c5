use Rattle.std.proofs.Common.{◌≡◌, ◌∙◌, ◌+◌, ◌<◌, ◌≤◌, ℕ, [], length, refl, ap, sym, subst, arith, inl, inr}
use Rattle.std.proofs.lemmas.List.{length-map}
use Rattle.wasm_types.specs.Entries.{declared_of, declared_types}
use Rattle.wasm_types.specs.decoding.Denials.{Denies}
use Rattle.wasm_types.specs.decoding.ErrorValue.{ErrorValue}
use Rattle.wasm_types.specs.trees.declared.index.CoreTypeId.{CoreTypeId}
use Rattle.wasm_module_validator_type_list.specs.List.{max_types, HasRoom}
use Rattle.wasm_module_validator_section_order.specs.items.FullLaws.{unless_full}
use Rattle.wasm_module_validator_type_storage.specs.trees.Groups.{count, tree_of}
use Rattle.wasm_module_validator_type_storage.specs.trees.laws.Apart.{apart}
use Rattle.wasm_module_validator_canonical_types.specs.Written.{written_type}
use Rattle.wasm_module_validator_type_groups.specs.adding.Interned.{space_of, written_group}
use Rattle.wasm_module_validator_state.specs.invariant.laws.Growing.{most_types, list_grown, types_grown, types_own}
use Rattle.wasm_module_validator_declarations.proofs.Telling.{group_refused, group_told}
use Rattle.wasm_module_validator_declarations.proofs.Leaving.{always, on_ok, on_ok_both, group_left}
use Rattle.wasm_module_validator_declarations.specs.Total.{HasGroupNext, IsPastTotal}
use Rattle.wasm_module_validator_declarations.specs.TotalLaws.{type_there}
use Rattle.wasm_module_validator_declarations.proofs.groups.add_group.Goals as goal

pub returns-in-Err-clause-answer : goal.returns-in-Err-clause-answer
returns-in-Err-clause-answer c =
    let ds = declared_types c.args.rec_group in
    let s = c.args.state.now.spaces in
    let e = c.in-Err.error in
    let same : length c.types-further.result.now ≡ length ds = ap length c.types-further.ensures ∙ sym (length-map c.args.rec_group.types.items declared_of) in
    let fits = subst (λ (n : ℕ). Denies e.kind ((c.args.groups < s.settings.limits.types) × (length s.types + n ≤ s.settings.limits.types))) same c.in-Err.ensures.answer in
    inr (group_refused c.args.types.now.groups c.args.state.now c.args.groups (written_group c.args.rec_group) (length ds) (sym (length-map ds written_type)) (Unit {0}) e fits)

pub returns-then-not-is_within_total-clause-answer : goal.returns-then-not-is_within_total-clause-answer
returns-then-not-is_within_total-clause-answer c =
    let s = c.args.state.now.spaces in
    let groups = c.args.types.now.groups in
    let before = space_of groups s.types in
    let counted : length before ≡ length s.types = length-map s.types (λ (i : CoreTypeId). tree_of groups i.0) in
    let n : ℕ = length c.types-further.result.now in
    let fits = c.in-Ok.ensures.answer.1 in
    let ds = declared_types c.args.rec_group in
    let same : n ≡ length ds = ap length c.types-further.ensures ∙ sym (length-map c.args.rec_group.types.items declared_of) in
    inl (record {
      kind = ap (λ (e : ErrorValue). e.kind) c.past_total.ensures;
      text = ap (λ (e : ErrorValue). e.message) c.past_total.ensures;
      held = groups;
      before = before;
      own = n;
      has = (refl, same ∙ sym (length-map ds written_type));
      past = c.is_within_total.ensures.past c.if-not-is_within_total.true;
      few = omega (arith, counted);
      within = omega (arith, fits, counted);
      grown = ([], refl);
      had = λ id there. type_there groups s.types id there;
      taken = λ id low high. absurd (omega (arith, low, high));
      once = λ on i j a b e. apart groups (c.is_within_total.ensures.formed) (c.requires.read.checked.canonical on) i j a b e;
    })

pub returns-clause-answer : goal.returns-clause-answer
returns-clause-answer c =
    let ds = declared_types c.args.rec_group in
    let s = c.args.state.now.spaces in
    let same : length c.types-further.result.now ≡ length ds = ap length c.types-further.ensures ∙ sym (length-map c.args.rec_group.types.items declared_of) in
    let fits = subst (λ (n : ℕ). (c.args.groups < s.settings.limits.types) × (length s.types + n ≤ s.settings.limits.types)) same c.in-Ok.ensures.answer in
    let within = subst (λ (n : ℕ). count c.args.types.now.groups + n ≤ max_types) same (c.is_within_total.ensures.within c.if-not-is_within_total.false) in
    let room : HasRoom c.args.types.now.groups (length ds) = record { types = within; numbers = c.has_number.ensures.0 c.if-not-has_number.false } in
    unless_full (IsPastTotal c.args.types.now.groups c.args.state.now (HasGroupNext c.args.types.now.groups c.args.state.now (written_group c.args.rec_group))) c.add_types.result _
    (group_told c.args.types.now.groups c.args.state.now c.args.groups (written_group c.args.rec_group) (length ds) (sym (length-map ds written_type)) c.add_types.result fits room
    c.add_types.ensures.answer)

pub returns-clause-added : goal.returns-clause-added
returns-clause-added c =
    on_ok_both c.add_types.result _ _ _
    (λ a e. group_left c.args.types.now.groups c.args.state.now (written_group c.args.rec_group) c.add_types.new.types.groups c.add_types.new.self _ c.add_types.ensures.added a e)
    c.add_types.ensures.interned c.add_types.ensures.space

pub returns-clause-small : goal.returns-clause-small
returns-clause-small c =
    let most = most_types c.args.state.now.spaces.settings c.requires.within in
    let few = c.in-Ok.ensures.answer.0 in
    always c.add_types.result _ (omega (arith, most, few))

pub returns-clause-grown : goal.returns-clause-grown
returns-clause-grown c =
    on_ok c.add_types.result _ _
    (λ a. (
      list_grown c.args.types.now.groups c.add_types.new.types.groups c.args.state.now.spaces.types c.add_types.new.self.spaces.types _ a,
      types_grown c.args.types.now.groups c.add_types.new.types.groups c.args.state.now.spaces.types c.add_types.new.self.spaces.types _ a,
      types_own c.args.types.now.groups c.add_types.new.types.groups c.args.state.now.spaces.types c.add_types.new.self.spaces.types _ a,
    ))
    c.add_types.ensures.interned
