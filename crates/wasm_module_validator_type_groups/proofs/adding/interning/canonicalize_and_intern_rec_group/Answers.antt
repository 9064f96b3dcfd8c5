use Rattle.std.proofs.Common.{◌∙◌, ap, length, rules, arith}
use Rattle.std.proofs.lemmas.List.{length-map}
use Rattle.wasm_types.specs.settings.Features.{needs_canonical_types}
use Rattle.wasm_types.specs.Entries.{subtypes, declared_of, declared_types}
use Rattle.wasm_module_validator_type_groups.proofs.AddingSteps.{refuses_written, refuses_form, refuses_room, refuses_types, formed_is, outcome_is, known_ids_is}
use Rattle.wasm_module_validator_type_groups.proofs.AddingSteps.{list_is, accepted_is, checked_after, added_after, space_is_after, known_is_after}
use Rattle.wasm_module_validator_type_list.proofs.Knowing.{group_below}
use Rattle.wasm_module_validator_type_groups.proofs.Outcome.{kept_length}
use Rattle.wasm_module_validator_type_groups.proofs.adding.interning.canonicalize_and_intern_rec_group.Goals as goal

pub returns-in_err-check_written-clause-answer : goal.returns-in_err-check_written-clause-answer
returns-in_err-check_written-clause-answer g c =
    let d = refuses_written (g.M.InternRecGroup.settings c.args.target.now) c.args.types.now.groups (g.M.InternRecGroup.ids c.args.target.now) c.args.rec_group
    c.features.result.now.0 c.features.ensures c.in_err-check_written.field-0.0.kind c.in_err-check_written.ensures.answer in
    search rules

pub returns-in_err-put_in_form-clause-answer : goal.returns-in_err-put_in_form-clause-answer
returns-in_err-put_in_form-clause-answer g c =
    let d = refuses_form (g.M.InternRecGroup.settings c.args.target.now) c.args.types.now.groups (g.M.InternRecGroup.ids c.args.target.now) c.args.rec_group
    c.requires.indices c.in_ok-check_written.ensures.answer.1 c.in_err-put_in_form.field-0.0.kind c.in_err-put_in_form.ensures.answer in
    search rules

pub intern_canonical_rec_group-requires-clause-formed : goal.intern_canonical_rec_group-requires-clause-formed
intern_canonical_rec_group-requires-clause-formed g c =
    formed_is (g.M.InternRecGroup.settings c.args.target.now) c.args.types.now.groups (g.M.InternRecGroup.ids c.args.target.now) c.args.rec_group
    c.requires.indices c.in_ok-check_written.ensures.answer.1 c.requires.checked c.type_count-count.ensures.formed c.requires.known c.in_ok-put_in_form.ensures.answer
    c.features-2.result.now.0 c.needs_type_canonicalization-needs_canonical.result (declared_types c.put_in_form.new.rec_group) c.features-2.ensures
    c.needs_type_canonicalization-needs_canonical.ensures c.in_ok-put_in_form.ensures.kept

pub returns-in_err-is_new-clause-answer : goal.returns-in_err-is_new-clause-answer
returns-in_err-is_new-clause-answer g c =
    let d = refuses_room (g.M.InternRecGroup.settings c.args.target.now) c.args.types.now.groups (g.M.InternRecGroup.ids c.args.target.now) c.args.rec_group
    (declared_types c.put_in_form.new.rec_group) c.in_ok-put_in_form.ensures.kept c.in_err-is_new.field-0.0.kind c.in_err-is_new.ensures.answer in
    search rules

pub check_added-requires-clause-ids : goal.check_added-requires-clause-ids
check_added-requires-clause-ids g c =
    known_ids_is (g.M.InternRecGroup.settings c.args.target.now) c.args.types.now.groups (g.M.InternRecGroup.ids c.args.target.now) c.args.rec_group
    c.requires.indices c.in_ok-check_written.ensures.answer.1 c.requires.checked c.type_count-count.ensures.formed c.requires.known c.in_ok-put_in_form.ensures.answer
    c.features-2.result.now.0 c.needs_type_canonicalization-needs_canonical.result (declared_types c.put_in_form.new.rec_group) c.features-2.ensures
    c.needs_type_canonicalization-needs_canonical.ensures c.in_ok-put_in_form.ensures.kept
    c.intern_canonical_rec_group.new.self.groups c.in_ok-is_new.is_new c.in_ok-is_new.number.0 c.in_ok-is_new.ensures.interned
    (g.M.InternRecGroup.settings c.reserve_type_ids.new.self) c.in_ok-reserve_type_ids.ensures.settings

pub returns-in_err-start-clause-answer : goal.returns-in_err-start-clause-answer
returns-in_err-start-clause-answer g c =
    let d = refuses_types (g.M.InternRecGroup.settings c.args.target.now) c.args.types.now.groups (g.M.InternRecGroup.ids c.args.target.now) c.args.rec_group
    c.requires.indices c.in_ok-check_written.ensures.answer.1 c.requires.checked c.type_count-count.ensures.formed c.requires.known c.in_ok-put_in_form.ensures.answer
    c.features-2.result.now.0 c.needs_type_canonicalization-needs_canonical.result (declared_types c.put_in_form.new.rec_group) c.features-2.ensures
    c.needs_type_canonicalization-needs_canonical.ensures c.in_ok-put_in_form.ensures.kept
    c.intern_canonical_rec_group.new.self.groups c.in_ok-is_new.is_new c.in_ok-is_new.number.0 c.in_ok-is_new.ensures.interned
    (g.M.InternRecGroup.settings c.reserve_type_ids.new.self) c.in_ok-reserve_type_ids.ensures.settings c.in_err-start.field-0.0.kind c.in_err-start.ensures.answer in
    search rules

pub returns-in_err-start-clause-list : goal.returns-in_err-start-clause-list
returns-in_err-start-clause-list g c =
    let l = list_is (g.M.InternRecGroup.settings c.args.target.now) c.args.types.now.groups (g.M.InternRecGroup.ids c.args.target.now) c.args.rec_group
    c.requires.indices c.in_ok-check_written.ensures.answer.1 c.requires.checked c.type_count-count.ensures.formed c.requires.known c.in_ok-put_in_form.ensures.answer
    c.features-2.result.now.0 c.needs_type_canonicalization-needs_canonical.result (declared_types c.put_in_form.new.rec_group) c.features-2.ensures
    c.needs_type_canonicalization-needs_canonical.ensures c.in_ok-put_in_form.ensures.kept
    c.intern_canonical_rec_group.new.self.groups c.in_ok-is_new.is_new c.in_ok-is_new.number.0 c.in_ok-is_new.ensures.interned in
    search rules

pub add_type_ids-requires-clause-order : goal.add_type_ids-requires-clause-order
add_type_ids-requires-clause-order g c =
    let o = outcome_is (g.M.InternRecGroup.settings c.args.target.now) c.args.types.now.groups (g.M.InternRecGroup.ids c.args.target.now) c.args.rec_group
    c.requires.indices c.in_ok-check_written.ensures.answer.1 c.requires.checked c.type_count-count.ensures.formed c.requires.known c.in_ok-put_in_form.ensures.answer
    c.features-2.result.now.0 c.needs_type_canonicalization-needs_canonical.result (declared_types c.put_in_form.new.rec_group) c.features-2.ensures
    c.needs_type_canonicalization-needs_canonical.ensures c.in_ok-put_in_form.ensures.kept
    c.intern_canonical_rec_group.new.self.groups c.in_ok-is_new.is_new c.in_ok-is_new.number.0 c.in_ok-is_new.ensures.interned
    c.in_ok-start.start c.in_ok-start.end c.in_ok-start.ensures.ids in
    let e = o.ends in
    omega arith

pub add_type_ids-requires-clause-room : goal.add_type_ids-requires-clause-room
add_type_ids-requires-clause-room g c =
    let o = outcome_is (g.M.InternRecGroup.settings c.args.target.now) c.args.types.now.groups (g.M.InternRecGroup.ids c.args.target.now) c.args.rec_group
    c.requires.indices c.in_ok-check_written.ensures.answer.1 c.requires.checked c.type_count-count.ensures.formed c.requires.known c.in_ok-put_in_form.ensures.answer
    c.features-2.result.now.0 c.needs_type_canonicalization-needs_canonical.result (declared_types c.put_in_form.new.rec_group) c.features-2.ensures
    c.needs_type_canonicalization-needs_canonical.ensures c.in_ok-put_in_form.ensures.kept
    c.intern_canonical_rec_group.new.self.groups c.in_ok-is_new.is_new c.in_ok-is_new.number.0 c.in_ok-is_new.ensures.interned
    c.in_ok-start.start c.in_ok-start.end c.in_ok-start.ensures.ids in
    let e = o.ends in
    let k = ap length c.in_ok-put_in_form.ensures.kept ∙ kept_length (needs_canonical_types (g.M.InternRecGroup.settings c.args.target.now).features)
    (g.M.InternRecGroup.ids c.args.target.now) (declared_types c.args.rec_group) in
    let t = ap length c.types.ensures in
    let m = length-map (subtypes c.put_in_form.new.rec_group) declared_of in
    let r = c.in_ok-reserve_type_ids.ensures.room in
    omega arith

pub add_type_ids-requires-clause-short : goal.add_type_ids-requires-clause-short
add_type_ids-requires-clause-short g c =
    let o = outcome_is (g.M.InternRecGroup.settings c.args.target.now) c.args.types.now.groups (g.M.InternRecGroup.ids c.args.target.now) c.args.rec_group
    c.requires.indices c.in_ok-check_written.ensures.answer.1 c.requires.checked c.type_count-count.ensures.formed c.requires.known c.in_ok-put_in_form.ensures.answer
    c.features-2.result.now.0 c.needs_type_canonicalization-needs_canonical.result (declared_types c.put_in_form.new.rec_group) c.features-2.ensures
    c.needs_type_canonicalization-needs_canonical.ensures c.in_ok-put_in_form.ensures.kept
    c.intern_canonical_rec_group.new.self.groups c.in_ok-is_new.is_new c.in_ok-is_new.number.0 c.in_ok-is_new.ensures.interned
    c.in_ok-start.start c.in_ok-start.end c.in_ok-start.ensures.ids in
    let e = o.ends in
    let i = ap length c.in_ok-reserve_type_ids.ensures.ids in
    let s = c.requires.short in
    omega arith

pub returns-clause-answer : goal.returns-clause-answer
returns-clause-answer g c =
    accepted_is (g.M.InternRecGroup.settings c.args.target.now) c.args.types.now.groups (g.M.InternRecGroup.ids c.args.target.now) c.args.rec_group
    c.requires.indices c.in_ok-check_written.ensures.answer.1 c.requires.checked c.type_count-count.ensures.formed c.requires.known c.in_ok-put_in_form.ensures.answer
    c.features-2.result.now.0 c.needs_type_canonicalization-needs_canonical.result (declared_types c.put_in_form.new.rec_group) c.features-2.ensures
    c.needs_type_canonicalization-needs_canonical.ensures c.in_ok-put_in_form.ensures.kept
    c.intern_canonical_rec_group.new.self.groups c.in_ok-is_new.is_new c.in_ok-is_new.number.0 c.in_ok-is_new.ensures.interned
    (g.M.InternRecGroup.settings c.reserve_type_ids.new.self) c.in_ok-reserve_type_ids.ensures.settings c.in_ok-start.ensures.answer c.in_ok-start.start c.in_ok-start.end c.in_ok-start.ensures.ids
    c.features.result.now.0 c.features.ensures c.in_ok-check_written.ensures.answer.0 c.in_ok-is_new.ensures.answer

pub returns-clause-added : goal.returns-clause-added
returns-clause-added g c =
    added_after (g.M.InternRecGroup.settings c.args.target.now) c.args.types.now.groups (g.M.InternRecGroup.ids c.args.target.now) c.args.rec_group
    c.requires.indices c.in_ok-check_written.ensures.answer.1 c.requires.checked c.type_count-count.ensures.formed c.requires.known c.in_ok-put_in_form.ensures.answer
    c.features-2.result.now.0 c.needs_type_canonicalization-needs_canonical.result (declared_types c.put_in_form.new.rec_group) c.features-2.ensures
    c.needs_type_canonicalization-needs_canonical.ensures c.in_ok-put_in_form.ensures.kept
    c.intern_canonical_rec_group.new.self.groups c.in_ok-is_new.is_new c.in_ok-is_new.number.0 c.in_ok-is_new.ensures.interned
    (g.M.InternRecGroup.settings c.reserve_type_ids.new.self) c.in_ok-reserve_type_ids.ensures.settings c.in_ok-start.ensures.answer c.in_ok-start.start c.in_ok-start.end c.in_ok-start.ensures.ids
    (g.M.InternRecGroup.ids c.reserve_type_ids.new.self) (g.M.InternRecGroup.ids c.add_type_ids.new.target) c.in_ok-reserve_type_ids.ensures.ids c.add_type_ids.ensures.ids

pub returns-clause-space : goal.returns-clause-space
returns-clause-space g c =
    space_is_after (g.M.InternRecGroup.settings c.args.target.now) c.args.types.now.groups (g.M.InternRecGroup.ids c.args.target.now) c.args.rec_group
    c.requires.indices c.in_ok-check_written.ensures.answer.1 c.requires.checked c.type_count-count.ensures.formed c.requires.known c.in_ok-put_in_form.ensures.answer
    c.features-2.result.now.0 c.needs_type_canonicalization-needs_canonical.result (declared_types c.put_in_form.new.rec_group) c.features-2.ensures
    c.needs_type_canonicalization-needs_canonical.ensures c.in_ok-put_in_form.ensures.kept
    c.intern_canonical_rec_group.new.self.groups c.in_ok-is_new.is_new c.in_ok-is_new.number.0 c.in_ok-is_new.ensures.interned
    (g.M.InternRecGroup.settings c.reserve_type_ids.new.self) c.in_ok-reserve_type_ids.ensures.settings c.in_ok-start.ensures.answer c.in_ok-start.start c.in_ok-start.end c.in_ok-start.ensures.ids
    (g.M.InternRecGroup.ids c.reserve_type_ids.new.self) (g.M.InternRecGroup.ids c.add_type_ids.new.target) c.in_ok-reserve_type_ids.ensures.ids c.add_type_ids.ensures.ids

pub returns-clause-checked : goal.returns-clause-checked
returns-clause-checked g c =
    checked_after (g.M.InternRecGroup.settings c.args.target.now) c.args.types.now.groups (g.M.InternRecGroup.ids c.args.target.now) c.args.rec_group
    c.requires.indices c.in_ok-check_written.ensures.answer.1 c.requires.checked c.type_count-count.ensures.formed c.requires.known c.in_ok-put_in_form.ensures.answer
    c.features-2.result.now.0 c.needs_type_canonicalization-needs_canonical.result (declared_types c.put_in_form.new.rec_group) c.features-2.ensures
    c.needs_type_canonicalization-needs_canonical.ensures c.in_ok-put_in_form.ensures.kept
    c.intern_canonical_rec_group.new.self.groups c.in_ok-is_new.is_new c.in_ok-is_new.number.0 c.in_ok-is_new.ensures.interned
    (g.M.InternRecGroup.settings c.reserve_type_ids.new.self) c.in_ok-reserve_type_ids.ensures.settings c.in_ok-start.ensures.answer c.in_ok-start.start c.in_ok-start.end c.in_ok-start.ensures.ids

pub returns-clause-known : goal.returns-clause-known
returns-clause-known g c =
    known_is_after (g.M.InternRecGroup.settings c.args.target.now) c.args.types.now.groups (g.M.InternRecGroup.ids c.args.target.now) c.args.rec_group
    c.requires.indices c.in_ok-check_written.ensures.answer.1 c.requires.checked c.type_count-count.ensures.formed c.requires.known c.in_ok-put_in_form.ensures.answer
    c.features-2.result.now.0 c.needs_type_canonicalization-needs_canonical.result (declared_types c.put_in_form.new.rec_group) c.features-2.ensures
    c.needs_type_canonicalization-needs_canonical.ensures c.in_ok-put_in_form.ensures.kept
    c.intern_canonical_rec_group.new.self.groups c.in_ok-is_new.is_new c.in_ok-is_new.number.0 c.in_ok-is_new.ensures.interned
    (g.M.InternRecGroup.settings c.reserve_type_ids.new.self) c.in_ok-reserve_type_ids.ensures.settings c.in_ok-start.ensures.answer c.in_ok-start.start c.in_ok-start.end c.in_ok-start.ensures.ids
    (g.M.InternRecGroup.ids c.reserve_type_ids.new.self) (g.M.InternRecGroup.ids c.add_type_ids.new.target) c.in_ok-reserve_type_ids.ensures.ids c.add_type_ids.ensures.ids

pub check_added-requires-clause-number : goal.check_added-requires-clause-number
check_added-requires-clause-number g c =
    group_below c.intern_canonical_rec_group.new.self.groups c.in_ok-is_new.number.0 _ c.in_ok-is_new.ensures.interned.at
