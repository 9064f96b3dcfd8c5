use Rattle.std.proofs.Common.{◌≡◌, ◌∙◌, true, ap, sym, rules}
use Rattle.wasm_types.specs.settings.Features.{needs_canonical_types}
use Rattle.wasm_types.specs.Entries.{declared_types}
use Rattle.wasm_module_validator_type_groups.proofs.Added.{kept_on}
use Rattle.wasm_module_validator_type_groups.proofs.adding.written.put_in_form.Goals as goal

pub returns-clause-kept : goal.returns-clause-kept
returns-clause-kept g c =
    let on : c.needs_type_canonicalization.result ≡ true = search rules in
    kept_on (g.M.InternRecGroup.settings c.args.target.now).features (g.M.InternRecGroup.ids c.args.target.now) _ (declared_types c.args.rec_group.now)
    (declared_types c.canonicalize_rec_group.new.rec_group) (sym (c.needs_type_canonicalization.ensures ∙ ap needs_canonical_types c.features.ensures) ∙ on)
    c.new.ensures.ids c.in_ok-canonicalize_rec_group.ensures.canonical

pub returns-in_err-canonicalize_rec_group-clause-at : goal.returns-in_err-canonicalize_rec_group-clause-at
returns-in_err-canonicalize_rec_group-clause-at c = search rules
