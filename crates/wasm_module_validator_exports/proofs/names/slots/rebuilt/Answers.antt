use Rattle.std.proofs.Common.{rules, ◌≡◌, ◌∙◌, ◌++◌, ◌∷◌, ◌+◌, List, [], ℕ, ap, subst, sym, take}
use Rattle.wasm_sections_items.specs.declared.imports.kind.ExternalKind.TheVariants as kind
use Rattle.wasm_module_validator_exports.specs.declared.names.exports.KeptExport.{KeptExport}
use Rattle.wasm_module_validator_exports.specs.names.Exports.{AreNamed, Holds, exports_of, names_of}
use Rattle.wasm_module_validator_exports.proofs.Taking.{named_at, named_first, one_further}
use Rattle.wasm_module_validator_exports.proofs.names.slots.rebuilt.Goals as goal

-- what stands past the end of the exports
abbrev past_end : KeptExport
past_end = record { name = record { start = 0; end = 0 }; kind = kind.Func; index = 0 }

pub name_of-name-requires : goal.name_of-name-requires
name_of-name-requires c = named_at c.args.names.now c.args.exports.now c.loop-i.i past_end c.requires (search rules)

pub settle-requires-clause-named : goal.settle-requires-clause-named
settle-requires-clause-named c =
    subst (AreNamed c.args.names.now) (sym c.split_at.ensures.front) (named_first c.args.names.now c.args.exports.now c.loop-i.i c.requires)

pub loop-i-preserved : goal.loop-i-preserved
loop-i-preserved c =
    let t = c.args.names.now in
    let es = c.args.exports.now in
    let f = c.name_of-name.result.now in
    let whole : names_of (exports_of t c.split_at.result.0.now) ++ f ∷ [] ≡ names_of (exports_of t (take (c.loop-i.i + 1) es))
    = ap (λ (xs : List KeptExport). names_of (exports_of t xs) ++ f ∷ []) c.split_at.ensures.front
    ∙ (ap (λ (g : List ℕ). names_of (exports_of t (take c.loop-i.i es)) ++ g ∷ []) c.name_of-name.ensures
    ∙ sym (one_further t es c.loop-i.i past_end (search rules))) in
    subst (λ (ns : List (List ℕ)). Holds c.settle.new.slots.items c.settle.new.others ns) whole c.in-Added.ensures.1
