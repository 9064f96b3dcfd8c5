use Rattle.std.proofs.Common.{◌≡◌, ◌∙◌, ◌++◌, ◌∷◌, List, [], ℕ, ap, subst, sym}
use Rattle.wasm_sections_items.specs.imports.Spells.{ExportTree}
use Rattle.wasm_module_validator_exports.specs.declared.names.exports.KeptExport.{KeptExport}
use Rattle.wasm_module_validator_exports.specs.names.Exports.{AreNamed, Holds, IsNew, exports_of, names_of}
use Rattle.wasm_module_validator_exports.proofs.Listing.{one_more_export, one_more_kept, one_more_name}
use Rattle.wasm_module_validator_exports.proofs.names.exports.Exports.add_named.Goals as goal

pub invariant_of-self-2 : goal.invariant_of-self-2
invariant_of-self-2 c =
    let f = c.args.name.now in
    let t = c.reserve.new.self.items in
    let es = c.reserve-2.new.self.items in
    let u = c.push_name_in_room-name.new.names.items in
    let more = c.push_in_room.new.exports.items in
    let e : KeptExport = record { name = c.push_name_in_room-name.result; kind = c.args.kind; index = c.args.index } in
    let kept = c.push_name_in_room-name.ensures in
    let named : AreNamed t es = subst (λ (v : List ℕ). AreNamed v es) (sym c.in-Ok.ensures.items)
    (subst (AreNamed c.self.inside.names.items) (sym c.in-Ok-reserve.ensures.items) c.self.invariant.0) in
    let vt = c.as_slice-names.ensures.value in
    let ve = c.as_slice-exports.ensures.value in
    let same : names_of (exports_of c.as_slice-names.result.now c.as_slice-exports.result.now) ≡ names_of (exports_of t es)
    = (λ i. names_of (exports_of (vt i) (ve i))) in
    let holds = subst (λ (ns : List (List ℕ)). Holds c.settle.new.slots.items c.settle.new.others (ns ++ f ∷ [])) same c.in-Added.ensures.1 in (
      one_more_kept t f u es more e kept.bytes kept.start kept.end c.push_in_room.ensures kept.utf8 named,
      subst (λ (ns : List (List ℕ)). Holds c.settle.new.slots.items c.settle.new.others ns)
          (sym (one_more_name t f u es more e kept.bytes kept.start kept.end c.push_in_room.ensures named)) holds,
    )

pub returns : goal.returns
returns c =
    let f = c.args.name.now in
    let t = c.reserve.new.self.items in
    let es = c.reserve-2.new.self.items in
    let u = c.push_name_in_room-name.new.names.items in
    let more = c.push_in_room.new.exports.items in
    let e : KeptExport = record { name = c.push_name_in_room-name.result; kind = c.args.kind; index = c.args.index } in
    let kept = c.push_name_in_room-name.ensures in
    let named : AreNamed t es = subst (λ (v : List ℕ). AreNamed v es) (sym c.in-Ok.ensures.items)
    (subst (AreNamed c.self.inside.names.items) (sym c.in-Ok-reserve.ensures.items) c.self.invariant.0) in
    let vt = c.as_slice-names.ensures.value in
    let ve = c.as_slice-exports.ensures.value in
    let same : names_of (exports_of c.as_slice-names.result.now c.as_slice-exports.result.now) ≡ names_of (exports_of t es)
    = (λ i. names_of (exports_of (vt i) (ve i))) in
    let it = c.in-Ok.ensures.items in
    let ie = c.in-Ok-reserve.ensures.items in
    let view : exports_of t es ≡ c.args.self.now = (λ i. exports_of (it i) (ie i)) ∙ c.self.view_is in (
      subst (λ (xs : List ExportTree). IsNew f (names_of xs)) view (subst (IsNew f) same c.in-Added.ensures.0),
      one_more_export t f u es more e kept.bytes kept.start kept.end c.push_in_room.ensures named
          ∙ ap (λ (xs : List ExportTree). xs ++ record { name = f; kind = c.args.kind; index = c.args.index } ∷ []) view,
    )
