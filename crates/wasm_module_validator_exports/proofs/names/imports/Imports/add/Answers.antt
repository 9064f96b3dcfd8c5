use Rattle.std.proofs.Common.{◌≡◌, ◌∙◌, ◌<◌, ◌++◌, ◌∷◌, List, [], ℕ, None, Some, ap, subst, sym}
use Rattle.wasm_module_validator_exports.specs.declared.names.imports.KeptNames.{KeptNames}
use Rattle.wasm_module_validator_exports.specs.names.Imports.{AreKept, Holds, Pair, all_named, index_of, pairs_of, with_import}
use Rattle.wasm_module_validator_exports.proofs.Keeping.{comes_at, comes_behind, index_within, kept_more, pairs_counted, pairs_more, same_before, stays_at, still_kept}
use Rattle.wasm_module_validator_exports.proofs.names.imports.Imports.add.Goals as goal

pub invariant_of-self-in-New : goal.invariant_of-self-in-New
invariant_of-self-in-New c =
    let m = c.args.module.now in
    let f = c.args.name.now in
    let old = c.self.inside.modules.items in
    let t = c.self.inside.names.items in
    let new = c.keep_names.new.modules.items in
    let u = c.keep_names.new.names.items in
    let ks = c.reserve.new.self.items in
    let h : AreKept old t ks = subst (AreKept old t) (sym c.in-Ok.ensures.items) c.self.invariant.0 in
    let v4 = c.as_slice-4.ensures.value in
    let v5 = c.as_slice-5.ensures.value in
    let v6 = c.as_slice-6.ensures.value in
    let same : pairs_of (all_named c.as_slice-4.result.now c.as_slice-5.result.now c.as_slice-6.result.now) ≡ pairs_of (all_named new u ks)
    = (λ i. pairs_of (all_named (v4 i) (v5 i) (v6 i))) in
    let holds = subst (λ (ps : List Pair). Holds c.settle.new.slots.items c.settle.new.others (ps ++ (m, f) ∷ [])) same c.in-New.ensures.1 in
    subst (λ (js : List KeptNames). AreKept new u js × Holds c.settle.new.slots.items c.settle.new.others (pairs_of (all_named new u js))) (sym c.push_in_room.ensures) (
      kept_more m f c.args.place old new t u ks c.in-Some.kept h c.in-Some.ensures,
      subst (λ (ps : List Pair). Holds c.settle.new.slots.items c.settle.new.others ps)
          (sym (pairs_more m f c.args.place old new t u ks c.in-Some.kept h c.in-Some.ensures)) holds,
    )

pub returns-in-New : goal.returns-in-New
returns-in-New c =
    let m = c.args.module.now in
    let f = c.args.name.now in
    let old = c.self.inside.modules.items in
    let t = c.self.inside.names.items in
    let new = c.keep_names.new.modules.items in
    let u = c.keep_names.new.names.items in
    let ks = c.reserve.new.self.items in
    let h : AreKept old t ks = subst (AreKept old t) (sym c.in-Ok.ensures.items) c.self.invariant.0 in
    let v4 = c.as_slice-4.ensures.value in
    let v5 = c.as_slice-5.ensures.value in
    let v6 = c.as_slice-6.ensures.value in
    let same : pairs_of (all_named c.as_slice-4.result.now c.as_slice-5.result.now c.as_slice-6.result.now) ≡ pairs_of (all_named new u ks)
    = (λ i. pairs_of (all_named (v4 i) (v5 i) (v6 i))) in
    let none = subst (λ (ps : List Pair). index_of m f ps ≡ None) same c.in-New.ensures.0 in
    ap (all_named new u) c.push_in_room.ensures ∙ (comes_behind m f c.args.place old new t u ks c.in-Some.kept h c.in-Some.ensures none
    ∙ ap (with_import m f c.args.place) (ap (all_named old t) c.in-Ok.ensures.items ∙ c.self.view_is))

pub push_at-requires : goal.push_at-requires
push_at-requires c =
    let m = c.args.module.now in
    let f = c.args.name.now in
    let new = c.keep_names.new.modules.items in
    let u = c.keep_names.new.names.items in
    let ks = c.reserve.new.self.items in
    let v4 = c.as_slice-4.ensures.value in
    let v5 = c.as_slice-5.ensures.value in
    let v6 = c.as_slice-6.ensures.value in
    let same : pairs_of (all_named c.as_slice-4.result.now c.as_slice-5.result.now c.as_slice-6.result.now) ≡ pairs_of (all_named new u ks)
    = (λ i. pairs_of (all_named (v4 i) (v5 i) (v6 i))) in
    let there = subst (λ (ps : List Pair). index_of m f ps ≡ Some c.in-At.at) same c.in-At.ensures.0 in
    subst (λ (n : ℕ). c.in-At.at < n) (pairs_counted new u ks) (index_within m f (pairs_of (all_named new u ks)) c.in-At.at there)

pub invariant_of-self-in-At-1 : goal.invariant_of-self-in-At-1
invariant_of-self-in-At-1 c =
    let old = c.self.inside.modules.items in
    let t = c.self.inside.names.items in
    let new = c.keep_names.new.modules.items in
    let u = c.keep_names.new.names.items in
    let ks = c.reserve.new.self.items in
    let h : AreKept old t ks = subst (AreKept old t) (sym c.in-Ok.ensures.items) c.self.invariant.0 in
    let kept = still_kept c.args.module.now c.args.name.now c.args.place old new t u ks c.in-Some.kept h c.in-Some.ensures in
    let v4 = c.as_slice-4.ensures.value in
    let v5 = c.as_slice-5.ensures.value in
    let v6 = c.as_slice-6.ensures.value in
    let same : pairs_of (all_named c.as_slice-4.result.now c.as_slice-5.result.now c.as_slice-6.result.now) ≡ pairs_of (all_named new u ks)
    = (λ i. pairs_of (all_named (v4 i) (v5 i) (v6 i))) in
    let s = stays_at c.args.place new u ks c.push_at.new.pairs.items c.in-At.at c.push_at.result c.push_at.ensures kept in (
      s.0,
      subst (λ (ps : List Pair). Holds c.settle.new.slots.items c.settle.new.others ps) (same ∙ sym s.1) c.in-At.ensures.1,
    )

pub returns-in-At : goal.returns-in-At
returns-in-At c =
    let m = c.args.module.now in
    let f = c.args.name.now in
    let old = c.self.inside.modules.items in
    let t = c.self.inside.names.items in
    let new = c.keep_names.new.modules.items in
    let u = c.keep_names.new.names.items in
    let ks = c.reserve.new.self.items in
    let h : AreKept old t ks = subst (AreKept old t) (sym c.in-Ok.ensures.items) c.self.invariant.0 in
    let v4 = c.as_slice-4.ensures.value in
    let v5 = c.as_slice-5.ensures.value in
    let v6 = c.as_slice-6.ensures.value in
    let same : pairs_of (all_named c.as_slice-4.result.now c.as_slice-5.result.now c.as_slice-6.result.now) ≡ pairs_of (all_named new u ks)
    = (λ i. pairs_of (all_named (v4 i) (v5 i) (v6 i))) in
    let there = subst (λ (ps : List Pair). index_of m f ps ≡ Some c.in-At.at) same c.in-At.ensures.0 in
    comes_at m f c.args.place new u ks c.push_at.new.pairs.items c.in-At.at c.args.self.now c.push_at.result c.push_at.ensures there
    (same_before m f c.args.place old new t u ks c.in-Some.kept h c.in-Some.ensures ∙ (ap (all_named old t) c.in-Ok.ensures.items ∙ c.self.view_is))
