use Rattle.std.proofs.Common.{◌≤◌, ℕ, List, ap, sym, subst, arith, length}
use Rattle.std.proofs.lemmas.List.{length_push}
use Rattle.wasm_operator_validator_fast_tables.specs.declared.tables.Sig.{Sig}
use Rattle.wasm_operator_validator_fast_tables.specs.Known.{IsSigIn, AreSigsIn}
use Rattle.wasm_operator_validator_fast_tables.proofs.Knowing.{of_none, sigs_more, sigs_stay, more_long, none_more, then_more}
use Rattle.wasm_operator_validator_fast_tables.proofs.known.sign_all.Goals as goal

pub loop-at-init : goal.loop-at-init
loop-at-init g c =
    let m = g.R.WasmModuleResources.meaning c.args.resources.now in
    let none = c.requires.none in
    record {
      sigs = subst (λ (ss : List Sig). AreSigsIn m.ids m.«module» c.args.flat.now.items ss) (sym none) (of_none (IsSigIn m.ids m.«module» c.args.flat.now.items));
      many = ap (λ (l : List Sig). length l) none;
      more = none_more c.args.flat.now.items _;
      within = c.requires.within;
    }

pub returns-in_default-clause-types : goal.returns-in_default-clause-types
returns-in_default-clause-types g c =
    let m = g.R.WasmModuleResources.meaning c.args.resources.now in
    subst (λ (ss : List Sig). AreSigsIn m.ids m.«module» c.sig_of-sig.new.flat.items ss) (sym c.in_default.ensures.items)
    (sigs_stay m.ids m.«module» c.loop-at.flat.items c.sig_of-sig.new.flat.items _ c.loop-at.types.items c.sig_of-sig.ensures.more c.loop-at.invariant.sigs)

pub loop-at-preserved : goal.loop-at-preserved
loop-at-preserved g c =
    let m = g.R.WasmModuleResources.meaning c.args.resources.now in
    let xs = c.loop-at.flat.items in
    let zs = c.sig_of-sig.new.flat.items in
    let i = c.loop-at.invariant in
    let more = c.sig_of-sig.ensures.more in
    let (not_less, not_more) = more_long xs zs _ more in
    let one = subst (λ (k : ℕ). IsSigIn m.ids m.«module» zs k c.sig_of-sig.result) (sym i.many) c.sig_of-sig.ensures.sig in
    let pushed = ap (λ (l : List Sig). length l) c.in-Ok.ensures.items in
    let longer = length_push c.loop-at.types.items c.sig_of-sig.result in
    let few : length zs ≤ c.args.most = omega (arith, not_more, i.within) in
    record {
      sigs = subst (λ (ss : List Sig). AreSigsIn m.ids m.«module» zs ss) (sym c.in-Ok.ensures.items)
          (sigs_more m.ids m.«module» xs zs _ c.loop-at.types.items c.sig_of-sig.result more i.sigs one);
      many = omega (arith, pushed, longer, i.many);
      more = then_more c.args.flat.now.items xs zs _ _ c.args.most i.more more few;
      within = few;
    }
