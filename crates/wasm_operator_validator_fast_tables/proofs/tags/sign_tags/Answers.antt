use Rattle.std.proofs.Common.{◌≤◌, ℕ, List, ap, sym, subst, arith, length}
use Rattle.std.proofs.lemmas.List.{length_push}
use Rattle.wasm_operator_validator_fast_tables.specs.declared.tables.Sig.{Sig}
use Rattle.wasm_operator_validator_fast_tables.specs.Known.{AreTagsIn}
use Rattle.wasm_operator_validator_fast_tables.proofs.Knowing.{of_none, more_long, none_more, then_more}
use Rattle.wasm_operator_validator_fast_tables.proofs.Tagging.{IsOneTag, tags_more, tags_stay}
use Rattle.wasm_operator_validator_fast_tables.proofs.tags.sign_tags.Goals as goal

pub loop-at-init : goal.loop-at-init
loop-at-init g c =
    let m = g.R.WasmModuleResources.meaning c.args.resources.now in
    let none = c.requires.none in
    record {
      tags = subst (λ (ss : List Sig). AreTagsIn m.ids m.«module» c.args.flat.now.items ss) (sym none) (of_none (IsOneTag m.ids m.«module» c.args.flat.now.items));
      many = ap (λ (l : List Sig). length l) none;
      more = none_more c.args.flat.now.items _;
      within = c.requires.within;
    }

pub returns-in_default-clause-tags : goal.returns-in_default-clause-tags
returns-in_default-clause-tags g c =
    let m = g.R.WasmModuleResources.meaning c.args.resources.now in
    subst (λ (ss : List Sig). AreTagsIn m.ids m.«module» c.tag_of-tag.new.flat.items ss) (sym c.in_default.ensures.items)
    (tags_stay m.ids m.«module» c.loop-at.flat.items c.tag_of-tag.new.flat.items _ c.loop-at.tags.items c.tag_of-tag.ensures.more c.loop-at.invariant.tags)

pub loop-at-preserved : goal.loop-at-preserved
loop-at-preserved g c =
    let m = g.R.WasmModuleResources.meaning c.args.resources.now in
    let xs = c.loop-at.flat.items in
    let zs = c.tag_of-tag.new.flat.items in
    let i = c.loop-at.invariant in
    let more = c.tag_of-tag.ensures.more in
    let (not_less, not_more) = more_long xs zs _ more in
    let one = subst (λ (k : ℕ). IsOneTag m.ids m.«module» zs k c.tag_of-tag.result) (sym i.many) c.tag_of-tag.ensures.tag in
    let pushed = ap (λ (l : List Sig). length l) c.in-Ok.ensures.items in
    let longer = length_push c.loop-at.tags.items c.tag_of-tag.result in
    let few : length zs ≤ c.args.most = omega (arith, not_more, i.within) in
    record {
      tags = subst (λ (ss : List Sig). AreTagsIn m.ids m.«module» zs ss) (sym c.in-Ok.ensures.items)
          (tags_more m.ids m.«module» xs zs _ c.loop-at.tags.items c.tag_of-tag.result more i.tags one);
      many = omega (arith, pushed, longer, i.many);
      more = then_more c.args.flat.now.items xs zs _ _ c.args.most i.more more few;
      within = few;
    }
