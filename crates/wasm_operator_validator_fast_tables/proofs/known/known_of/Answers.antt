use Rattle.std.proofs.Common.{◌≡◌, ◌<◌, ℕ, List, Some, sym, subst, arith, length, slice_get}
use Rattle.wasm_operator_validator_fast_tables.specs.declared.order.Step.{Step}
use Rattle.wasm_operator_validator_fast_tables.specs.declared.tables.Sig.{Sig}
use Rattle.wasm_operator_validator_fast_tables.specs.Values.{AreSteps}
use Rattle.wasm_operator_validator_fast_tables.proofs.Knowing.{alone_more, callee_known, placed_more, sigs_stay, then_more, type_known}
use Rattle.wasm_operator_validator_fast_tables.proofs.Tagging.{tag_known}
use Rattle.wasm_operator_validator_fast_tables.proofs.known.known_of.Goals as goal

pub returns : goal.returns
returns g c =
    let m = g.R.WasmModuleResources.meaning c.args.resources.now in
    let first = c.name_all.new.flat.items in
    let second = c.sign_all.new.flat.items in
    let last = c.sign_tags.new.flat.items in
    let few : length last < 0xffffffff = omega (arith, c.sign_tags.ensures.within, c.if-most-ge-NO_CODE.false) in
    let more = then_more first second last _ _ c.args.most c.sign_all.ensures.more c.sign_tags.ensures.more c.sign_tags.ensures.within in
    let types = λ (y : ℕ) (s : Sig) (at : slice_get c.sign_all.new.types.items y ≡ Some s). type_known m.ids m.«module» last y s few
    (sigs_stay m.ids m.«module» second last _ c.sign_all.new.types.items c.sign_tags.ensures.more c.sign_all.ensures.types y s at) in
    record {
      alone = alone_more first last _ more c.name_all.ensures.alone;
      types = types;
      functions = c.functions_of-functions.ensures.types;
      callees = λ x s at. callee_known m.ids m.«module» last c.functions_of-functions.result.items c.sign_all.new.types.items c.callees_of-callees.result.items x s
          c.functions_of-functions.ensures.types types
          (rw (c.as_slice.ensures.value, c.as_slice-2.ensures.value) at c.callees_of-callees.ensures) at;
      referenced = c.referenced_of.ensures;
      globals = c.globals_of.ensures;
      tags = λ x s at. tag_known m.ids m.«module» last x s few (c.sign_tags.ensures.tags x s at);
      tables = c.tables_of.ensures;
      elements = c.elements_of.ensures;
      «data» = c.data_of.ensures;
      named = c.name_all.ensures.named;
      places = placed_more first last _ c.name_all.new.named.items more c.name_all.ensures.places;
      steps = subst (λ (steps : List Step). AreSteps m.ids steps) (sym c.new.ensures) c.name_all.ensures.steps;
      memories = c.memories_of.ensures;
      memory = c.first_memory.ensures;
      table = c.first_table.ensures;
    }
