use Rattle.std.proofs.Common.{◌≡◌, false, true, refl, sym, ◌∙◌, arith}
use Rattle.wasm_types.specs.trees.Below.{Below}
use Rattle.wasm_operator_validator_resources.specs.Meaning.{type_in}
use Rattle.wasm_operator_validator_state.proofs.Each.{as_long, all_below, below_at}
use Rattle.wasm_operator_validator_state.proofs.blocks.below.are_below.Goals as goal

pub returns-then-found-expected : goal.returns-then-found-expected
returns-then-found-expected g c =
    let m = g.R.WasmModuleResources.meaning c.args.resources.now in
    (λ t. (let x : false ≡ true = t in cc), λ b. absurd (c.if-found-expected.true (as_long m c.args.found.now c.args.expected.now b)))

pub returns-then-not-is_subtype : goal.returns-then-not-is_subtype
returns-then-not-is_subtype g c =
    let m = g.R.WasmModuleResources.meaning c.args.resources.now in (
      λ t. (let x : false ≡ true = t in cc),
      λ b. (let d = below_at m c.args.found.now c.args.expected.now c.loop-i.i c.index-found-i.result c.index-expected-i.result b c.loop-i-test.true in
          let d' : Below (type_in m c.index-found-i.result) (type_in m c.index-expected-i.result) = rw (← c.index-found-i.is, ← c.index-expected-i.is) at d in
          let x : false ≡ true = sym c.if-not-is_subtype.true ∙ c.is_subtype.ensures.1 d' in cc),
    )

pub returns : goal.returns
returns g c =
    let m = g.R.WasmModuleResources.meaning c.args.resources.now in
    (λ t. all_below m c.args.found.now c.args.expected.now c.if-found-expected.false (λ k v w h. (let n = c.loop-i-test.false in c.loop-i.invariant k v w (omega arith))), λ b. refl)
