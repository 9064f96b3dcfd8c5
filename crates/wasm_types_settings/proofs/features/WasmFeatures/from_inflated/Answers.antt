-- Each call sets one feature's bits after those before it.
use Rattle.std.proofs.Common.{◌≡◌}
use Rattle.wasm_types_settings.proofs.Packing.{applied, entries, packs_applied}
use Rattle.wasm_types_settings.proofs.features.WasmFeatures.from_inflated.Goals as goal

pub returns : goal.returns
returns c =
    let start : c.empty.result.0 ≡ 0 = c.empty.ensures tt in
    let end : c.with-28.result.0 ≡ applied (entries c.args.fields) 0 = cc (
      start,
      c.with.ensures,
      c.with-2.ensures,
      c.with-3.ensures,
      c.with-4.ensures,
      c.with-5.ensures,
      c.with-6.ensures,
      c.with-7.ensures,
      c.with-8.ensures,
      c.with-9.ensures,
      c.with-10.ensures,
      c.with-11.ensures,
      c.with-12.ensures,
      c.with-13.ensures,
      c.with-14.ensures,
      c.with-15.ensures,
      c.with-16.ensures,
      c.with-17.ensures,
      c.with-18.ensures,
      c.with-19.ensures,
      c.with-20.ensures,
      c.with-21.ensures,
      c.with-22.ensures,
      c.with-23.ensures,
      c.with-24.ensures,
      c.with-25.ensures,
      c.with-26.ensures,
      c.with-27.ensures,
      c.with-28.ensures,
    ) in
    packs_applied c.args.fields c.with-28.result.0 end
