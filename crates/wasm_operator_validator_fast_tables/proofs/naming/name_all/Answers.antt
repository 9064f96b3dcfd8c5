use Rattle.std.proofs.Common.{ℕ, List, ap, sym, subst, arith, length}
use Rattle.std.proofs.lemmas.List.{length_push}
use Rattle.wasm_operator_validator_fast_tables.specs.declared.tables.Named.{Named}
use Rattle.wasm_operator_validator_fast_tables.specs.Known.{AreNamedIn}
use Rattle.wasm_operator_validator_fast_tables.proofs.Knowing.{alone_more}
use Rattle.wasm_operator_validator_fast_tables.proofs.Defining.{none_named, none_placed, all_longer, named_more}
use Rattle.wasm_operator_validator_fast_tables.proofs.naming.name_all.Goals as goal

pub loop-at-init : goal.loop-at-init
loop-at-init g c =
    let m = g.R.WasmModuleResources.meaning c.args.resources.now in
    record {
      named = none_named m.ids m.«module» c.args.fields.now.items c.args.named.now.items c.requires.none;
      places = none_placed c.args.flat.now.items c.args.named.now.items c.requires.none;
      alone = c.requires.alone;
      within = omega (arith, c.requires.begun, c.requires.least);
      steps = c.put_abstract.ensures m.ids;
      count = ap length c.requires.none;
      room = c.requires.begun;
    }

pub loop-at-preserved : goal.loop-at-preserved
loop-at-preserved g c =
    let m = g.R.WasmModuleResources.meaning c.args.resources.now in
    let i = c.loop-at.invariant in
    let (long, one) = c.put_named.ensures.one c.if-not-put_named.false in
    let more = ap (λ (l : List Named). length l) one in
    let push = length_push c.loop-at.named.items c.named_of-it.result in
    let held = ap (λ (l : List ℕ). length l) c.as_slice.ensures.value in
    record {
      named = named_more m.ids m.«module» c.loop-at.fields.items c.named_of-it.new.fields.items c.loop-at.named.items c.put_named.new.named.items c.named_of-it.result c.loop-at.at
          c.named_of-it.ensures.more one i.count i.named c.named_of-it.ensures.named;
      places = c.put_named.ensures.placed i.places;
      alone = alone_more c.loop-at.flat.items c.put_named.new.flat.items 2 c.put_named.ensures.more i.alone;
      within = omega (arith, long, more, push, i.count, i.room, held, c.if-as_slice-most.false);
      steps = c.put_step.ensures;
      count = omega (arith, more, push, i.count);
      room = omega (arith, long, more, push, i.count);
    }

pub returns-then-not-put_step-clause-named : goal.returns-then-not-put_step-clause-named
returns-then-not-put_step-clause-named g c =
    let m = g.R.WasmModuleResources.meaning c.args.resources.now in
    all_longer m.ids m.«module» c.loop-at.fields.items c.named_of-it.new.fields.items c.loop-at.named.items c.named_of-it.ensures.more c.loop-at.invariant.named

pub returns-then-not-put_named-clause-named : goal.returns-then-not-put_named-clause-named
returns-then-not-put_named-clause-named g c =
    let m = g.R.WasmModuleResources.meaning c.args.resources.now in
    subst (λ (ns : List Named). AreNamedIn m.ids m.«module» c.named_of-it.new.fields.items ns) (sym (c.put_named.ensures.none c.if-not-put_named.true))
    (all_longer m.ids m.«module» c.loop-at.fields.items c.named_of-it.new.fields.items c.loop-at.named.items c.named_of-it.ensures.more c.loop-at.invariant.named)
