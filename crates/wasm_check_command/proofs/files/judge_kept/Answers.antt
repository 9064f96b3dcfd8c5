use Rattle.std.proofs.Common.{sym, rules, [], ◌∷◌, ◌∙◌, refl, subst, length, map, arith}
use Rattle.std.proofs.lemmas.Iterator.Adapters.{YieldsList-from_vec}
use Rattle.std.proofs.lemmas.Iterator.Consumers.{YieldsList-so_far, YieldsList-turn}
use Rattle.std.proofs.lemmas.List.{map-append, length_push, take_all, length-map}
use Rattle.wasm_check_command.specs.Modes.{ruling_of}
use Rattle.wasm_check_command.specs.Files.{ReportsFiles}
use Rattle.wasm_check_command.proofs.FileReports.{ends_enough, reports_none, reports_more, names_so_far, name_at, stops_at}
use Rattle.wasm_check_command.proofs.files.judge_kept.Goals as goal

pub loop-input-init : goal.loop-input-init
loop-input-init g c = record { can = tt; finite = tt; counted = refl; reported = reports_none (ruling_of g.J.Judge.accepts c.args.chosen) (g.W.Write.contents c.args.out.now) }

pub returns-in-Err-clause-err : goal.returns-in-Err-clause-err
returns-in-Err-clause-err g c = λ all kept.
    let road = YieldsList-from_vec {s = c.into_iter-input-iterator.result} c.args.inputs.items
    c.into_iter-input-iterator.ensures.into_iter_gives.0 (c.into_iter-input-iterator.ensures.into_iter_gives.1 ∙ c.args.inputs.ok.0) in
    let so_far = YieldsList-so_far road c.loop-input.yielded c.loop-input.input-iterator c.loop-input.yielded_by in
    let turn = YieldsList-turn road c.loop-input.yielded c.loop-input.input-iterator c.loop-input.yielded_by c.next.result c.next.new.self c.in-Some.input c.in-Some.is c.next.ensures.steps in
    stops_at (ruling_of g.J.Judge.accepts c.args.chosen) all c.in-Some.input.name.now c.loop-input.index (g.W.Write.contents c.args.out.now)
    (g.W.Write.contents c.loop-input.out) (g.W.Write.contents c.judge_opened.new.out) c.loop-input.status c.in-Err.fault
    (subst (λ ns. ReportsFiles (ruling_of g.J.Judge.accepts c.args.chosen) ns (g.W.Write.contents c.args.out.now) (g.W.Write.contents c.loop-input.out) c.loop-input.status)
    (names_so_far c.loop-input.yielded c.args.inputs.items all (length c.args.inputs.items) c.loop-input.index c.loop-input.invariant.counted so_far turn.0 kept) c.loop-input.invariant.reported)
    (name_at c.loop-input.yielded c.args.inputs.items all (length c.args.inputs.items) c.loop-input.index c.in-Some.input c.loop-input.invariant.counted turn kept)
    c.in-Err.ensures.err

pub loop-input-preserved : goal.loop-input-preserved
loop-input-preserved g c = record {
  can = tt;
  finite = tt;
  counted = grind (arith, length_push c.loop-input.yielded c.in-Some.input);
  reported = rw (map-append (λ i. i.name.now) c.loop-input.yielded (c.in-Some.input ∷ []), c.joined-status.ensures)
      (reports_more (ruling_of g.J.Judge.accepts c.args.chosen) (map (λ i. i.name.now) c.loop-input.yielded) c.in-Some.input.name.now (g.W.Write.contents c.args.out.now)
      (g.W.Write.contents c.loop-input.out) (g.W.Write.contents c.judge_opened.new.out) c.loop-input.status c.in-Ok.is_valid c.loop-input.invariant.reported c.in-Ok.ensures.ok);
}

pub returns-then-is_enough-clause-ok : goal.returns-then-is_enough-clause-ok
returns-then-is_enough-clause-ok g c =
    let road = YieldsList-from_vec {s = c.into_iter-input-iterator.result} c.args.inputs.items
    c.into_iter-input-iterator.ensures.into_iter_gives.0 (c.into_iter-input-iterator.ensures.into_iter_gives.1 ∙ c.args.inputs.ok.0) in
    let so_far = YieldsList-so_far road c.loop-input.yielded c.loop-input.input-iterator c.loop-input.yielded_by in
    let turn = YieldsList-turn road c.loop-input.yielded c.loop-input.input-iterator c.loop-input.yielded_by c.next.result c.next.new.self c.in-Some.input c.in-Some.is c.next.ensures.steps in
    let whole = take_all (length c.args.inputs.items) (map (λ i. i.name.now) c.args.inputs.items) (omega (arith, length-map c.args.inputs.items (λ i. i.name.now))) in
    ends_enough (ruling_of g.J.Judge.accepts c.args.chosen) (map (λ i. i.name.now) c.args.inputs.items) c.loop-input.index (g.W.Write.contents c.args.out.now) (g.W.Write.contents c.loop-input.out) c.loop-input.status
    (subst (λ ns. ReportsFiles (ruling_of g.J.Judge.accepts c.args.chosen) ns (g.W.Write.contents c.args.out.now) (g.W.Write.contents c.loop-input.out) c.loop-input.status)
    (names_so_far c.loop-input.yielded c.args.inputs.items (map (λ i. i.name.now) c.args.inputs.items) (length c.args.inputs.items) c.loop-input.index c.loop-input.invariant.counted so_far turn.0 (sym whole)) c.loop-input.invariant.reported)
    (search rules)
