use Rattle.std.proofs.Common.{◌++◌, ◌∙◌, length, sym, arith}
use Rattle.wasm_module_validator_rules.specs.Binary.{contents}
use Rattle.wasm_module_validator_import_export_places.proofs.Standing.{past, room}
use Rattle.wasm_module_validator_import_export_places.proofs.Parting.{left_first, left_next, left_last, next_tag, next_size, found_at, found_absent}
use Rattle.wasm_module_validator_import_export_places.proofs.sections.section_of.Goals as goal

pub loop-at-init : goal.loop-at-init
loop-at-init c = record { inside = omega arith; parts = λ z o h. left_first z c.args.id o c.args.bytes.now h }

pub returns-in_default-clause-found : goal.returns-in_default-clause-found
returns-in_default-clause-found c z o h =
    let text = c.args.bytes.now in
    let n = left_next z c.args.id text c.loop-at.at o c.requires.custom c.requires.code c.loop-at-test.true (c.loop-at.invariant.parts z o h) in
    absurd (c.in_default.ensures.found z (length n.content) n.size (n.content ++ n.back) n.counted (next_size z c.args.id text c.loop-at.at o n))

pub returns-then-size-bytes-clause-found : goal.returns-then-size-bytes-clause-found
returns-then-size-bytes-clause-found c z o h =
    let text = c.args.bytes.now in
    let n = left_next z c.args.id text c.loop-at.at o c.requires.custom c.requires.code c.loop-at-test.true (c.loop-at.invariant.parts z o h) in
    let (q, k) = c.in-Some.ensures.found z (length n.content) n.size (n.content ++ n.back) n.counted (next_size z c.args.id text c.loop-at.at o n) in
    let r = room text c.in-Some.start n.content n.back k in
    absurd (omega (arith, q, r, c.if-size-bytes.true))

pub returns-then-bytes-at-clause-found : goal.returns-then-bytes-at-clause-found
returns-then-bytes-at-clause-found c z o h =
    let text = c.args.bytes.now in
    let n = left_next z c.args.id text c.loop-at.at o c.requires.custom c.requires.code c.loop-at-test.true (c.loop-at.invariant.parts z o h) in
    let (q, k) = c.in-Some.ensures.found z (length n.content) n.size (n.content ++ n.back) n.counted (next_size z c.args.id text c.loop-at.at o n) in
    found_at text (contents c.args.id o.parts) c.in-Some.start n.content n.back (n.found (next_tag z c.args.id text c.loop-at.at o n c.loop-at-test.true ∙ c.if-bytes-at.true)) k

pub loop-at-preserved : goal.loop-at-preserved
loop-at-preserved c =
    let text = c.args.bytes.now in
    record {
      inside = omega (arith, c.in-Some.ensures.inside, c.if-size-bytes.false);
      parts = λ z o h.
          (let n = left_next z c.args.id text c.loop-at.at o c.requires.custom c.requires.code c.loop-at-test.true (c.loop-at.invariant.parts z o h) in
          let (q, k) = c.in-Some.ensures.found z (length n.content) n.size (n.content ++ n.back) n.counted (next_size z c.args.id text c.loop-at.at o n) in
          n.passed _ (λ e. c.if-bytes-at.false (sym (next_tag z c.args.id text c.loop-at.at o n c.loop-at-test.true) ∙ e))
          (past text c.in-Some.start c.in-Some.size n.content n.back q k));
    }

pub returns-clause-found : goal.returns-clause-found
returns-clause-found c z o h =
    let text = c.args.bytes.now in
    found_absent text (contents c.args.id o.parts) (left_last z c.args.id text c.loop-at.at o c.requires.custom c.requires.code c.loop-at-test.false (c.loop-at.invariant.parts z o h))
