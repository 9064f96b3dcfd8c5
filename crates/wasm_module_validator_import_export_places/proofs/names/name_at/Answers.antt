use Rattle.std.proofs.Common.{◌++◌, length, arith}
use Rattle.wasm_module_validator_import_export_places.proofs.Standing.{name_parts, name_there, past, room}
use Rattle.wasm_module_validator_import_export_places.proofs.names.name_at.Goals as goal

pub returns-in_default-clause-found : goal.returns-in_default-clause-found
returns-in_default-clause-found c z a front rest h e =
    c.in_default.ensures.found z (length a) h.name.count (a ++ rest) h.name.counted (name_parts z c.args.bytes.now c.args.at a front rest h e)

pub returns-then-length-bytes-clause-found : goal.returns-then-length-bytes-clause-found
returns-then-length-bytes-clause-found c z a front rest h e =
    let (q, k) = c.in-Some.ensures.found z (length a) h.name.count (a ++ rest) h.name.counted (name_parts z c.args.bytes.now c.args.at a front rest h e) in
    let r = room c.args.bytes.now c.in-Some.offset a rest k in
    absurd (omega (arith, q, r))

pub returns-clause-found : goal.returns-clause-found
returns-clause-found c z a front rest h e =
    let (q, k) = c.in-Some.ensures.found z (length a) h.name.count (a ++ rest) h.name.counted (name_parts z c.args.bytes.now c.args.at a front rest h e) in
    (name_there c.args.bytes.now c.in-Some.offset c.in-Some.length a rest q k, past c.args.bytes.now c.in-Some.offset c.in-Some.length a rest q k)
