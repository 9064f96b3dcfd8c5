use Rattle.std.proofs.Common.{◌++◌, ◌∙◌, ap, append_assoc}
use Rattle.wasm_module_validator_import_export_places.proofs.entries.import_at.Goals as goal

pub returns-in_default-clause-found : goal.returns-in_default-clause-found
returns-in_default-clause-found c z i front rest h e =
    let tail = h.field_text ++ h.type_text in
    let e1 = e ∙ ap (λ v. v ++ rest) h.whole ∙ append_assoc h.module_text tail rest in
    c.in_default.ensures.found z i.module_name h.module_text (tail ++ rest) h.from_module e1

pub returns-in_default-name_at-clause-found : goal.returns-in_default-name_at-clause-found
returns-in_default-name_at-clause-found c z i front rest h e =
    let tail = h.field_text ++ h.type_text in
    let e1 = e ∙ ap (λ v. v ++ rest) h.whole ∙ append_assoc h.module_text tail rest in
    let s1 = c.in-Some.ensures.found z i.module_name h.module_text (tail ++ rest) h.from_module e1 in
    c.in_default-name_at.ensures.found z i.field_name h.field_text (h.type_text ++ rest) h.named (s1.1 ∙ append_assoc h.field_text h.type_text rest)

pub returns-in_default-type_at-clause-found : goal.returns-in_default-type_at-clause-found
returns-in_default-type_at-clause-found c z i front rest h e =
    let tail = h.field_text ++ h.type_text in
    let e1 = e ∙ ap (λ v. v ++ rest) h.whole ∙ append_assoc h.module_text tail rest in
    let s1 = c.in-Some.ensures.found z i.module_name h.module_text (tail ++ rest) h.from_module e1 in
    let s2 = c.in-Some-name_at.ensures.found z i.field_name h.field_text (h.type_text ++ rest) h.named (s1.1 ∙ append_assoc h.field_text h.type_text rest) in
    c.in_default-type_at.ensures.found z i.ty h.type_text rest h.typed s2.1

pub returns-clause-found : goal.returns-clause-found
returns-clause-found c z i front rest h e =
    let tail = h.field_text ++ h.type_text in
    let e1 = e ∙ ap (λ v. v ++ rest) h.whole ∙ append_assoc h.module_text tail rest in
    let s1 = c.in-Some.ensures.found z i.module_name h.module_text (tail ++ rest) h.from_module e1 in
    let s2 = c.in-Some-name_at.ensures.found z i.field_name h.field_text (h.type_text ++ rest) h.named (s1.1 ∙ append_assoc h.field_text h.type_text rest) in
    let s3 = c.in-Some-type_at.ensures.found z i.ty h.type_text rest h.typed s2.1 in
    (record { from_module = s1.0; named = s2.0; kind = s3.0 }, s3.1)
