use Rattle.std.proofs.Common.{◌++◌, ◌∙◌, refl, ap, append_assoc}
use Rattle.wasm_module_validator_import_export_places.proofs.entries.export_at.Goals as goal

pub returns-in_default-clause-found : goal.returns-in_default-clause-found
returns-in_default-clause-found c z x front rest h e =
    let tail = h.kind_text ++ h.index_text in
    let e1 = e ∙ ap (λ v. v ++ rest) h.whole ∙ append_assoc h.name_text tail rest in
    c.in_default.ensures.found z x.name h.name_text (tail ++ rest) h.named e1

pub returns-in_default-kind_at-clause-found : goal.returns-in_default-kind_at-clause-found
returns-in_default-kind_at-clause-found c z x front rest h e =
    let tail = h.kind_text ++ h.index_text in
    let e1 = e ∙ ap (λ v. v ++ rest) h.whole ∙ append_assoc h.name_text tail rest in
    let s1 = c.in-Some.ensures.found z x.name h.name_text (tail ++ rest) h.named e1 in
    c.in_default-kind_at.ensures.found z x.kind h.kind_text (h.index_text ++ rest) h.of_kind (s1.1 ∙ append_assoc h.kind_text h.index_text rest)

pub returns-in_default-number_at-clause-found : goal.returns-in_default-number_at-clause-found
returns-in_default-number_at-clause-found c z x front rest h e =
    let tail = h.kind_text ++ h.index_text in
    let e1 = e ∙ ap (λ v. v ++ rest) h.whole ∙ append_assoc h.name_text tail rest in
    let s1 = c.in-Some.ensures.found z x.name h.name_text (tail ++ rest) h.named e1 in
    let s2 = c.in-Some-kind_at.ensures.found z x.kind h.kind_text (h.index_text ++ rest) h.of_kind (s1.1 ∙ append_assoc h.kind_text h.index_text rest) in
    c.in_default-number_at.ensures.found z x.index h.index_text rest h.indexed s2.1

pub returns-clause-found : goal.returns-clause-found
returns-clause-found c z x front rest h e =
    let tail = h.kind_text ++ h.index_text in
    let e1 = e ∙ ap (λ v. v ++ rest) h.whole ∙ append_assoc h.name_text tail rest in
    let s1 = c.in-Some.ensures.found z x.name h.name_text (tail ++ rest) h.named e1 in
    let s2 = c.in-Some-kind_at.ensures.found z x.kind h.kind_text (h.index_text ++ rest) h.of_kind (s1.1 ∙ append_assoc h.kind_text h.index_text rest) in
    let s3 = c.in-Some-number_at.ensures.found z x.index h.index_text rest h.indexed s2.1 in
    (record { named = s1.0; kind = s2.0; index = s3.0; later = refl }, s3.1)
