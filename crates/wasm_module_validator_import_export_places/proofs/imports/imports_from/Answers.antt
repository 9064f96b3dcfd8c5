use Rattle.std.proofs.Common.{◌≡◌, ◌<◌, ◌≤◌, ◌++◌, ◌∙◌, ◌+◌, length, get_or, sym, ap, subst, arith, append_assoc, rules}
use Rattle.wasm_module_validator_import_export_places.specs.Entries.{ImportWithin}
use Rattle.wasm_module_validator_import_export_places.proofs.Reading.{first_more, first_all, imports_more, imports_stop, imports_all, few_more}
use Rattle.wasm_module_validator_import_export_places.proofs.imports.imports_from.Goals as goal

pub returns-in_default-clause-listed : goal.returns-in_default-clause-listed
returns-in_default-clause-listed c z xs content rest g e =
    c.in_default.ensures.found z (length xs) g.count (g.values ++ rest) g.counted (e ∙ ap (λ v. v ++ rest) g.whole ∙ append_assoc g.count g.values rest)

pub returns-in_default-import_at-clause-listed : goal.returns-in_default-import_at-clause-listed
returns-in_default-import_at-clause-listed c z xs content rest g e =
    let s = c.in-Some.ensures.found z (length xs) g.count (g.values ++ rest) g.counted (e ∙ ap (λ v. v ++ rest) g.whole ∙ append_assoc g.count g.values rest) in
    let h : c.loop-place.place < length xs = omega (arith, s.0, c.loop-place-test.true) in
    imports_stop z xs rest c.args.bytes.now c.loop-place.place c.loop-place.at c.loop-place.taken c.loop-place.rows h
    (c.loop-place.invariant.entries z xs g.values rest g.each s.1 (sym s.0)) (λ x front behind p q. c.in_default-import_at.ensures.found z x front behind p q)

pub loop-place-preserved : goal.loop-place-preserved
loop-place-preserved c =
    record {
      inside = c.in-Some-import_at.ensures.inside;
      within = first_more (ImportWithin c.args.bytes.now) c.loop-place.rows c.loop-place.place _ c.put_import.new.rows (record { from_module = c.in-Some-import_at.ensures.within.from_module; named = c.in-Some-import_at.ensures.within.named }) c.loop-place.invariant.within c.put_import.ensures;
      kinds = search rules;
      few = λ k.
          subst (λ v. get_or v k 0 ≤ c.loop-place.place + 1) (sym c.next_index.ensures.more)
          (few_more c.loop-place.taken c.in-Some-import_at.row.kind c.loop-place.place c.loop-place.invariant.few k);
      entries = λ z xs values rest m e q.
          (let h : c.loop-place.place < length xs = omega (arith, q, c.loop-place-test.true) in
          imports_more z xs rest c.args.bytes.now c.loop-place.place c.loop-place.at c.in-Some-import_at.end c.loop-place.taken c.next_index.new.taken c.loop-place.rows c.put_import.new.rows
          c.in-Some-import_at.row _ h (c.loop-place.invariant.entries z xs values rest m e q) (λ x front behind p r. c.in-Some-import_at.ensures.found z x front behind p r)
          (λ x t. record { from_module = t.from_module; named = t.named; kind = t.kind }) c.next_index.ensures.index c.next_index.ensures.more c.put_import.ensures);
    }

pub returns-clause-listed : goal.returns-clause-listed
returns-clause-listed c z xs content rest g e =
    let s = c.in-Some.ensures.found z (length xs) g.count (g.values ++ rest) g.counted (e ∙ ap (λ v. v ++ rest) g.whole ∙ append_assoc g.count g.values rest) in
    let h : length xs ≤ c.loop-place.place = omega (arith, s.0, c.loop-place-test.false) in
    (s.0, imports_all z xs rest c.args.bytes.now c.loop-place.place c.loop-place.at c.loop-place.taken c.loop-place.rows h (c.loop-place.invariant.entries z xs g.values rest g.each s.1 (sym s.0)))

pub returns-clause-within : goal.returns-clause-within
returns-clause-within c =
    let n : c.loop-place.place ≡ c.in-Some.count = omega arith in
    first_all (ImportWithin c.args.bytes.now) c.loop-place.rows c.loop-place.place c.in-Some.count n c.loop-place.invariant.within
