use Rattle.std.proofs.Common.{◌≡◌, ◌<◌, ◌≤◌, ◌++◌, ◌∙◌, length, sym, ap, arith, append_assoc}
use Rattle.wasm_module_validator_import_export_places.specs.Entries.{ExportWithin}
use Rattle.wasm_module_validator_import_export_places.proofs.Reading.{first_more, first_all, exports_more, exports_stop, exports_all}
use Rattle.wasm_module_validator_import_export_places.proofs.exports.exports_from.Goals as goal

pub returns-in_default-clause-listed : goal.returns-in_default-clause-listed
returns-in_default-clause-listed c z xs content rest g e =
    c.in_default.ensures.found z (length xs) g.count (g.values ++ rest) g.counted (e ∙ ap (λ v. v ++ rest) g.whole ∙ append_assoc g.count g.values rest)

pub returns-in_default-export_at-clause-listed : goal.returns-in_default-export_at-clause-listed
returns-in_default-export_at-clause-listed c z xs content rest g e =
    let s = c.in-Some.ensures.found z (length xs) g.count (g.values ++ rest) g.counted (e ∙ ap (λ v. v ++ rest) g.whole ∙ append_assoc g.count g.values rest) in
    let h : c.loop-place.place < length xs = omega (arith, s.0, c.loop-place-test.true) in
    exports_stop z xs rest c.args.bytes.now c.loop-place.place c.loop-place.at c.loop-place.rows h (c.loop-place.invariant.entries z xs g.values rest g.each s.1 (sym s.0))
    (λ x front behind p q. c.in_default-export_at.ensures.found z x front behind p q)

pub loop-place-preserved : goal.loop-place-preserved
loop-place-preserved c =
    record {
      inside = c.in-Some-export_at.ensures.inside;
      within = first_more (ExportWithin c.args.bytes.now) c.loop-place.rows c.loop-place.place _ c.put_export.new.rows c.in-Some-export_at.ensures.within c.loop-place.invariant.within c.put_export.ensures;
      entries = λ z xs values rest m e q.
          (let h : c.loop-place.place < length xs = omega (arith, q, c.loop-place-test.true) in
          exports_more z xs rest c.args.bytes.now c.loop-place.place c.loop-place.at c.in-Some-export_at.end c.loop-place.rows c.put_export.new.rows c.in-Some-export_at.row h
          (c.loop-place.invariant.entries z xs values rest m e q) (λ x front behind p r. c.in-Some-export_at.ensures.found z x front behind p r) c.put_export.ensures);
    }

pub returns-clause-listed : goal.returns-clause-listed
returns-clause-listed c z xs content rest g e =
    let s = c.in-Some.ensures.found z (length xs) g.count (g.values ++ rest) g.counted (e ∙ ap (λ v. v ++ rest) g.whole ∙ append_assoc g.count g.values rest) in
    let h : length xs ≤ c.loop-place.place = omega (arith, s.0, c.loop-place-test.false) in
    (s.0, exports_all z xs rest c.args.bytes.now c.loop-place.place c.loop-place.at c.loop-place.rows h (c.loop-place.invariant.entries z xs g.values rest g.each s.1 (sym s.0)))

pub returns-clause-within : goal.returns-clause-within
returns-clause-within c =
    let n : c.loop-place.place ≡ c.in-Some.count = omega arith in
    first_all (ExportWithin c.args.bytes.now) c.loop-place.rows c.loop-place.place c.in-Some.count n c.loop-place.invariant.within
