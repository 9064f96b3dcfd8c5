-- On the lines of a list of inputs.
use Rattle.std.proofs.Common.{◌≡◌, ℕ, ◌<◌, List, [], ◌∷◌, ◌++◌, Bool, true, false, IsTrue, IfOk, IfErr, Some, None, inl, Option, Result, Ok, Err}
use Rattle.std.proofs.Common.{subst, length, take, map, slice_get, get_or, append_assoc, append-nil, refl, sym, ap, ◌∙◌, lit<, arith}
use Rattle.std.specs.Io.KnownBytes.{Appends, Keeps}
use Rattle.std.proofs.KnownBytes.{Appends-nil, Appends-trans, Appends-kept}
use Rattle.std.proofs.lemmas.List.Elements.{All-append, All-cons, All-nil, Contains-append_left, Contains-append_right}
use Rattle.wasm_check_faults.specs.declared.error.CheckError.{CheckError}
use Rattle.wasm_check_faults.specs.declared.error.CheckError.TheVariants.{Read, TooLong, OutOfMemory, Write}
use Rattle.wasm_check_command.specs.declared.judging.Status.{Status}
use Rattle.wasm_check_command.specs.declared.judging.Status.TheVariants.{AllValid, SomeInvalid}
use Rattle.wasm_check_command.specs.Modes.{Ruling}
use Rattle.wasm_check_command.specs.Lines.{HasBytes, IsLine}
use Rattle.wasm_check_command.specs.Verdict.{IsJudged, FailsAt}
use Rattle.std.proofs.lemmas.List.{take-map, map-id, take_all}
use Rattle.std.proofs.lemmas.Option.{slice_get-map, slice_get_read}
use Rattle.wasm_check_command.specs.declared.judging.Input.{Input}
use Rattle.wasm_check_command.specs.Reports.{Source, source_of, sources_of, Lines, WritesLines, Sums, IsReported, StopsAt, BeginsNext, StopsWriting, Stops}

-- ---- over any judge of bytes
module _ (ruling : Ruling) where
  -- one line more
  pub Lines-more : (sources : List Source) (contents : List (List ℕ)) (text : List ℕ) (s : Source) (bytes line : List ℕ)
      → Lines ruling sources contents text → HasBytes ruling s.said bytes → IsLine ruling s.name bytes line
      → Lines ruling (sources ++ s ∷ []) (contents ++ bytes ∷ []) (text ++ line)
  Lines-more [] [] text s bytes line p h t = (line, [], h, t, refl, ap (λ x. x ++ line) p ∙ sym (append-nil line))
  Lines-more [] (b ∷ contents) text s bytes line p h t = absurd p
  Lines-more (x ∷ sources) [] text s bytes line p h t = absurd p
  Lines-more (x ∷ sources) (b ∷ contents) text s bytes line p h t =
      (p.0, p.1 ++ line, p.2, p.3, Lines-more sources contents p.1 s bytes line p.4 h t, ap (λ y. y ++ line) p.5 ∙ append_assoc p.0 p.1 line)

  -- one valid input more
  pub Sums-valid : (contents : List (List ℕ)) (bytes : List ℕ) (status : Status) → Sums ruling contents status → ruling.accepts bytes → Sums ruling (contents ++ bytes ∷ []) status
  Sums-valid contents bytes AllValid h a = All-append ruling.accepts contents (bytes ∷ []) h (All-cons ruling.accepts bytes [] a (All-nil ruling.accepts))
  Sums-valid contents bytes SomeInvalid h a = (h.0, Contains-append_left contents (bytes ∷ []) h.0 h.1, h.2)

  -- no input was judged yet
  pub IsReported-none : (known : Option (List ℕ)) → IsReported ruling [] known known AllValid
  IsReported-none known = record {
    contents = [];
    written = record { text = []; lines = refl; appended = Appends-nil known };
    sums = All-nil ruling.accepts;
  }

  -- one input more, with the status that follows
  pub IsReported-more : (sources : List Source) (s : Source) (old mid new : Option (List ℕ)) (status next : Status) (valid : Bool)
      → IsReported ruling sources old mid status → IsJudged ruling s.name s.said valid mid new
      → ((contents : List (List ℕ)) (bytes : List ℕ) → Sums ruling contents status → (IsTrue valid → ruling.accepts bytes)
      → (ruling.accepts bytes → IsTrue valid) → Sums ruling (contents ++ bytes ∷ []) next)
      → IsReported ruling (sources ++ s ∷ []) old new next
  IsReported-more sources s old mid new status next valid r j sums = record {
    contents = r.contents ++ j.bytes ∷ [];
    written = record {
      text = r.written.text ++ j.written.line;
      lines = Lines-more sources r.contents r.written.text s j.bytes j.written.line r.written.lines j.has j.written.verdict.told;
      appended = Appends-trans old mid new r.written.text j.written.line r.written.appended j.written.appended;
    };
    sums = sums r.contents j.bytes r.sums j.written.verdict.tested.0 j.written.verdict.tested.1;
  }

  -- a valid input more
  pub IsReported-valid : (sources : List Source) (s : Source) (old mid new : Option (List ℕ)) (status next : Status) (valid : Bool)
      → IsReported ruling sources old mid status → IsJudged ruling s.name s.said valid mid new → valid ≡ true → next ≡ status
      → IsReported ruling (sources ++ s ∷ []) old new next
  IsReported-valid sources s old mid new status next valid r j says same =
      IsReported-more sources s old mid new status next valid r j (λ contents bytes h from to. rw same (Sums-valid contents bytes status h (from says)))

  -- an invalid input more
  pub IsReported-invalid : (sources : List Source) (s : Source) (old mid new : Option (List ℕ)) (status next : Status) (valid : Bool)
      → IsReported ruling sources old mid status → IsJudged ruling s.name s.said valid mid new → valid ≡ false → next ≡ SomeInvalid
      → IsReported ruling (sources ++ s ∷ []) old new next
  IsReported-invalid sources s old mid new status next valid r j denies same =
      IsReported-more sources s old mid new status next valid r j (λ contents bytes h from to. rw same
      (bytes, Contains-append_right contents (bytes ∷ []) bytes (0, lit< tt, refl), λ a. let says : valid ≡ true = to a in cc))

  -- the source after those that were judged came to no verdict
  abbrev pub StopsAt-after : (all sources : List Source) (s : Source) (index i : ℕ) (old mid new : Option (List ℕ)) (status : Status)
      → IsReported ruling sources old mid status → sources ≡ take index all → slice_get all index ≡ Some s → i ≡ index → Keeps mid new
      → StopsAt ruling all i old new
  StopsAt-after all sources s index i old mid new status r front found same kept = record {
    source = s;
    found = rw same found;
    contents = r.contents;
    written = record {
      text = r.written.text;
      lines = rw (same, ← front) r.written.lines;
      appended = Appends-kept old mid new r.written.text r.written.appended kept;
    };
  }

  -- the same of each fault
  pub Stops-after : (all sources : List Source) (s : Source) (index : ℕ) (old mid new : Option (List ℕ)) (status : Status) (e : CheckError)
      → IsReported ruling sources old mid status → sources ≡ take index all → slice_get all index ≡ Some s → FailsAt ruling index s.name s.said mid new e
      → Stops ruling all old new e
  Stops-after all sources s index old mid new status (Read i) r front found h = StopsAt-after all sources s index i old mid new status r front found h.0 h.1
  Stops-after all sources s index old mid new status (TooLong i) r front found h = (StopsAt-after all sources s index i old mid new status r front found h.0 h.2, h.1)
  Stops-after all sources s index old mid new status (OutOfMemory i) r front found h = StopsAt-after all sources s index i old mid new status r front found h.0 h.1
  Stops-after all sources s index old mid new status Write r front found h = record {
    index = index;
    contents = r.contents;
    text = r.written.text;
    lines = rw (← front) r.written.lines;
    front = h.0;
    next = rw found h.1;
    appended = Appends-trans old mid new r.written.text h.0 r.written.appended h.2;
  }

  -- a flush changes nothing
  abbrev StopsAt-kept : (sources : List Source) (index : ℕ) (old mid new : Option (List ℕ)) → StopsAt ruling sources index old mid → Keeps mid new → StopsAt ruling sources index old new
  StopsAt-kept sources index old mid new h kept = record {
    source = h.source;
    found = h.found;
    contents = h.contents;
    written = record { text = h.written.text; lines = h.written.lines; appended = Appends-kept old mid new h.written.text h.written.appended kept };
  }

  pub Stops-kept : (sources : List Source) (old mid new : Option (List ℕ)) (e : CheckError) → Stops ruling sources old mid e → Keeps mid new → Stops ruling sources old new e
  Stops-kept sources old mid new (Read i) h kept = StopsAt-kept sources i old mid new h kept
  Stops-kept sources old mid new (TooLong i) h kept = (StopsAt-kept sources i old mid new h.0 kept, h.1)
  Stops-kept sources old mid new (OutOfMemory i) h kept = StopsAt-kept sources i old mid new h kept
  Stops-kept sources old mid new Write h kept = record {
    index = h.index;
    contents = h.contents;
    text = h.text;
    lines = h.lines;
    front = h.front;
    next = h.next;
    appended = Appends-kept old mid new (h.text ++ h.front) h.appended kept;
  }

  -- nothing is a front of each line
  begins_nothing : (next : Option Source) → BeginsNext ruling next []
  begins_nothing None = refl
  begins_nothing (Some s) = inl refl

  -- whole lines were written, and no more
  stops_behind : (sources : List Source) (index : ℕ) (contents : List (List ℕ)) (old mid new : Option (List ℕ)) → WritesLines ruling (take index sources) contents old mid → Keeps mid new
      → StopsWriting ruling sources old new
  stops_behind sources index contents old mid new h kept = record {
    index = index;
    contents = contents;
    text = h.text;
    lines = h.lines;
    front = [];
    next = begins_nothing (slice_get sources index);
    appended = subst (Appends old new) (sym (append-nil h.text)) (Appends-kept old mid new h.text h.appended kept);
  }

  -- whatever was answered before a flush failed
  pub flush_failed : (r : Result Status CheckError) (sources : List Source) (old mid new : Option (List ℕ))
      → IfOk r (IsReported ruling sources old mid) → IfErr r (Stops ruling sources old mid)
      → Keeps mid new → StopsWriting ruling sources old new
  flush_failed (Ok status) sources old mid new h e kept =
      stops_behind sources (length sources) h.contents old mid new
      (subst (λ (l : List Source). WritesLines ruling l h.contents old mid) (sym (take_all (length sources) sources (omega arith))) h.written) kept
  flush_failed (Err (Read i)) sources old mid new h e kept = stops_behind sources i e.contents old mid new e.written kept
  flush_failed (Err (TooLong i)) sources old mid new h e kept = stops_behind sources i e.0.contents old mid new e.0.written kept
  flush_failed (Err (OutOfMemory i)) sources old mid new h e kept = stops_behind sources i e.contents old mid new e.written kept
  flush_failed (Err Write) sources old mid new h e kept = Stops-kept sources old mid new Write e kept

  -- Stops-kept, at what a call answered
  pub IfErr-kept : {T : Type 0} (r : Result T CheckError) (sources : List Source) (old mid new : Option (List ℕ))
      → IfErr r (Stops ruling sources old mid) → Keeps mid new → IfErr r (Stops ruling sources old new)
  IfErr-kept (Ok x) sources old mid new h kept = h
  IfErr-kept (Err e) sources old mid new h kept = Stops-kept sources old mid new e h kept

-- the inputs so far, as sources
pub sources_so_far : {R : Type 0} (remaining : R → Option (List ℕ)) (yielded inputs : List (Input R)) (index : ℕ)
    → index ≡ length yielded → map (λ x. x) yielded ≡ take (length yielded) inputs
    → sources_of remaining yielded ≡ take index (sources_of remaining inputs)
sources_so_far remaining yielded inputs index counted front = rw (counted, take-map (source_of remaining) (length yielded) inputs, ← front, map-id)

-- the input of this turn, as a source
pub source_at : {R : Type 0} (remaining : R → Option (List ℕ)) (yielded inputs : List (Input R)) (index : ℕ) (i : Input R)
    → index ≡ length yielded → (length yielded < length inputs) × (i ≡ get_or inputs (length yielded) i)
    → slice_get (sources_of remaining inputs) index ≡ Some (source_of remaining i)
source_at remaining yielded inputs index i counted turn =
    rw (counted, slice_get-map (source_of remaining) inputs (length yielded), slice_get_read inputs (length inputs) (length yielded) i refl turn.0 turn.1)
