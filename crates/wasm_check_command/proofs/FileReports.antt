-- On files that are judged one after another.
use Rattle.std.proofs.Common.{◌≡◌, ℕ, zero, suc, ◌<◌, ◌≤◌, List, [], ◌∷◌, ◌++◌, Bool, true, false, IfOk, IfErr, Some, None, Option, Result, Ok, Err, ◌⊎◌, inl, inr}
use Rattle.std.proofs.Common.{length, take, map, min, slice_get, get_or, option_map, refl, sym, ap, subst, ◌+◌, ◌∙◌, arith}
use Rattle.std.specs.Borrow.{Bor}
use Rattle.std.specs.Prelude.{Contains}
use Rattle.std.specs.Io.KnownBytes.{Appends, Keeps}
use Rattle.std.proofs.KnownBytes.{Appends-kept, Appends-nil, Keeps-refl, Keeps-trans}
use Rattle.std.proofs.Math.Seq.{take-suc, take-append_seam, get_or-append_seam}
use Rattle.std.proofs.lemmas.List.{length-map, length-take, length-take-le, length_push, map-append, map-id, take-map, take-take, take_all, take_min, get_or-take}
use Rattle.std.proofs.lemmas.List.Elements.{Contains-get_or, Contains-append_left, Contains-append_right}
use Rattle.std.proofs.lemmas.Option.{slice_get-map, slice_get_read, slice_get_within, get_or_from_slice_get}
use Rattle.wasm_check_faults.specs.declared.error.CheckError.{CheckError}
use Rattle.wasm_check_faults.specs.declared.error.CheckError.TheVariants.{Read, TooLong, OutOfMemory, Write}
use Rattle.wasm_check_command.specs.declared.judging.Input.{Input}
use Rattle.wasm_check_command.specs.declared.judging.Status.{Status}
use Rattle.wasm_check_command.specs.declared.judging.Status.TheVariants.{AllValid, SomeInvalid}
use Rattle.wasm_check_faults.specs.declared.faults.Fault.{Fault}
use Rattle.wasm_check_command.specs.declared.files.Ended.{Ended}
use Rattle.wasm_check_faults.specs.declared.faults.Fault.TheVariants as faults
use Rattle.wasm_types.specs.settings.Settings.{Settings}
use Rattle.wasm_check_command.specs.Settings.{settings_by}
use Rattle.wasm_check_command.specs.Manners.{Manner}
use Rattle.wasm_check_command.specs.declared.judging.Chosen.{Chosen}
use Rattle.wasm_check_command.specs.declared.judging.Mode.{Mode}
use Rattle.wasm_check_command.specs.declared.judging.Mode.TheVariants.{Whole, Pieces}
use Rattle.wasm_check_command.specs.Modes.{Ruling, manner_of, ruled, ruling_of}
use Rattle.wasm_check_command.specs.Verdict.{FailsAt}
use Rattle.wasm_check_command.specs.Reports.{Source}
use Rattle.wasm_check_command.specs.Files.{texts, joined, IsNamed, CannotOpen, FailsOpening, JudgesFile, FailsFile, FailsAgain, ReportsFiles, EndsFiles, IsEnough, is_enough, StopsChecking, StopsFiles, select, has_unset, GoesOn, GoesSoFar, LosesFile, StopsGoing, StopsGoingBy, EndsBy, is_unwritten}
use Rattle.wasm_check_command.proofs.ReportLemmas.{IsReported-none, IsReported-valid, IsReported-invalid, Stops-after, Stops-kept, flush_failed}

-- a file as a contract sees it
abbrev source : List ℕ → Option (List ℕ) → Source
source name said = record { name = name; said = said }

-- the last of a list that one was put behind
last_is : {X : Type 0} (xs : List X) (x : X) → slice_get (xs ++ x ∷ []) (length xs) ≡ Some x
last_is xs x =
    slice_get_read (xs ++ x ∷ []) (length (xs ++ x ∷ [])) (length xs) x refl (omega (arith, length_push xs x)) (sym (get_or-append_seam xs x [] x))

-- a front and the one behind it
one_more : (all : List (List ℕ)) (index : ℕ) (name : List ℕ) → slice_get all index ≡ Some name → take index all ++ name ∷ [] ≡ take (index + 1) all
one_more all index name found =
    let there : get_or all index name ≡ name = get_or_from_slice_get all index name name found in
    let on : suc index ≡ index + 1 = omega arith in
    ap (λ x. take index all ++ x ∷ []) (sym there) ∙ sym (take-suc all index name (slice_get_within all index name found)) ∙ ap (λ n. take n all) on

-- the name of an input
abbrev name_of : {R : Type 0} → Input R → List ℕ
name_of i = i.name.now

-- where the inputs are those of the first files, the names so far are the first names
pub names_so_far : {R : Type 0} (yielded inputs : List (Input R)) (all : List (List ℕ)) (n index : ℕ)
    → index ≡ length yielded → map (λ x. x) yielded ≡ take (length yielded) inputs → length yielded < length inputs
    → map (λ (i : Input R). i.name.now) inputs ≡ take n all → map (λ (i : Input R). i.name.now) yielded ≡ take index all
names_so_far yielded inputs all n index counted front inside kept =
    let short : length inputs ≤ n = fits inputs all n kept in
    let here : map name_of yielded ≡ take index (map name_of inputs) = rw (counted, take-map name_of (length yielded) inputs, ← front, map-id) in
    here ∙ ap (take index) kept ∙ take-take index n all (omega (arith, counted, inside, short))
  where
    fits : {R : Type 0} (inputs : List (Input R)) (all : List (List ℕ)) (n : ℕ) → map name_of inputs ≡ take n all → length inputs ≤ n
    fits inputs all n e = omega (arith, length-map inputs name_of, ap length e, length-take n all)

-- and that of this turn is the next
pub name_at : {R : Type 0} (yielded inputs : List (Input R)) (all : List (List ℕ)) (n index : ℕ) (i : Input R)
    → index ≡ length yielded → (length yielded < length inputs) × (i ≡ get_or inputs (length yielded) i)
    → map (λ (j : Input R). j.name.now) inputs ≡ take n all → slice_get all index ≡ Some i.name.now
name_at yielded inputs all n index i counted turn kept =
    let front : slice_get (take n all) (length yielded) ≡ Some (name_of i)
    = subst (λ ns. slice_get ns (length yielded) ≡ Some (name_of i)) kept
    (slice_get-map name_of inputs (length yielded) ∙ ap (option_map name_of) (slice_get_read inputs (length inputs) (length yielded) i refl turn.0 turn.1)) in
    rw counted (behind all n (length yielded) (name_of i) front)
  where
    behind : (all : List (List ℕ)) (n k : ℕ) (name : List ℕ) → slice_get (take n all) k ≡ Some name → slice_get all k ≡ Some name
    behind all n k name found =
        let size = length-take n all in
        let inside : k < length (take n all) = slice_get_within (take n all) k name found in
        let there : get_or all k name ≡ name = sym (get_or-take n all k name (omega (arith, size, inside))) ∙ get_or_from_slice_get (take n all) k name name found in
        slice_get_read all (length all) k name refl (omega (arith, size, inside)) (sym there)

-- a file that cannot be opened is one of all
pub fails_among : (some all : List (List ℕ)) (f : Fault) → ((name : List ℕ) → Contains some name → Contains all name) → FailsOpening some f → FailsOpening all f
fails_among some all (faults.CannotOpen name reason) among h = among name.now h
fails_among some all (faults.Stopped error name reason) among h = absurd h
fails_among some all faults.OutOfMemory among h = tt
fails_among some all (faults.CannotHold reason) among h = absurd h
fails_among some all (faults.UnknownFeature word) among h = absurd h
fails_among some all (faults.WrongPieces word) among h = absurd h
fails_among some all (faults.Clash first second) among h = absurd h
fails_among some all faults.NoFiles among h = absurd h
fails_among some all (faults.WrongLimit wrong word) among h = absurd h

-- a file that is one of these cannot be opened
fails_named : (names : List (List ℕ)) (name : List ℕ) (f : Fault) → Contains names name → CannotOpen name f → FailsOpening names f
fails_named names name (faults.CannotOpen told reason) has h = rw h has
fails_named names name (faults.Stopped error told reason) has h = absurd h
fails_named names name faults.OutOfMemory has h = absurd h
fails_named names name (faults.CannotHold reason) has h = absurd h
fails_named names name (faults.UnknownFeature word) has h = absurd h
fails_named names name (faults.WrongPieces word) has h = absurd h
fails_named names name (faults.Clash first second) has h = absurd h
fails_named names name faults.NoFiles has h = absurd h
fails_named names name (faults.WrongLimit wrong word) has h = absurd h

pub fails_at : (names : List (List ℕ)) (place : ℕ) (name : List ℕ) (f : Fault) → slice_get names place ≡ Some name → CannotOpen name f → FailsOpening names f
fails_at names place name f found h = fails_named names name f (subst (Contains names) (get_or_from_slice_get names place name name found)
    (Contains-get_or names place name (slice_get_within names place name found))) h

-- the same of the first and of the other ones
pub fails_first : (first others all : List (Bor (List ℕ))) (f : Fault) → all ≡ first ++ others → FailsOpening (texts first) f → FailsOpening (texts all) f
fails_first first others all f e = fails_among (texts first) (texts all) f (λ name h.
    subst (λ (l : List (Bor (List ℕ))). Contains (texts l) name) (sym e)
    (subst (λ ns. Contains ns name) (sym (map-append (λ (n : Bor (List ℕ)). n.now) first others)) (Contains-append_left (texts first) (texts others) name h)))

pub fails_others : (first others all : List (Bor (List ℕ))) (f : Fault) → all ≡ first ++ others → FailsOpening (texts others) f → FailsOpening (texts all) f
fails_others first others all f e = fails_among (texts others) (texts all) f (λ name h.
    subst (λ (l : List (Bor (List ℕ))). Contains (texts l) name) (sym e)
    (subst (λ ns. Contains ns name) (sym (map-append (λ (n : Bor (List ℕ)). n.now) first others)) (Contains-append_right (texts first) (texts others) name h)))

-- the texts of the first names
pub first_texts : (first all : List (Bor (List ℕ))) (n : ℕ) → first ≡ take (min n (length all)) all → texts first ≡ take n (texts all)
first_texts first all n e = ap texts (e ∙ take_min n all) ∙ sym (take-map (λ (n : Bor (List ℕ)). n.now) n all)

-- a front of a list, by how many there are
front_of : (xs all : List (List ℕ)) (n : ℕ) → xs ≡ take n all → xs ≡ take (length xs) all
front_of xs all n e = e ∙ sym (take_min n all) ∙ ap (λ k. take k all) (sym (ap length e ∙ length-take n all))

-- the inputs that are kept open so far, by how many they are
pub kept_front : {R : Type 0} (inputs : List (Input R)) (names : List (Bor (List ℕ))) (n : ℕ) → map (λ (i : Input R). i.name.now) inputs ≡ texts (take n names)
    → map (λ (i : Input R). i.name.now) inputs ≡ take (length inputs) (texts names)
kept_front inputs names n e = subst (λ k. map name_of inputs ≡ take k (texts names)) (length-map inputs name_of)
    (front_of (map name_of inputs) (texts names) n (e ∙ sym (take-map (λ (m : Bor (List ℕ)). m.now) n names)))

-- if they are the front of some first names, they are that of all names
pub kept_first : {R : Type 0} (inputs : List (Input R)) (first all : List (Bor (List ℕ))) (n : ℕ)
    → map (λ (i : Input R). i.name.now) inputs ≡ take (length inputs) (texts first) → texts first ≡ take n (texts all) → length inputs ≤ n
    → map (λ (i : Input R). i.name.now) inputs ≡ take (length inputs) (texts all)
kept_first inputs first all n e f few = e ∙ ap (take (length inputs)) f ∙ take-take (length inputs) n (texts all) few

-- they stay, or none is kept open
pub kept_or_none : {R : Type 0} (old new : List (Input R)) (all : List (List ℕ)) → (new ≡ old) ⊎ (new ≡ [])
    → map (λ (i : Input R). i.name.now) old ≡ take (length old) all → map (λ (i : Input R). i.name.now) new ≡ take (length new) all
kept_or_none old new all (inl same) e = rw same e
kept_or_none old new all (inr none) e = rw none refl

-- and so after one file more
pub still_kept : {X : Type 0} (old mid new : List X) → (mid ≡ old) ⊎ (mid ≡ []) → (new ≡ mid) ⊎ (new ≡ []) → (new ≡ old) ⊎ (new ≡ [])
still_kept old mid new (inl e) (inl f) = inl (f ∙ e)
still_kept old mid new (inr e) (inl f) = inr (f ∙ e)
still_kept old mid new h (inr f) = inr f

-- ---- flags

-- a file more that was judged
select_judged : (flags : List Bool) (all : List (List ℕ)) (name : List ℕ) → slice_get all (length flags) ≡ Some name
    → select (flags ++ true ∷ []) all ≡ select flags all ++ name ∷ []
select_judged [] [] name found = absurd cc
select_judged [] (x ∷ all) name found = ap (λ n. n ∷ []) (some_same x name found)
  where
    some_same : (x y : List ℕ) → Some x ≡ Some y → x ≡ y
    some_same x y e = cc
select_judged (b ∷ flags) [] name found = absurd cc
select_judged (true ∷ flags) (x ∷ all) name found = ap (λ ns. x ∷ ns) (select_judged flags all name found)
select_judged (false ∷ flags) (x ∷ all) name found = select_judged flags all name found

-- one more that was not
select_lost : (flags : List Bool) (all : List (List ℕ)) → select (flags ++ false ∷ []) all ≡ select flags all
select_lost [] [] = refl
select_lost [] (x ∷ all) = refl
select_lost (b ∷ flags) [] = refl
select_lost (true ∷ flags) (x ∷ all) = ap (λ ns. x ∷ ns) (select_lost flags all)
select_lost (false ∷ flags) (x ∷ all) = select_lost flags all

unset_judged : (flags : List Bool) → has_unset (flags ++ true ∷ []) ≡ has_unset flags
unset_judged [] = refl
unset_judged (true ∷ flags) = unset_judged flags
unset_judged (false ∷ flags) = refl

unset_lost : (flags : List Bool) → has_unset (flags ++ false ∷ []) ≡ true
unset_lost [] = refl
unset_lost (true ∷ flags) = unset_lost flags
unset_lost (false ∷ flags) = refl

-- so many flags that are set
abbrev pub all_set : ℕ → List Bool
all_set zero = []
all_set (suc n) = true ∷ all_set n

length_all_set : (n : ℕ) → length (all_set n) ≡ n
length_all_set zero = refl
length_all_set (suc n) = ap suc (length_all_set n)

none_unset : (n : ℕ) → has_unset (all_set n) ≡ false
none_unset zero = refl
none_unset (suc n) = none_unset n

select_all : (n : ℕ) (all : List (List ℕ)) → n ≤ length all → select (all_set n) all ≡ take n all
select_all zero all h = refl
select_all (suc n) [] h = refl
select_all (suc n) (x ∷ all) h = ap (λ ns. x ∷ ns) (select_all n all (omega (arith, h)))

-- however inputs are read, lines are written in the manner that was chosen
pub enough_by : (accepts : Settings → List ℕ → Type 0) (c : Chosen) (status : Status) (b : Bool) → b ≡ is_enough c.form status
    → is_enough (ruling_of accepts c).manner.form status ≡ b
enough_by accepts c status b e = ap (λ (m : Manner). is_enough m.form status) (same c.mode (settings_by c.features.0 c.limits)) ∙ sym e
  where
    same : (mode : Mode) (z : Settings) → (ruled (manner_of c) mode accepts z).manner ≡ manner_of c
    same Whole valid = refl
    same (Pieces piece) valid = refl

-- ---- over any judge of bytes
module _ (ruling : Ruling) where
  -- no file was judged yet
  pub reports_none : (known : Option (List ℕ)) → ReportsFiles ruling [] known known AllValid
  reports_none known = record { sources = []; named = refl; reported = IsReported-none ruling known }

  -- one file more
  pub reports_more : (names : List (List ℕ)) (name : List ℕ) (old mid new : Option (List ℕ)) (status : Status) (valid : Bool)
      → ReportsFiles ruling names old mid status → JudgesFile ruling name mid new valid → ReportsFiles ruling (names ++ name ∷ []) old new (joined status valid)
  reports_more names name old mid new status true r j = record {
    sources = r.sources ++ source name j.0 ∷ [];
    named = map-append (λ (s : Source). s.name) r.sources (source name j.0 ∷ []) ∙ ap (λ ns. ns ++ name ∷ []) r.named;
    reported = IsReported-valid ruling r.sources (source name j.0) old mid new status status true r.reported j.1 refl refl;
  }
  reports_more names name old mid new status false r j = record {
    sources = r.sources ++ source name j.0 ∷ [];
    named = map-append (λ (s : Source). s.name) r.sources (source name j.0 ∷ []) ∙ ap (λ ns. ns ++ name ∷ []) r.named;
    reported = IsReported-invalid ruling r.sources (source name j.0) old mid new status SomeInvalid false r.reported j.1 refl refl;
  }

  -- the file at the next place
  pub reports_next : (all : List (List ℕ)) (name : List ℕ) (index : ℕ) (old mid new : Option (List ℕ)) (status next : Status) (valid : Bool)
      → ReportsFiles ruling (take index all) old mid status → slice_get all index ≡ Some name → JudgesFile ruling name mid new valid → next ≡ joined status valid
      → ReportsFiles ruling (take (index + 1) all) old new next
  reports_next all name index old mid new status next valid r found j same =
      rw same (subst (λ ns. ReportsFiles ruling ns old new (joined status valid)) (one_more all index name found)
      (reports_more (take index all) name old mid new status valid r j))

  -- all files
  pub ends_all : (all : List (List ℕ)) (index : ℕ) (old new : Option (List ℕ)) (status : Status) → ReportsFiles ruling (take index all) old new status
      → length all ≤ index → EndsFiles ruling all old new status
  ends_all all index old new status r past = record { judged = index; reported = r; whole = inl past }

  -- as many as it takes
  pub ends_enough : (all : List (List ℕ)) (index : ℕ) (old new : Option (List ℕ)) (status : Status) → ReportsFiles ruling (take index all) old new status
      → IsEnough ruling status → EndsFiles ruling all old new status
  ends_enough all index old new status r enough = record { judged = index; reported = r; whole = inr enough }

  -- all of some, if more have to be judged
  pub ends_whole : (some : List (List ℕ)) (old new : Option (List ℕ)) (status : Status) → EndsFiles ruling some old new status
      → is_enough ruling.manner.form status ≡ false → ReportsFiles ruling some old new status
  ends_whole some old new status h more = by_part h.whole
    where
      by_part : (length some ≤ h.judged) ⊎ IsEnough ruling status → ReportsFiles ruling some old new status
      by_part (inl past) = subst (λ ns. ReportsFiles ruling ns old new status) (take_all h.judged some past) h.reported
      by_part (inr enough) = absurd cc

  -- the first of some are the first of all
  pub ends_first : (some all : List (List ℕ)) (n : ℕ) (old new : Option (List ℕ)) (status : Status) → EndsFiles ruling some old new status
      → some ≡ take n all → is_enough ruling.manner.form status ≡ true → EndsFiles ruling all old new status
  ends_first some all n old new status h front enough =
      let size = length (take n all) in
      let inside : min h.judged size ≤ n = omega (arith, length-take n all) in
      record {
        judged = min h.judged size;
        reported = subst (λ ns. ReportsFiles ruling ns old new status)
            (ap (take h.judged) front ∙ sym (take_min h.judged (take n all)) ∙ take-take (min h.judged size) n all inside) h.reported;
        whole = inr enough;
      }

  -- nothing more was written
  pub reports_kept : (names : List (List ℕ)) (old mid new : Option (List ℕ)) (status : Status)
      → ReportsFiles ruling names old mid status → Keeps mid new → ReportsFiles ruling names old new status
  reports_kept names old mid new status r kept = record {
    sources = r.sources;
    named = r.named;
    reported = record {
      contents = r.reported.contents;
      written = record {
        text = r.reported.written.text;
        lines = r.reported.written.lines;
        appended = Appends-kept old mid new r.reported.written.text r.reported.written.appended kept;
      };
      sums = r.reported.sums;
    };
  }

  -- as many sources as names
  counted_by : (all : List (List ℕ)) (index : ℕ) (old mid : Option (List ℕ)) (status : Status) (r : ReportsFiles ruling (take index all) old mid status)
      → index ≤ length all → length r.sources ≡ index
  counted_by all index old mid status r h =
      sym (length-map r.sources (λ (s : Source). s.name)) ∙ ap length r.named ∙ length-take-le index all h

  -- a fault is placed where its file is
  placed : (all : List (List ℕ)) (name told : List ℕ) (index : ℕ) (said mid new : Option (List ℕ)) (e : CheckError) → told ≡ name
      → slice_get all index ≡ Some name → FailsAt ruling index name said mid new e → IsNamed all e told
  placed all name told index said mid new (Read i) same found h = rw (h.0, same) found
  placed all name told index said mid new (TooLong i) same found h = rw (h.0, same) found
  placed all name told index said mid new (OutOfMemory i) same found h = rw (h.0, same) found
  placed all name told index said mid new Write same found h = tt

  -- the file after those that were judged came to no verdict
  pub stops_at : (all : List (List ℕ)) (name : List ℕ) (index : ℕ) (old mid new : Option (List ℕ)) (status : Status) (f : Fault)
      → ReportsFiles ruling (take index all) old mid status → slice_get all index ≡ Some name → FailsFile ruling index name mid new f
      → StopsFiles ruling all old new f
  stops_at all name index old mid new status (faults.CannotOpen told reason) r found h = inr (record {
    index = index;
    found = rw h.0 found;
    past = h.1;
    status = status;
    before = reports_kept (take index all) old mid new status r h.2;
  })
  stops_at all name index old mid new status (faults.Stopped e told reason) r found h =
      let s = source name h.1.0 in
      let inside : index < length all = slice_get_within all index name found in
      let counted : length r.sources ≡ index = counted_by all index old mid status r (omega (arith, inside)) in
      let more : length (r.sources ++ s ∷ []) ≡ index + 1 = length_push r.sources s ∙ ap (λ n. n + 1) counted in
      record {
        sources = r.sources ++ s ∷ [];
        named = map-append (λ (x : Source). x.name) r.sources (s ∷ []) ∙ ap (λ ns. ns ++ name ∷ []) r.named ∙ one_more all index name found
            ∙ ap (λ n. take n all) (sym more);
        stopped = Stops-after ruling (r.sources ++ s ∷ []) r.sources s index old mid new status e r.reported
            (sym (take-append_seam r.sources (s ∷ [])) ∙ ap (λ n. take n (r.sources ++ s ∷ [])) counted) (subst (λ n. slice_get (r.sources ++ s ∷ []) n ≡ Some s) counted (last_is r.sources s)) h.1.1;
        place = placed all name told.now index h.1.0 mid new e h.0 found h.1.1;
      }
  stops_at all name index old mid new status faults.OutOfMemory r found h = absurd h
  stops_at all name index old mid new status (faults.CannotHold reason) r found h = absurd h
  stops_at all name index old mid new status (faults.UnknownFeature word) r found h = absurd h
  stops_at all name index old mid new status (faults.WrongPieces word) r found h = absurd h
  stops_at all name index old mid new status (faults.Clash first second) r found h = absurd h
  stops_at all name index old mid new status faults.NoFiles r found h = absurd h
  stops_at all name index old mid new status (faults.WrongLimit wrong word) r found h = absurd h

  -- a file that could not be opened again: nothing was written of it
  pub fails_again : (index : ℕ) (name : List ℕ) (old : Option (List ℕ)) (f : Fault) → FailsAgain index name f → FailsFile ruling index name old old f
  fails_again index name old (faults.CannotOpen told reason) h = (h.0, h.1, Keeps-refl old)
  fails_again index name old (faults.Stopped e told reason) h =
      (h.0, (None, subst (λ x. FailsAt ruling index name None old old x) (sym h.1) (refl, Keeps-refl old)))
  fails_again index name old faults.OutOfMemory h = absurd h
  fails_again index name old (faults.CannotHold reason) h = absurd h
  fails_again index name old (faults.UnknownFeature word) h = absurd h
  fails_again index name old (faults.WrongPieces word) h = absurd h
  fails_again index name old (faults.Clash first second) h = absurd h
  fails_again index name old faults.NoFiles h = absurd h
  fails_again index name old (faults.WrongLimit wrong word) h = absurd h

  -- ---- a flush
  -- a flush that fails after files were judged
  after_files : (names front : List (List ℕ)) (n : ℕ) (old mid new : Option (List ℕ)) (status : Status) (told : List ℕ) → ReportsFiles ruling front old mid status
      → front ≡ take n names → n ≡ length front → Keeps mid new → StopsChecking ruling names old new Write told
  after_files names front n old mid new status told r same counted kept =
      let size : length r.sources ≡ n = sym (length-map r.sources (λ (s : Source). s.name)) ∙ ap length r.named ∙ sym counted in
      record {
        sources = r.sources;
        named = r.named ∙ same ∙ ap (λ k. take k names) (sym size);
        stopped = flush_failed ruling (Ok status) r.sources old mid new r.reported tt kept;
        place = tt;
      }

  -- a flush that fails where nothing was written
  after_nothing : (names : List (List ℕ)) (old mid new : Option (List ℕ)) (told : List ℕ) → Keeps old mid → Keeps mid new → StopsChecking ruling names old new Write told
  after_nothing names old mid new told before kept =
      after_files names [] 0 old mid new AllValid told (reports_kept [] old old mid AllValid (reports_none old) before) refl refl kept

  -- whatever was answered before a flush failed
  pub files_unflushed : (r : Result Status Fault) (names : List (List ℕ)) (old mid new : Option (List ℕ)) (told : List ℕ)
      → IfOk r (EndsFiles ruling names old mid) → IfErr r (StopsFiles ruling names old mid) → Keeps mid new → StopsChecking ruling names old new Write told
  files_unflushed (Ok status) names old mid new told h e kept =
      after_files names (take h.judged names) (length (take h.judged names)) old mid new status told h.reported
      (sym (take_min h.judged names) ∙ ap (λ n. take n names) (sym (length-take h.judged names))) refl kept
  files_unflushed (Err (faults.CannotOpen name reason)) names old mid new told h (inl e) kept = after_nothing names old mid new told e.1 kept
  files_unflushed (Err (faults.CannotOpen name reason)) names old mid new told h (inr e) kept =
      let inside : e.index < length names = slice_get_within names e.index name.now e.found in
      after_files names (take e.index names) e.index old mid new e.status told e.before refl (sym (length-take-le e.index names (omega (arith, inside)))) kept
  files_unflushed (Err (faults.Stopped error name reason)) names old mid new told h e kept = record {
    sources = e.sources;
    named = e.named;
    stopped = flush_failed ruling (Err error) e.sources old mid new tt e.stopped kept;
    place = tt;
  }
  files_unflushed (Err faults.OutOfMemory) names old mid new told h e kept = after_nothing names old mid new told e kept
  files_unflushed (Err (faults.CannotHold reason)) names old mid new told h e kept = after_nothing names old mid new told e kept
  files_unflushed (Err (faults.UnknownFeature word)) names old mid new told h e kept = absurd e
  files_unflushed (Err (faults.WrongPieces word)) names old mid new told h e kept = absurd e
  files_unflushed (Err (faults.Clash first second)) names old mid new told h e kept = absurd e
  files_unflushed (Err faults.NoFiles) names old mid new told h e kept = absurd e
  files_unflushed (Err (faults.WrongLimit wrong word)) names old mid new told h e kept = absurd e

  -- a flush changes nothing
  pub files_flushed : (r : Result Status Fault) (names : List (List ℕ)) (old mid new : Option (List ℕ))
      → IfOk r (EndsFiles ruling names old mid) → Keeps mid new → IfOk r (EndsFiles ruling names old new)
  files_flushed (Ok status) names old mid new h kept = record {
    judged = h.judged;
    reported = reports_kept (take h.judged names) old mid new status h.reported kept;
    whole = h.whole;
  }
  files_flushed (Err f) names old mid new h kept = tt

  pub faults_flushed : (r : Result Status Fault) (names : List (List ℕ)) (old mid new : Option (List ℕ))
      → IfErr r (StopsFiles ruling names old mid) → Keeps mid new → IfErr r (StopsFiles ruling names old new)
  faults_flushed (Ok status) names old mid new h kept = tt
  faults_flushed (Err (faults.CannotOpen name reason)) names old mid new (inl h) kept = inl (h.0, Keeps-trans old mid new h.1 kept)
  faults_flushed (Err (faults.CannotOpen name reason)) names old mid new (inr h) kept = inr (record {
    index = h.index;
    found = h.found;
    past = h.past;
    status = h.status;
    before = reports_kept (take h.index names) old mid new h.status h.before kept;
  })
  faults_flushed (Err (faults.Stopped error name reason)) names old mid new h kept = record {
    sources = h.sources;
    named = h.named;
    stopped = Stops-kept ruling h.sources old mid new error h.stopped kept;
    place = h.place;
  }
  faults_flushed (Err faults.OutOfMemory) names old mid new h kept = Keeps-trans old mid new h kept
  faults_flushed (Err (faults.CannotHold reason)) names old mid new h kept = Keeps-trans old mid new h kept
  faults_flushed (Err (faults.UnknownFeature word)) names old mid new h kept = absurd h
  faults_flushed (Err (faults.WrongPieces word)) names old mid new h kept = absurd h
  faults_flushed (Err (faults.Clash first second)) names old mid new h kept = absurd h
  faults_flushed (Err faults.NoFiles) names old mid new h kept = absurd h
  faults_flushed (Err (faults.WrongLimit wrong word)) names old mid new h kept = absurd h

  -- ---- files of which some come to no verdict
  -- nothing was judged yet
  pub goes_none : (all : List (List ℕ)) (old : Option (List ℕ)) → GoesSoFar ruling all 0 old old AllValid false
  goes_none all old = record { flags = []; counted = refl; reported = reports_none old; told = refl }

  -- one file more was judged
  pub goes_more : (all : List (List ℕ)) (name : List ℕ) (place : ℕ) (old mid new : Option (List ℕ)) (status next : Status) (lost valid : Bool)
      → GoesSoFar ruling all place old mid status lost → slice_get all place ≡ Some name → JudgesFile ruling name mid new valid → next ≡ joined status valid
      → GoesSoFar ruling all (place + 1) old new next lost
  goes_more all name place old mid new status next lost valid g found j same = record {
    flags = g.flags ++ true ∷ [];
    counted = length_push g.flags true ∙ ap (λ n. n + 1) g.counted;
    reported = rw same (subst (λ ns. ReportsFiles ruling ns old new (joined status valid)) (sym (select_judged g.flags all name (rw g.counted found)))
        (reports_more (select g.flags all) name old mid new status valid g.reported j));
    told = g.told ∙ sym (unset_judged g.flags);
  }

  -- one file more came to no verdict
  pub goes_lost : (all : List (List ℕ)) (place : ℕ) (old mid new : Option (List ℕ)) (status : Status) (lost : Bool)
      → GoesSoFar ruling all place old mid status lost → Keeps mid new → GoesSoFar ruling all (place + 1) old new status true
  goes_lost all place old mid new status lost g kept = record {
    flags = g.flags ++ false ∷ [];
    counted = length_push g.flags false ∙ ap (λ n. n + 1) g.counted;
    reported = subst (λ ns. ReportsFiles ruling ns old new status) (sym (select_lost g.flags all)) (reports_kept (select g.flags all) old mid new status g.reported kept);
    told = sym (unset_lost g.flags);
  }

  -- then it ended
  pub goes_ended : (all : List (List ℕ)) (place : ℕ) (old new : Option (List ℕ)) (status : Status) (lost : Bool)
      → GoesSoFar ruling all place old new status lost → place ≤ length all → (length all ≤ place) ⊎ IsEnough ruling status → GoesOn ruling all old new status lost
  goes_ended all place old new status lost g inside whole = record {
    flags = g.flags;
    counted = omega (arith, g.counted, inside);
    reported = g.reported;
    told = g.told;
    whole = until whole;
  }
    where
      until : (length all ≤ place) ⊎ IsEnough ruling status → (length all ≤ length g.flags) ⊎ IsEnough ruling status
      until (inl past) = inl (omega (arith, g.counted, past))
      until (inr enough) = inr enough

  -- a line could not be written
  pub goes_unwritten : (all : List (List ℕ)) (name : List ℕ) (place : ℕ) (old mid new : Option (List ℕ)) (status : Status) (lost : Bool) (f : Fault)
      → GoesSoFar ruling all place old mid status lost → slice_get all place ≡ Some name → LosesFile ruling name mid new f → is_unwritten f ≡ true
      → StopsGoingBy ruling all old new f
  goes_unwritten all name place old mid new status lost (faults.CannotOpen told reason) g found h w = absurd cc
  goes_unwritten all name place old mid new status lost (faults.Stopped (Read i) told reason) g found h w = absurd cc
  goes_unwritten all name place old mid new status lost (faults.Stopped (TooLong i) told reason) g found h w = absurd cc
  goes_unwritten all name place old mid new status lost (faults.Stopped (OutOfMemory i) told reason) g found h w = absurd cc
  goes_unwritten all name place old mid new status lost (faults.Stopped Write told reason) g found h w = (
    refl,
    record {
      flags = g.flags;
      counted = omega (arith, g.counted, slice_get_within all place name found);
      status = status;
      middle = mid;
      before = g.reported;
      name = name;
      said = h.0;
      front = h.1;
      next = h.2;
      found = inl (ap (slice_get all) g.counted ∙ found);
      appended = h.3;
    },
  )
  goes_unwritten all name place old mid new status lost faults.OutOfMemory g found h w = absurd h
  goes_unwritten all name place old mid new status lost (faults.CannotHold reason) g found h w = absurd h
  goes_unwritten all name place old mid new status lost (faults.UnknownFeature word) g found h w = absurd h
  goes_unwritten all name place old mid new status lost (faults.WrongPieces word) g found h w = absurd h
  goes_unwritten all name place old mid new status lost (faults.Clash first second) g found h w = absurd h
  goes_unwritten all name place old mid new status lost faults.NoFiles g found h w = absurd h
  goes_unwritten all name place old mid new status lost (faults.WrongLimit wrong word) g found h w = absurd h

  -- nothing was written of it
  pub loses_kept : (name : List ℕ) (old new : Option (List ℕ)) (f : Fault) → LosesFile ruling name old new f → is_unwritten f ≡ false → Keeps old new
  loses_kept name old new (faults.CannotOpen told reason) h w = h
  loses_kept name old new (faults.Stopped (Read i) told reason) h w = h
  loses_kept name old new (faults.Stopped (TooLong i) told reason) h w = h
  loses_kept name old new (faults.Stopped (OutOfMemory i) told reason) h w = h
  loses_kept name old new (faults.Stopped Write told reason) h w = absurd cc
  loses_kept name old new faults.OutOfMemory h w = absurd h
  loses_kept name old new (faults.CannotHold reason) h w = absurd h
  loses_kept name old new (faults.UnknownFeature word) h w = absurd h
  loses_kept name old new (faults.WrongPieces word) h w = absurd h
  loses_kept name old new (faults.Clash first second) h w = absurd h
  loses_kept name old new faults.NoFiles h w = absurd h
  loses_kept name old new (faults.WrongLimit wrong word) h w = absurd h

  -- what stops one file, if the others are judged all the same
  pub loses_by : (index : ℕ) (name : List ℕ) (old new : Option (List ℕ)) (f : Fault) → FailsFile ruling index name old new f → LosesFile ruling name old new f
  loses_by index name old new (faults.CannotOpen told reason) h = h.2
  loses_by index name old new (faults.Stopped (Read i) told reason) h = h.1.1.1
  loses_by index name old new (faults.Stopped (TooLong i) told reason) h = h.1.1.2
  loses_by index name old new (faults.Stopped (OutOfMemory i) told reason) h = h.1.1.1
  loses_by index name old new (faults.Stopped Write told reason) h = (h.1.0, h.1.1.0, h.1.1.1, h.1.1.2)
  loses_by index name old new faults.OutOfMemory h = absurd h
  loses_by index name old new (faults.CannotHold reason) h = absurd h
  loses_by index name old new (faults.UnknownFeature word) h = absurd h
  loses_by index name old new (faults.WrongPieces word) h = absurd h
  loses_by index name old new (faults.Clash first second) h = absurd h
  loses_by index name old new faults.NoFiles h = absurd h
  loses_by index name old new (faults.WrongLimit wrong word) h = absurd h

  -- files that all came to a verdict
  pub goes_whole : (all : List (List ℕ)) (old new : Option (List ℕ)) (status : Status) → EndsFiles ruling all old new status → GoesOn ruling all old new status false
  goes_whole all old new status h =
      let many = min h.judged (length all) in
      record {
        flags = all_set many;
        counted = omega (arith, length_all_set many);
        reported = subst (λ ns. ReportsFiles ruling ns old new status) (sym (take_min h.judged all) ∙ sym (select_all many all (omega arith))) h.reported;
        told = sym (none_unset many);
        whole = until h.whole;
      }
    where
      until : (length all ≤ h.judged) ⊎ IsEnough ruling status → (length all ≤ length (all_set (min h.judged (length all)))) ⊎ IsEnough ruling status
      until (inl past) = inl (omega (arith, past, length_all_set (min h.judged (length all))))
      until (inr enough) = inr enough

  -- a flush changes nothing
  pub going_flushed : (r : Result Ended Fault) (names : List (List ℕ)) (old mid new : Option (List ℕ))
      → IfOk r (EndsBy ruling names old mid) → Keeps mid new → IfOk r (EndsBy ruling names old new)
  going_flushed (Ok e) names old mid new h kept = record {
    flags = h.flags;
    counted = h.counted;
    reported = reports_kept (select h.flags names) old mid new e.status h.reported kept;
    told = h.told;
    whole = h.whole;
  }
  going_flushed (Err f) names old mid new h kept = tt

  pub going_faults_flushed : (r : Result Ended Fault) (names : List (List ℕ)) (old mid new : Option (List ℕ))
      → IfErr r (StopsGoingBy ruling names old mid) → Keeps mid new → IfErr r (StopsGoingBy ruling names old new)
  going_faults_flushed (Ok e) names old mid new h kept = tt
  going_faults_flushed (Err (faults.CannotOpen name reason)) names old mid new h kept = absurd h
  going_faults_flushed (Err (faults.Stopped error name reason)) names old mid new h kept = (
    h.0,
    record {
      flags = h.1.flags;
      counted = h.1.counted;
      status = h.1.status;
      middle = h.1.middle;
      before = h.1.before;
      name = h.1.name;
      said = h.1.said;
      front = h.1.front;
      next = h.1.next;
      found = h.1.found;
      appended = Appends-kept h.1.middle mid new h.1.front h.1.appended kept;
    },
  )
  going_faults_flushed (Err faults.OutOfMemory) names old mid new h kept = absurd h
  going_faults_flushed (Err (faults.CannotHold reason)) names old mid new h kept = Keeps-trans old mid new h kept
  going_faults_flushed (Err (faults.UnknownFeature word)) names old mid new h kept = absurd h
  going_faults_flushed (Err (faults.WrongPieces word)) names old mid new h kept = absurd h
  going_faults_flushed (Err (faults.Clash first second)) names old mid new h kept = absurd h
  going_faults_flushed (Err faults.NoFiles) names old mid new h kept = absurd h
  going_faults_flushed (Err (faults.WrongLimit wrong word)) names old mid new h kept = absurd h

  -- nothing more is an empty text more
  Appends-nothing : (mid new : Option (List ℕ)) → Keeps mid new → Appends mid new []
  Appends-nothing mid new kept = Appends-kept mid mid new [] (Appends-nil mid) kept

  -- some lines were written, and then a flush failed
  unflushed_after : (names : List (List ℕ)) (flags : List Bool) (old mid new : Option (List ℕ)) (status : Status) → length flags ≤ length names
      → ReportsFiles ruling (select flags names) old mid status → Keeps mid new → StopsGoing ruling names old new
  unflushed_after names flags old mid new status counted r kept = record {
    flags = flags;
    counted = counted;
    status = status;
    middle = mid;
    before = r;
    name = [];
    said = None;
    front = [];
    next = inl refl;
    found = inr refl;
    appended = Appends-nothing mid new kept;
  }

  -- whatever was answered before a flush failed
  pub going_unflushed : (r : Result Ended Fault) (names : List (List ℕ)) (old mid new : Option (List ℕ))
      → IfOk r (EndsBy ruling names old mid) → IfErr r (StopsGoingBy ruling names old mid) → Keeps mid new → StopsGoing ruling names old new
  going_unflushed (Ok e) names old mid new h f kept = unflushed_after names h.flags old mid new e.status h.counted h.reported kept
  going_unflushed (Err (faults.CannotOpen name reason)) names old mid new h f kept = absurd f
  going_unflushed (Err (faults.Stopped error name reason)) names old mid new h f kept =
      let stays = going_faults_flushed (Err (faults.Stopped error name reason)) names old mid new f kept in stays.1
  going_unflushed (Err faults.OutOfMemory) names old mid new h f kept = absurd f
  going_unflushed (Err (faults.CannotHold reason)) names old mid new h f kept =
      unflushed_after names [] old mid new AllValid (omega arith) (reports_kept [] old old mid AllValid (reports_none old) f) kept
  going_unflushed (Err (faults.UnknownFeature word)) names old mid new h f kept = absurd f
  going_unflushed (Err (faults.WrongPieces word)) names old mid new h f kept = absurd f
  going_unflushed (Err (faults.Clash first second)) names old mid new h f kept = absurd f
  going_unflushed (Err faults.NoFiles) names old mid new h f kept = absurd f
  going_unflushed (Err (faults.WrongLimit wrong word)) names old mid new h f kept = absurd f
