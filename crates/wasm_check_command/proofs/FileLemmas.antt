-- What clap finds in the words, as the files that they name.
use Rattle.std.proofs.Common.{◌≡◌, ◌==◌, ◌⊎◌, Bool, true, false, arith, ℕ, ◌<◌, List, [], ◌∷◌, length, map, ap, sym, subst, refl, inl, inr, ◌∙◌, lit≤}
use Rattle.std.specs.Prelude.{codes, Option, Some, None, Result, Ok, Err, IfOk, IfErr, IsSomeAnd, option_map, unwrap_or}
use Rattle.clap.specs.Words.{FailsBy, fault_of, is_simple_and_free}
use Rattle.clap.specs.declared.error.Error.{Error}
use Rattle.std.proofs.lemmas.Bool.{eqb-true}
use Rattle.std.specs.Borrow.{Bor}
use Rattle.clap.specs.Simple.{App, HasMatchesOf, is_simple, matches_of}
use Rattle.clap.specs.Walk.{all_of, first_of, rows_of}
use Rattle.clap.specs.Matches.{found_of, matched_of, raw_values, first_value}
use Rattle.clap.proofs.WalkLemmas.{raw_values-rows, first_value-rows}
use Rattle.clap.specs.declared.parser.matches.ArgMatches.{ArgMatches}
use Rattle.wasm_check_command.specs.Words.{wasm_check, IsHelp, AsksForHelp, AsksForTable, files_of, list_file, matches_on, refusals_of}
use Rattle.wasm_check_faults.specs.declared.faults.Fault.{Fault}
use Rattle.wasm_check_command.specs.declared.judging.Status.{Status}
use Rattle.wasm_check_command.specs.declared.judging.Status.TheVariants.{AllValid, SomeInvalid}
use Rattle.wasm_types.specs.settings.Settings.{Settings}
use Rattle.wasm_check_command.specs.Settings.{Asked, IsGiven, asked_by, manner_by, settings_of}
use Rattle.wasm_check_command.specs.Modes.{manner_of, ruled, ruling_of}
use Rattle.wasm_check_command.specs.declared.judging.Chosen.{Chosen}
use Rattle.wasm_check_command.specs.Files.{texts, lists_in, code_of, code_of_ended, ReportsBy, ReportsEnd, StopsBy, Reports, HasNoStatus, IsUnshown, EndsRun, AreGiven, FailsNaming, IsChosen, StopsEarly, HasNames, NamesFiles, EndsBy, GoesOn, StopsFiles, StopsGoingBy}
use Rattle.wasm_check_command.specs.declared.files.Ended.{Ended}
use Rattle.wasm_check_lines.specs.declared.forms.Form.{Form}
use Rattle.wasm_check_faults.specs.declared.faults.Fault.TheVariants as faults
use Rattle.std.specs.Io.KnownBytes.{Keeps}
use Rattle.clap.specs.Kinds.{HasKind, IsAmong}
use Rattle.clap.specs.Values.{kind_of}

-- the matches of a command that is this one are this one's
pub matches_by : {E : Type 0} (a : App) (words : List (List ℕ)) (r : Result ArgMatches E) → a ≡ wasm_check → IfOk r (HasMatchesOf a words)
    → IfOk r (λ m. rows_of (found_of m) ≡ matches_on words)
matches_by a words (Ok m) e h = (h (ap is_simple e)).0 ∙ ap (λ x. matches_of x words) e
matches_by a words (Err x) e h = tt

-- what such a command refuses is what this one does
pub refused_by : (a : App) (words : List (List ℕ)) (r : Result ArgMatches Error) → a ≡ wasm_check → (is_simple_and_free a ≡ true → FailsBy (fault_of a words) r)
    → FailsBy (refusals_of words) r
refused_by a words r e h = subst (λ (b : App). FailsBy (fault_of b words) r) e (h (ap is_simple_and_free e))

-- what is there and equal to something
pub some_is : {A : Type 0} (o : Option A) (x : A) → IsSomeAnd o (λ y. y ≡ x) → o ≡ Some x
some_is (Some y) x e = ap Some e
some_is None x e = absurd e

-- some names are there
pub some_texts : (names : List (Bor (List ℕ))) → false ≡ (length names == 0) → 0 < length (texts names)
some_texts [] e = absurd cc
some_texts (n ∷ names) e = omega arith

-- the value that the matches have for an option, as that of the words
pub listed_by : (name : List ℕ) (words : List (List ℕ)) (m : ArgMatches) (o : Option (Bor (List ℕ))) → rows_of (found_of m) ≡ matches_on words
    → option_map (λ s. s.now) o ≡ first_value (found_of m) name → option_map (λ s. s.now) o ≡ first_of name (matches_on words)
listed_by name words m o r g = g ∙ first_value-rows (found_of m) name ∙ ap (first_of name) r

-- the lists that they have
pub lists_by : (name : List ℕ) (words : List (List ℕ)) (m : ArgMatches) (o : Option (Bor (List (Bor (List ℕ))))) → rows_of (found_of m) ≡ matches_on words
    → option_map (λ s. map (λ v. v.now) s.now) o ≡ option_map raw_values (matched_of (found_of m) name)
    → lists_in o ≡ unwrap_or (all_of name (matches_on words)) []
lists_by name words m None r g = ap (λ (x : Option (List (List ℕ))). unwrap_or x []) (g ∙ raw_values-rows (found_of m) name ∙ ap (all_of name) r)
lists_by name words m (Some lists) r g = ap (λ (x : Option (List (List ℕ))). unwrap_or x []) (g ∙ raw_values-rows (found_of m) name ∙ ap (all_of name) r)

-- what the options ask for, part by part
pub asks_alike : {f g l k : List (List ℕ)} {n o : Option (List ℕ)} {v w : Bool} {m p : Form} {x y : Bool} {s t : Bool} {q r : Bool}
    → f ≡ g → l ≡ k → n ≡ o → v ≡ w → m ≡ p → x ≡ y → s ≡ t → q ≡ r
    → ◌≡◌ {A = Asked} (record { features = f; limits = l; pieces = n; vectors = v; form = m; explains = x; needs = s; goes_on = q })
    (record { features = g; limits = k; pieces = o; vectors = w; form = p; explains = y; needs = t; goes_on = r })
asks_alike a b c d e f g h = rw (a, b, c, d, e, f, g, h) refl

-- no name is there
pub no_texts : (names : List (Bor (List ℕ))) → (length names == 0) ≡ true → texts names ≡ []
no_texts [] e = refl
no_texts (n ∷ names) e = let none : length (n ∷ names) ≡ 0 = eqb-true _ _ e in absurd (omega (arith, none))

-- ---- over any judge of bytes
module _ (accepts : Settings → List ℕ → Type 0) (words : List (List ℕ)) (old new : Option (List ℕ)) (kept : Keeps old new) where
  -- the words name no files
  pub no_files : files_of words ≡ [] → list_file words ≡ None → HasNoStatus accepts words old new
  no_files e n = inl (inr (e, n), kept)

  -- memory ran out
  no_memory : HasNoStatus accepts words old new
  no_memory = inr (inr (inl (faults.OutOfMemory, inl (inr (inr (inr (inl refl))), kept))))

  -- clap refused the words
  refused_words : (e : Error) → HasKind (refusals_of words) e → HasNoStatus accepts words old new
  refused_words e (inl h) = no_memory
  refused_words e (inr h) = inl (inl (λ none. subst (IsAmong (kind_of e)) none h), kept)

-- clap answered with what was asked for
pub asked_for : (words : List (List ℕ)) (e : Error) → HasKind (refusals_of words) e → IsHelp (kind_of e) → AsksForHelp words
asked_for words e (inl h) (inl p) = absurd cc
asked_for words e (inl h) (inr p) = absurd cc
asked_for words e (inr h) (inl p) = inl (inl (subst (λ k. IsAmong k (refusals_of words)) p h))
asked_for words e (inr h) (inr p) = inl (inr (subst (λ k. IsAmong k (refusals_of words)) p h))

-- what clap answered was not shown as help
pub unshown : (accepts : Settings → List ℕ → Type 0) (words : List (List ℕ)) (old new : Option (List ℕ)) (e : Error) → HasKind (refusals_of words) e
    → IsUnshown (kind_of e) old new → HasNoStatus accepts words old new
unshown accepts words old new e h (inl kept) = refused_words accepts words old new kept e h
unshown accepts words old new e h (inr p) = inr (inl (asked_for words e h p.0, p.1))

module _ (accepts : Settings → List ℕ → Type 0) (words : List (List ℕ)) (asked : Asked) (names : List (List ℕ)) (old new : Option (List ℕ))
    (asks : asked ≡ asked_by words) (named : NamesFiles words names) where
  -- what was judged is what the words ask for
  judged_as : (status : Status) (lost : Bool) → ReportsBy accepts asked names old new status lost → ReportsBy accepts (asked_by words) names old new status lost
  judged_as status lost reported = subst (λ a. ReportsBy accepts a names old new status lost) asks reported

  reports_as : (status : Status) → ReportsBy accepts asked names old new status false → Reports accepts words old new status
  reports_as status reported = record { names = names; named = named; reported = judged_as status false reported }

  -- a fault stopped the run
  stopped_as : (f : Fault) → StopsBy accepts asked names old new f → HasNoStatus accepts words old new
  stopped_as f h = inr (inr (inl (f, inr (names, named, subst (λ a. StopsBy accepts a names old new f) asks h))))

  -- how a run that judged ends
  ends_by : (n : ℕ) (status : Status) (lost : Bool) → ReportsBy accepts asked names old new status lost → n ≡ code_of_ended lost status
      → EndsRun accepts words old new n
  ends_by n status true h e =
      (omega (arith, e), λ z. absurd (omega (arith, e, z)), λ z. absurd (omega (arith, e, z)), λ z. inr (inr (inr (status, names, named, judged_as status true h))))
  ends_by n AllValid false h e =
      (omega (arith, e), λ z. reports_as AllValid h, λ z. absurd (omega (arith, e, z)), λ z. absurd (omega (arith, e, z)))
  ends_by n SomeInvalid false h e =
      (omega (arith, e), λ z. absurd (omega (arith, e, z)), λ z. reports_as SomeInvalid h, λ z. absurd (omega (arith, e, z)))

  pub ends_run : (r : Result Ended Fault) (n : ℕ) → IfOk r (ReportsEnd accepts asked names old new) → IfErr r (StopsBy accepts asked names old new)
      → n ≡ code_of r → EndsRun accepts words old new n
  ends_run (Ok e) n h f q = ends_by n e.status e.lost h q
  ends_run (Err f) n h g q = (omega (arith, q), λ z. absurd (omega (arith, q, z)), λ z. absurd (omega (arith, q, z)), λ z. stopped_as f g)

-- the names that a list has, and those that are given one by one
pub named_by_list : (words names listed : List (List ℕ)) (file : List ℕ) → list_file words ≡ Some file → files_of words ≡ [] → names ≡ listed → HasNames file listed
    → NamesFiles words names
named_by_list words names listed file e none same h =
    subst (λ (o : Option (List ℕ)). AreGiven o (files_of words) names) (sym e) (none, subst (HasNames file) (sym same) h)

pub named_one_by_one : (words names : List (List ℕ)) → list_file words ≡ None → names ≡ files_of words → 0 < length names → NamesFiles words names
named_one_by_one words names e same some = subst (λ (o : Option (List ℕ)). AreGiven o (files_of words) names) (sym e) (same, some)

-- a run with no status of files
pub ends_without : (accepts : Settings → List ℕ → Type 0) (words : List (List ℕ)) (old new : Option (List ℕ)) (n : ℕ) → n ≡ 2 → HasNoStatus accepts words old new
    → EndsRun accepts words old new n
ends_without accepts words old new n e h = (omega (arith, e), λ z. absurd (omega (arith, e, z)), λ z. absurd (omega (arith, e, z)), λ z. h)

-- the words name no files
pub ends_nameless : (accepts : Settings → List ℕ → Type 0) (words : List (List ℕ)) (old new : Option (List ℕ)) (n : ℕ) → n ≡ 2 → Keeps old new
    → files_of words ≡ [] → list_file words ≡ None → EndsRun accepts words old new n
ends_nameless accepts words old new n e kept none no_list = ends_without accepts words old new n e (no_files accepts words old new kept none no_list)

-- it is not known which files they mean, or an option is refused
pub ends_unnamed : (accepts : Settings → List ℕ → Type 0) (words : List (List ℕ)) (old new : Option (List ℕ)) (n : ℕ) (f : Fault) → n ≡ 2 → Keeps old new
    → FailsNaming words f ⊎ StopsEarly (asked_by words) f → EndsRun accepts words old new n
ends_unnamed accepts words old new n f e kept h = ends_without accepts words old new n e (inr (inr (inl (f, inl (h, kept)))))

-- a run that was answered by the help, and by what a fault leaves
pub asks_table : (words : List (List ℕ)) → AsksForTable (codes "features") words ⊎ AsksForTable (codes "limits") words → AsksForHelp words
asks_table words h = inr h

-- ---- what the options ask for
module _ (accepts : Settings → List ℕ → Type 0) (asked : Asked) (c : Chosen) (names : List (List ℕ)) (old new : Option (List ℕ)) (r : Result Ended Fault)
    (given : IsGiven asked (settings_of c) c.mode) (same : manner_of c ≡ manner_by asked) where
  pub judged_by : IfOk r (λ e. EndsBy (ruling_of accepts c) names old new e × ((e.lost ≡ false) ⊎ (asked.goes_on ≡ true))) → IfOk r (ReportsEnd accepts asked names old new)
  judged_by = at r
    where
      at : (r : Result Ended Fault) → IfOk r (λ e. EndsBy (ruling_of accepts c) names old new e × ((e.lost ≡ false) ⊎ (asked.goes_on ≡ true)))
          → IfOk r (ReportsEnd accepts asked names old new)
      at (Ok e) h = record {
        settings = settings_of c;
        mode = c.mode;
        given = given;
        reported = subst (λ m. GoesOn (ruled m c.mode accepts (settings_of c)) names old new e.status e.lost) same h.0;
        allowed = h.1;
      }
      at (Err f) h = tt

  pub stopped_by : IfErr r (λ f. StopsFiles (ruling_of accepts c) names old new f ⊎ ((asked.goes_on ≡ true) × StopsGoingBy (ruling_of accepts c) names old new f))
      → IfErr r (StopsBy accepts asked names old new)
  stopped_by = at r
    where
      at : (r : Result Ended Fault) → IfErr r (λ f. StopsFiles (ruling_of accepts c) names old new f ⊎ ((asked.goes_on ≡ true) × StopsGoingBy (ruling_of accepts c) names old new f))
          → IfErr r (StopsBy accepts asked names old new)
      at (Ok e) h = tt
      at (Err f) h = inr (
        settings_of c,
        c.mode,
        given,
        subst (λ m. StopsFiles (ruled m c.mode accepts (settings_of c)) names old new f ⊎ ((asked.goes_on ≡ true) × StopsGoingBy (ruled m c.mode accepts (settings_of c)) names old new f)) same h,
      )

-- what is told of a fault, more weakly
pub err_weaker : {T E : Type 0} (r : Result T E) (P Q : E → Type 0) → ((e : E) → P e → Q e) → IfErr r P → IfErr r Q
err_weaker (Ok x) P Q f h = tt
err_weaker (Err e) P Q f h = f e h

-- how a run over these files ends, if they were judged by what was chosen
pub chosen_run : (accepts : Settings → List ℕ → Type 0) (words : List (List ℕ)) (c : Chosen) (goes_on : Bool) (names : List (List ℕ)) (old new : Option (List ℕ))
    (r : Result Ended Fault) (n : ℕ) → IsChosen (asked_by words) c goes_on → NamesFiles words names
    → IfOk r (λ e. EndsBy (ruling_of accepts c) names old new e × ((e.lost ≡ false) ⊎ (goes_on ≡ true)))
    → IfErr r (λ f. StopsFiles (ruling_of accepts c) names old new f ⊎ ((goes_on ≡ true) × StopsGoingBy (ruling_of accepts c) names old new f))
    → n ≡ code_of r → EndsRun accepts words old new n
chosen_run accepts words c goes_on names old new r n chosen named ok err code =
    let asked = asked_by words in
    let ok_by = subst (λ (b : Bool). IfOk r (λ e. EndsBy (ruling_of accepts c) names old new e × ((e.lost ≡ false) ⊎ (b ≡ true)))) chosen.2 ok in
    let err_by = subst (λ (b : Bool). IfErr r (λ f. StopsFiles (ruling_of accepts c) names old new f ⊎ ((b ≡ true) × StopsGoingBy (ruling_of accepts c) names old new f)))
    chosen.2 err in
    ends_run accepts words asked names old new refl named r n (judged_by accepts asked c names old new r chosen.0 chosen.1 ok_by)
    (stopped_by accepts asked c names old new r chosen.0 chosen.1 err_by) code
