-- Operators that lead away, and what is behind them.
use Rattle.std.proofs.Common.{◌≡◌, ◌∙◌, ◌≤◌, ◌+◌, ℕ, true, List, [], ◌∷◌, ◌++◌, Some, refl, sym, ap, subst, append-nil, length, reverse, slice_get}
use Rattle.std.proofs.lemmas.List.{reverse-reverse}
use Rattle.wasm_types.specs.decoding.Leb.{u32}
use Rattle.wasm_types.specs.decoding.Numbers.{GivesAt}
use Rattle.wasm_operators_frequent.specs.Short.{Begins}
use Rattle.wasm_operator_validator_fast_tables.specs.declared.tables.Open.{Open}
use Rattle.wasm_operator_validator_fast_tables.specs.declared.tables.Sig.{Sig}
use Rattle.wasm_operator_validator_fast_tables.specs.declared.tables.Tables.{Tables}
use Rattle.wasm_operator_validator_fast_tables.specs.Stacks.{Values, with_all}
use Rattle.wasm_operator_validator_fast_tables.specs.Tables.{params_in, results_in, label_in}
use Rattle.wasm_operator_validator_fast_tables.specs.Loop.{Goes, Leads}
use Rattle.wasm_operator_validator_fast_steps.specs.Unreached.{IsPassed}
use Rattle.wasm_operator_validator_fast_steps.proofs.Rows.{took_nop, took_unreachable, took_br, took_return}
use Rattle.wasm_operator_validator_fast_steps.proofs.Throwing.{took_throw, took_throw_ref}

-- any operands of the innermost frame are such as were put on when it had none
pub some_given : (v : Values) (under : List ℕ) → v.1 ≡ under → (rs : List ℕ) × (v ≡ with_all rs ([], under))
some_given v under e =
    let own : v.0 ≡ reverse (reverse v.0) ++ [] = sym (append-nil (reverse (reverse v.0)) ∙ reverse-reverse v.0) in
    (reverse v.0, ap (λ (xs : List ℕ). (xs, v.1)) own ∙ ap (λ (xs : List ℕ). (reverse (reverse v.0) ++ [], xs)) e)

module _ (t : Tables) (text : List ℕ) where
  pub leads_then : (i j k : ℕ) (opens others last : List Open) (v w x : Values) → Leads text t i opens v j others w → Leads text t j others w k last x
      → Leads text t i opens v k last x
  leads_then i j k opens others last v w x first second ids z g fits goes = first ids z g fits (second ids z g fits goes)

  pub leads_same : (i : ℕ) (opens : List Open) (v w : Values) → v ≡ w → Leads text t i opens v i opens w
  leads_same i opens v w e ids z g fits goes = subst (λ (x : Values). Goes ids z text t g i opens x) (sym e) goes

  -- ---- several

  pub passed_none : (opens : List Open) (i : ℕ) → IsPassed text t opens i i
  passed_none opens i under ws = (ws, leads_same i opens (with_all ws ([], under)) (with_all ws ([], under)) refl)

  pub passed_more : (opens : List Open) (i j k : ℕ) → IsPassed text t opens i j → IsPassed text t opens j k → IsPassed text t opens i k
  passed_more opens i j k first second under ws =
      let (rs, later) = second under ws in
      let (qs, sooner) = first under rs in
      (qs, leads_then i j k opens opens opens (with_all qs ([], under)) (with_all rs ([], under)) (with_all ws ([], under)) sooner later)

  -- operands were put on for what is behind several operators
  pub unreached_then : (opens : List Open) (i j : ℕ) (under ws : List ℕ) (w : Values) → IsPassed text t opens i j → w ≡ with_all ws ([], under)
      → (rs : List ℕ) × Leads text t i opens (with_all rs ([], under)) j opens w
  unreached_then opens i j under ws w passed e =
      let (rs, leads) = passed under ws in
      (rs, subst (λ (x : Values). Leads text t i opens (with_all rs ([], under)) j opens x) (sym e) leads)

  -- ---- one

  module _ (i e : ℕ) (o : Open) (outer : List Open) where
    pub passed_unreachable : Begins text i 0x00 → IsPassed text t (o ∷ outer) i (i + 1)
    passed_unreachable begins under ws =
        ([], took_unreachable t text i (i + 1) o outer ([], under) (with_all ws ([], under)) begins refl ws refl)

    pub passed_nop : Begins text i 0x01 → IsPassed text t (o ∷ outer) i (i + 1)
    passed_nop begins under ws =
        (ws, took_nop t text i (i + 1) o outer (with_all ws ([], under)) (with_all ws ([], under)) begins refl refl)

    pub passed_br : Begins text i 0x0c → (d : ℕ) → GivesAt u32 text (i + 1) d e → (f : Open) → slice_get (o ∷ outer) d ≡ Some f → IsPassed text t (o ∷ outer) i e
    passed_br begins d g f there under ws =
        let ls = label_in t.known.flat.items f.kind f.sig in
        (ls, took_br t text i e o outer (with_all ls ([], under)) (with_all ws ([], under)) begins d g f there ls refl ([], under) ws refl refl)

    pub passed_return : Begins text i 0x0f → IsPassed text t (o ∷ outer) i (i + 1)
    passed_return begins under ws =
        let ls = results_in t.known.flat.items t.results in
        (ls, took_return t text i (i + 1) o outer (with_all ls ([], under)) (with_all ws ([], under)) begins refl ls refl ([], under) ws refl refl)

    pub passed_throw : t.references ≡ true → Begins text i 0x08 → (x : ℕ) → GivesAt u32 text (i + 1) x e → (s : Sig) → slice_get t.known.tags.items x ≡ Some s
        → s.param_count ≤ length t.known.flat.items → IsPassed text t (o ∷ outer) i e
    passed_throw on begins x g s tag usable under ws =
        let ps = params_in t.known.flat.items s in
        (ps, took_throw t text i e o outer (with_all ps ([], under)) (with_all ws ([], under)) on begins x g s tag usable ps refl ([], under) ws refl refl)

    pub passed_throw_ref : t.references ≡ true → Begins text i 0x0a → IsPassed text t (o ∷ outer) i (i + 1)
    passed_throw_ref on begins under ws =
        (28 ∷ [], took_throw_ref t text i (i + 1) o outer (28 ∷ [], under) (with_all ws ([], under)) on begins refl ([], under) ws refl refl)
