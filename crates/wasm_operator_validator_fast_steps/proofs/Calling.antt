-- What calls through references take and give.
use Rattle.std.proofs.Common.{◌≡◌, ◌∙◌, ◌≤◌, ◌<◌, ◌+◌, ℕ, true, List, [], ◌∷◌, ◌++◌, Some, refl, ap, arith, length, reverse, slice_get}
use Rattle.std.proofs.lemmas.List.{map-append}
use Rattle.std.proofs.lemmas.Grind.{common_steps}
use Rattle.wasm_types.specs.decoding.Leb.{u32}
use Rattle.wasm_types.specs.decoding.Numbers.{GivesAt}
use Rattle.wasm_types.specs.settings.Features as feature
use Rattle.wasm_types.specs.trees.Types.{ref, concrete}
use Rattle.wasm_types.specs.trees.Trees.{TypeTree}
use Rattle.wasm_types.specs.trees.Below.{is_shared}
use Rattle.wasm_types.specs.trees.Gates.{Has}
use Rattle.wasm_operators_immediates.specs.Kinds as kind
use Rattle.wasm_operators_immediates.specs.Immediates.{Index}
use Rattle.wasm_operators_immediates.specs.declared.proposal.Proposal.TheVariants as proposals
use Rattle.wasm_operators_enums.specs.declared.control.ControlOperator.TheVariants as control
use Rattle.wasm_operators_enums.specs.Op as op
use Rattle.wasm_operators_frequent.specs.Short.{Begins}
use Rattle.wasm_operators_frequent.proofs.ShortReading.{told_with}
use Rattle.wasm_operators_frequent.proofs.Carried.{index_of}
use Rattle.wasm_operator_validator_rules.specs.Operands.{ValueType, all_known}
use Rattle.wasm_operator_validator_rules.specs.Context.{Context, Signature, IsFunctionType, may_use}
use Rattle.wasm_operator_validator_rules.specs.Named.{used_type}
use Rattle.wasm_operator_validator_rules.specs.InstructionTypes.{◌⟶◌, function_at, reference_to}
use Rattle.wasm_operator_validator_fast_tables.specs.declared.tables.Open.{Open}
use Rattle.wasm_operator_validator_fast_tables.specs.declared.tables.Named.{Named}
use Rattle.wasm_operator_validator_fast_tables.specs.declared.tables.Sig.{Sig}
use Rattle.wasm_operator_validator_fast_tables.specs.declared.tables.Tables.{Tables}
use Rattle.wasm_operator_validator_fast_tables.specs.Stacks.{Values, with_all}
use Rattle.wasm_operator_validator_fast_tables.specs.Values.{type_of, types, operands}
use Rattle.wasm_operator_validator_fast_tables.specs.Tables.{no_code, params_in, results_in, signature_in, ReturnsBy}
use Rattle.wasm_operator_validator_fast_tables.specs.Loop.{Leads}
use Rattle.wasm_operator_validator_fast_steps.proofs.Coded.{of_feature}
use Rattle.wasm_operator_validator_fast_steps.proofs.Rows.{last_on, took, took_away, stands, may_all, function_of, popped_all, gives_the_same, Here}

-- a function type that is named, and may be used
used : (c : Context) (y : ℕ) (f : TypeTree) → slice_get c.«module».types y ≡ Some f → may_use c (is_shared f) ≡ true → used_type c y ≡ Some f
used c y f there may = rw (there, may) refl

called : (c : Context) (y : ℕ) (f : TypeTree) (b : Signature) → slice_get c.«module».types y ≡ Some f → may_use c (is_shared f) ≡ true → IsFunctionType f b
    → function_at c y (λ t b. Some ((b.params ++ reference_to t ∷ []) ⟶ b.results)) ≡ Some ((b.params ++ reference_to f ∷ []) ⟶ b.results)
called c y f b there may is = rw (there, may, is) refl

module _ (t : Tables) (text : List ℕ) (i e : ℕ) (o : Open) (outer : List Open) (v w : Values) where
  params_given : (ids : List TypeTree) (ps : List ℕ) (k : ℕ) (s : Sig) (f : TypeTree) → ps ≡ params_in t.known.flat.items s → type_of ids k ≡ ref true (concrete f)
      → types ids (ps ++ k ∷ []) ≡ (signature_in ids t.known.flat.items s).params ++ reference_to f ∷ []
  params_given ids ps k s f same nullable =
      map-append (type_of ids) ps (k ∷ []) ∙ ap (λ xs. types ids xs ++ type_of ids k ∷ []) same
      ∙ ap (λ (x : ValueType). types ids (params_in t.known.flat.items s) ++ x ∷ []) nullable

  pub took_call_ref : t.references ≡ true → Begins text i 0x14 → (y : ℕ) → GivesAt u32 text (i + 1) y e → (n : Named) → slice_get t.known.named.items y ≡ Some n → n.code < no_code
      → (s : Sig) → slice_get t.known.types.items y ≡ Some s → s.param_count ≤ length t.known.flat.items
      → (ps rs : List ℕ) → ps ≡ params_in t.known.flat.items s → rs ≡ results_in t.known.flat.items s
      → (m : Values) → v ≡ (n.code ∷ (with_all ps m).0, m.1) → w ≡ with_all rs m → Leads text t i (o ∷ outer) v e (o ∷ outer) w
  took_call_ref on begins y g n named coded s type usable ps rs same_ps same_rs m taken put =
      let p = op.Control (control.CallRef y) in
      took t text i e o outer v w p (ps ++ n.code ∷ []) rs m.0 m.1
      (stands t text i e o outer v w p (told_with t.features.0 text i 20 20 begins refl p refl refl _ refl refl refl (Index kind.Types y) e refl (λ limits. index_of _ _ _ _ kind.Types y g)))
      refl (λ set full. full) (taken ∙ last_on ps n.code m) put
      (λ ids z c fits set full.
      let k = fits.knows.named y n named coded in
      let (f, at, is) = fits.knows.types y s type usable in
      let b = signature_in ids t.known.flat.items s in
      let h = Here t text i e o outer v w ids c in (
        of_feature c.bits p proposals.FunctionReferences feature.FunctionReferences fits.allows refl (fits.references on).function_references refl,
        (
          _,
          called h y k.type b k.at (may_all h (is_shared k.type) fits.unshared) (function_of k.type f b c.«module».types y k.at at is),
          (ap all_known (params_given ids ps n.code s k.type same_ps k.nullable), ap (λ xs. all_known (types ids xs)) same_rs),
        ),
      ))

  popped_reference : (ls r : List ℕ) (k : ℕ) (ids : List TypeTree)
      → operands ids (k ∷ (reverse ls ++ r)) ≡ reverse (reverse (operands ids r) ++ all_known (types ids (ls ++ k ∷ []))) ++ []
  popped_reference ls r k ids =
      let all : k ∷ (reverse ls ++ r) ≡ reverse (ls ++ k ∷ []) ++ r = grind (arith, common_steps) in
      ap (operands ids) all ∙ popped_all t text i e o outer v w (ls ++ k ∷ []) r ids

  pub took_return_ref : Begins text i 0x15 → Has t.features.0 feature.TailCall → (y : ℕ) → GivesAt u32 text (i + 1) y e → (n : Named) → slice_get t.known.named.items y ≡ Some n
      → n.code < no_code → (ps : List ℕ) → ReturnsBy t y ps → (m : Values) (rs : List ℕ) → v ≡ (n.code ∷ (with_all ps m).0, m.1) → w ≡ with_all rs ([], m.1)
      → Leads text t i (o ∷ outer) v e (o ∷ outer) w
  took_return_ref begins has y g n named coded ps x m rs taken put =
      let p = op.Control (control.ReturnCallRef y) in
      took_away t text i e o outer v w p (n.code ∷ (reverse ps ++ m.0)) rs m.1
      (stands t text i e o outer v w p (told_with t.features.0 text i 21 21 begins refl p refl refl _ refl refl refl (Index kind.Types y) e refl (λ limits. index_of _ _ _ _ kind.Types y g)))
      refl (λ set full. full) taken put
      (λ ids. reverse (operands ids m.0) ++ all_known (types ids (ps ++ n.code ∷ []))) (popped_reference ps m.0 n.code)
      (λ ids z c fits set full.
      let k = fits.knows.named y n named coded in
      let (f, at, is) = fits.knows.types y x.sig x.at x.usable in
      let b = signature_in ids t.known.flat.items x.sig in
      let h = Here t text i e o outer v w ids c in (
        of_feature c.bits p proposals.TailCall feature.TailCall fits.allows refl (rw fits.bits has) refl,
        (
          k.type,
          b,
          reverse (operands ids m.0),
          used h y k.type k.at (may_all h (is_shared k.type) fits.unshared),
          function_of k.type f b c.«module».types y k.at at is,
          gives_the_same t text i e o outer v w ids z c fits y ps x,
          ap (λ xs. reverse (operands ids m.0) ++ all_known xs) (params_given ids ps n.code x.sig k.type x.takes k.nullable),
        ),
      ))
