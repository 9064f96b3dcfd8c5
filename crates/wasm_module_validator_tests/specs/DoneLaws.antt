-- The rows of `Done`.
use Rattle.std.proofs.Common.{◌≡◌, ◌∙◌, ◌+◌, ℕ, true, false, List, [], ◌∷◌, length, map, Some, None, slice_get, refl, sym, ap, subst, arith, lit<, lit≤}
use Rattle.wasm_types.specs.decoding.Decoder.{State as Bytes, Done}
use Rattle.wasm_types.specs.decoding.Leb.{unsigned, last}
use Rattle.wasm_types.specs.decoding.ExactLaws.{state_is, value_is}
use Rattle.wasm_types.specs.settings.Limits.{default_limits}
use Rattle.wasm_types.specs.settings.Settings.{no_features}
use Rattle.wasm_types.specs.trees.Trees.{TypeTree}
use Rattle.wasm_types.specs.values.declared.value.ValType.TheVariants.{I32}
use Rattle.wasm_operators_immediates.specs.declared.frames.FrameKind.TheVariants.{Block}
use Rattle.wasm_operators_enums.specs.declared.bulk.BulkOperator.TheVariants as bulk
use Rattle.wasm_operators_encoding.specs.Opcodes.{opcode}
use Rattle.wasm_operators_encoding.specs.Groups.{numeric_kinds, simd_numeric_kinds}
use Rattle.wasm_operators_encoding.specs.Coded.{operator}
use Rattle.wasm_operators_encoding.specs.immediates.Immediates.{immediate}
use Rattle.wasm_operators_reader.specs.Standing.{Standing, at_start, Runs, IsFinished}
use Rattle.wasm_operators_reader.specs.RunLaws.{run_expression}
use Rattle.wasm_operators_immediates.specs.declared.proposal.Proposal.TheVariants.{Mvp}
use Rattle.wasm_operators_enums.specs.Op as op
use Rattle.wasm_operators_enums.specs.Op.{Op}
use Rattle.wasm_operator_validator_rules.specs.Context.{IsFunctionType}
use Rattle.wasm_operator_validator_state.specs.resources.Meaning.{Meaning, type_in}
use Rattle.wasm_operator_validator_stacks.specs.Defining.{with_locals}
use Rattle.wasm_operator_validator_state.specs.State.{State, Open, Accepts, Decides, Checks}
use Rattle.wasm_operator_validator_state.specs.Entering.{MayBegin}
use Rattle.wasm_operator_validator_state.specs.laws.Accepting.{accepts_nothing, ends}
use Rattle.wasm_operator_validator_state.specs.laws.Entering.{nothing_asked}
use Rattle.wasm_operator_validator_stacks.specs.determined.Operators.{IsPlain}
use Rattle.wasm_operator_validator_stacks.specs.determined.laws.Determined.{by_types, unchanged}
use Rattle.wasm_operator_validator_stacks.specs.determined.laws.Same.{stays_refl}
use Rattle.wasm_operator_validator_stacks.specs.Functions.{Begins}
use Rattle.wasm_module_validator_function_bodies.specs.Locals.{SpellsLocals, DefinesAll, TakesLocals}
use Rattle.wasm_module_validator_function_bodies.specs.Functions.{SpellsValidFunction}
use Rattle.wasm_module_validator_function_bodies.specs.laws.Functions.{functions_are, valid_accepted}
use Rattle.wasm_module_validator_function_bodies.specs.code.Worked.{body_rows}
use Rattle.wasm_module_validator_initialisers.specs.resources.referring.Naming.{NamesMore}
use Rattle.wasm_module_validator_initialisers.specs.resources.referring.NamingLaws.{names_more}
use Rattle.wasm_operators_encoding.specs.Locals.{LocalGroup, groups_within, locals}
use Rattle.wasm_module_validator_tests.specs.Done.{bytes_at, beginning, no_locals, LocalsDone, nop, end, TriesDone, of_type, nothing, BodiesDone, reference, nothing_named, FunctionsNamed}

untrue : false ≡ true → ⊥
untrue e = absurd cc

turned : true ≡ false → ⊥
turned e = absurd cc

-- ---- locals

spelled : (m : Meaning) → SpellsLocals no_features m.«module» 0 (0x00 ∷ 0x0b ∷ [])
unfolding default_limits
spelled m = record {
  groups = [];
  front = 0x00 ∷ [];
  back = 0x0b ∷ [];
  spelled = record { listed = record { count = 0 ∷ []; values = []; counted = last 32 0 0 (omega arith) (lit< tt) refl; each = refl; whole = refl }; within = lit≤ tt };
  whole = refl;
  types = tt;
  within = lit≤ tt;
}

none_read : locals no_features no_locals ≡ Done [] (bytes_at 1 (0x0b ∷ []))
unfolding default_limits unsigned groups_within locals
none_read = refl

pub locals_done : (m : Meaning) → LocalsDone m
unfolding default_limits unsigned groups_within locals type_in
locals_done m = record {
  read = record {
    exact = λ f. spelled m;
    stopped = λ e. absurd (untrue e);
    taken = record { groups = []; read = refl; defined = refl; within = lit≤ tt };
    stops = tt;
    stays = tt;
    failed = refl;
    others = refl;
  };
  not_passed = λ r. let e = state_is _ _ _ _ (sym none_read ∙ r.taken.read) in let p = ap (λ (u : Bytes). u.place) e in omega (arith, p);
  invented = λ r.
      let g : [] ≡ r.taken.groups = value_is _ _ _ _ (sym none_read ∙ r.taken.read) in
      let d = subst (λ (gs : List LocalGroup). DefinesAll m default_limits.locals beginning gs (with_locals beginning 1 I32)) (sym g) r.taken.defined in
      let e = ap (λ (σ : State). length σ.given.locals) d in
      omega (arith, e);
  failed = λ r. turned r.failed;
  declared = record {
    exact = (refl, (_, record { allowed = tt; known = tt; is = refl }), lit≤ tt);
    defined = record { named = I32; type = record { allowed = tt; known = tt; is = refl }; within = lit≤ tt; state = refl };
    refused = tt;
  };
  not_declared = λ d. let e = ap (λ (σ : State). length σ.given.locals) d.defined.state in omega (arith, e);
  too_many = λ d. let w = d.exact.2 in omega (arith, w);
}

-- ---- tries

nop_is : IsPlain nop Mvp false
nop_is = record { of = refl; named = refl; plain = refl }

begins : MayBegin beginning Mvp false
begins = record { going = refl; framed = tt; allowed = nothing_asked 0; float = λ e. absurd (untrue e) }

passed : (m : Meaning) → Checks m beginning nop None beginning
passed m = by_types None m beginning beginning nop Mvp false [] [] nop_is begins (λ set. refl) (λ p q. (λ c. c, λ c. c)) (unchanged m beginning tt) (stays_refl beginning)

accepted : (m : Meaning) → Accepts m beginning (end ∷ [])
accepted m = (ends m beginning [] tt).1 (refl, tt, tt, refl)

not_decided : (m : Meaning) → Decides m beginning end None beginning → ⊥
not_decided m d = let e = ((accepts_nothing m beginning).0 ((d []).0 (accepted m))).1 in absurd cc

pub tries_done : (m : Meaning) → TriesDone m
tries_done m = record {
  done = record { decides = (passed m).decides; stopped = λ e. absurd (untrue e); untouched = λ e. absurd (untrue e); given = refl; failed = refl; saved = refl };
  failed = λ t. turned t.failed;
  not_decided = λ t. not_decided m t.decides;
}

-- ---- bodies

index_is : (m : Meaning) (t : TypeTree) (x : ℕ) → Begins m 0 x (of_type t) → 0 ≡ x
index_is m t x b = let e = ap (λ (σ : State). map (λ (o : Open). o.block) σ.opens) b.state in cc

spelled_body : (m : Meaning) (t : TypeTree) → slice_get m.«module».types 0 ≡ Some t → IsFunctionType t nothing → SpellsValidFunction no_features m.«module» 0 no_locals.rest
unfolding default_limits
spelled_body m t at is = (functions_are no_features m.«module» 0 no_locals.rest (lit≤ tt)).1 (body_rows.empty m.«module» 0 t at is)

no_function : (m : Meaning) → SpellsValidFunction no_features m.«module» 0 [] → ⊥
unfolding default_limits
no_function m h = body_rows.nothing no_features m.«module» 0 ((functions_are no_features m.«module» 0 [] (lit≤ tt)).0 h)

type_begins : (m : Meaning) (t : TypeTree) → slice_get m.«module».types 0 ≡ Some t → IsFunctionType t nothing → Begins m 0 0 (of_type t)
type_begins m t at is = record { type = t; signature = nothing; function = record { at = at; function = is }; locals = []; params = refl; state = refl }

nothing_taken : (m : Meaning) (t : TypeTree) → TakesLocals m no_features no_locals (of_type t) (bytes_at 1 (0x0b ∷ [])) (of_type t)
unfolding default_limits unsigned groups_within locals
nothing_taken m t = record { groups = []; read = refl; defined = refl; within = lit≤ tt }

pub bodies_done : (m : Meaning) (t : TypeTree) → BodiesDone m t
bodies_done m t = record {
  validated = λ at is. record {
    exact = λ x b. subst (λ (y : ℕ). SpellsValidFunction no_features m.«module» y no_locals.rest) (index_is m t x b) (spelled_body m t at is);
    accepted = record {
      behind = bytes_at 1 (0x0b ∷ []);
      known = of_type t;
      taken = nothing_taken m t;
      accepted = valid_accepted m 0 0 (of_type t) (type_begins m t at is) no_locals (bytes_at 1 (0x0b ∷ [])) (of_type t) refl (nothing_taken m t) (spelled_body m t at is);
    };
    over = λ e. absurd cc;
    stopped = λ e. absurd (untrue e);
    stops = tt;
    ended = refl;
    failed = refl;
    features = refl;
    saved = refl;
  };
  not_ended = λ v. let e = v.ended in absurd cc;
  failed = λ v. turned v.failed;
  no_body = λ at is v. no_function m (v.exact 0 (type_begins m t at is));
}

-- ---- what is named

abbrev in_frame : ℕ → List ℕ → Standing
in_frame n rest = record { bytes = bytes_at n rest; frames = Block ∷ [] }

abbrev behind : ℕ → Standing
behind n = record { bytes = bytes_at n []; frames = [] }

abbrev refers : Op
refers = op.Bulk (bulk.RefFunc 3)

runs : Runs (at_start (bytes_at 0 reference)) (refers ∷ end ∷ []) (behind 3)
unfolding default_limits unsigned opcode numeric_kinds simd_numeric_kinds operator immediate
runs = (in_frame 2 (0x0b ∷ []), record { canonical = refl; read = refl; fits = refl }, (behind 3, record { canonical = refl; read = refl; fits = refl }, refl))

runs_on : Runs (at_start (bytes_at 0 nothing_named)) (nop ∷ end ∷ []) (behind 2)
unfolding default_limits unsigned opcode numeric_kinds simd_numeric_kinds operator immediate
runs_on = (in_frame 1 (0x0b ∷ []), record { canonical = refl; read = refl; fits = refl }, (behind 2, record { canonical = refl; read = refl; fits = refl }, refl))

over : (n : ℕ) → IsFinished (behind n)
over n = record { frames = refl; bytes = refl }

named : NamesMore no_features reference (1 ∷ []) (1 ∷ 3 ∷ [])
named = names_more (bytes_at 0 reference) (behind 3) (1 ∷ []) (1 ∷ 3 ∷ []) (record { ops = refers ∷ end ∷ []; run = runs; named = refl }) (over 3)

unnamed : NamesMore no_features nothing_named (1 ∷ []) (1 ∷ [])
unnamed = names_more (bytes_at 0 nothing_named) (behind 2) (1 ∷ []) (1 ∷ []) (record { ops = nop ∷ end ∷ []; run = runs_on; named = refl }) (over 2)

-- only one list is right
one_list : (xs ys : List ℕ) → NamesMore no_features reference (1 ∷ []) xs → NamesMore no_features reference (1 ∷ []) ys → xs ≡ ys
one_list xs ys h k = let r = run_expression (bytes_at 0 reference) (refers ∷ end ∷ []) (behind 3) runs (over 3) in h r.0 r.2 ∙ sym (k r.0 r.2)

one_list_unnamed : (xs ys : List ℕ) → NamesMore no_features nothing_named (1 ∷ []) xs → NamesMore no_features nothing_named (1 ∷ []) ys → xs ≡ ys
one_list_unnamed xs ys h k = let r = run_expression (bytes_at 0 nothing_named) (nop ∷ end ∷ []) (behind 2) runs_on (over 2) in h r.0 r.2 ∙ sym (k r.0 r.2)

abbrev total : List ℕ → ℕ
total [] = 0
total (x ∷ xs) = x + total xs

pub functions_named : FunctionsNamed
functions_named = record {
  named = named;
  not_named = λ h. let e = ap total (one_list _ _ h named) in omega (arith, e);
  another = λ h. let e = ap total (one_list _ _ h named) in omega (arith, e);
  others_lost = λ h. let e = ap total (one_list _ _ h named) in omega (arith, e);
  none = unnamed;
  invented = λ h. let e = ap total (one_list_unnamed _ _ h unnamed) in omega (arith, e);
}
