-- Values of types that have some, and exceptions, which have values.
use Rattle.std.proofs.Common.{◌≡◌, List, [], ◌∷◌, reverse, None, true, false, refl, sym, subst, rules}
use Rattle.std.proofs.lemmas.List.{reverse-reverse}
use Rattle.std.proofs.lemmas.Option.{slice_get_within, get_or_from_slice_get}
use Rattle.wasm_types.specs.settings.Settings.{Settings}
use Rattle.wasm_types.specs.settings.Features.{has}
use Rattle.wasm_types.specs.settings.Limits.{default_limits}
use Rattle.wasm_types.specs.trees.Types.{function, InnerOf}
use Rattle.wasm_types.specs.trees.Trees.{TypeTree, opened}
use Rattle.wasm_types.specs.trees.Below.{Below, expanded}
use Rattle.wasm_types.specs.trees.ValidGroup.{types_from, done, next, Written, written_tree, AreValidGroups, IsValidGroup}
use Rattle.wasm_operator_validator_rules.specs.Operands.{ValueType, Operand, all_known, stack}
use Rattle.wasm_operator_validator_rules.specs.Context.{Signature, IsFunctionType}
use Rattle.wasm_operator_validator_soundness.specs.runs.Values.{IsStandard, IsStandardValue, HasValue, EachHasValue, HasArguments, Program, Value, number_value, ref_null, ref_function, ref_object, ref_i31, ref_host, ref_extern, ref_exn, least_type, IsMade, Fits, AllFit}
use Rattle.wasm_operator_validator_soundness.specs.runs.ValidStates.{IsTagType, IsThrown}
use Rattle.wasm_operator_validator_soundness.proofs.RunsFitting.{fits_reversed}

-- ---- the type of a tag that takes nothing

abbrev procedure_written : Written
procedure_written = record {
  is_explicit = false;
  types = (record { is_final = true; supertypes = []; shared = false; descriptor = None; describes = None; inner = function [] [] }) ∷ [];
}

abbrev procedure : TypeTree
procedure = record { group = written_tree [] procedure_written; place = 0 }

abbrev first_release : Settings
first_release = record { features = 0; limits = default_limits }

procedure_valid : IsValidGroup first_release [] procedure_written
unfolding default_limits has opened types_from
procedure_valid = search rules

only_standard : IsStandard 0
unfolding has
only_standard = record { descriptors = refl; sharing = refl; switching = refl }

procedures_valid : AreValidGroups first_release [] (procedure_written ∷ []) (procedure ∷ [])
unfolding types_from
procedures_valid = next procedure_valid done

procedure_thrown : IsThrown procedure
unfolding opened
procedure_thrown = (
  record {
    settings = first_release;
    standard = only_standard;
    groups = procedure_written ∷ [];
    types = procedure ∷ [];
    valid = procedures_valid;
    has_it = (0, slice_get_within (procedure ∷ []) 0 procedure refl, get_or_from_slice_get (procedure ∷ []) 0 procedure procedure refl);
  },
  tt,
  tt,
)

-- ---- values of types, and types of values

module _ (p : Program) where
  -- in whatever program a value of the type is, this one has some
  value_like : (t : ValueType) (v : Value) → IsStandardValue v → Below (least_type v) t → (w : Value) × Fits p w t
  value_like t (number_value n b) s l = (number_value n b, (tt, l))
  value_like t (ref_null c h) s l = (ref_null c h, (tt, l))
  value_like t (ref_function i u) s l = (ref_function None u, ((s.0, s.1, tt), l))
  value_like t (ref_object k u) s l = (ref_object k u, (s, l))
  value_like t (ref_i31 b) s l = (ref_i31 b, (tt, l))
  value_like t (ref_host k) s l = (ref_host k, (tt, l))
  value_like t (ref_extern k) s l = (ref_extern k, (tt, l))
  value_like t (ref_exn k u) s l = (ref_exn k procedure, (procedure_thrown, l))

  pub value_of : (t : ValueType) → HasValue t → (v : Value) × Fits p v t
  value_of t h = value_like t h.0 h.1 h.2

  values_of : (ts : List ValueType) → EachHasValue ts → (vs : List Value) × AllFit p vs (all_known ts)
  values_of [] h = ([], tt)
  values_of (t ∷ ts) h = let v = value_of t h.0 in let vs = values_of ts h.1 in (v.0 ∷ vs.0, (v.1, vs.1))

  pub stack_of : (ts : List ValueType) → EachHasValue ts → (vs : List Value) × AllFit p vs (stack ts)
  stack_of ts h = let vs = values_of ts h in (reverse vs.0, fits_reversed p vs.0 (all_known ts) vs.1)

  arguments_in : (x : InnerOf TypeTree) → HasArguments x → (b : Signature) → x ≡ function b.params b.results → EachHasValue b.params
  arguments_in x h b e = subst HasArguments e h

  -- values for the parameters of a tag of which some exception is
  pub arguments_of : (t : TypeTree) → IsThrown t → (b : Signature) → IsFunctionType t b → (vs : List Value) × AllFit p vs (stack b.params)
  arguments_of t h b e = stack_of b.params (arguments_in (expanded t) h.2 b e)

  standard_value : (v : Value) → IsMade p v → IsStandardValue v
  standard_value (number_value n b) m = tt
  standard_value (ref_null c h) m = tt
  standard_value (ref_function i t) m = (m.0, m.1)
  standard_value (ref_object k t) m = m
  standard_value (ref_i31 b) m = tt
  standard_value (ref_host k) m = tt
  standard_value (ref_extern k) m = tt
  standard_value (ref_exn k t) m = tt

  pub has_value : (v : Value) (t : ValueType) → Fits p v t → HasValue t
  has_value v t f = (v, standard_value v f.0, f.1)

  each_has_value : (vs : List Value) (ts : List ValueType) → AllFit p vs (all_known ts) → EachHasValue ts
  each_has_value vs [] f = tt
  each_has_value [] (t ∷ ts) f = absurd f
  each_has_value (v ∷ vs) (t ∷ ts) f = (has_value v t f.0, each_has_value vs ts f.1)

  stack_has_values : (vs : List Value) (ts : List ValueType) → AllFit p vs (stack ts) → EachHasValue ts
  stack_has_values vs ts f =
      each_has_value (reverse vs) ts (subst (λ (us : List Operand). AllFit p (reverse vs) us) (reverse-reverse (all_known ts)) (fits_reversed p vs (stack ts) f))

  -- what is thrown with values that fit its tag is an exception
  pub thrown_with : (t : TypeTree) (b : Signature) (vs : List Value) → IsTagType t → IsFunctionType t b → AllFit p vs (stack b.params) → IsThrown t
  thrown_with t b vs tag e f = (tag.0, tag.1, subst HasArguments (sym e) (stack_has_values vs b.params f))
