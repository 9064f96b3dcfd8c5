-- That no type is declared below a final one.
use Rattle.std.specs.Prelude.{All, Contains}
use Rattle.std.proofs.Common.{◌≡◌, List, [], ◌∷◌, Option, Some, true, false, refl, sym, ap, subst, ◌∙◌, true≢false}
use Rattle.std.proofs.lemmas.List.Elements.{All-nil, All-cons, All-append, All-contains}
use Rattle.wasm_types.specs.settings.Settings.{Settings}
use Rattle.wasm_types.specs.trees.Types.{Abstract, none, nofunc, nocont, ref, concrete, InnerOf, function, array_of, struct_of, continuation}
use Rattle.wasm_types.specs.trees.Trees.{TypeTree, opened}
use Rattle.wasm_types.specs.trees.Each.{EachOption, EachEntry}
use Rattle.wasm_types.specs.trees.Below.{supertype, DeclaredBelow, itself, declared, expanded, bottom_of}
use Rattle.wasm_types.specs.trees.ValidGroup.{Written, IsValidSupertype, IsValidType, AreValidTypes, AreValidGroups, done, next}
use Rattle.wasm_types.specs.trees.laws.Valid.{valid_groups_are_sound}
use Rattle.wasm_operator_validator_soundness.specs.runs.Values.{IsStandardType, Program, Value, number_value, ref_null, ref_function, ref_object, ref_i31, ref_host, ref_extern, ref_exn, Fits}
use Rattle.wasm_operator_validator_store.specs.Final.{IsMadeWith, FinalTypesAreLast}

-- ---- types of valid groups

each_valid : (z : Settings) (ts : List TypeTree) → AreValidTypes z ts → All (IsValidType z) ts
each_valid z [] v = All-nil (IsValidType z)
each_valid z (t ∷ ts) v = All-cons (IsValidType z) t ts v.0 (each_valid z ts v.1)

all_valid : (z : Settings) (space : List TypeTree) (gs : List Written) (after : List TypeTree) → All (IsValidType z) space → AreValidGroups z space gs after → All (IsValidType z) after
all_valid z space gs after h done = h
all_valid z space gs after h (next v r) = all_valid z _ _ after (All-append (IsValidType z) space _ h (each_valid z _ v.types)) r

-- the supertype of a type is open, and standard too
parent : (t w : TypeTree) (s : IsStandardType t) → supertype t ≡ Some w → ((opened w).is_final ≡ false) × IsStandardType w
parent t w s e =
    let v : IsValidType s.settings t = All-contains (IsValidType s.settings) (s.types) t (all_valid s.settings [] s.groups s.types (All-nil (IsValidType s.settings)) s.valid) s.has_it in
    let above : IsValidSupertype (opened t) (Some w) = subst (λ (o : Option TypeTree). IsValidSupertype (opened t) o) e v.above in
    let own : EachEntry (Contains s.types) (opened t) = All-contains (λ (q : TypeTree). EachEntry (Contains s.types) (opened q)) (s.types) t (valid_groups_are_sound s.settings s.groups s.types s.valid).closed s.has_it in (
      above.0,
      record {
        settings = s.settings;
        standard = s.standard;
        groups = s.groups;
        types = s.types;
        valid = s.valid;
        has_it = subst (λ (o : Option TypeTree). EachOption (Contains s.types) o) e own.supertype;
      },
    )

last_of : (t u : TypeTree) → DeclaredBelow t u → IsStandardType t → (opened u).is_final ≡ true → t ≡ u
last_of t u itself s f = refl
last_of t u (declared e d) s f =
    let n = parent t _ s e in
    let same = last_of _ u d n.1 f in
    absurd (true≢false (sym f ∙ ap (λ (w : TypeTree). (opened w).is_final) (sym same) ∙ n.0))

-- ---- values

abbrev IsABottom : Abstract → Type 0
IsABottom none = Unit {0}
IsABottom nofunc = Unit {0}
IsABottom nocont = Unit {0}
IsABottom h = ⊥

is_bottom : (x : InnerOf TypeTree) → IsABottom (bottom_of x)
is_bottom (function ps rs) = tt
is_bottom (array_of f) = tt
is_bottom (struct_of fs) = tt
is_bottom (continuation f) = tt

made_with : (p : Program) (v : Value) (u : TypeTree) → (opened u).is_final ≡ true → Fits p v (ref false (concrete u)) → IsMadeWith u v
made_with p (number_value n b) u e f = absurd f.1
made_with p (ref_null s h) u e f = absurd f.1.0
made_with p (ref_function i t) u e f = last_of t u f.1.1 f.0.0 e
made_with p (ref_object k t) u e f = last_of t u f.1.1 f.0.0 e
made_with p (ref_i31 b) u e f = subst IsABottom (sym (f.1.1 u itself).1) (is_bottom (expanded u))
made_with p (ref_host k) u e f = subst IsABottom (sym (f.1.1 u itself).1) (is_bottom (expanded u))
made_with p (ref_extern k) u e f = subst IsABottom (sym (f.1.1 u itself).1) (is_bottom (expanded u))
made_with p (ref_exn k t) u e f = subst IsABottom (sym (f.1.1 u itself).1) (is_bottom (expanded u))

pub final_last : FinalTypesAreLast
final_last = record { last = λ t u s f d. last_of t u d s f; cast = made_with }
