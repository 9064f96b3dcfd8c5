-- The worked runs with structs and arrays.
use Rattle.std.specs.Prelude.{ℤ, All}
use Rattle.std.proofs.Common.{◌≡◌, ℕ, zero, suc, [], ◌∷◌, Some, true, false, refl, sym, subst, slice_get, rules, true≢false}
use Rattle.std.proofs.lemmas.Option.{slice_get_within, get_or_from_slice_get}
use Rattle.std.proofs.lemmas.List.Elements.{All-nil}
use Rattle.wasm_types.specs.settings.Features.{has}
use Rattle.wasm_types.specs.settings.Limits.{default_limits}
use Rattle.wasm_types.specs.settings.Settings.{Settings}
use Rattle.wasm_types.specs.trees.Types.{Abstract, any, array, none, i32, i64, number, ref, abstract, concrete}
use Rattle.wasm_types.specs.trees.Trees.{TypeTree, opened}
use Rattle.wasm_types.specs.trees.Each.{EachValue}
use Rattle.wasm_types.specs.trees.AbstractOrder.{AbstractBelow, same, none_array, struct_any, struct_eq}
use Rattle.wasm_types.specs.trees.Below.{itself, declared, expanded, abstract_above}
use Rattle.wasm_types.specs.trees.ValidGroup.{types_from, done, next, AreValidGroups, IsValidGroup}
use Rattle.wasm_operator_validator_rules.specs.Operands.{Operand, known}
use Rattle.wasm_operator_validator_rules.specs.Typed.{IsBody}
use Rattle.wasm_operator_validator_soundness.specs.runs.Values.{Body, Function, IsStandard, IsStandardType}
use Rattle.wasm_operator_validator_soundness.specs.runs.Soundness.{body_context, IsValidFunction, IsStarted}
use Rattle.wasm_operator_validator_soundness.specs.runs.worked.Caught.{gives_number}
use Rattle.wasm_operator_validator_soundness.specs.runs.worked.Objects.{bits, gives_written, gives_type, pair_written, pair, triple_written, triple, octets_written, octets, reading, through_above, measuring, testing, casting, objects, started, ObjectsWorked}
use Rattle.wasm_operator_validator_soundness.proofs.RunsInvariant.{none_is_some, some_same}
use Rattle.wasm_operator_validator_soundness.proofs.RunsLeaving.{standard_is_sound}

abbrev settings : Settings
settings = record { features = bits; limits = default_limits }

only_standard : IsStandard bits
unfolding has
only_standard = record { descriptors = refl; sharing = refl; switching = refl }

gives_valid : IsValidGroup settings [] gives_written
unfolding default_limits has opened types_from
gives_valid = search rules

pair_valid : IsValidGroup settings (gives_type ∷ []) pair_written
unfolding default_limits has opened types_from
pair_valid = search rules

triple_valid : IsValidGroup settings (gives_type ∷ pair ∷ []) triple_written
unfolding default_limits has opened types_from
triple_valid = search rules

octets_valid : IsValidGroup settings (gives_type ∷ pair ∷ triple ∷ []) octets_written
unfolding default_limits has opened types_from
octets_valid = search rules

groups_valid : AreValidGroups settings [] (gives_written ∷ pair_written ∷ triple_written ∷ octets_written ∷ []) (gives_type ∷ pair ∷ triple ∷ octets ∷ [])
unfolding types_from
groups_valid = next gives_valid (next pair_valid (next triple_valid (next octets_valid done)))

standard_at : (n : ℕ) (t : TypeTree) → slice_get (gives_type ∷ pair ∷ triple ∷ octets ∷ []) n ≡ Some t → IsStandardType t
standard_at n t e = record {
  settings = settings;
  standard = only_standard;
  groups = gives_written ∷ pair_written ∷ triple_written ∷ octets_written ∷ [];
  types = gives_type ∷ pair ∷ triple ∷ octets ∷ [];
  valid = groups_valid;
  has_it = (n, slice_get_within (gives_type ∷ pair ∷ triple ∷ octets ∷ []) n t e, get_or_from_slice_get (gives_type ∷ pair ∷ triple ∷ octets ∷ []) n t t e);
}

abbrev IsArray : Abstract → Type 0
IsArray array = Unit {0}
IsArray none = Unit {0}
IsArray h = ⊥

only_arrays : (h : Abstract) → AbstractBelow h array → IsArray h
only_arrays h same = tt
only_arrays h none_array = tt

module _ (x : ℤ) where
  abbrev n32 : Operand
  n32 = known (number i32)

  abbrev a_pair : Operand
  a_pair = known (ref false (concrete pair))

  abbrev a_triple : Operand
  a_triple = known (ref false (concrete triple))

  abbrev some_octets : Operand
  some_octets = known (ref false (concrete octets))

  reading_body : IsBody (body_context (objects x) gives_type gives_number (reading x)) 0 (reading x).code
  unfolding has opened types_from
  reading_body = record {
    expression = search rules;
    typed = (
      n32 ∷ [],
      ([], n32 ∷ [], [], (search rules, (_, refl, (refl, refl))), tt, refl),
      (
        n32 ∷ n32 ∷ [],
        ([], n32 ∷ [], n32 ∷ [], (search rules, (_, refl, (refl, refl))), (refl, tt), refl),
        (
          a_pair ∷ [],
          (n32 ∷ n32 ∷ [], a_pair ∷ [], [], (search rules, (_, refl, (refl, refl))), (refl, (refl, tt)), refl),
          (
            n32 ∷ [],
            (known (ref true (concrete pair)) ∷ [], n32 ∷ [], [], (search rules, (_, refl, (refl, refl))), ((tt, itself), tt), refl),
            ((refl, tt), tt, tt),
          ),
        ),
      ),
    );
  }

  above_body : IsBody (body_context (objects x) gives_type gives_number (through_above x)) 0 (through_above x).code
  unfolding has opened types_from
  above_body = record {
    expression = search rules;
    typed = (
      n32 ∷ [],
      ([], n32 ∷ [], [], (search rules, (_, refl, (refl, refl))), tt, refl),
      (
        n32 ∷ n32 ∷ [],
        ([], n32 ∷ [], n32 ∷ [], (search rules, (_, refl, (refl, refl))), (refl, tt), refl),
        (
          known (number i64) ∷ n32 ∷ n32 ∷ [],
          ([], known (number i64) ∷ [], n32 ∷ n32 ∷ [], (search rules, (_, refl, (refl, refl))), (refl, (refl, tt)), refl),
          (
            a_triple ∷ [],
            (n32 ∷ n32 ∷ known (number i64) ∷ [], a_triple ∷ [], [], (search rules, (_, refl, (refl, refl))), (refl, (refl, (refl, tt))), refl),
            (
              n32 ∷ [],
              (known (ref true (concrete pair)) ∷ [], n32 ∷ [], [], (search rules, (_, refl, (refl, refl))), ((tt, declared refl itself), tt), refl),
              ((refl, tt), tt, tt),
            ),
          ),
        ),
      ),
    );
  }

  measuring_body : IsBody (body_context (objects x) gives_type gives_number (measuring x)) 0 (measuring x).code
  unfolding has opened types_from
  measuring_body = record {
    expression = search rules;
    typed = (
      n32 ∷ [],
      ([], n32 ∷ [], [], (search rules, (_, refl, (refl, refl))), tt, refl),
      (
        some_octets ∷ [],
        (n32 ∷ [], some_octets ∷ [], [], (search rules, (_, refl, (refl, refl))), (refl, tt), refl),
        (
          n32 ∷ [],
          (known (ref true (abstract false array)) ∷ [], n32 ∷ [], [], (search rules, (false, (refl, refl))), ((tt, (octets, itself, refl, same)), tt), refl),
          ((refl, tt), tt, tt),
        ),
      ),
    );
  }

  testing_body : IsBody (body_context (objects x) gives_type gives_number (testing x)) 0 (testing x).code
  unfolding has opened types_from
  testing_body = record {
    expression = search rules;
    typed = (
      n32 ∷ [],
      ([], n32 ∷ [], [], (search rules, (_, refl, (refl, refl))), tt, refl),
      (
        n32 ∷ n32 ∷ [],
        ([], n32 ∷ [], n32 ∷ [], (search rules, (_, refl, (refl, refl))), (refl, tt), refl),
        (
          a_pair ∷ [],
          (n32 ∷ n32 ∷ [], a_pair ∷ [], [], (search rules, (_, refl, (refl, refl))), (refl, (refl, tt)), refl),
          (
            n32 ∷ [],
            (known (ref true (abstract false any)) ∷ [], n32 ∷ [], [], (search rules, (_, refl, (refl, refl))), ((tt, (pair, itself, refl, struct_any)), tt), refl),
            ((refl, tt), tt, tt),
          ),
        ),
      ),
    );
  }

  casting_body : IsBody (body_context (objects x) gives_type gives_number (casting x)) 0 (casting x).code
  unfolding has opened types_from
  casting_body = record {
    expression = search rules;
    typed = (
      n32 ∷ [],
      ([], n32 ∷ [], [], (search rules, (_, refl, (refl, refl))), tt, refl),
      (
        n32 ∷ n32 ∷ [],
        ([], n32 ∷ [], n32 ∷ [], (search rules, (_, refl, (refl, refl))), (refl, tt), refl),
        (
          a_pair ∷ [],
          (n32 ∷ n32 ∷ [], a_pair ∷ [], [], (search rules, (_, refl, (refl, refl))), (refl, (refl, tt)), refl),
          (
            a_pair ∷ [],
            (known (ref true (abstract false any)) ∷ [], a_pair ∷ [], [], (search rules, (_, refl, (refl, refl))), ((tt, (pair, itself, refl, struct_any)), tt), refl),
            (
              n32 ∷ [],
              (known (ref true (concrete pair)) ∷ [], n32 ∷ [], [], (search rules, (_, refl, (refl, refl))), ((tt, itself), tt), refl),
              ((refl, tt), tt, tt),
            ),
          ),
        ),
      ),
    );
  }

  body_valid : (f : Body) → f.locals ≡ [] → IsBody (body_context (objects x) gives_type gives_number f) 0 f.code → IsValidFunction (objects x) gives_type (record { type = gives_type; body = Some f })
  unfolding opened types_from
  body_valid f e b = record {
    below = itself;
    standard = standard_at 0 gives_type refl;
    function = tt;
    body = record {
      signature = gives_number;
      function = refl;
      locals = subst (λ ts. All (EachValue IsStandardType) ts) (sym e) (All-nil (EachValue IsStandardType));
      typed = b;
    };
  }

  abbrev IsThere : TypeTree → ℕ → Type 0
  IsThere t n = (f : Function) × (slice_get (objects x).functions n ≡ Some f) × IsValidFunction (objects x) t f

  functions_valid : (n : ℕ) (t : TypeTree) → slice_get (objects x).«module».functions n ≡ Some t → IsThere t n
  functions_valid zero t e = subst (λ u. IsThere u 0) (some_same gives_type t e) (_, refl, body_valid (reading x) refl reading_body)
  functions_valid (suc zero) t e = subst (λ u. IsThere u 1) (some_same gives_type t e) (_, refl, body_valid (through_above x) refl above_body)
  functions_valid (suc (suc zero)) t e = subst (λ u. IsThere u 2) (some_same gives_type t e) (_, refl, body_valid (measuring x) refl measuring_body)
  functions_valid (suc (suc (suc zero))) t e = subst (λ u. IsThere u 3) (some_same gives_type t e) (_, refl, body_valid (testing x) refl testing_body)
  functions_valid (suc (suc (suc (suc zero)))) t e = subst (λ u. IsThere u 4) (some_same gives_type t e) (_, refl, body_valid (casting x) refl casting_body)
  functions_valid (suc (suc (suc (suc (suc n))))) t e = absurd (none_is_some t e)

  functions_own : (n : ℕ) (f : Function) → slice_get (objects x).functions n ≡ Some f → (t : TypeTree) × (slice_get (objects x).«module».functions n ≡ Some t)
  functions_own zero f e = (gives_type, refl)
  functions_own (suc zero) f e = (gives_type, refl)
  functions_own (suc (suc zero)) f e = (gives_type, refl)
  functions_own (suc (suc (suc zero))) f e = (gives_type, refl)
  functions_own (suc (suc (suc (suc zero)))) f e = (gives_type, refl)
  functions_own (suc (suc (suc (suc (suc n))))) f e = absurd (none_is_some f e)

  starts : (n : ℕ) (f : Body) → slice_get (objects x).functions n ≡ Some (record { type = gives_type; body = Some f }) → IsStarted (objects x) (started x f) (number i32 ∷ [])
  unfolding opened types_from
  starts n f e = record {
    index = n;
    function = record { type = gives_type; body = Some f };
    body = f;
    signature = gives_number;
    arguments = [];
    named = e;
    has_body = refl;
    typed = refl;
    fit = tt;
    starts = refl;
    gives = refl;
  }

  pub objects_worked : ObjectsWorked x
  unfolding has opened types_from
  objects_worked = record {
    valid = record { standard = only_standard; types = standard_at; functions = functions_valid; own = functions_own; tags = λ n t e. absurd (none_is_some t e) };
    reading_from = starts 0 (reading x) refl;
    above_from = starts 1 (through_above x) refl;
    measuring_from = starts 2 (measuring x) refl;
    testing_from = starts 3 (testing x) refl;
    casting_from = starts 4 (casting x) refl;
    struct_fits = ((standard_at 2 triple refl, tt), (tt, refl));
    below_fits = ((standard_at 2 triple refl, tt), (tt, declared refl itself));
    abstract_fits = ((standard_at 1 pair refl, tt), (tt, (pair, itself, refl, struct_eq)));
    array_fits = ((standard_at 3 octets refl, tt), (tt, (octets, itself, refl, same)));
    not_below = λ f. subst IsArray (sym ((standard_is_sound pair f.0.0 f.1.1.0 f.1.1.1).constructor)) (only_arrays (abstract_above (expanded f.1.1.0)) f.1.1.3);
    read = (_, (_, (((tt, refl), tt), tt), refl, (_, (((tt, refl), tt), tt), refl, (_, tt, refl, (_, (((tt, refl), tt), tt), refl, refl)))), tt, refl);
    read_trapped = (_, (_, (((tt, refl), tt), tt), refl, (_, (((tt, refl), tt), tt), refl, (_, tt, refl, refl))), tt, refl);
    read_above = (_, (_, (((tt, refl), tt), tt), refl, (_, (((tt, refl), tt), tt), refl, (_, (((tt, refl), tt), tt), refl, (_, tt, refl, (_, (((tt, refl), tt), tt), refl, refl))))), tt, refl);
    measured = (_, (_, (((tt, refl), tt), tt), refl, (_, tt, refl, (_, tt, refl, refl))), tt, refl);
    tested = (_, (_, (((tt, refl), tt), tt), refl, (_, (((tt, refl), tt), tt), refl, (_, tt, refl, (_, (λ e. absurd (true≢false (sym e)), tt), refl, refl)))), tt, refl);
    cast = (_, (_, (((tt, refl), tt), tt), refl, (_, (((tt, refl), tt), tt), refl, (_, tt, refl, (_, (λ e. ((standard_at 1 pair refl, tt), (tt, itself)), tt), refl, (_, (((tt, refl), tt), tt), refl, refl))))), tt, refl);
    cast_failed = (_, (_, (((tt, refl), tt), tt), refl, (_, (((tt, refl), tt), tt), refl, (_, tt, refl, refl))), (λ e. absurd (true≢false (sym e)), tt), refl);
  }
