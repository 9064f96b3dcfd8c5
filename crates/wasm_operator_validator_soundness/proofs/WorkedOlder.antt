-- The worked runs with a host, older clauses, tail calls, references, locals, globals and a constant.
use Rattle.std.specs.Prelude.{ℤ, All}
use Rattle.std.proofs.Common.{◌≡◌, ℕ, zero, suc, [], ◌∷◌, Some, None, true, false, refl, subst, slice_get, rules, inl}
use Rattle.std.proofs.lemmas.Option.{slice_get_within, get_or_from_slice_get}
use Rattle.std.proofs.lemmas.List.Elements.{All-nil, All-cons}
use Rattle.wasm_types.specs.settings.Features.{has}
use Rattle.wasm_types.specs.settings.Limits.{default_limits}
use Rattle.wasm_types.specs.settings.Settings.{Settings}
use Rattle.wasm_types.specs.trees.Types.{i32, number, ref, concrete}
use Rattle.wasm_types.specs.trees.Trees.{TypeTree, opened}
use Rattle.wasm_types.specs.trees.Each.{EachValue}
use Rattle.wasm_types.specs.trees.Below.{itself, expanded}
use Rattle.wasm_types.specs.trees.ValidGroup.{types_from, done, next, AreValidGroups, IsValidGroup, IsFunction}
use Rattle.wasm_operators_immediates.specs.declared.frames.FrameKind.TheVariants as frames
use Rattle.wasm_operator_validator_rules.specs.Operands.{Operand, known}
use Rattle.wasm_operator_validator_rules.specs.Row.{of_type}
use Rattle.wasm_operator_validator_rules.specs.Typed.{IsBody}
use Rattle.wasm_operator_validator_soundness.specs.runs.Values.{Body, Function, IsStandard, IsStandardType, number_value}
use Rattle.wasm_operator_validator_soundness.specs.runs.ValidStates.{IsThrown}
use Rattle.wasm_operator_validator_soundness.specs.runs.Soundness.{body_context, IsValidFunction, IsStarted}
use Rattle.wasm_operator_validator_soundness.specs.runs.worked.Caught.{gives_number}
use Rattle.wasm_operator_validator_soundness.specs.runs.worked.Older.{gives_written, gives_type, tag_written, tag_type, bits, catching, passing_on, remembering, referring, older, started, OlderWorked}
use Rattle.wasm_operator_validator_soundness.proofs.RunsInvariant.{none_is_some, some_same}

abbrev settings : Settings
settings = record { features = bits; limits = default_limits }

only_standard : IsStandard bits
unfolding has
only_standard = record { descriptors = refl; sharing = refl; switching = refl }

gives_valid : IsValidGroup settings [] gives_written
unfolding default_limits has opened types_from
gives_valid = search rules

tag_valid : IsValidGroup settings (gives_type ∷ []) tag_written
unfolding default_limits has opened types_from
tag_valid = search rules

groups_valid : AreValidGroups settings [] (gives_written ∷ tag_written ∷ []) (gives_type ∷ tag_type ∷ [])
unfolding types_from
groups_valid = next gives_valid (next tag_valid done)

standard_at : (n : ℕ) (t : TypeTree) → slice_get (gives_type ∷ tag_type ∷ []) n ≡ Some t → IsStandardType t
standard_at n t e = record {
  settings = settings;
  standard = only_standard;
  groups = gives_written ∷ tag_written ∷ [];
  types = gives_type ∷ tag_type ∷ [];
  valid = groups_valid;
  has_it = (n, slice_get_within (gives_type ∷ tag_type ∷ []) n t e, get_or_from_slice_get (gives_type ∷ tag_type ∷ []) n t t e);
}

abbrev n32 : Operand
n32 = known (number i32)

catching_body : IsBody (body_context older gives_type gives_number catching) 0 catching.code
unfolding has opened types_from
catching_body = record {
  expression = (frames.LegacyTry, refl, (refl, (frames.LegacyCatch, refl, refl)), refl);
  typed = (
    frames.LegacyTry,
    gives_number,
    [],
    (refl, search rules, search rules),
    tt,
    (
      n32 ∷ [],
      ([], n32 ∷ [], [], (search rules, (gives_number, (gives_type, refl, search rules, refl), (refl, refl))), tt, refl),
      (number i32 ∷ [], (search rules, (tag_type, refl, refl)), (refl, tt), ((refl, tt), tt, tt)),
    ),
    ((refl, tt), tt, tt),
  );
}

passing_body : IsBody (body_context older gives_type gives_number passing_on) 0 passing_on.code
unfolding has opened types_from
passing_body = record {
  expression = search rules;
  typed = (
    n32 ∷ [],
    ([], n32 ∷ [], [], (search rules, (gives_number, [], (gives_type, refl, search rules, refl), (refl, tt), refl)), tt, refl),
    ((refl, tt), tt, tt),
  );
}

remembering_body : IsBody (body_context older gives_type gives_number remembering) 0 remembering.code
unfolding has opened types_from
remembering_body = record {
  expression = search rules;
  typed = (
    n32 ∷ [],
    ([], n32 ∷ [], [], (search rules, (_, refl, (refl, refl))), tt, refl),
    (
      [],
      (n32 ∷ [], [], [], (search rules, (number i32, record { local = refl; used = search rules }, (refl, refl))), (refl, tt), refl),
      (
        n32 ∷ [],
        ([], n32 ∷ [], [], (search rules, (number i32, record { local = refl; used = search rules }, refl, (refl, refl))), tt, refl),
        ((refl, tt), tt, tt),
      ),
    ),
  );
}

referring_body : IsBody (body_context older gives_type gives_number referring) 0 referring.code
unfolding has opened types_from
referring_body = record {
  expression = search rules;
  typed = (
    known (ref false (concrete gives_type)) ∷ [],
    ([], known (ref false (concrete gives_type)) ∷ [], [], (search rules, (gives_type, concrete gives_type, refl, inl refl, search rules, of_type, (refl, refl))), tt, refl),
    (
      n32 ∷ [],
      (known (ref true (concrete gives_type)) ∷ [], n32 ∷ [], [], (search rules, (_, refl, (refl, refl))), ((tt, itself), tt), refl),
      ((refl, tt), tt, tt),
    ),
  );
}

own_valid : (f : Body) → All (EachValue IsStandardType) f.locals → IsBody (body_context older gives_type gives_number f) 0 f.code → IsValidFunction older gives_type (record { type = gives_type; body = Some f })
unfolding opened types_from
own_valid f l b = record {
  below = itself;
  standard = standard_at 0 gives_type refl;
  function = tt;
  body = record { signature = gives_number; function = refl; locals = l; typed = b };
}

import_valid : IsValidFunction older gives_type (record { type = gives_type; body = None })
unfolding opened types_from
import_valid = record { below = itself; standard = standard_at 0 gives_type refl; function = tt; body = tt }

abbrev nothing_declared : All (EachValue IsStandardType) []
nothing_declared = All-nil (EachValue IsStandardType)

abbrev IsThere : TypeTree → ℕ → Type 0
IsThere t n = (f : Function) × (slice_get older.functions n ≡ Some f) × IsValidFunction older t f

functions_valid : (n : ℕ) (t : TypeTree) → slice_get older.«module».functions n ≡ Some t → IsThere t n
functions_valid zero t e = subst (λ u. IsThere u 0) (some_same gives_type t e) (_, refl, import_valid)
functions_valid (suc zero) t e = subst (λ u. IsThere u 1) (some_same gives_type t e) (_, refl, own_valid catching nothing_declared catching_body)
functions_valid (suc (suc zero)) t e = subst (λ u. IsThere u 2) (some_same gives_type t e) (_, refl, own_valid passing_on nothing_declared passing_body)
functions_valid (suc (suc (suc zero))) t e = subst (λ u. IsThere u 3) (some_same gives_type t e)
    (_, refl, own_valid remembering (All-cons (EachValue IsStandardType) (number i32) [] tt nothing_declared) remembering_body)
functions_valid (suc (suc (suc (suc zero)))) t e = subst (λ u. IsThere u 4) (some_same gives_type t e) (_, refl, own_valid referring nothing_declared referring_body)
functions_valid (suc (suc (suc (suc (suc n))))) t e = absurd (none_is_some t e)

functions_own : (n : ℕ) (f : Function) → slice_get older.functions n ≡ Some f → (t : TypeTree) × (slice_get older.«module».functions n ≡ Some t)
functions_own zero f e = (gives_type, refl)
functions_own (suc zero) f e = (gives_type, refl)
functions_own (suc (suc zero)) f e = (gives_type, refl)
functions_own (suc (suc (suc zero))) f e = (gives_type, refl)
functions_own (suc (suc (suc (suc zero)))) f e = (gives_type, refl)
functions_own (suc (suc (suc (suc (suc n))))) f e = absurd (none_is_some f e)

tags_standard : (n : ℕ) (t : TypeTree) → slice_get older.«module».tags n ≡ Some t → IsStandardType t × IsFunction (expanded t)
unfolding opened types_from
tags_standard zero t e = subst (λ u. IsStandardType u × IsFunction (expanded u)) (some_same tag_type t e) (standard_at 1 tag_type refl, tt)
tags_standard (suc n) t e = absurd (none_is_some t e)

starts : (n : ℕ) (f : Body) → slice_get older.functions n ≡ Some (record { type = gives_type; body = Some f }) → IsStarted older (started f) (number i32 ∷ [])
unfolding opened types_from
starts n f e = record {
  index = n;
  function = record { type = gives_type; body = Some f };
  body = f;
  signature = gives_number;
  arguments = [];
  named = e;
  has_body = refl;
  typed = refl;
  fit = tt;
  starts = refl;
  gives = refl;
}

tag_thrown : IsThrown tag_type
unfolding opened
tag_thrown = (standard_at 1 tag_type refl, tt, ((number_value i32 0, tt, refl), tt))

pub older_worked : (x : ℤ) → OlderWorked x
unfolding has opened types_from
older_worked x = record {
  valid = record { standard = only_standard; types = standard_at; functions = functions_valid; own = functions_own; tags = tags_standard };
  catching_from = starts 1 catching refl;
  passing_from = starts 2 passing_on refl;
  remembering_from = starts 3 remembering refl;
  referring_from = starts 4 referring refl;
  host_returns = (_, (_, tt, refl, (_, (((tt, refl), tt), tt), refl, (_, tt, refl, refl))), tt, refl);
  host_caught = (_, (_, tt, refl, (_, (tag_thrown, ((((tt, refl), tt)), (refl, tt))), refl, (_, tt, refl, refl))), tt, refl);
  host_traps = (_, (_, tt, refl, refl), tt, refl);
  tail_returns = (_, refl, (((tt, refl), tt), tt), refl);
  tail_traps = (_, refl, tt, refl);
  tail_throws = (_, refl, (tag_thrown, (((tt, refl), tt), tt)), refl);
  not_caught = (_, (_, tt, refl, refl), (tag_thrown, (((tt, refl), tt), tt)), refl);
  remembered = (_, (_, (((tt, refl), tt), tt), refl, (_, tt, refl, (_, tt, refl, refl))), tt, refl);
  referred = (_, (_, tt, refl, (_, tt, refl, (_, (((tt, refl), tt), tt), refl, (_, tt, refl, (_, tt, refl, (_, tt, refl, refl)))))), tt, refl);
  constant_valid = record {
    expression = search rules;
    typed = (n32 ∷ [], ([], n32 ∷ [], [], (search rules, (_, refl, (refl, refl))), tt, refl), ((refl, tt), tt, tt));
  };
  evaluates = (_, (_, (((tt, refl), tt), tt), refl, refl), tt, refl);
}
