-- The worked store of a program that imports one global and one table twice.
use Rattle.std.specs.Prelude.{ℤ, All}
use Rattle.std.proofs.Common.{◌≡◌, ◌≤◌, ◌*◌, ℕ, zero, suc, [], ◌∷◌, length, arith, Some, false, inl, refl, sym, subst, slice_get, rules}
use Rattle.std.proofs.lemmas.Option.{slice_get_within, get_or_from_slice_get}
use Rattle.std.proofs.lemmas.List.Elements.{All-nil}
use Rattle.wasm_types.specs.settings.Features.{has}
use Rattle.wasm_types.specs.settings.Limits.{default_limits}
use Rattle.wasm_types.specs.settings.Settings.{Settings}
use Rattle.wasm_types.specs.trees.Types.{func, concrete, i32, number, ref}
use Rattle.wasm_types.specs.trees.Trees.{TypeTree, opened}
use Rattle.wasm_types.specs.trees.Each.{EachValue}
use Rattle.wasm_types.specs.trees.AbstractOrder.{same, nofunc_func}
use Rattle.wasm_types.specs.trees.Below.{Below, itself, expanded}
use Rattle.wasm_types.specs.trees.ValidGroup.{types_from, done, next, AreValidGroups, IsValidGroup, IsFunction}
use Rattle.wasm_operators_encoding.specs.expressions.Code.{plain}
use Rattle.wasm_operator_validator_rules.specs.Operands.{Operand, known}
use Rattle.wasm_operator_validator_rules.specs.Row.{of_type}
use Rattle.wasm_operator_validator_rules.specs.Typed.{IsBody}
use Rattle.wasm_operator_validator_soundness.specs.runs.Values.{Body, Function, IsStandard, IsStandardType, IsNamed, ref_null, ref_function, Fits}
use Rattle.wasm_operator_validator_soundness.specs.runs.Soundness.{body_context, IsValidFunction, IsValidProgram, IsStarted}
use Rattle.wasm_operator_validator_soundness.specs.runs.worked.Caught.{gives_number, end}
use Rattle.wasm_operator_validator_soundness.specs.runs.worked.Older.{gives_written, gives_type, tag_written, tag_type}
use Rattle.wasm_operator_validator_soundness.specs.runs.worked.Runs.{silent}
use Rattle.wasm_operator_validator_store.specs.Stores.{Store, page_of, most_pages}
use Rattle.wasm_operator_validator_store.specs.ValidStores.{GlobalMatches, TableMatches, IsMemoryAt, Knows, HasState, StoreFits}
use Rattle.wasm_operator_validator_store.specs.Instantiation.{IsConstant, AreInitials, allocated, with_new_global, seeing_globals, imports_of, IsFirstStore}
use Rattle.wasm_operator_validator_store.specs.worked.Program.{num, numbers, counter, constant, callees, small_memory, small_bytes, memory_of, holds, giving}
use Rattle.wasm_operator_validator_store.specs.worked.Linked.{of_host, callable, given, own_memory, written_bytes, bits, five, five_bits, one, earlier, filler, second_own, writing, calling, linked, initials, first, started, LinkedStoreWorked}
use Rattle.wasm_operator_validator_store.proofs.Lists.{none_some, same_some}
use Rattle.wasm_operator_validator_store.proofs.Storing.{stays}
use Rattle.wasm_operator_validator_store.proofs.Steps.{store_runs_sound}
use Rattle.wasm_operator_validator_store.proofs.Instantiating.{first_stores_fit}

-- ---- types

abbrev settings : Settings
settings = record { features = bits; limits = default_limits }

only_standard : IsStandard bits
unfolding has
only_standard = record { descriptors = refl; sharing = refl; switching = refl }

gives_valid : IsValidGroup settings [] gives_written
unfolding default_limits has opened types_from
gives_valid = search rules

tag_valid : IsValidGroup settings (gives_type ∷ []) tag_written
unfolding default_limits has opened types_from
tag_valid = search rules

groups_valid : AreValidGroups settings [] (gives_written ∷ tag_written ∷ []) (gives_type ∷ tag_type ∷ [])
unfolding types_from
groups_valid = next gives_valid (next tag_valid done)

standard_at : (n : ℕ) (t : TypeTree) → slice_get (gives_type ∷ tag_type ∷ []) n ≡ Some t → IsStandardType t
standard_at n t e = record {
  settings = settings;
  standard = only_standard;
  groups = gives_written ∷ tag_written ∷ [];
  types = gives_type ∷ tag_type ∷ [];
  valid = groups_valid;
  has_it = (n, slice_get_within (gives_type ∷ tag_type ∷ []) n t e, get_or_from_slice_get (gives_type ∷ tag_type ∷ []) n t t e);
}

counter_matches : GlobalMatches counter counter
counter_matches = (refl, refl, refl, (λ m. refl))

callees_match : TableMatches callees callees
callees_match = (refl, refl, (tt, (refl, same)), (tt, (refl, same)))

module _ (x : ℤ) where
  abbrev n32 : Operand
  n32 = known (number i32)

  -- ---- the program is valid

  writing_body : IsBody (body_context (linked x) gives_type gives_number (writing x)) 0 (writing x).code
  unfolding has opened types_from
  writing_body = record {
    expression = search rules;
    typed = (
      n32 ∷ [],
      ([], n32 ∷ [], [], (search rules, (_, refl, (refl, refl))), tt, refl),
      (
        [],
        (n32 ∷ [], [], [], (search rules, (_, refl, (refl, refl))), (refl, tt), refl),
        (n32 ∷ [], ([], n32 ∷ [], [], (search rules, (_, refl, (refl, refl))), tt, refl), ((refl, tt), tt, tt)),
      ),
    );
  }

  calling_body : IsBody (body_context (linked x) gives_type gives_number (calling x)) 0 (calling x).code
  unfolding has opened types_from
  calling_body = record {
    expression = search rules;
    typed = (
      n32 ∷ [],
      ([], n32 ∷ [], [], (search rules, (_, refl, (refl, refl))), tt, refl),
      (
        n32 ∷ [],
        (
          n32 ∷ [],
          n32 ∷ [],
          [],
          (
            search rules,
            (
              _,
              gives_number,
              record {
                table = refl;
                table_used = search rules;
                functions = (false, (tt, (refl, same)));
                callee = gives_type;
                type = refl;
                type_used = search rules;
                function = refl;
              },
              (refl, refl),
            ),
          ),
          (refl, tt),
          refl,
        ),
        ((refl, tt), tt, tt),
      ),
    );
  }

  own_valid : (f : Body) → f.locals ≡ [] → IsBody (body_context (linked x) gives_type gives_number f) 0 f.code → IsValidFunction (linked x) gives_type (record { type = gives_type; body = Some f })
  unfolding opened types_from
  own_valid f e b = record {
    below = itself;
    standard = standard_at 0 gives_type refl;
    function = tt;
    body = record {
      signature = gives_number;
      function = refl;
      locals = subst (λ ts. All (EachValue IsStandardType) ts) (sym e) (All-nil (EachValue IsStandardType));
      typed = b;
    };
  }

  abbrev IsThere : TypeTree → ℕ → Type 0
  IsThere t n = (f : Function) × (slice_get (linked x).functions n ≡ Some f) × IsValidFunction (linked x) t f

  functions_valid : (n : ℕ) (t : TypeTree) → slice_get (linked x).«module».functions n ≡ Some t → IsThere t n
  unfolding opened types_from
  functions_valid zero t e = subst (λ u. IsThere u 0) (same_some gives_type t e) (_, refl, record { below = itself; standard = standard_at 0 gives_type refl; function = tt; body = tt })
  functions_valid (suc zero) t e = subst (λ u. IsThere u 1) (same_some gives_type t e) (_, refl, own_valid (writing x) refl writing_body)
  functions_valid (suc (suc zero)) t e = subst (λ u. IsThere u 2) (same_some gives_type t e) (_, refl, own_valid (calling x) refl calling_body)
  functions_valid (suc (suc (suc n))) t e = absurd (none_some t e)

  functions_own : (n : ℕ) (f : Function) → slice_get (linked x).functions n ≡ Some f → (t : TypeTree) × (slice_get (linked x).«module».functions n ≡ Some t)
  functions_own zero f e = (gives_type, refl)
  functions_own (suc zero) f e = (gives_type, refl)
  functions_own (suc (suc zero)) f e = (gives_type, refl)
  functions_own (suc (suc (suc n))) f e = absurd (none_some f e)

  tag_standard : IsStandardType tag_type × IsFunction (expanded tag_type)
  unfolding opened types_from
  tag_standard = (standard_at 1 tag_type refl, tt)

  tags_standard : (n : ℕ) (t : TypeTree) → slice_get (linked x).«module».tags n ≡ Some t → IsStandardType t × IsFunction (expanded t)
  tags_standard zero t e = subst (λ u. IsStandardType u × IsFunction (expanded u)) (same_some tag_type t e) tag_standard
  tags_standard (suc zero) t e = subst (λ u. IsStandardType u × IsFunction (expanded u)) (same_some tag_type t e) tag_standard
  tags_standard (suc (suc n)) t e = absurd (none_some t e)

  linked_valid : IsValidProgram (linked x)
  linked_valid = record { standard = only_standard; types = standard_at; functions = functions_valid; own = functions_own; tags = tags_standard }

  starts : (n : ℕ) (f : Body) → slice_get (linked x).functions n ≡ Some (record { type = gives_type; body = Some f }) → IsStarted (linked x) (started x f) numbers
  unfolding opened types_from
  starts n f e = record {
    index = n;
    function = record { type = gives_type; body = Some f };
    body = f;
    signature = gives_number;
    arguments = [];
    named = e;
    has_body = refl;
    typed = refl;
    fit = tt;
    starts = refl;
    gives = refl;
  }

  -- ---- what the host gives

  null_fits : Fits (linked x) (ref_null false func) callees.element
  null_fits = (tt, (tt, (refl, nofunc_func)))

  host_made : IsStandardType gives_type × IsFunction (expanded gives_type) × Unit {0}
  unfolding opened types_from
  host_made = (standard_at 0 gives_type refl, tt, tt)

  host_fits : Fits (linked x) of_host callees.element
  unfolding opened types_from
  host_fits = (host_made, (tt, (gives_type, itself, refl, same)))

  host_callable : Fits (linked x) of_host (ref false (concrete gives_type))
  host_callable = (host_made, (tt, itself))

  few_pages : 8 ≤ most_pages small_memory
  few_pages = omega arith

  enough_bytes : small_memory.initial * page_of small_memory ≤ length small_bytes
  enough_bytes = omega arith

  same_most : 10 ≤ 10
  same_most = omega arith

  memory_there : IsMemoryAt given small_memory 0
  memory_there = (memory_of small_memory small_bytes, refl, (refl, refl, refl, same_most), enough_bytes)

  linked_given : StoreFits (imports_of (linked x) (initials x)) given
  linked_given = record {
    globals = (((tt, refl), tt), tt);
    tables = (((host_fits, tt), ((null_fits, tt), tt)), tt);
    memories = ((8, refl, few_pages), tt);
    segments = tt;
    objects = tt;
    exceptions = tt;
    tags = (tag_standard, tt);
    externs = tt;
    global_addresses = ((holds counter (num 0), refl, counter_matches), ((holds counter (num 0), refl, counter_matches), tt));
    table_addresses = ((callable, refl, callees_match), ((callable, refl, callees_match), tt));
    memory_addresses = (memory_there, (memory_there, tt));
    tag_addresses = (refl, tt);
  }

  -- ---- the first store

  own_made : IsStandardType gives_type × IsFunction (expanded gives_type) × IsNamed (linked x) (Some 1) gives_type
  unfolding opened types_from
  own_made = (standard_at 0 gives_type refl, tt, (_, refl, refl))

  own_fits : Fits (linked x) (ref_function (Some 1) gives_type) callees.element
  unfolding opened types_from
  own_fits = (own_made, (tt, (gives_type, itself, refl, same)))

  five_constant : IsConstant (linked x) (counter ∷ counter ∷ []) (number i32) (plain (five x) end)
  unfolding has opened types_from
  five_constant = record { expression = search rules; typed = (n32 ∷ [], ([], n32 ∷ [], [], (search rules, (_, refl, (refl, refl))), tt, refl), ((refl, tt), tt, tt)) }

  earlier_constant : IsConstant (linked x) (counter ∷ counter ∷ constant ∷ []) (number i32) (plain earlier end)
  unfolding has opened types_from
  earlier_constant = record { expression = search rules; typed = (n32 ∷ [], ([], n32 ∷ [], [], (search rules, (_, refl, (refl, refl))), tt, refl), ((refl, tt), tt, tt)) }

  second_below : Below (ref false (concrete gives_type)) callees.element
  unfolding opened types_from
  second_below = (tt, (gives_type, itself, refl, same))

  filler_constant : IsConstant (linked x) (counter ∷ counter ∷ []) callees.element (plain filler end)
  unfolding has opened types_from
  filler_constant = record {
    expression = search rules;
    typed = (
      known (ref false (concrete gives_type)) ∷ [],
      ([], known (ref false (concrete gives_type)) ∷ [], [], (search rules, (gives_type, concrete gives_type, refl, inl refl, search rules, of_type, (refl, refl))), tt, refl),
      ((second_below, tt), tt, tt),
    );
  }

  one_constant : IsConstant (linked x) (counter ∷ counter ∷ constant ∷ counter ∷ []) (number i32) (plain one end)
  unfolding has opened types_from
  one_constant = record { expression = search rules; typed = (n32 ∷ [], ([], n32 ∷ [], [], (search rules, (_, refl, (refl, refl))), tt, refl), ((refl, tt), tt, tt)) }

  own_pages : 2 ≤ most_pages own_memory
  own_pages = omega arith

  linked_typed : AreInitials (linked x) (initials x)
  linked_typed = record {
    globals = (constant, refl, five_constant, (counter, refl, earlier_constant, refl));
    tables = (callees, refl, filler_constant, refl);
    memories = (own_pages, tt);
    segments = (callees.element, refl, ((_, refl, own_fits), tt), (callees, refl, (tt, (refl, same)), one_constant), refl);
    data_segments = ((small_memory, refl, one_constant), (tt, tt));
  }

  -- before the data segment is written
  abbrev unwritten : Store
  unwritten = record (first x) {
    memories = memory_of small_memory small_bytes ∷ memory_of own_memory (0 ∷ 0 ∷ []) ∷ [];
    data_segments = (9 ∷ 10 ∷ []) ∷ (11 ∷ []) ∷ [];
  }

  -- the table before its segment is written, and after
  abbrev filled : Store
  filled = record unwritten { tables = callable ∷ record { type = callees; elements = second_own ∷ second_own ∷ [] } ∷ [] }

  abbrev loaded : Store
  loaded = record filled { segments = (ref_function (Some 1) gives_type ∷ []) ∷ [] }

  -- without globals of its own, with the first, and with both
  abbrev no_globals : Store
  no_globals = allocated (linked x) (initials x) given

  abbrev one_global : Store
  one_global = with_new_global no_globals (holds constant (five_bits x))

  abbrev both_globals : Store
  both_globals = with_new_global one_global (holds counter (five_bits x))

  linked_first : IsFirstStore (linked x) (initials x) given (first x)
  linked_first = record {
    with_globals = both_globals;
    with_tables = filled;
    with_segments = loaded;
    with_elements = unwritten;
    globals = (
      constant,
      five_bits x,
      no_globals,
      refl,
      record { answers = giving (five_bits x ∷ []) ∷ []; between = no_globals; state = _; last = silent; runs = (_, _, (refl, refl, refl), refl, (refl, refl)); gives = (refl, refl); ends = refl },
      (
        counter,
        five_bits x,
        one_global,
        refl,
        record { answers = giving (five_bits x ∷ []) ∷ []; between = one_global; state = _; last = silent; runs = (_, _, (refl, refl, refl), refl, (refl, refl)); gives = (refl, refl); ends = refl },
        refl,
      ),
    );
    tables = (
      callees,
      second_own,
      both_globals,
      refl,
      (
        seeing_globals both_globals (0 ∷ 0 ∷ []),
        record { answers = silent ∷ []; between = seeing_globals both_globals (0 ∷ 0 ∷ []); state = _; last = silent; runs = (_, _, (refl, refl), refl, (refl, refl)); gives = (refl, refl); ends = refl },
        refl,
      ),
      refl,
    );
    segments = (callees.element, ref_function (Some 1) gives_type ∷ [], filled, refl, (ref_function (Some 1) gives_type, [], filled, (_, refl, refl, refl), (refl, refl), refl), refl);
    used = (
      unwritten,
      (
        callees,
        num 1,
        loaded,
        second_own ∷ ref_function (Some 1) gives_type ∷ [],
        refl,
        record { answers = giving (num 1 ∷ []) ∷ []; between = loaded; state = _; last = silent; runs = (_, _, (refl, refl, refl), refl, (refl, refl)); gives = (refl, refl); ends = refl },
        refl,
        refl,
      ),
      refl,
    );
    data_used = (
      first x,
      (
        small_memory,
        num 1,
        unwritten,
        written_bytes,
        refl,
        record { answers = giving (num 1 ∷ []) ∷ []; between = unwritten; state = _; last = silent; runs = (_, _, (refl, refl, refl), refl, (refl, refl)); gives = (refl, refl); ends = refl },
        refl,
        refl,
      ),
      (first x, refl, refl),
    );
  }

  linked_fits : StoreFits (linked x) (first x)
  linked_fits = first_stores_fit (linked x) (initials x) given (first x) linked_valid linked_typed linked_given linked_first

  -- ---- runs

  writing_known : HasState (Knows (first x)) (started x (writing x))
  writing_known = (record { locals = tt; innermost = record { values = tt; caught = tt }; around = tt }, tt)

  pub linked_store_worked : LinkedStoreWorked x
  unfolding opened types_from
  linked_store_worked = record {
    valid = linked_valid;
    typed = linked_typed;
    given_fits = linked_given;
    first_store = linked_first;
    fits = linked_fits;
    bytes = refl;
    own_global = refl;
    own_table = refl;
    own_bytes = refl;
    writing_from = starts 1 (writing x) refl;
    calling_from = starts 2 (calling x) refl;
    known = writing_known;
    sound = store_runs_sound (linked x) (started x (writing x)) numbers (first x) linked_valid (starts 1 (writing x) refl) linked_fits writing_known;
    read = (_, _, _, (_, _, (refl, refl, refl), refl, (_, _, (refl, refl, refl), refl, (_, _, (refl, refl, refl), refl, (refl, refl)))), (refl, refl), refl);
    called = (
      _,
      _,
      _,
      (
        _,
        _,
        (refl, refl, refl),
        refl,
        (
          first x,
          _,
          (
            refl,
            ((λ e. host_callable), (λ f. refl)),
            ((host_fits, (host_callable, (((tt, refl), tt), tt))), stays (first x), linked_fits, (tt, tt), λ w. (w, (refl, tt))),
          ),
          refl,
          (refl, refl),
        ),
      ),
      (refl, refl),
      refl,
    );
    call_traps = (
      _,
      _,
      first x,
      (_, _, (refl, refl, refl), refl, (refl, refl)),
      (refl, ((λ e. host_callable), (λ f. refl)), (tt, stays (first x), linked_fits, tt, λ w. (w, tt))),
      refl,
    );
  }
