-- What branches on casts and conversions take and give.
use Rattle.std.specs.Prelude.{◌==◌, if◌then◌else◌}
use Rattle.std.proofs.Common.{◌≡◌, ◌∙◌, ◌<◌, ◌+◌, ◌/◌, ◌%◌, ℕ, Bool, true, false, List, [], ◌∷◌, ◌++◌, Some, refl, ap, subst, lt-ltb, length, get_or}
use Rattle.std.proofs.lemmas.List.{map-append}
use Rattle.wasm_types.specs.decoding.Leb.{u32}
use Rattle.wasm_types.specs.decoding.Decoder.{Decoder, ◌>>=◌, pure, byte}
use Rattle.wasm_types.specs.decoding.Numbers.{GivesAt}
use Rattle.wasm_types.specs.settings.Features as feature
use Rattle.wasm_types.specs.settings.Settings.{Settings}
use Rattle.wasm_types.specs.trees.Types.{HeapOf, abstract, ref, any, extern}
use Rattle.wasm_types.specs.trees.Trees.{TypeTree}
use Rattle.wasm_types.specs.trees.Below.{Below}
use Rattle.wasm_types.specs.values.Decode.{heap_type, reference, long_reference}
use Rattle.wasm_types.specs.values.Reference.{Reference}
use Rattle.wasm_types.specs.values.declared.heap.HeapType.{HeapType}
use Rattle.wasm_operators_immediates.specs.Kinds as kind
use Rattle.wasm_operators_immediates.specs.Immediates.{CastBranch}
use Rattle.wasm_operators_immediates.specs.declared.proposal.Proposal.TheVariants as proposals
use Rattle.wasm_operators_enums.specs.declared.gc.GcOperator.{GcOperator}
use Rattle.wasm_operators_enums.specs.declared.gc.GcOperator.TheVariants as gc
use Rattle.wasm_operators_enums.specs.Op as op
use Rattle.wasm_operators_enums.specs.Op.{Op}
use Rattle.wasm_operators_enums.specs.Table.{info_of}
use Rattle.wasm_operators_enums.specs.Immediates.{immediates_of}
use Rattle.wasm_operators_encoding.specs.Opcodes.{prefixed}
use Rattle.wasm_operators_encoding.specs.Operators.{opcode_of}
use Rattle.wasm_operators_encoding.specs.immediates.Immediates.{immediate, of_branch}
use Rattle.wasm_operators_encoding.specs.declared.immediates.cast.CastBranch.{CastBranch as Branch}
use Rattle.wasm_operators_encoding.specs.immediates.Casts.{branch, cast_after, cast_branch}
use Rattle.wasm_operators_frequent.specs.Short.{BeginsPrefixed}
use Rattle.wasm_operators_frequent.proofs.ShortReading.{gives_as, gives_then, gives_byte, is_told, is_told_with, prefixed_of}
use Rattle.wasm_operator_validator_rules.specs.Operands.{ValueType, Operand, all_known}
use Rattle.wasm_operator_validator_rules.specs.Context.{Context}
use Rattle.wasm_operator_validator_rules.specs.Objects.{IsCast, Branches, GcRow, null_left, difference}
use Rattle.wasm_operator_validator_fast_tables.specs.declared.tables.Open.{Open}
use Rattle.wasm_operator_validator_fast_tables.specs.declared.tables.Tables.{Tables}
use Rattle.wasm_operator_validator_fast_steps.specs.Labels.{Takes}
use Rattle.wasm_operator_validator_fast_tables.specs.Stacks.{Values, with_all}
use Rattle.wasm_operator_validator_fast_tables.specs.Values.{type_of, types, AreBelow}
use Rattle.wasm_operator_validator_fast_tables.specs.Tables.{Fits}
use Rattle.wasm_operator_validator_fast_tables.specs.Written.{IsHeapAt}
use Rattle.wasm_operator_validator_fast_tables.specs.Loop.{Leads}
use Rattle.wasm_operator_validator_fast_steps.proofs.Coded.{of_feature}
use Rattle.wasm_operator_validator_fast_steps.proofs.Rows.{last_on, took, stands, label_there, Here}
use Rattle.wasm_operator_validator_fast_objects.specs.declared.casts.Cast.{Cast}
use Rattle.wasm_operator_validator_fast_objects.specs.Casts.{IsBranchAt}
use Rattle.wasm_operator_validator_fast_objects.proofs.Casting.{heap_within, cast_gives}

-- ---- what a branch carries

-- what follows the label, and what follows the first type
abbrev after_from : Bool → ℕ → Reference → Decoder Branch
after_from n depth from = long_reference n >>= λ to. pure (branch depth from to)

abbrev after_label : Bool → Bool → ℕ → Decoder Branch
after_label m n depth = long_reference m >>= λ from. after_from n depth from

module _ (text : List ℕ) (m n : Bool) (depth : ℕ) (from to : HeapType) where
  abbrev whole : Branch
  whole = branch depth (reference m from) (reference n to)

  from_there : (k e : ℕ) → GivesAt heap_type text k to e → GivesAt (after_from n depth (reference m from)) text k whole e
  from_there k e l = gives_as (long_reference n) text k (reference n to) (branch depth (reference m from)) e (gives_as heap_type text k to (reference n) e l)

  label_there_is : (j k e : ℕ) → GivesAt heap_type text j from k → GivesAt heap_type text k to e → GivesAt (after_label m n depth) text j whole e
  label_there_is j k e h l =
      gives_then (long_reference m) text j (reference m from) (after_from n depth) k whole e (gives_as heap_type text j from (reference m) k h) (from_there k e l)

  all_there : (i j k e : ℕ) → GivesAt u32 text i depth j → GivesAt heap_type text j from k → GivesAt heap_type text k to e → GivesAt (u32 >>= after_label m n) text i whole e
  all_there i j k e g h l = gives_then u32 text i depth (after_label m n) j whole e g (label_there_is j k e h l)

-- what follows the flags
after_flags : (text : List ℕ) (b i depth j k e : ℕ) (from to : HeapType) → b < 4 → GivesAt u32 text i depth j → GivesAt heap_type text j from k → GivesAt heap_type text k to e
    → GivesAt (cast_after b) text i (branch depth (reference (b % 2 == 1) from) (reference (b / 2 == 1) to)) e
unfolding cast_after
after_flags text b i depth j k e from to small g h l = rw (lt-ltb b 4 small) (all_there text (b % 2 == 1) (b / 2 == 1) depth from to i j k e g h l)

branch_read : (text : List ℕ) (i depth j k e : ℕ) (from to : HeapType) → i < length text → get_or text i 0 < 4 → GivesAt u32 text (i + 1) depth j → GivesAt heap_type text j from k → GivesAt heap_type text k to e
    → GivesAt cast_branch text i (branch depth (reference (get_or text i 0 % 2 == 1) from) (reference (get_or text i 0 / 2 == 1) to)) e
unfolding cast_branch
branch_read text i depth j k e from to inside small g h l =
    gives_then byte text i (get_or text i 0) cast_after (i + 1) (branch depth (reference (get_or text i 0 % 2 == 1) from) (reference (get_or text i 0 / 2 == 1) to)) e (gives_byte text i inside) (after_flags text (get_or text i 0) (i + 1) depth j k e from to small g h l)

pub branch_there : (t : Tables) (text : List ℕ) (i j k : ℕ) (c : Cast) (held top sought other : ℕ) → i < length text → get_or text i 0 < 4 → GivesAt u32 text (i + 1) c.depth j
    → IsHeapAt text t j held top k → IsHeapAt text t k sought other c.end
    → c.from ≡ (if get_or text i 0 % 2 == 1 then held else held + 1) → c.to ≡ (if get_or text i 0 / 2 == 1 then sought else sought + 1)
    → c.rest ≡ (if null_left (get_or text i 0 % 2 == 1) (get_or text i 0 / 2 == 1) then held else held + 1) → IsBranchAt text t i c
branch_there t text i j k c held top sought other inside small g h l from to rest =
    let b = get_or text i 0 in
    record {
      before = reference (b % 2 == 1) h.written;
      after = reference (b / 2 == 1) l.written;
      read = branch_read text i c.depth j k c.end h.written l.written inside small g h.read l.read;
      means = λ ids z q fits.
          let x = h.means ids z q fits in
          let y = l.means ids z q fits in
          record {
            from_heap = x.heap;
            to_heap = y.heap;
            from_named = x.named;
            to_named = y.named;
            from_castable = x.castable;
            to_castable = y.castable;
            from_is = cast_gives ids q h.written held top c.from (b % 2 == 1) x from;
            to_is = cast_gives ids q l.written sought other c.to (b / 2 == 1) y to;
            rest_is = cast_gives ids q h.written held top c.rest (null_left (b % 2 == 1) (b / 2 == 1)) x rest;
          };
    }

branch_carried : (settings : Settings) (text : List ℕ) (i e depth : ℕ) (from to : Reference) → GivesAt cast_branch text i (branch depth from to) e
    → GivesAt (immediate settings kind.CastBranch) text i (CastBranch depth from to) e
unfolding immediate
branch_carried settings text i e depth from to g = gives_as cast_branch text i (branch depth from to) of_branch e g

-- ---- branches

abbrev pub branches : Bool → ℕ → Reference → Reference → GcOperator
branches true d from to = gc.BrOnCastFail d from to
branches false d from to = gc.BrOnCast d from to

-- what goes and what stays, as types
abbrev first_of : Bool → ValueType → ValueType → ValueType
first_of true x y = x
first_of false x y = y

branch_row : (fails : Bool) (g : Context) (d : ℕ) (from to : Reference) (h k : HeapOf TypeTree) (popped pushed : List Operand) → IsCast g from to h k
    → Branches g d (ref from.nullable h) (first_of fails (difference from to h) (ref to.nullable k)) (first_of fails (ref to.nullable k) (difference from to h)) popped pushed
    → GcRow g (branches fails d from to) popped pushed
branch_row true g d from to h k popped pushed cast x = (h, k, cast, x)
branch_row false g d from to h k popped pushed cast x = (h, k, cast, x)

chosen_is : (ids : List TypeTree) (first : Bool) (one other code : ℕ) (x y : ValueType) → type_of ids one ≡ x → type_of ids other ≡ y → code ≡ (if first then one else other)
    → type_of ids code ≡ first_of first x y
chosen_is ids true one other code x y h g is = ap (type_of ids) is ∙ h
chosen_is ids false one other code x y h g is = ap (type_of ids) is ∙ g

-- both forms, behind their codes
pub record IsBranchOn (code : ℕ) (fails : Bool) : Type 0 where
  pub opcode : (d : ℕ) (from to : Reference) → opcode_of (op.Gc (branches fails d from to)) ≡ prefixed 0xfb code
  pub of : (d : ℕ) (from to : Reference) → (info_of (op.Gc (branches fails d from to))).proposal ≡ proposals.Gc
  pub carries : (d : ℕ) (from to : Reference) → immediates_of (op.Gc (branches fails d from to)) ≡ CastBranch d from to ∷ []

is_branch : (fails : Bool) → IsBranchOn (if fails then 0x19 else 0x18) fails
is_branch true = record { opcode = λ d from to. refl; of = λ d from to. refl; carries = λ d from to. refl }
is_branch false = record { opcode = λ d from to. refl; of = λ d from to. refl; carries = λ d from to. refl }

any_is : (ids : List TypeTree) (null : Bool) → all_known (type_of ids (if null then 12 else 12 + 1) ∷ []) ≡ all_known (ref null (abstract false any) ∷ [])
any_is ids true = refl
any_is ids false = refl

extern_is : (ids : List TypeTree) (null : Bool) → all_known (type_of ids (if null then 10 else 10 + 1) ∷ []) ≡ all_known (ref null (abstract false extern) ∷ [])
extern_is ids true = refl
extern_is ids false = refl

-- one code below another, as types
types_below : (t : Tables) (text : List ℕ) (ids : List TypeTree) (z : Settings) (g : Context) → Fits ids z text t g → (k n : ℕ) (x y : ValueType) → type_of ids k ≡ x → type_of ids n ≡ y
    → AreBelow t.known.order (k ∷ []) (n ∷ []) → Below x y
types_below t text ids z g fits k n x y h l below =
    subst (λ (a : ValueType). Below a y) h (subst (λ (b : ValueType). Below (type_of ids k) b) l (below ids fits.knows.steps).0)

-- types and one on top of them
types_then : (ids : List TypeTree) (us : List ℕ) (k : ℕ) (x : ValueType) → type_of ids k ≡ x → types ids (us ++ k ∷ []) ≡ types ids us ++ x ∷ []
types_then ids us k x h = map-append (type_of ids) us (k ∷ []) ∙ ap (λ (y : ValueType). types ids us ++ y ∷ []) h

module _ (t : Tables) (text : List ℕ) (i e : ℕ) (o : Open) (outer : List Open) (v w : Values) (on : t.references ≡ true) where
  pub took_branch : (fails : Bool) (n : ℕ) → BeginsPrefixed text i 0xfb (if fails then 0x19 else 0x18) n → (c : Cast) → c.end ≡ e → (h : IsBranchAt text t n c)
      → (ls : List ℕ) → Takes t.known.flat.items (o ∷ outer) ls c.depth → (us : List ℕ) (last : ℕ) → ls ≡ us ++ last ∷ []
      → AreBelow t.known.order (c.to ∷ []) (c.from ∷ []) → (goes stays : ℕ) → goes ≡ (if fails then c.rest else c.to) → stays ≡ (if fails then c.to else c.rest)
      → AreBelow t.known.order (goes ∷ []) (last ∷ []) → (m : Values) → v ≡ (c.from ∷ (with_all us m).0, m.1) → w ≡ (stays ∷ (with_all us m).0, m.1)
      → Leads text t i (o ∷ outer) v e (o ∷ outer) w
  took_branch fails n begins c ends h ls (f, there, same) us last parts below goes stays goes_is stays_is fits_last m taken put =
      let q = op.Gc (branches fails c.depth h.before h.after) in
      let is = is_branch fails in
      let code = if fails then 0x19 else 0x18 in
      let at = prefixed_of text i 0xfb code code n begins refl refl q (is.opcode c.depth h.before h.after) in
      let read : GivesAt cast_branch text n (branch c.depth h.before h.after) e = subst (λ (k : ℕ). GivesAt cast_branch text n (branch c.depth h.before h.after) k) ends h.read in
      took t text i e o outer v w q (us ++ c.from ∷ []) (us ++ stays ∷ []) m.0 m.1
      (stands t text i e o outer v w q (is_told_with t.features.0 text i n q at _ refl refl refl (CastBranch c.depth h.before h.after) e (is.carries c.depth h.before h.after)
      (λ limits. branch_carried _ text n e c.depth h.before h.after read)))
      refl (λ set full. full) (taken ∙ last_on us c.from m) (put ∙ last_on us stays m)
      (λ ids z g fits set full.
      let k = h.means ids z g fits in
      let here = Here t text i e o outer v w ids g in
      let within = heap_within ids g t.known.flat.items (o ∷ outer) in
      let x = difference h.before h.after k.from_heap in
      let y = ref h.after.nullable k.to_heap in
      let goes_type = chosen_is ids fails c.rest c.to goes x y k.rest_is k.to_is goes_is in
      let stays_type = chosen_is ids fails c.to c.rest stays y x k.to_is k.rest_is stays_is in (
        of_feature g.bits q proposals.Gc feature.Gc fits.allows (is.of c.depth h.before h.after) (fits.references on).gc refl,
        branch_row fails here c.depth h.before h.after k.from_heap k.to_heap _ _
            (record {
              from_named = within h.before.heap ∙ k.from_named;
              to_named = within h.after.heap ∙ k.to_named;
              from_castable = k.from_castable;
              to_castable = k.to_castable;
              below = types_below t text ids z g fits c.to c.from y (ref h.before.nullable k.from_heap) k.to_is k.from_is below;
            }) (
              types ids us,
              (
                type_of ids last,
                label_there t text i e o outer v w ids g c.depth f there ls same ∙ ap Some (ap (types ids) parts ∙ types_then ids us last (type_of ids last) refl),
                types_below t text ids z g fits goes last (first_of fails x y) (type_of ids last) goes_type refl fits_last,
              ),
              (
                ap all_known (types_then ids us c.from (ref h.before.nullable k.from_heap) k.from_is),
                ap all_known (types_then ids us stays (first_of fails y x) stays_type),
              ),
            ),
      ))

  -- ---- conversions

  pub took_convert : (back null : Bool) → BeginsPrefixed text i 0xfb (if back then 0x1b else 0x1a) e → (from to : ℕ)
      → from ≡ (if null then (if back then 12 else 10) else (if back then 12 else 10) + 1) → to ≡ (if null then (if back then 10 else 12) else (if back then 10 else 12) + 1)
      → (m : Values) → v ≡ (from ∷ m.0, m.1) → w ≡ (to ∷ m.0, m.1) → Leads text t i (o ∷ outer) v e (o ∷ outer) w
  took_convert true null begins from to from_is to_is m taken put =
      let p = op.Gc gc.ExternConvertAny in
      took t text i e o outer v w p (from ∷ []) (to ∷ []) m.0 m.1
      (stands t text i e o outer v w p (is_told t.features.0 text i e p (prefixed_of text i 0xfb 0x1b 0x1b e begins refl refl p refl) _ refl refl refl refl))
      refl (λ set full. full) taken put
      (λ ids z c fits set full. (
        of_feature c.bits p proposals.Gc feature.Gc fits.allows refl (fits.references on).gc refl,
        (null, false, (ap (λ (k : ℕ). all_known (type_of ids k ∷ [])) from_is ∙ any_is ids null, ap (λ (k : ℕ). all_known (type_of ids k ∷ [])) to_is ∙ extern_is ids null)),
      ))
  took_convert false null begins from to from_is to_is m taken put =
      let p = op.Gc gc.AnyConvertExtern in
      took t text i e o outer v w p (from ∷ []) (to ∷ []) m.0 m.1
      (stands t text i e o outer v w p (is_told t.features.0 text i e p (prefixed_of text i 0xfb 0x1a 0x1a e begins refl refl p refl) _ refl refl refl refl))
      refl (λ set full. full) taken put
      (λ ids z c fits set full. (
        of_feature c.bits p proposals.Gc feature.Gc fits.allows refl (fits.references on).gc refl,
        (null, false, (ap (λ (k : ℕ). all_known (type_of ids k ∷ [])) from_is ∙ extern_is ids null, ap (λ (k : ℕ). all_known (type_of ids k ∷ [])) to_is ∙ any_is ids null)),
      ))
